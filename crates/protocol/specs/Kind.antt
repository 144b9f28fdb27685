-- The twenty kinds: order, layer, content type and body of each.
use Rattle.std.specs.Prelude.{ℕ, Bool, ◌&&◌, List, [], ◌∷◌, eqb}
use Rattle.std.proofs.Math.Option.{Option}
use Rattle.format.specs.Format.{Format, number, code, cstring, ucs2, list, ◌&◌}
use Rattle.protocol.specs.Layer.{Layer, PINF, SDMX, FPTC, FSEL, FINF, CAEX, letters, cookie, find}

pub data Kind : Type 0 where
  EnterShow FixtureList FixtureRemove LaserFeedControl Capa UNam ChBk ChLs Sxus Ptch UPtc SPtc Sele DeSe SFra Fram PNam PLoc LaserFeedList LaserFeedFrame : Kind

-- the bytes or units of the longest name: what the rack's display holds
abbrev pub name_limit : ℕ
name_limit = 255

-- ---- parts of bodies, fields in struct order

-- identifier_type, data
abbrev pub identifier_format : Format
identifier_format = code 6 10 & list 2 (number 1)

-- patched, universe, universe_channel, unit, channel, circuit, note, position (3 floats), angles (3 floats)
abbrev pub fixture_data_format : Format
fixture_data_format =
    number 1 & number 1 & number 2 & ucs2 name_limit & number 2 & ucs2 name_limit & ucs2 name_limit
    & number 4 & number 4 & number 4 & number 4 & number 4 & number 4

-- fixture_identifier, manufacturer_name, fixture_name, mode_name, channel_count, and what stands from is_dimmer on
abbrev fixture_with : Format → Format
fixture_with f = number 4 & ucs2 name_limit & ucs2 name_limit & ucs2 name_limit & number 2 & f

-- a fixture up to its identifiers: those fields and is_dimmer
abbrev pub fixture_head : Format
fixture_head = fixture_with (number 1)

-- a whole one: those fields, is_dimmer, identifiers, data
abbrev pub fixture_format : Format
fixture_format = fixture_with (number 1 & list 1 identifier_format & fixture_data_format)

-- universe_index, channel, channel_level
abbrev pub channel_level_format : Format
channel_level_format = number 1 & number 2 & number 1

-- a laser feed's name
abbrev pub feed_name_format : Format
feed_name_format = ucs2 name_limit

-- x_low_byte, y_low_byte, xy_high_nibbles, color
abbrev pub laser_point_format : Format
laser_point_format = number 1 & number 1 & number 1 & number 2

-- ---- the table

pub record Figures : Type 0 where
  pub index : ℕ
  pub layer : Layer
  pub content_type : ℕ
  pub body : Format

abbrev kind : ℕ → Layer → ℕ → Format → Figures
kind n l t f = record { index = n; layer = l; content_type = t; body = f }

abbrev pub figures : Kind → Figures
figures EnterShow = kind 0 CAEX 0x00020100 (ucs2 name_limit)
figures FixtureList = kind 1 CAEX 0x00020201 (code 3 9 & list 2 fixture_format)
figures FixtureRemove = kind 2 CAEX 0x00020203 (list 2 (number 4))
figures LaserFeedControl = kind 3 CAEX 0x00030102 (number 1 & number 1)
figures Capa = kind 4 SDMX (letters 0x43 0x61 0x70 0x61) (list 2 (number 2))
figures UNam = kind 5 SDMX (letters 0x55 0x4E 0x61 0x6D) (number 1 & cstring name_limit)
figures ChBk = kind 6 SDMX (letters 0x43 0x68 0x42 0x6B) (number 1 & number 1 & number 2 & list 2 (number 1))
figures ChLs = kind 7 SDMX (letters 0x43 0x68 0x4C 0x73) (list 2 channel_level_format)
figures Sxus = kind 8 SDMX (letters 0x53 0x58 0x55 0x53) (number 1 & cstring name_limit)
figures Ptch = kind 9 FPTC (letters 0x50 0x74 0x63 0x68)
    (number 2 & number 1 & number 1 & number 2 & number 2 & cstring name_limit & cstring name_limit)
figures UPtc = kind 10 FPTC (letters 0x55 0x50 0x74 0x63) (list 2 (number 2))
figures SPtc = kind 11 FPTC (letters 0x53 0x50 0x74 0x63) (list 2 (number 2))
figures Sele = kind 12 FSEL (letters 0x53 0x65 0x6C 0x65) (number 1 & number 1 & list 2 (number 2))
figures DeSe = kind 13 FSEL (letters 0x44 0x65 0x53 0x65) (list 2 (number 2))
figures SFra = kind 14 FINF (letters 0x53 0x46 0x72 0x61) (list 2 (number 2))
figures Fram = kind 15 FINF (letters 0x46 0x72 0x61 0x6D) (number 2 & number 1 & number 1 & cstring 65535)
figures PNam = kind 16 PINF (letters 0x50 0x4E 0x61 0x6D) (cstring name_limit)
figures PLoc = kind 17 PINF (letters 0x50 0x4C 0x6F 0x63) (number 2 & cstring name_limit & cstring name_limit & cstring name_limit)
figures LaserFeedList = kind 18 CAEX 0x00030101 (number 4 & list 1 feed_name_format)
figures LaserFeedFrame = kind 19 CAEX 0x00030200 (number 4 & number 1 & number 4 & list 2 laser_point_format)

abbrev pub index : Kind → ℕ
index k = (figures k).index

abbrev pub layer : Kind → Layer
layer k = (figures k).layer

abbrev pub content_type : Kind → ℕ
content_type k = (figures k).content_type

abbrev pub body_of : Kind → Format
body_of k = (figures k).body

abbrev pub same_kind : Kind → Kind → Bool
same_kind j k = eqb (index j) (index k)

-- ---- which kind a packet is

-- the kinds in their order
abbrev pub kinds : List Kind
kinds =
    EnterShow ∷ FixtureList ∷ FixtureRemove ∷ LaserFeedControl ∷ Capa ∷ UNam ∷ ChBk ∷ ChLs ∷ Sxus ∷ Ptch ∷ UPtc ∷ SPtc ∷ Sele ∷ DeSe ∷ SFra ∷ Fram
    ∷ PNam ∷ PLoc ∷ LaserFeedList ∷ LaserFeedFrame ∷ []

-- the kind of a layer with a content type, if there is one
unfoldable pub kind_of : Layer → ℕ → Option Kind
kind_of l type = find (λ k. eqb (cookie (layer k)) (cookie l) && eqb (content_type k) type) kinds
