-- The six layers, each with its cookie and the length of its headers, and the headers as formats.
use Rattle.std.specs.Prelude.{ℕ, ◌+◌, ◌*◌, Bool, List, [], ◌∷◌, eqb, ltb}
use Rattle.std.proofs.Math.Option.{Option, none, some}
use Rattle.format.specs.Format.{Format, number, ◌&◌, Value, pick}

pub data Layer : Type 0 where
  PINF SDMX FPTC FSEL FINF CAEX : Layer

-- four letters as a u32 that has them in that order on the wire
abbrev pub letters : ℕ → ℕ → ℕ → ℕ → ℕ
letters a b c d = a + 256 * (b + 256 * (c + 256 * d))

-- a layer's cookie; the bytes before its bodies: base header, content type and, in FPTC, content hint
pub record LayerFigures : Type 0 where
  pub cookie : ℕ
  pub header_length : ℕ

abbrev pub layer_figures : Layer → LayerFigures
layer_figures PINF = record { cookie = letters 0x50 0x49 0x4E 0x46; header_length = 24 }
layer_figures SDMX = record { cookie = letters 0x53 0x44 0x4D 0x58; header_length = 24 }
layer_figures FPTC = record { cookie = letters 0x46 0x50 0x54 0x43; header_length = 28 }
layer_figures FSEL = record { cookie = letters 0x46 0x53 0x45 0x4C; header_length = 24 }
layer_figures FINF = record { cookie = letters 0x46 0x49 0x4E 0x46; header_length = 24 }
layer_figures CAEX = record { cookie = letters 0x43 0x41 0x45 0x58; header_length = 24 }

abbrev pub cookie : Layer → ℕ
cookie l = (layer_figures l).cookie

abbrev pub header_length : Layer → ℕ
header_length l = (layer_figures l).header_length

-- whether a layer has a content hint: its headers are longer than base header and content type
abbrev pub has_hint : Layer → Bool
has_hint l = ltb 24 (header_length l)

-- the bytes of the content hint
abbrev pub hint_length : Layer → ℕ
hint_length l = pick (has_hint l) 4 0

-- the content hint of a layer that has one
abbrev pub hinted : Layer → ℕ → Option ℕ
hinted l hint = pick (has_hint l) (some hint) none

-- the order of lookup, SDMX first: channel blocks are nearly all the traffic
abbrev pub layers : List Layer
layers = SDMX ∷ FPTC ∷ FSEL ∷ FINF ∷ PINF ∷ CAEX ∷ []

-- the first element that passes the test
unfoldable pub find : {A : Type 0} → (A → Bool) → List A → Option A
find test [] = none
find test (x ∷ xs) = pick (test x) (some x) (find test xs)

-- the first layer of the list whose cookie it is
abbrev pub layer_in : List Layer → ℕ → Option Layer
layer_in order c = find (λ l. eqb (cookie l) c) order

-- the layer of a cookie, if it is one of the six
unfoldable pub layer_of : ℕ → Option Layer
layer_of c = layer_in layers c

-- ---- the headers

-- cookie, version_major, version_minor, request_index, message_size, message_part_count, message_part, content_type
abbrev pub header : Format
header = number 4 & number 1 & number 1 & number 2 & number 4 & number 2 & number 2 & number 4

-- CITP
abbrev pub citp : ℕ
citp = letters 0x43 0x49 0x54 0x50

abbrev pub cookie_field : Value header → ℕ
cookie_field h = h.0

abbrev pub major_field : Value header → ℕ
major_field h = h.1.0

abbrev pub minor_field : Value header → ℕ
minor_field h = h.1.1.0

abbrev pub request_field : Value header → ℕ
request_field h = h.1.1.1.0

abbrev pub size_field : Value header → ℕ
size_field h = h.1.1.1.1.0

abbrev pub count_field : Value header → ℕ
count_field h = h.1.1.1.1.1.0

abbrev pub part_field : Value header → ℕ
part_field h = h.1.1.1.1.1.1.0

-- the base header's content_type: the layer's cookie
abbrev pub layer_field : Value header → ℕ
layer_field h = h.1.1.1.1.1.1.1

-- content type and, in FPTC, content hint; a number of no bytes is read as 0
abbrev pub layer_header : Layer → Format
layer_header l = number 4 & number (hint_length l)
