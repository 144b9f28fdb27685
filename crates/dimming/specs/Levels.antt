-- The levels of a universe's 512 channels: which channels a message sets, and what each message does to the levels.
use Rattle.std.specs.Prelude.{ℕ, suc, Bool, ◌&&◌, List, [], ◌∷◌, set, replicate, ltb, eqb}
use Rattle.std.proofs.Math.Option.{Option, none, some}
use Rattle.format.specs.Format.{Value, Read, got, refused, pick, decode}
use Rattle.format.specs.Fault.{any}
use Rattle.format.specs.Walk.{keep}
use Rattle.protocol.specs.Kind.{ChBk, ChLs, body_of, channel_level_format}

-- ---- messages

-- the body of a ChBk, or of a ChLs
pub data Message : Type 0 where
  chbk : List ℕ → Message
  chls : List ℕ → Message

-- a channel, and the level that it is given
abbrev pub Setting : Type 0
Setting = ℕ × ℕ

-- levels for consecutive channels
unfoldable pub run : (first : ℕ) → List ℕ → List Setting
run first [] = []
run first (l ∷ ls) = (first, l) ∷ run (suc first) ls

-- what a channel block sets in a universe: a run, unless it is blind or for another universe
abbrev pub block_settings : (universe : ℕ) → Value (body_of ChBk) → List Setting
block_settings u (blind, (universe, (first, levels))) = pick (eqb blind 0 && eqb universe u) (run first levels) []

-- what a record sets, unless it is for another universe
abbrev pub record_setting : (universe : ℕ) → Value channel_level_format → Option Setting
record_setting u (universe, setting) = pick (eqb universe u) (some setting) none

-- what a channel list sets: its records one by one, in order
abbrev pub list_settings : (universe : ℕ) → Value (body_of ChLs) → List Setting
list_settings u records = keep (record_setting u) records

-- what a body asks for: settings, in order; or the number with which it is refused where it does not read
pub data Change : Type 0 where
  settings : List Setting → Change
  unread : ℕ → Change

-- what a message asks for as it was read, by what its value sets
abbrev pub asked : {A : Type 0} → (A → List Setting) → Read A → Change
asked sets (got v rest) = settings (sets v)
asked sets (refused n) = unread n

-- what a message asks of a universe's channels
abbrev pub change : (universe : ℕ) → Message → Change
change u (chbk s) = asked (block_settings u) (decode (body_of ChBk) s)
change u (chls s) = asked (list_settings u) (decode (body_of ChLs) s)

-- ---- what a change does to the levels

-- a channel past the universe's last one
abbrev pub is_past : Setting → Bool
is_past x = ltb 511 x.0

-- a change's number: 0 where it is taken; one channel past 511 refuses all of it
abbrev pub number : Change → ℕ
number (settings xs) = pick (any is_past xs) 20 0
number (unread n) = n

-- the settings that a change asks for
abbrev pub settings_of : Change → List Setting
settings_of (settings xs) = xs
settings_of (unread n) = []

-- those that it makes: all of them where it is taken, none where it is refused
abbrev pub made : Change → List Setting
made c = pick (eqb (number c) 0) (settings_of c) []

-- settings made one after another
unfoldable pub set_all : List Setting → List ℕ → List ℕ
set_all [] levels = levels
set_all (x ∷ xs) levels = set_all xs (set levels x.0 x.1)

-- a change's number, and the levels after it
abbrev pub answer : Change → List ℕ → ℕ × List ℕ
answer c levels = (number c, set_all (made c) levels)

-- the levels at the start: 512, all 0
abbrev pub initial : List ℕ
initial = replicate 512 0
