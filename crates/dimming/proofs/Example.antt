-- One run of a rack of universe 3, by computation: the claims are not empty, 7 is tested before 20, and a later record wins.
use Prim.Native.Nat.{ℕ}
use mathlib.Core.Path.{◌≡◌, refl}
use mathlib.Core.List.{List, [], ◌∷◌}
use Rattle.format.specs.Format.{decode_number, decode_items, decode}
use Rattle.format.specs.Fault.{any}
use Rattle.format.specs.Walk.{keep}
use Rattle.dimming.specs.Levels.{Message, chbk, chls, run, change, set_all, answer}
use Rattle.dimming.specs.Claims.{feed}

abbrev pub messages : List Message
messages =
    chbk (0 ∷ 3 ∷ 1 ∷ 0 ∷ 2 ∷ 0 ∷ 10 ∷ 20 ∷ [])  -- channels 1 and 2
    ∷ chbk (1 ∷ 3 ∷ 1 ∷ 0 ∷ 1 ∷ 0 ∷ 9 ∷ [])  -- blind, channel 1
    ∷ chbk (0 ∷ 4 ∷ 0 ∷ 2 ∷ 1 ∷ 0 ∷ 9 ∷ [])  -- universe 4, channel 512
    ∷ chbk (0 ∷ 3 ∷ 255 ∷ 255 ∷ 0 ∷ 0 ∷ [])  -- no levels, from channel 65,535 on
    ∷ chbk (0 ∷ 3 ∷ 255 ∷ 1 ∷ 2 ∷ 0 ∷ 9 ∷ 9 ∷ [])  -- 20: channels 511 and 512
    ∷ chbk (0 ∷ 3 ∷ 255 ∷ 1 ∷ 2 ∷ 0 ∷ 9 ∷ [])  -- 7: the second level is missing
    ∷ chls (3 ∷ 0 ∷ 3 ∷ 0 ∷ 0 ∷ 5 ∷ 4 ∷ 0 ∷ 2 ∷ 9 ∷ 3 ∷ 0 ∷ 0 ∷ 6 ∷ [])  -- channel 0 twice, and universe 4, channel 512
    ∷ chls (2 ∷ 0 ∷ 3 ∷ 0 ∷ 0 ∷ 9 ∷ 3 ∷ 0 ∷ 2 ∷ 9 ∷ [])  -- 20: channel 512
    ∷ chls (1 ∷ 0 ∷ 3 ∷ 0 ∷ 0 ∷ [])  -- 7: the level is missing
    ∷ chls (1 ∷ 0 ∷ 3 ∷ 3 ∷ 0 ∷ 7 ∷ 8 ∷ [])  -- channel 3, and a byte added
    ∷ []

-- the number of each message
unfoldable pub numbers : (universe : ℕ) → List Message → List ℕ → List ℕ
numbers u [] levels = []
numbers u (m ∷ ms) levels = (answer (change u m) levels).0 ∷ numbers u ms (answer (change u m) levels).1

pub numbers-given : numbers 3 messages (0 ∷ 0 ∷ 0 ∷ 0 ∷ []) ≡ 0 ∷ 0 ∷ 0 ∷ 0 ∷ 20 ∷ 7 ∷ 0 ∷ 20 ∷ 7 ∷ 0 ∷ []
unfolding numbers decode decode_number decode_items any keep run
numbers-given = refl

pub levels-then : feed 3 messages (0 ∷ 0 ∷ 0 ∷ 0 ∷ []) ≡ 6 ∷ 10 ∷ 20 ∷ 7 ∷ []
unfolding feed decode decode_number decode_items any keep run set_all
levels-then = refl
