-- The rows of packet start, tested from the top: each header below breaks its own row and every row behind it.
use Prim.Native.Nat.{ℕ}
use mathlib.Core.Path.{◌≡◌, refl}
use mathlib.Core.List.{List, [], ◌∷◌}
use mathlib.Core.Option.{none}
use lib.ListN.{replicate}
use Rattle.format.specs.Format.{decode_number, decode}
use Rattle.format.specs.Walk.{stop, report}
use Rattle.protocol.specs.Layer.{find, layer_of}
use Rattle.protocol.specs.Kind.{kind_of}
use Rattle.protocol.specs.Step.{unknown, refusal, read_body, content_at, step_at}

-- twenty bytes: a cookie that ends so, a major, a size of four bytes, a layer's cookie
abbrev packet_start : (last major a b c d : ℕ) → List ℕ → List ℕ
packet_start last major a b c d layer = 0x43 ∷ 0x49 ∷ 0x54 ∷ last ∷ major ∷ 0 ∷ 0 ∷ 0 ∷ a ∷ b ∷ c ∷ d ∷ 1 ∷ 0 ∷ 0 ∷ 0 ∷ layer

abbrev sdmx : List ℕ
sdmx = 0x53 ∷ 0x44 ∷ 0x4D ∷ 0x58 ∷ []

pub rows :
    (step_at [] 0 ≡ stop 0 0)
    × (step_at (0 ∷ []) 7 ≡ stop 0 7)
    × (step_at (replicate 19 0) 0 ≡ stop 1 0)
    × (step_at (packet_start 0x51 2 0 0 0 1 sdmx) 0 ≡ stop 2 0)
    × (step_at (packet_start 0x50 2 0 0 0 1 sdmx) 0 ≡ stop 3 0)
    × (step_at (packet_start 0x50 1 19 0 0 0 sdmx) 0 ≡ stop 4 0)
    × (step_at (packet_start 0x50 1 1 0 0 1 sdmx) 0 ≡ stop 4 0)
    × (step_at (packet_start 0x50 1 0 0 0 1 sdmx) 0 ≡ stop 5 0)
    × (step_at (packet_start 0x50 1 21 0 0 0 sdmx) 0 ≡ stop 5 0)
    × (step_at (packet_start 0x50 1 20 0 0 0 (0x53 ∷ 0x44 ∷ 0x4D ∷ 0x59 ∷ [])) 0
    ≡ report (record { offset = 0; size = 20; request = 0; content = unknown 0x594D4453 none }) 20)
    × (step_at (packet_start 0x50 1 20 0 0 0 sdmx) 0 ≡ report (record { offset = 0; size = 20; request = 0; content = refusal 6 }) 20)
unfolding step_at content_at read_body layer_of kind_of find decode decode_number
rows = (refl, refl, refl, refl, refl, refl, refl, refl, refl, refl, refl)
