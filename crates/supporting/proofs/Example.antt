-- One stream by computation: a ChLs, one that is cut and refused, an Sxus, and five bytes more.
use Prim.Native.Nat.{ℕ}
use mathlib.Core.Path.{◌≡◌, refl}
use mathlib.Core.List.{List, [], ◌∷◌, ◌++◌}
use Rattle.format.specs.Format.{decode_number, decode_cstring, decode_items, decode, size, total}
use Rattle.format.specs.Fault.{any}
use Rattle.format.specs.View.{view, placed, place}
use Rattle.format.specs.Walk.{walk_from, keep}
use Rattle.protocol.specs.Layer.{find, layer_of}
use Rattle.protocol.specs.Kind.{kind_of}
use Rattle.protocol.specs.Step.{read_body, content_at, step_at, walk}
use Rattle.supporting.specs.Offsets.{offsets_of, stop_of, answer}

abbrev pub sent : List ℕ
sent =
    (0x43 ∷ 0x49 ∷ 0x54 ∷ 0x50 ∷ 1 ∷ 0 ∷ 0 ∷ 0 ∷ 0x1A ∷ 0 ∷ 0 ∷ 0 ∷ 1 ∷ 0 ∷ 0 ∷ 0 ∷ 0x53 ∷ 0x44 ∷ 0x4D ∷ 0x58 ∷ 0x43 ∷ 0x68 ∷ 0x4C ∷ 0x73 ∷ 0 ∷ 0 ∷ [])
    ++ (0x43 ∷ 0x49 ∷ 0x54 ∷ 0x50 ∷ 1 ∷ 0 ∷ 0 ∷ 0 ∷ 0x19 ∷ 0 ∷ 0 ∷ 0 ∷ 1 ∷ 0 ∷ 0 ∷ 0 ∷ 0x53 ∷ 0x44 ∷ 0x4D ∷ 0x58 ∷ 0x43 ∷ 0x68 ∷ 0x4C ∷ 0x73 ∷ 0 ∷ [])
    ++ (0x43 ∷ 0x49 ∷ 0x54 ∷ 0x50 ∷ 1 ∷ 0 ∷ 0 ∷ 0 ∷ 0x1B ∷ 0 ∷ 0 ∷ 0 ∷ 1 ∷ 0 ∷ 0 ∷ 0 ∷ 0x53 ∷ 0x44 ∷ 0x4D ∷ 0x58 ∷ 0x53 ∷ 0x58 ∷ 0x55 ∷ 0x53 ∷ 3 ∷ 65 ∷ 0 ∷ [])
    ++ (0x43 ∷ 0x49 ∷ 0x54 ∷ 0x50 ∷ 1 ∷ [])

-- without capabilities; with channel lists; with per-universe and Art-Net external sources; with both kinds; on a list that is too short
pub answered : (answer [] sent (9 ∷ 9 ∷ 9 ∷ []) ≡ (0, 2, 1, 0 ∷ 51 ∷ 9 ∷ []))
    × (answer (2 ∷ 1 ∷ []) sent (9 ∷ 9 ∷ 9 ∷ []) ≡ (0, 1, 1, 51 ∷ 9 ∷ 9 ∷ []))
    × (answer (3 ∷ 101 ∷ []) sent (9 ∷ 9 ∷ 9 ∷ []) ≡ (0, 1, 1, 0 ∷ 9 ∷ 9 ∷ []))
    × (answer (3 ∷ 1 ∷ []) sent [] ≡ (0, 0, 1, []))
    × (answer [] sent (9 ∷ []) ≡ (13, 2, 1, 9 ∷ []))
unfolding offsets_of stop_of keep walk walk_from step_at content_at read_body find layer_of kind_of
    view placed place size total decode decode_number decode_cstring decode_items any
answered = (refl, refl, refl, refl, refl)
