-- The edges that are proved, one table: packets and bodies in hexadecimal, and what each gives.
use Rattle.std.specs.Prelude.{ℕ, ◌≡◌, List, [], ◌∷◌, map, replicate}
use Rattle.std.proofs.Math.Option.{none, some}
use Rattle.format.specs.View.{seen, missed, view}
use Rattle.protocol.specs.Kind.{EnterShow, FixtureList, Capa, UNam, body_of}
use Rattle.protocol.specs.Step.{message, walk, looked}

-- UNam 03 41 00 FF in a whole packet
abbrev pub unam_packet : List ℕ
unam_packet =
    0x43 ∷ 0x49 ∷ 0x54 ∷ 0x50 ∷ 1 ∷ 0 ∷ 0 ∷ 0 ∷ 0x1C ∷ 0 ∷ 0 ∷ 0 ∷ 1 ∷ 0 ∷ 0 ∷ 0 ∷ 0x53 ∷ 0x44 ∷ 0x4D ∷ 0x58 ∷ 0x55 ∷ 0x4E ∷ 0x61 ∷ 0x6D
    ∷ 3 ∷ 0x41 ∷ 0 ∷ 0xFF ∷ []

abbrev pub Edges : Type 0
Edges =
    -- an empty stream; 19 bytes
    (walk [] ≡ ([], some (0, 0)))
    × (walk (replicate 19 0x43) ≡ ([], some (1, 0)))
    -- UNam: an empty name; no end of the name; one added byte, by the body and by the packet's report; no body
    × (view (body_of UNam) (3 ∷ 0 ∷ []) 0 ≡ seen (3, (1, 0)) 2)
    × (view (body_of UNam) (3 ∷ 0x41 ∷ []) 0 ≡ missed 8)
    × (view (body_of UNam) (3 ∷ 0x41 ∷ 0 ∷ 0xFF ∷ []) 0 ≡ seen (3, (1, 1)) 3)
    × (map (looked unam_packet) (walk unam_packet).0 ≡ record { offset = 0; size = 28; request = 0; content = message UNam 24 none (3, 0x41 ∷ []) 1 } ∷ [])
    × (view (body_of UNam) [] 0 ≡ missed 7)
    -- EnterShow: no unit; a lone byte; the name A
    × (view (body_of EnterShow) [] 0 ≡ missed 8)
    × (view (body_of EnterShow) (0x41 ∷ []) 0 ≡ missed 8)
    × (view (body_of EnterShow) (0x41 ∷ 0 ∷ 0 ∷ 0 ∷ []) 0 ≡ seen (0, 1) 4)
    -- FixtureList: no fixtures; a type above 2; a fixture that isn't there
    × (view (body_of FixtureList) (0 ∷ 0 ∷ 0 ∷ []) 0 ≡ seen (0, (3, 0)) 3)
    × (view (body_of FixtureList) (3 ∷ 0 ∷ 0 ∷ []) 0 ≡ missed 9)
    × (view (body_of FixtureList) (2 ∷ 1 ∷ 0 ∷ []) 0 ≡ missed 7)
    -- Capa: half a capability
    × (view (body_of Capa) (1 ∷ 0 ∷ 0x65 ∷ []) 0 ≡ missed 7)
