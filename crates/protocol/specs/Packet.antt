-- Which packets are valid, whole or fragments, and of unknown layer or kind.
use Rattle.std.specs.Prelude.{ℕ, ◌≤◌, ◌≡◌, List, length, drop}
use Rattle.format.specs.Format.{Value, got, decode, Bytes}
use Rattle.format.specs.Walk.{stop}
use Rattle.protocol.specs.Layer.{Layer, cookie, header, layer_header, size_field, count_field, part_field, layer_field}
use Rattle.protocol.specs.Kind.{Kind, layer, content_type}
use Rattle.protocol.specs.Step.{step_at}

-- bytes with a base header, whose size field is their length and which, alone in a slice, get none of 1 to 5
pub record ValidPacket (h : Value header) (s : List ℕ) : Type 0 where
  pub octets : Bytes s
  pub headed : decode header s ≡ got h (drop 20 s)
  pub sized : size_field h ≡ length s
  pub passes : (n : ℕ) → 1 ≤ n → n ≤ 5 → step_at s 0 ≡ stop n 0 → ⊥

-- the count is at most 1 and the part 0
abbrev pub Whole : Value header → Type 0
Whole h = (count_field h ≤ 1) × (part_field h ≡ 0)

-- no layer has that cookie
abbrev pub NoLayer : ℕ → Type 0
NoLayer c = (l : Layer) → c ≡ cookie l → ⊥

-- no kind of the layer has that content type
abbrev pub NoKind : Layer → ℕ → Type 0
NoKind l type = (k : Kind) → layer k ≡ l → type ≡ content_type k → ⊥

-- a packet of the layer whose layer header is complete, with that content type
pub record HasLayer (l : Layer) (type : ℕ) (h : Value header) (s : List ℕ) : Type 0 where
  pub hint : ℕ
  pub rest : List ℕ
  pub cookie-is : layer_field h ≡ cookie l
  pub complete : decode (layer_header l) (drop 20 s) ≡ got (type, hint) rest
