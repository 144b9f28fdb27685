-- What is promised of the lookup of a layer, in whatever order the layers are tried. Each claim is proved under its name in proofs/Lookup.
use Rattle.std.specs.Prelude.{ℕ, ◌≡◌, List}
use Rattle.std.proofs.Math.Option.{Option, none, some}
use Rattle.format.specs.Format.{In}
use Rattle.protocol.specs.Layer.{Layer, cookie, layer_in, layer_of}
use Rattle.protocol.specs.Packet.{NoLayer}

-- an order of the six: each layer is in it
abbrev pub EveryLayer : List Layer → Type 0
EveryLayer order = (l : Layer) → In l order

-- the same layers, in whatever order and however often
abbrev pub SameLayers : List Layer → List Layer → Type 0
SameLayers xs ys = (l : Layer) → (In l xs → In l ys) × (In l ys → In l xs)

-- the lookup gives the layer whose cookie it is, and none for any other number
abbrev pub ByCookie : (ℕ → Option Layer) → Type 0
ByCookie lookup = ((l : Layer) → lookup (cookie l) ≡ some l) × ((c : ℕ) → NoLayer c → lookup c ≡ none)

-- any_order: so does a lookup over any order of the six
abbrev pub AnyOrder : Type 0
AnyOrder = (order : List Layer) → EveryLayer order → ByCookie (layer_in order)

-- walk-lookup: so does the lookup of the walk
abbrev pub WalkLookup : Type 0
WalkLookup = ByCookie layer_of

-- lookups-agree: two lookups over lists with the same layers agree on every number
abbrev pub LookupsAgree : Type 0
LookupsAgree = (xs ys : List Layer) → SameLayers xs ys → (c : ℕ) → layer_in xs c ≡ layer_in ys c
