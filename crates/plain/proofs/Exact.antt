-- The kind that a code stands for is the definition's: nothing is lost.
use Rattle.std.proofs.Common.{◌≡◌, refl, ap}
use Rattle.std.proofs.Math.Option as math
use Rattle.std.specs.Prelude.{Option, Some, None}
use Rattle.protocol.specs.Kind as kind
use Rattle.turns.proofs.Exact.{is_kind, kind-exact}
use Rattle.turns.specs.declared.Kind.{Kind}
use Rattle.plain.specs.State.{kind_says}

abbrev is_found : math.Option kind.Kind → Option Kind
is_found (math.some k) = Some (is_kind k)
is_found math.none = None

pub found-exact : (r : Option Kind) → r ≡ is_found (kind_says r)
found-exact (Some k) = ap (λ (x : Kind). Some x) (kind-exact k)
found-exact None = refl
