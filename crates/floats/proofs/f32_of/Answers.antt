use mathlib.Core.Path.{refl, sym, subst, ◌∙◌}
use mathlib.Core.Bool.{Bool, not}
use lib.Dec.{T}
use lib.Ieee.{nan_bits}
use Rattle.floats.proofs.Patterns.{nan-of-pattern}
use Rattle.floats.proofs.f32_of.Goals as goal

pub float_from_bits-result : goal.float_from_bits-result
float_from_bits-result c = subst (λ (b : Bool). T (not b)) (sym c.if-is_nan_pattern.false ∙ c.is_nan_pattern.ensures) tt

pub returns-then-is_nan_pattern : goal.returns-then-is_nan_pattern
unfolding nan_bits
returns-then-is_nan_pattern c =
    nan-of-pattern 0x7fc0_0000 refl ∙ sym (nan-of-pattern c.args.pattern (sym c.is_nan_pattern.ensures ∙ c.if-is_nan_pattern.true))
