use mathlib.Core.Path.{sym, ◌∙◌}
use Rattle.floats.specs.Pattern.{pattern_of}
use Rattle.floats.proofs.pattern_of.Goals as goal

pub returns-then-not-is_nan : goal.returns-then-not-is_nan
unfolding pattern_of
returns-then-not-is_nan c = simp (sym c.is_nan.ensures.value ∙ c.if-not-is_nan.true)

pub returns-then-is_nan_pattern : goal.returns-then-is_nan_pattern
unfolding pattern_of
returns-then-is_nan_pattern c = simp (sym c.is_nan.ensures.value ∙ c.if-not-is_nan.false, sym c.is_nan_pattern.ensures ∙ c.if-is_nan_pattern.true)

pub returns : goal.returns
unfolding pattern_of
returns c = simp (sym c.is_nan.ensures.value ∙ c.if-not-is_nan.false, sym c.is_nan_pattern.ensures ∙ c.if-is_nan_pattern.false)
