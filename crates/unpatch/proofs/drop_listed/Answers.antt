use native.Mathlib.Omega.{arith}
use Rattle.std.proofs.Common.{◌≡◌, ℕ, List, [], ◌∷◌, sym, ap, ◌∙◌, subst, arith}
use Rattle.unpatch.specs.Unpatch.{identifiers_of, Dropped}
use Rattle.unpatch.proofs.Listed.{one-listed}
use Rattle.unpatch.proofs.drop_listed.Goals as goal

pub returns-then-n-eq1 : goal.returns-then-n-eq1
returns-then-n-eq1 c = let a = c.args in
    let one = c.drop_one in
    let e : c.listed_at.result ∷ [] ≡ identifiers_of a.identifiers.now =
    ap (λ (k : ℕ). k ∷ []) c.listed_at.ensures ∙ sym (one-listed a.identifiers.now (omega arith))
    in
    subst (λ (ids : List ℕ). Dropped ids a.entries.now one.result one.new.entries) e one.ensures
