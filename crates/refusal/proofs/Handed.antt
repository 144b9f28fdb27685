-- What `?` hands on: the refusal that it met.
use Rattle.std.proofs.Common.{◌≡◌, ap}
use Rattle.std.specs.Prelude.{Result, Ok, Err}
use Rattle.std.specs.Result.{IsErr, IsErrAnd}
use Rattle.refusal.specs.declared.Refusal.{Refusal}

-- the answer is the refusal itself
pub handed : {A : Type 0} {r : Result A Refusal} {e : Refusal} → IsErr r × IsErrAnd r (λ y. y ≡ e) → r ≡ Err e
handed {r = Ok x} h = absurd h.1
handed {r = Err y} h = ap (λ (z : Refusal). Err z) h.1
