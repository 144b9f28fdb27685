-- What the call's answer says determines it with the lent list afterwards: nothing is lost.
use Rattle.std.proofs.Common.{ℕ, zero, suc, List, ◌≡◌, refl, ap}
use Rattle.std.specs.Prelude.{Result, Ok, Err}
use Rattle.refusal.specs.Says.{number_says}
use Rattle.refusal.proofs.Exact.{checked_by, checked-exact}
use Rattle.capabilities.specs.Support.{call_says}
use Rattle.capabilities.specs.declared.Unsupported.{Unsupported}
use Rattle.capabilities.specs.declared.TooFewPlaces.{TooFewPlaces}

abbrev unsupported_by : ℕ → ℕ → Unsupported
unsupported_by n e = record { count = n; end = checked_by e }

unsupported-exact : (x : Unsupported) → x ≡ unsupported_by x.count (number_says x.end)
unsupported-exact x = rw (← checked-exact x.end) refl

abbrev pub call_by : ℕ × ℕ × ℕ × List ℕ → Result Unsupported TooFewPlaces × List ℕ
call_by (zero, n, e, out) = (Ok (unsupported_by n e), out)
call_by (suc k, n, e, out) = (Err (record { found = unsupported_by n e }), out)

pub call-exact : (r : Result Unsupported TooFewPlaces) (out : List ℕ) → (r, out) ≡ call_by (call_says r out)
call-exact (Ok x) out = ap (λ (y : Unsupported). (Ok y, out)) (unsupported-exact x)
call-exact (Err few) out = ap (λ (y : Unsupported). (Err (record { found = y }), out)) (unsupported-exact few.found)
