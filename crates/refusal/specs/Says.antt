-- What an answer of a length or a place says, and the number of an answer.
use Rattle.std.specs.Prelude.{ℕ, Result, Ok, Err}
use Rattle.format.specs.Copy.{Answer, took, denied}
use Rattle.refusal.specs.Number.{number}
use Rattle.refusal.specs.declared.Refusal.{Refusal}

-- the length of what was copied, or the place behind what was written
abbrev pub answer_says : Result ℕ Refusal → Answer
answer_says (Ok n) = took n
answer_says (Err r) = denied (number r)

-- 0, or the number of the refusal
abbrev pub number_says : {A : Type 0} → Result A Refusal → ℕ
number_says (Ok x) = 0
number_says (Err r) = number r
