-- Which state of the definition a state of the code is, and what a call's answer says.
use Rattle.std.specs.Prelude.{ℕ, List, Result, Ok, Err}
use Rattle.refusal.specs.Number.{number}
use Rattle.refusal.specs.declared.Refusal.{Refusal}
use Rattle.writing.specs.Writer as writing
use Rattle.writing.specs.Writer.{Outcome}
use Rattle.turns.specs.Says.{turn_is}
use Rattle.writer.specs.declared.Writer.{Writer}

abbrev pub state_of : Writer → writing.Writer
state_of w = record { turn = turn_is w.turn; at = w.at }

-- what a call on a state answers, with the output after it: the next state, or the refusal, where the state stays as it was
abbrev pub written_says : Writer → Result Writer Refusal → List ℕ → Outcome
written_says w (Ok v) out = record { number = 0; writer = state_of v; output = out }
written_says w (Err r) out = record { number = number r; writer = state_of w; output = out }
