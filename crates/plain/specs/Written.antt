-- What a body's writer answers.
use Rattle.std.specs.Prelude.{ℕ, List}
use Rattle.format.specs.Copy.{Answer, took, denied}
use Rattle.plain.specs.declared.written.Put.{Put}

-- the place behind what was written, or the number of the refusal with the place that was given
abbrev pub flat_put : (at : ℕ) → Answer → Put
flat_put at (took place) = record { number = 0; at = place }
flat_put at (denied n) = record { number = n; at = at }

-- with the output after it
abbrev pub flat_written : (at : ℕ) → Answer × List ℕ → Put × List ℕ
flat_written at w = (flat_put at w.0, w.1)
