-- What a type byte is to a writer.
use Rattle.std.specs.Prelude.{ℕ}
use Rattle.format.specs.View.{Seen, seen, missed}

-- what is made of a type's code, or of the number with which a byte that is none is refused
abbrev pub by_code : {A : Type 0} → (ℕ → A) → (ℕ → A) → Seen ℕ → A
by_code taken refused (seen t e) = taken t
by_code taken refused (missed n) = refused n
