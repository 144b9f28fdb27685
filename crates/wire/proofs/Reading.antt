-- What a body's reader shows field by field: the rules by which `search needs` answers its returns.
-- A field that was read puts its value in front of what is read behind it; a field that was not ends the reading there.
use Rattle.std.proofs.Common.{ℕ, List, ◌≡◌, refl, rules}
use Rattle.std.specs.Prelude.{Result}
use Rattle.std.specs.Result.{IsErr, IsErrAnd}
use Rattle.format.specs.Format.{Format, ◌&◌}
use Rattle.format.specs.View.{View, Seen, seen, missed, view}
use Rattle.format.proofs.Views.{after, view-pair}
use Rattle.refusal.specs.Number.{number}
use Rattle.refusal.specs.declared.Refusal.{Refusal}
use Rattle.wire.specs.Says.{says, passed_says}
use Rattle.wire.specs.declared.Cursor.{Cursor}
use Rattle.refusal.proofs.Handed.{handed}

module _ (f g : Format) (s : List ℕ) (at : ℕ) where
  pub field-seen : (a : View f) (e : ℕ) (b : View g) (d : ℕ) → seen a e ≡ view f s at → seen b d ≡ view g s e → seen (a, b) d ≡ view (f & g) s at
  unfolding after
  field-seen a e b d p q = rw (view-pair f g s at, ← p, ← q) refl

  pub field-missed : (a : View f) (e k : ℕ) → seen a e ≡ view f s at → missed k ≡ view g s e → missed k ≡ view (f & g) s at
  unfolding after
  field-missed a e k p q = rw (view-pair f g s at, ← p, ← q) refl

  pub field-short : (k : ℕ) → missed k ≡ view f s at → missed k ≡ view (f & g) s at
  unfolding after
  field-short k p = rw (view-pair f g s at, ← p) refl

-- the refusal that a field met is the reader's
pub refused : {A V : Type 0} (of : A → V) (r : Result (A × Cursor) Refusal) (e : Refusal) (v : Seen V)
    → IsErr r × IsErrAnd r (λ y. y ≡ e) → missed (number e) ≡ v → says of r ≡ v
refused of r e v h p = rw (handed h) p

-- the same of what passes over its fields
pub refused-passing : (r : Result Cursor Refusal) (e : Refusal) (v : Seen (Unit {0}))
    → IsErr r × IsErrAnd r (λ y. y ≡ e) → missed (number e) ≡ v → passed_says r ≡ v
refused-passing r e v h p = rw (handed h) p

-- the rules of reading alone, and with std's: what `search` is given at a reader's needs
pub ruleset reading = (refused, refused-passing, field-seen, field-missed, field-short)

pub ruleset needs = (rules, reading)
