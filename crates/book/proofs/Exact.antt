-- What the answer to a message says determines it and the words lent.
use Rattle.std.proofs.Common.{ℕ, zero, suc, List, ◌≡◌, refl}
use Rattle.std.specs.Prelude.{Result, Ok, Err}
use Rattle.patching.specs.Entry.{Entry}
use Rattle.refusal.specs.declared.Refusal.{Refusal}
use Rattle.refusal.specs.declared.Refusal.TheVariants as refusal
use Rattle.refusal.proofs.Exact.{refusal_of}
use Rattle.book.specs.declared.Book.{Book}
use Rattle.book.specs.Booked.{booked}

abbrev booked_by : ℕ × ℕ × List Entry → Result Book Refusal × List Entry
booked_by (zero, count, ws) = (Ok (record { count = count }), ws)
booked_by (suc n, count, ws) = (Err (refusal_of (suc n)), ws)

pub booked-exact : (count : ℕ) (r : Result Book Refusal) (ws : List Entry) → (r, ws) ≡ booked_by (booked count r ws)
booked-exact count (Ok b) ws = refl
booked-exact count (Err r) ws =
    elim r as (λ (x : Refusal). (Err x, ws) ≡ booked_by (booked count (Err x) ws)) [
      | refusal.ShortHeader ↦ refl
      | refusal.NotCitp ↦ refl
      | refusal.Version ↦ refl
      | refusal.MessageSize ↦ refl
      | refusal.ShortStream ↦ refl
      | refusal.ShortLayerHeader ↦ refl
      | refusal.ShortBody ↦ refl
      | refusal.NoZero ↦ refl
      | refusal.MessageType ↦ refl
      | refusal.IdentifierType ↦ refl
      | refusal.HoldsZero ↦ refl
      | refusal.TooLong ↦ refl
      | refusal.ShortOutput ↦ refl
      | refusal.OutOfTurn ↦ refl
      | refusal.PacketSize ↦ refl
      | refusal.Channels ↦ refl
      | refusal.Shared ↦ refl
      | refusal.Full ↦ refl
      | refusal.OverLimit ↦ refl
      | refusal.PastUniverse ↦ refl
    ]
