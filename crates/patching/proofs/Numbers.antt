-- Every refusal of the patch book has a number of the table, and changes nothing.
use Prim.Native.Nat.{ℕ, zero, suc}
use mathlib.Core.Path.{◌≡◌, refl, sym, ap, ◌∙◌, subst}
use mathlib.Core.Bool.{Bool, true, false, true≢false}
use mathlib.Core.Logic.{◌⊎◌, inl, inr}
use mathlib.Core.List.{List}
use native.Mathlib.Omega.{arith}
use Rattle.format.specs.Format.{Value, Read, pick}
use Rattle.format.specs.Fault.{any}
use Rattle.format.specs.Refusals.{refusals, is_one_of}
use Rattle.format.proofs.Refusal.{Refuses, reads, refuses, decode-number}
use Rattle.protocol.specs.Kind.{body_of, Ptch, UPtc}
use Rattle.patching.specs.Entry.{Entry, entry_of}
use Rattle.patching.specs.Book.{Message, ptch, uptc, Change, patch, unpatch, unread, as_patch, as_unpatch, change}
use Rattle.patching.specs.Book.{misfits, clashes, is_full, number, settled, room_in, held, answer}
use Rattle.patching.specs.Claims as claims
use Rattle.patching.specs.Claims.{body_refusals, Numbered, Kept}

-- a body that does not read is refused with a number of its format
abbrev Body : Message → Change → Type 0
Body m (patch f) = Unit {0}
Body m (unpatch ids) = Unit {0}
Body m (unread n) = is_one_of (body_refusals m) n ≡ true

body-number : (m : Message) → Body m (change m)
body-number (ptch s) = go (decode-number (body_of Ptch) s)
  where
    go : {r : Read (Value (body_of Ptch))} → Refuses (λ n. is_one_of (refusals (body_of Ptch)) n ≡ true) r → Body (ptch s) (as_patch r)
    go reads = tt
    go (refuses h) = h
body-number (uptc s) = go (decode-number (body_of UPtc) s)
  where
    go : {r : Read (Value (body_of UPtc))} → Refuses (λ n. is_one_of (refusals (body_of UPtc)) n ≡ true) r → Body (uptc s) (as_unpatch r)
    go reads = tt
    go (refuses h) = h

numbered : (room : ℕ) (m : Message) (c : Change) (l : List Entry) → Body m c → Numbered m c (number room c l)
numbered room m (patch f) l h = go (misfits (entry_of f)) (any (clashes (entry_of f)) l) (is_full room (entry_of f) l)
  where
    go : (a b c : Bool) → Numbered m (patch f) (pick a 16 (pick b 17 (pick c 18 0)))
    go true b c = inr (omega arith, omega arith)
    go false true c = inr (omega arith, omega arith)
    go false false true = inr (omega arith, omega arith)
    go false false false = inl refl
numbered room m (unpatch ids) l h = refl
numbered room m (unread n) l h = (refl, h)

pub book-numbers : claims.BookNumbers
book-numbers m count ws =
    (numbered (room_in ws) m (change m) (held count ws) (body-number m), go (number (room_in ws) (change m) (held count ws)) _ _)
  where
    go : (n k : ℕ) (vs : List Entry) → (n ≡ 0) ⊎ Kept count ws (n, settled n k count, settled n vs ws)
    go zero k vs = inl refl
    go (suc n) k vs = inr (refl, refl)

-- no body is refused with 0
zero-reads : (m : Message) → is_one_of (body_refusals m) 0 ≡ false
unfolding any
zero-reads (ptch s) = refl
zero-reads (uptc s) = refl

-- a body that does not read leaves what was there
pub unread-kept : (m : Message) (n : ℕ) → unread n ≡ change m → (count : ℕ) (ws : List Entry) → (n, count, ws) ≡ answer (change m) count ws
unread-kept m n e count ws = go n (subst (Body m) (sym e) (body-number m)) ∙ ap (λ (c : Change). answer c count ws) e
  where
    go : (n : ℕ) → Body m (unread n) → (n, count, ws) ≡ answer (unread n) count ws
    go zero h = absurd (true≢false (sym h ∙ zero-reads m))
    go (suc n) h = refl
