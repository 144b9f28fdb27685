-- What the answers of the readers ask for. Assumes nothing.
use Prim.Native.Nat.{ℕ, zero, suc, ◌+◌, ◌*◌, ◌-◌, ◌/◌, ◌≤◌}
use mathlib.Core.Path.{◌≡◌, refl, sym, ap, ap₂, ◌∙◌, subst}
use mathlib.Core.List.{List, [], ◌∷◌}
use native.Mathlib.Omega.{arith}
use lib.ListN.{length, take, drop, length-take, length-drop}
use Rattle.format.specs.Format.{number, Value, Read, got, refused, decode_number, decode_items, decode}
use Rattle.format.specs.View.{View, Seen, seen, missed, view, place, placed, units_of}
use Rattle.format.proofs.Reading.{Gives, gives, fails, gives-map, gives-bind}
use Rattle.format.proofs.Width.{number_behind}
use Rattle.protocol.specs.Kind.{body_of, Ptch, UPtc}
use Rattle.patching.specs.Entry.{Fields}
use Rattle.patching.specs.Book.{Change, patch, unpatch, unread, sent, as_patch, as_unpatch, ptch, uptc, change}
use Rattle.unpatch.specs.Unpatch.{identifiers_of}

-- ---- Ptch

abbrev pub seen_fields : View (body_of Ptch) → Fields
seen_fields (i, (u, (reserved, (c, (n, (make, name)))))) = (i, u, c, n)

same-fields : (v : Value (body_of Ptch)) → seen_fields (place (body_of Ptch) 0 v) ≡ sent v
unfolding place
same-fields v = refl

abbrev seen_patch : Seen (View (body_of Ptch)) → Change
seen_patch (seen v e) = patch (seen_fields v)
seen_patch (missed n) = unread n

by-view : (r : Read (Value (body_of Ptch))) → seen_patch (placed (body_of Ptch) 0 r) ≡ as_patch r
unfolding placed
by-view (got v t) = ap patch (same-fields v)
by-view (refused n) = refl

ptch-asks : (s : List ℕ) {v : Seen (View (body_of Ptch))} → view (body_of Ptch) s 0 ≡ v → seen_patch v ≡ change (ptch s)
unfolding view
ptch-asks s e = ap seen_patch (sym e) ∙ by-view (decode (body_of Ptch) s)

pub ptch-read : (s : List ℕ) (v : View (body_of Ptch)) (e : ℕ) → view (body_of Ptch) s 0 ≡ seen v e → patch (seen_fields v) ≡ change (ptch s)
ptch-read s v e q = ptch-asks s q

pub ptch-unread : (s : List ℕ) (n : ℕ) → view (body_of Ptch) s 0 ≡ missed n → unread n ≡ change (ptch s)
ptch-unread s n q = ptch-asks s q

-- ---- UPtc

-- numbers of two bytes are units
abbrev Units : List ℕ → List ℕ → Type 0
Units t v = (2 * length v ≤ length t) × (units_of (length v) t ≡ v)

items-units : (n : ℕ) (t : List ℕ) → Gives (λ v u. Units t v) (decode_items (decode (number 2)) n t)
unfolding decode_items decode decode_number units_of
items-units zero t = gives {a = []} (omega arith, refl)
items-units (suc n) [] = fails
items-units (suc n) (b ∷ []) = fails
items-units (suc n) (b ∷ c ∷ t) = gives-bind (items-units n t) λ xs u h.
    let e : b + 256 * c ≡ b + 256 * (c + 256 * 0) = omega arith in
    gives {a = (b + 256 * (c + 256 * 0)) ∷ xs} (omega (arith, h.0), ap₂ (λ (x : ℕ) (l : List ℕ). x ∷ l) e h.1)

list-units : (s : List ℕ) → Gives (λ v u. (2 ≤ length s) × Units (drop 2 s) v) (decode (body_of UPtc) s)
unfolding decode
list-units s = gives-bind (number_behind 2 s) λ n t h.
    gives-map (items-units n t) λ v u k. (h.within, subst (λ (l : List ℕ). Units l v) h.rest k)

-- a list that was read is there, and its identifiers are its units
abbrev Lists : List ℕ → Seen (View (body_of UPtc)) → Change → Type 0
Lists s (seen x e) c = (x.0 + 2 * x.1 ≤ length s) × (unpatch (units_of x.1 (drop x.0 s)) ≡ c)
Lists s (missed n) c = unread n ≡ c

by-list : (s : List ℕ) (r : Read (Value (body_of UPtc))) → Gives (λ v u. (2 ≤ length s) × Units (drop 2 s) v) r
    → Lists s (placed (body_of UPtc) 0 r) (as_unpatch r)
unfolding placed place
by-list s (got v t) (gives h) = (omega (arith, h.1.0, length-drop 2 s), ap unpatch h.1.1)
by-list s (refused n) h = refl

uptc-asks : (s : List ℕ) {v : Seen (View (body_of UPtc))} → view (body_of UPtc) s 0 ≡ v → Lists s v (change (uptc s))
unfolding view
uptc-asks s e = subst (λ (v : Seen (View (body_of UPtc))). Lists s v (change (uptc s))) e (by-list s (decode (body_of UPtc) s) (list-units s))

pub uptc-read : (s : List ℕ) (at n e : ℕ) → view (body_of UPtc) s 0 ≡ seen (at, n) e
    → (at + 2 * n ≤ length s) × (unpatch (units_of n (drop at s)) ≡ change (uptc s))
uptc-read s at n e q = uptc-asks s q

pub uptc-unread : (s : List ℕ) (n : ℕ) → view (body_of UPtc) s 0 ≡ missed n → unread n ≡ change (uptc s)
uptc-unread s n q = uptc-asks s q

-- the units of the part of a body that a list stands in
units-front : (n : ℕ) (t : List ℕ) → 2 * n ≤ length t → units_of n (take (2 * n) t) ≡ units_of n t
unfolding units_of
units-front zero t h = refl
units-front (suc n) [] h = absurd (omega arith)
units-front (suc n) (b ∷ []) h = absurd (omega arith)
units-front (suc n) (b ∷ c ∷ t) h =
    let e : 2 * suc n ≡ suc (suc (2 * n)) = omega arith in
    rw e (ap (λ (l : List ℕ). (b + 256 * c) ∷ l) (units-front n t (omega arith)))

pub part-units : (s : List ℕ) (at n : ℕ) → at + 2 * n ≤ length s → identifiers_of (take (at + 2 * n - at) (drop at s)) ≡ units_of n (drop at s)
part-units s at n h =
    let w : at + 2 * n - at ≡ 2 * n = omega arith in
    let k : 2 * n ≤ length (drop at s) = omega (arith, length-drop at s) in
    let e : length (take (2 * n) (drop at s)) / 2 ≡ n = omega (arith, length-take (2 * n) (drop at s)) in
    ap (λ (m : ℕ). identifiers_of (take m (drop at s))) w ∙ ap (λ (m : ℕ). units_of m (take (2 * n) (drop at s))) e ∙ units-front n (drop at s) k
