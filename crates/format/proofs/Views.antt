-- Laws of views, field by field: a pair, a byte, a type code.
use Prim.Native.Nat.{ℕ, ◌+◌, ◌<◌}
use mathlib.Core.Path.{◌≡◌, refl, ap}
use mathlib.Core.Bool.{Bool, true, false}
use mathlib.Core.List.{List}
use native.Mathlib.Nat.{add_assoc}
use native.Mathlib.Omega.{arith}
use lib.ListN.{length, drop, get_or}
use lib.Seq.{drop-drop, drop-cons}
use lib.Dec.{ltb}
use Rattle.format.specs.Format.{Format, number, code, ◌&◌, Value, Read, got, refused, bind, pick}
use Rattle.format.specs.Format.{decode_number, decode, size}
use Rattle.format.proofs.Reading.{Gives, gives, fails}
use Rattle.format.proofs.Width.{Behind, decode-behind}
use Rattle.format.specs.View.{Seen, seen, missed, view, placed, place}
use Rattle.format.specs.Passed.{in_range}

-- what is seen, then what is seen behind it
unfoldable pub after : {A B : Type 0} → Seen A → (A → ℕ → Seen B) → Seen B
after (seen a e) k = k a e
after (missed n) k = missed n

-- a pair is read field by field
module _ (f g : Format) (s : List ℕ) (at : ℕ) where
  second : (a : Value f) (r : Read (Value g)) → placed (f & g) at (bind r (λ b u. got (a, b) u))
      ≡ after (placed g (at + size f a) r) (λ b d. seen (place f at a, b) d)
  unfolding placed place size after
  second a (got b u) = rw add_assoc
  second a (refused n) = refl

  both : (r : Read (Value f)) → Gives (λ a t. Behind (size f a) (drop at s) t) r → placed (f & g) at (bind r (λ a t. bind (decode g t) (λ b u. got (a, b) u)))
      ≡ after (placed f at r) (λ a e. after (placed g e (decode g (drop e s))) (λ b d. seen (a, b) d))
  unfolding placed place size after
  both r (gives {a} h) = rw (h.rest, drop-drop) (second a (decode g (drop (at + size f a) s)))
  both r fails = refl

  pub view-pair : view (f & g) s at ≡ after (view f s at) (λ a e. after (view g s e) (λ b d. seen (a, b) d))
  unfolding view decode
  view-pair = both (decode f (drop at s)) (decode-behind f (drop at s))

-- a byte
pub byte-there : (s : List ℕ) (at : ℕ) → at < length s → view (number 1) s at ≡ seen (get_or s at 0) (at + 1)
unfolding view placed place size decode decode_number
byte-there s at h = rw (drop-cons s at 0 h) (ap (λ (n : ℕ). seen n (at + 1)) (omega arith))

-- a type code is a byte within a range
module _ (n k : ℕ) (s : List ℕ) (at : ℕ) where
  code_of : (r : Read ℕ) → placed (code n k) at (bind r (λ c t. pick (ltb c n) (got c t) (refused k))) ≡ after (placed (number 1) at r) (λ c e. pick (ltb c n) (seen c e) (missed k))
  unfolding placed after place size
  code_of (got c t) = by (ltb c n) where
    by : (b : Bool) → placed (code n k) at (pick b (got c t) (refused k)) ≡ pick b (seen c (at + 1)) (missed k)
    by true = refl
    by false = refl
  code_of (refused j) = refl

  view-code : view (code n k) s at ≡ after (view (number 1) s at) (λ c e. pick (ltb c n) (seen c e) (missed k))
  unfolding view decode
  view-code = code_of (decode_number 1 (drop at s))

  pub code-short : {j : ℕ} → view (number 1) s at ≡ missed j → view (code n k) s at ≡ missed j
  unfolding after
  code-short p = rw (view-code, p) refl

module _ (n k : ℕ) (s : List ℕ) (at c e : ℕ) where
  pub code-as : {m : ℕ} → view (number 1) s at ≡ seen c e → in_range n k c ≡ seen m 0 → view (code n k) s at ≡ seen m e
  unfolding after in_range
  code-as {m} p q = rw (view-code n k s at, p) (by (ltb c n) q) where
    by : (b : Bool) → pick b (seen c 0) (missed k) ≡ seen m 0 → pick b (seen c e) (missed k) ≡ seen m e
    by true h = cc
    by false h = cc

  pub code-none : {j : ℕ} → view (number 1) s at ≡ seen c e → in_range n k c ≡ missed j → view (code n k) s at ≡ missed j
  unfolding after in_range
  code-none {j} p q = rw (view-code n k s at, p) (by (ltb c n) q) where
    by : (b : Bool) → pick b (seen c 0) (missed k) ≡ missed j → pick b (seen c e) (missed k) ≡ missed j
    by true h = cc
    by false h = h
