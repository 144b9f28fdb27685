-- Of values whose numbers fit their fields' types, a writer takes exactly the valid ones.
use Prim.Native.Nat.{ℕ, ◌^◌, ◌<◌}
use mathlib.Core.Path.{◌≡◌, refl}
use mathlib.Core.Bool.{Bool, true, false}
use mathlib.Core.List.{List, [], ◌∷◌}
use native.Mathlib.Omega.{arith}
use lib.ListN.{length}
use lib.Dec.{leb, eqb}
use borrow.Author.Tests.{eqb-false, ne_eqb, ltb-false, le-ltb, leb-false, lt-leb}
use Rattle.format.specs.Format.{Format, number, code, cstring, ucs2, list, ◌&◌, Value, All, Letter, Valid}
use Rattle.format.proofs.Bools.{neither}
use Rattle.format.specs.Fault.{any, holds_zero, over_limit, too_long, weighed, fault, Fits}

pub all_both : {A : Type 0} {P Q R : A → Type 0} → ((x : A) → P x → Q x → R x) → (xs : List A) → All P xs → All Q xs → All R xs
all_both k [] h h' = tt
all_both k (x ∷ xs) h h' = (k x h.0 h'.0, all_both k xs h.1 h'.1)

pub any_false : {A : Type 0} (test : A → Bool) (xs : List A) → any test xs ≡ false → All (λ x. test x ≡ false) xs
unfolding any
any_false test [] e = tt
any_false test (x ∷ xs) e = let both = neither (test x) (any test xs) e in (both.0, any_false test xs both.1)

false-any : {A : Type 0} {P : A → Type 0} (test : A → Bool) → ((x : A) → P x → test x ≡ false) → (xs : List A) → All P xs → any test xs ≡ false
unfolding any
false-any test k [] h = refl
false-any test k (x ∷ xs) h = rw (k x h.0) (false-any test k xs h.1)

letters : (limit : ℕ) (xs : List ℕ) → All (λ x. x < limit) xs → any (λ x. eqb x 0) xs ≡ false → All (Letter limit) xs
letters limit xs h e = all_both (λ x b z. (b, omega (arith, eqb-false x 0 z))) xs h (any_false (λ x. eqb x 0) xs e)

pub passed-is-valid : (f : Format) (v : Value f) → Fits f v → holds_zero f v ≡ false → over_limit f v ≡ false → too_long f v ≡ false → Valid f v
unfolding holds_zero over_limit too_long
passed-is-valid (number w) v h z o l = h
passed-is-valid (code n r) v h z o l = h
passed-is-valid (cstring m) v h z o l = (ltb-false m (length v) o, letters 256 v h z)
passed-is-valid (ucs2 m) v h z o l = (ltb-false m (length v) o, letters 65536 v h z)
passed-is-valid (list w f) v h z o l =
    let b = neither (leb (256 ^ w) (length v)) (any (too_long f) v) l in
    let free = all_both {R = λ x. over_limit f x ≡ false → too_long f x ≡ false → Valid f x} (passed-is-valid f) v h (any_false (holds_zero f) v z) in
    let short = all_both {R = λ x. too_long f x ≡ false → Valid f x} (λ x k e. k e) v free (any_false (over_limit f) v o) in
    (leb-false (256 ^ w) (length v) b.0, all_both (λ x k e. k e) v short (any_false (too_long f) v b.1))
passed-is-valid (f & g) v h z o l =
    let a = neither (holds_zero f v.0) (holds_zero g v.1) z in
    let c = neither (over_limit f v.0) (over_limit g v.1) o in
    let b = neither (too_long f v.0) (too_long g v.1) l in
    (passed-is-valid f v.0 h.0 a.0 c.0 b.0, passed-is-valid g v.1 h.1 a.1 c.1 b.1)

pub valid-no-zero : (f : Format) (v : Value f) → Valid f v → holds_zero f v ≡ false
unfolding holds_zero
valid-no-zero (number w) v h = refl
valid-no-zero (code n r) v h = refl
valid-no-zero (cstring m) v h = false-any (λ x. eqb x 0) (λ x l. ne_eqb x 0 (omega arith)) v h.1
valid-no-zero (ucs2 m) v h = false-any (λ x. eqb x 0) (λ x l. ne_eqb x 0 (omega arith)) v h.1
valid-no-zero (list w f) v h = false-any (holds_zero f) (valid-no-zero f) v h.1
valid-no-zero (f & g) v h = rw (valid-no-zero f v.0 h.0) (valid-no-zero g v.1 h.1)

pub valid-not-over : (f : Format) (v : Value f) → Valid f v → over_limit f v ≡ false
unfolding over_limit
valid-not-over (number w) v h = refl
valid-not-over (code n r) v h = refl
valid-not-over (cstring m) v h = le-ltb m (length v) h.0
valid-not-over (ucs2 m) v h = le-ltb m (length v) h.0
valid-not-over (list w f) v h = false-any (over_limit f) (valid-not-over f) v h.1
valid-not-over (f & g) v h = rw (valid-not-over f v.0 h.0) (valid-not-over g v.1 h.1)

pub valid-not-long : (f : Format) (v : Value f) → Valid f v → too_long f v ≡ false
unfolding too_long
valid-not-long (number w) v h = refl
valid-not-long (code n r) v h = refl
valid-not-long (cstring m) v h = refl
valid-not-long (ucs2 m) v h = refl
valid-not-long (list w f) v h = rw (lt-leb (256 ^ w) (length v) h.0) (false-any (too_long f) (valid-not-long f) v h.1)
valid-not-long (f & g) v h = rw (valid-not-long f v.0 h.0) (valid-not-long g v.1 h.1)

-- a value is taken exactly where it is valid
pub no-fault-is-valid : (f : Format) (v : Value f) → Fits f v → fault f v ≡ 0 → Valid f v
unfolding fault
no-fault-is-valid f v h e = passed (holds_zero f v) (over_limit f v) (too_long f v) refl refl refl e
  where
    passed : (z o l : Bool) → holds_zero f v ≡ z → over_limit f v ≡ o → too_long f v ≡ l → weighed z o l 0 0 ≡ 0 → Valid f v
    passed true o l ez eo el e = absurd (omega arith)
    passed false true l ez eo el e = absurd (omega arith)
    passed false false true ez eo el e = absurd (omega arith)
    passed false false false ez eo el e = passed-is-valid f v h ez eo el

pub valid-no-fault : (f : Format) (v : Value f) → Valid f v → fault f v ≡ 0
unfolding fault
valid-no-fault f v h = rw (valid-no-zero f v h, valid-not-over f v h, valid-not-long f v h)

-- a list whose items can't be at fault
pub any-never : {A : Type 0} (xs : List A) → any (λ x. false) xs ≡ false
unfolding any
any-never [] = refl
any-never (x ∷ xs) = any-never xs

-- a valid value's numbers fit their types
pub valid-fits : (f : Format) (v : Value f) → Valid f v → Fits f v
valid-fits (number w) v h = h
valid-fits (code n r) v h = h
valid-fits (cstring m) v h = all_both {Q = λ x. Letter 256 x} (λ x l _. l.0) v h.1 h.1
valid-fits (ucs2 m) v h = all_both {Q = λ x. Letter 65536 x} (λ x l _. l.0) v h.1 h.1
valid-fits (list w f) v h = all_both {Q = λ x. Valid f x} (λ x l _. valid-fits f x l) v h.1 h.1
valid-fits (f & g) v h = (valid-fits f v.0 h.0, valid-fits g v.1 h.1)
