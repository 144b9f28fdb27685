-- Laws of texts printed one behind the other.
use Prim.Native.Nat.{ℕ, zero, suc, ◌+◌, ◌-◌, ◌≤◌, ◌<◌, min, max}
use mathlib.Core.Path.{◌≡◌, refl, sym, ap, ◌∙◌}
use mathlib.Core.List.{List, [], ◌∷◌, ◌++◌}
use native.Mathlib.Nat.{sub-zero, zero-sub, suc-sub-suc}
use native.Mathlib.Omega.{arith}
use lib.ListN.{length, set, drop, length-append, length-drop, drop_of_length-le}
use lib.Seq.{length-sets, set_out, drop-nil}
use Rattle.put.specs.Put.{Puts}
use Rattle.put.proofs.Writing as put
use Rattle.text.specs.Prints.{Prints}

drop-append : (k : ℕ) (xs ys : List ℕ) → drop k (xs ++ ys) ≡ drop k xs ++ drop (k - length xs) ys
drop-append zero [] ys = refl
drop-append zero (x ∷ xs) ys = rw zero-sub refl
drop-append (suc k) [] ys = rw sub-zero refl
drop-append (suc k) (x ∷ xs) ys = rw (suc-sub-suc k (length xs)) (drop-append k xs ys)

-- a text of x characters at p stops in an output of n characters from f on; in the output itself
starts-within : (f p d x n : ℕ) → p ≡ f + d → min (p + x) (max p (f + n)) - f ≡ min (d + x) (max d n)
starts-within f p d x n e = omega arith

starts-before : (f p k x n : ℕ) → f ≡ p + k → min (p + x) (max p (f + n)) - f ≡ min (0 + (x - k)) (max 0 n)
starts-before f p k x n e = omega arith

stops_at : (f p x n : ℕ) → min (p + x) (max p (f + n)) - f ≡ min (p - f + (x - (f - p))) (max (p - f) n)
stops_at f p x n = put.split f p
    (λ h. let z : f - p ≡ 0 = omega arith in rw (z, sub-zero) (starts-within f p (p - f) x n (omega arith)))
    (λ h. let z : p - f ≡ 0 = omega arith in rw z (starts-before f p (f - p) x n (omega arith)))

-- what is left to pass behind it
passes : (f p x n q : ℕ) → q ≡ min (p + x) (max p (f + n)) → f - q ≡ f - p - x
passes f p x n q e = omega arith

-- what the output holds of a text is put at the text's place in it
in-output : {from : ℕ} {xs o o' : List ℕ} {p q : ℕ} → Prints from xs p o q o' → Puts (drop (from - p) xs) (p - from) o (q - from) o'
in-output {from} {xs} {o} {p = p} a = record {
  stops = rw (length-drop (from - p) xs) (ap (λ (k : ℕ). k - from) a.stops ∙ stops_at from p (length xs) (length o));
  stored = a.stored;
}

pub put-nil : (from p : ℕ) (o : List ℕ) → Prints from [] p o p o
put-nil from p o = record { stops = omega arith; stored = rw (drop-nil (from - p)) refl }

pub put_then : {from : ℕ} {xs ys o o₁ o₂ : List ℕ} {p q r : ℕ} → Prints from xs p o q o₁ → Prints from ys q o₁ r o₂ → Prints from (xs ++ ys) p o r o₂
put_then {from} {xs} {ys} {o} {o₁} {p = p} {q = q} a b =
    let kept : length o₁ ≡ length o = ap length a.stored ∙ length-sets o (p - from) (drop (from - p) xs) in
    record {
      stops = omega (arith, a.stops, b.stops, length-append xs ys, kept);
      stored = (put.put_then (in-output a) (in-output b)).stored ∙ rw (passes from p (length xs) (length o) q a.stops, drop-append (from - p) xs ys) refl;
    }

-- ---- one character: in front of what the output holds, in it, past its end

module _ {from at c : ℕ} {o : List ℕ} where
  pub put-before : at < from → Prints from (c ∷ []) at o (at + 1) o
  put-before h = record { stops = omega arith; stored = rw (drop_of_length-le (c ∷ []) {i = from - at} (omega arith)) refl }

  pub put_in : from ≤ at → at - from < length o → Prints from (c ∷ []) at o (at + 1) (set o (at - from) c)
  put_in h g = let e : from - at ≡ 0 = omega arith in record { stops = omega arith; stored = rw e refl }

  pub put-past : from ≤ at → length o ≤ at - from → Prints from (c ∷ []) at o at o
  put-past h g = let e : from - at ≡ 0 = omega arith in record { stops = omega arith; stored = rw e (sym (set_out o (at - from) c g)) }
