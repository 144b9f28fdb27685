-- An entry in place of its fixture's: what the moves make of the words lent. Assumes nothing.
use Prim.Native.Nat.{ℕ, zero, suc, ◌+◌, ◌-◌, ◌<◌, ◌≤◌}
use mathlib.Core.Path.{◌≡◌, refl, sym, ap, ap₂, ◌∙◌}
use mathlib.Core.Bool.{Bool, not}
use mathlib.Core.List.{List, [], ◌∷◌, ◌++◌, append_assoc}
use native.Mathlib.Omega.{arith}
use native.Mathlib.Numerals.{add-one}
use lib.ListN.{length, take, drop, take-append-drop, length-append, length-drop}
use lib.Seq.{length-take-le, take-take, take-append-le, drop-append-le, take-append_seam, drop-append-add, drop-drop}
use Rattle.format.specs.Format.{pick}
use Rattle.patching.specs.Entry.{Entry, identifier, same, insert}
use Rattle.patching.specs.Book.{filter, others, without, overwrite}
use Rattle.patching.proofs.Lists.{filter-length}
use Rattle.unpatch.specs.Unpatch.{Dropped}
use Rattle.unpatch.proofs.Listed.{among_one}
use Rattle.patching.proofs.Entries.{insert-length}
use Rattle.book.specs.Scan.{remove_at, insert_at, Owned}

-- no more entries than the first n words hold, put first among these: so they stand first among all
pub overwrite-front : (w ws : List Entry) (n : ℕ) → length w ≤ length (take n ws) → overwrite w (take n ws) ++ drop n ws ≡ overwrite w ws
overwrite-front w ws n h =
    append_assoc w (drop (length w) (take n ws)) (drop n ws)
    ∙ ap (λ (t : List Entry). w ++ t) (sym (drop-append-le (length w) (take n ws) (drop n ws) h) ∙ ap (drop (length w)) (take-append-drop n ws))

-- the entries of a fixture are those of its identifier
without-own : (e : Entry) (l : List Entry) → without (identifier e ∷ []) l ≡ others e l
unfolding filter
without-own e [] = refl
without-own e (x ∷ l) =
    ap₂ (λ (b : Bool) (t : List Entry). pick b (x ∷ t) t) (ap not (among_one (identifier e) (identifier x))) (without-own e l)

module _ (e : Entry) (ws : List Entry) (n : ℕ) (long : n ≤ length ws) where
  abbrev l : List Entry
  l = take n ws

  abbrev O : List Entry
  O = others e l

  -- what stands behind the new entries
  abbrev behind : List Entry
  behind = drop (length O + 1) ws

  held : length l ≡ n
  held = length-take-le n ws long

  -- none of the fixture's own, and the hole is behind all; or one, and the hole is there
  pub record Hole (own owns : ℕ) : Type 0 where
    pub within : own < length ws
    pub others-stay : remove_at own ws ≡ O ++ behind
    pub count : n + 1 - owns ≡ length O + 1

  no_own : {own : ℕ} → length O < length ws → (own ≡ length l) × (O ≡ l) → Hole own 0
  no_own h (p, q) =
      let m : length O ≡ n = ap length q ∙ held in
      let k : _ ≡ n = p ∙ held in record {
        within = omega arith;
        others-stay = ap (λ (t : ℕ). remove_at t ws) k ∙ ap₂ (λ (s : List Entry) (t : ℕ). s ++ drop (t + 1) ws) (sym q) (sym m);
        count = omega arith;
      }

  one-own : (own : ℕ) → 1 + length O ≡ length l → (own < length l) × (remove_at own l ≡ O) → Hole own 1
  one-own own m (p, q) =
      let k : length O + 1 ≡ n = omega (arith, held) in record {
        within = omega (arith, held);
        others-stay = ap₂ (λ (s t : List Entry). s ++ t) (sym (take-take own n ws (omega (arith, held)))) split
            ∙ sym (append_assoc (take own l) (drop (own + 1) l) (drop n ws))
            ∙ ap₂ (λ (s : List Entry) (t : ℕ). s ++ drop t ws) q (sym k);
        count = omega arith;
      }
    where
      split : drop (own + 1) ws ≡ drop (own + 1) l ++ drop n ws
      split = ap (drop (own + 1)) (sym (take-append-drop n ws)) ∙ drop-append-le (own + 1) l (drop n ws) (omega arith)

  pub hole : (own owns : ℕ) → Owned e l (length l) own owns → owns < 2 → length O < length ws → Hole own owns
  hole own zero o h r = no_own r (o.none refl)
  hole own (suc zero) o h r = one-own own o.as_many (o.one refl)
  hole own (suc (suc k)) o h r = absurd (omega arith)

  -- all of the fixture's own are dropped, and the hole is behind the others
  pub others-overwrite : remove_at (length O) (overwrite O ws) ≡ O ++ behind
  others-overwrite =
      ap₂ (λ (s t : List Entry). s ++ t) (take-append_seam O (drop (length O) ws))
      (drop-append-add O (drop (length O) ws) 1 ∙ drop-drop 1 (length O) ws)

  pub dropped-own : {k : ℕ} {zs : List Entry} → Dropped (identifier e ∷ []) l k zs → (k ≡ length O) × (zs ++ drop n ws ≡ overwrite O ws)
  dropped-own d = (
    d.count ∙ ap length (without-own e l),
    ap (λ (t : List Entry). t ++ drop n ws) (d.words ∙ ap (λ (t : List Entry). overwrite t l) (without-own e l))
        ∙ overwrite-front O ws n (filter-length (λ x. not (same e x)) l),
  )

  pub overwrite-as-many : length O ≤ length ws → length (overwrite O ws) ≡ length ws
  overwrite-as-many h = omega (arith, length-append O (drop (length O) ws), length-drop (length O) ws)

  -- the new entry put among the others
  module _ (to : ℕ) (s : (to ≤ length O) × (insert e O ≡ insert_at to e O)) where
    pub put-length : length O + 1 ≡ length (insert e O)
    put-length = add-one (length O) ∙ sym (insert-length e O)

    pub put-overwrite : (H ys : List Entry) → H ≡ O ++ behind → ys ≡ insert_at to e H → ys ≡ overwrite (insert e O) ws
    put-overwrite H ys p q =
        q ∙ ap (insert_at to e) p
        ∙ ap₂ (λ (a b : List Entry). a ++ (e ∷ b)) (take-append-le to O behind s.0) (drop-append-le to O behind s.0)
        ∙ sym (append_assoc (take to O) (e ∷ drop to O) behind)
        ∙ ap₂ (λ (a : List Entry) (k : ℕ). a ++ drop k ws) (sym s.1) put-length
