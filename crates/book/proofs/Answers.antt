-- A patch by what its tests said: its number, and the count and the words lent after it. Assumes nothing.
use Prim.Native.Nat.{ℕ, ◌<◌, ◌≤◌}
use mathlib.Core.Path.{◌≡◌, refl, sym, ap, ap₂, ◌∙◌, subst}
use mathlib.Core.Bool.{Bool, true, false, not, ◌&&◌, and-true, and-false, true≢false}
use mathlib.Core.List.{List, ◌++◌}
use native.Mathlib.Omega.{arith}
use lib.ListN.{length, take, drop}
use lib.Seq.{length-take-le}
use lib.Dec.{leb, eqb}
use borrow.Author.Tests.{leb-false, eqb-true, eqb-false}
use Rattle.format.specs.Format.{pick}
use Rattle.format.specs.Fault.{any}
use Rattle.patching.specs.Entry.{Entry, Fields, fields, key, entry_of, same, insert}
use Rattle.patching.specs.Book.{others, misfits, clashes, is_full, patch, unpatch, drops, without, settled, room_in, held, overwrite, answer}
use Rattle.patching.proofs.Fields.{entry_whole}
use Rattle.patching.proofs.Lists.{filter-length, filter-less, filter-all}
use Rattle.unpatch.specs.Unpatch.{Dropped}
use Rattle.book.specs.Scan.{Owned, Finds}
use Rattle.book.specs.declared.Place.{Place}
use Rattle.book.proofs.Held.{held-within, held-take}
use Rattle.book.proofs.Replaced.{overwrite-front}

-- the tests on e's fixture, by how many entries it has
module _ {e : Entry} {l : List Entry} {end own owns : ℕ} (o : Owned e l end own owns) where
  listed : (b : Bool) → any (same e) l ≡ b → 0 < owns → b ≡ true
  listed true q h = refl
  listed false q h = absurd (omega (arith, ap length (filter-all (same e) l q), o.as_many))

  new : (b : Bool) → any (same e) l ≡ b → owns ≤ 0 → b ≡ false
  new false q h = refl
  new true q h = absurd (omega (arith, filter-less (same e) l q, o.as_many))

  -- the code's test
  pub full_by : (n : ℕ) → (eqb owns 0 && leb n (length l)) ≡ is_full n e l
  full_by n = go (eqb owns 0) refl
    where
      go : (b : Bool) → eqb owns 0 ≡ b → (b && leb n (length l)) ≡ is_full n e l
      go true q =
          let z : owns ≡ 0 = eqb-true owns 0 q in
          let h : owns ≤ 0 = omega arith in
          sym (and-true (leb n (length l))) ∙ sym (ap (λ (t : Bool). leb n (length l) && not t) (new (any (same e) l) refl h))
      go false q =
          let z : owns ≡ 0 → ⊥ = eqb-false owns 0 q in
          let h : 0 < owns = omega arith in
          sym (and-false (leb n (length l))) ∙ sym (ap (λ (t : Bool). leb n (length l) && not t) (listed (any (same e) l) refl h))

module _ (e : Entry) (count : ℕ) (ws : List Entry) where
  abbrev those : List Entry
  those = held count ws

  abbrev given : ℕ → Entry → ℕ × ℕ × List Entry
  given n x = (n, settled n (length (insert x (others x those))) count, settled n (overwrite (insert x (others x those)) ws) ws)

  abbrev numbered : Bool → Bool → Bool → ℕ
  numbered m s f = pick m 16 (pick s 17 (pick f 18 0))

  -- by the three tests
  by : (m s f : Bool) → misfits e ≡ m → any (clashes e) those ≡ s → is_full (room_in ws) e those ≡ f
      → given (numbered m s f) e ≡ answer (patch (fields e)) count ws
  by m s f p q r =
      ap (λ (x : Bool). given (numbered x s f) e) (sym p)
      ∙ ap (λ (x : Bool). given (numbered (misfits e) x f) e) (sym q)
      ∙ ap (λ (x : Bool). given (numbered (misfits e) (any (clashes e) those) x) e) (sym r)
      ∙ ap (λ (x : Entry). given (numbered (misfits x) (any (clashes x) those) (is_full (room_in ws) x those)) x) (sym (entry_whole e))

  pub misfit : misfits e ≡ true → (16, count, ws) ≡ answer (patch (fields e)) count ws
  misfit m = by true (any (clashes e) those) (is_full (room_in ws) e those) m refl refl

  module _ (m : misfits e ≡ false) where
    pub clashed : any (clashes e) those ≡ true → (17, count, ws) ≡ answer (patch (fields e)) count ws
    clashed s = by false true (is_full (room_in ws) e those) m s refl

    module _ (s : any (clashes e) those ≡ false) where
      pub no_room : is_full (room_in ws) e those ≡ true → (18, count, ws) ≡ answer (patch (fields e)) count ws
      no_room f = by false false true m s f

      pub accepted : (r : ℕ) (zs : List Entry) → is_full (room_in ws) e those ≡ false
          → r ≡ length (insert e (others e those)) → zs ≡ overwrite (insert e (others e those)) ws
          → (0, r, zs) ≡ answer (patch (fields e)) count ws
      accepted r zs f p z = ap₂ (λ (k : ℕ) (l : List Entry). (0, k, l)) p z ∙ by false false false m s f

-- an answer depends on a patch's number alone
pub by_number : (f : Fields) (count : ℕ) (ws : List Entry) → answer (patch (fields (entry_of f))) count ws ≡ answer (patch f) count ws
by_number f count ws =
    let l : List Entry = held count ws in
    let n : Entry → ℕ = λ x. numbered x count ws (misfits x) (any (clashes x) l) (is_full (room_in ws) x l) in
    ap (λ (x : Entry). given x count ws (n x) x) (entry_whole (entry_of f))

-- ---- what the code of a patch knows: r entries are held
module _ (e : Entry) (count : ℕ) (ws : List Entry) (r : ℕ) (q : r ≡ length (held count ws)) where
  pub finds-clash : misfits e ≡ false → any (clashes e) (take r ws) ≡ true → (17, count, ws) ≡ answer (patch (fields e)) count ws
  finds-clash m t = clashed e count ws m (ap (any (clashes e)) (sym (held-take count ws r q)) ∙ t)

-- and f was found among them
module _ (e : Entry) (count : ℕ) (ws : List Entry) (r : ℕ) (q : r ≡ length (held count ws)) (f : Place) (found : Finds e (take r ws) f) where
  abbrev entries : List Entry
  entries = insert e (others e (take r ws))

  finds : Finds e (held count ws) f
  finds = subst (λ (l : List Entry). Finds e l f) (held-take count ws r q) found

  as_many : length (take r ws) ≡ r
  as_many = length-take-le r ws (held-within count ws r q)

  -- the code's test of the room, of n words
  module _ (n : ℕ) (p : n ≡ room_in ws) where
    same_test : (eqb f.own_count 0 && leb n r) ≡ is_full (room_in ws) e (held count ws)
    same_test = ap₂ (λ (k m : ℕ). eqb f.own_count 0 && leb k m) p q ∙ full_by finds.owned (room_in ws)

    pub finds-full : misfits e ≡ false → {b : Bool} → b ≡ (eqb f.own_count 0 && leb n r) → b ≡ true
        → (18, count, ws) ≡ answer (patch (fields e)) count ws
    finds-full m t h = no_room e count ws m finds.clear (sym same_test ∙ sym t ∙ h)

    pub finds-room : {b : Bool} → b ≡ (eqb f.own_count 0 && leb n r) → b ≡ false → length (others e (take r ws)) < length ws
    finds-room t h = go (eqb f.own_count 0) refl (leb n r) refl (sym t ∙ h)
      where
        go : (a : Bool) → eqb f.own_count 0 ≡ a → (b : Bool) → leb n r ≡ b → (a && b) ≡ false → length (others e (take r ws)) < length ws
        go true x true y z = absurd (true≢false z)
        go true x false y z =
            let k : r < n = leb-false n r y in
            omega (arith, found.owned.as_many, as_many)
        go false x b y z =
            let k : f.own_count ≡ 0 → ⊥ = eqb-false f.own_count 0 x in
            let o : 0 < f.own_count = omega arith in
            omega (arith, found.owned.as_many, as_many, held-within count ws r q)

  -- it was put in its place
  put : misfits e ≡ false → is_full (room_in ws) e (held count ws) ≡ false → (k : ℕ) (zs : List Entry) → (k ≡ length entries) × (zs ≡ overwrite entries ws)
      → (0, k, zs) ≡ answer (patch (fields e)) count ws
  put m u k zs (p, z) =
      let w : take r ws ≡ held count ws = held-take count ws r q in
      accepted e count ws m finds.clear k zs u
      (p ∙ ap (λ (l : List Entry). length (insert e (others e l))) w)
      (z ∙ ap (λ (l : List Entry). overwrite (insert e (others e l)) ws) w)

  pub finds-put : (n : ℕ) → n ≡ room_in ws → misfits e ≡ false → {b : Bool} → b ≡ (eqb f.own_count 0 && leb n r) → b ≡ false
      → {k : ℕ} {zs : List Entry} → (k ≡ length entries) × (zs ≡ overwrite entries ws) → (0, k, zs) ≡ answer (patch (fields e)) count ws
  finds-put n p m t h = put m (sym (same_test n p) ∙ sym t ∙ h) _ _

-- ---- an unpatch, of which the code knows the r entries held: w stay, and stand first among them
module _ (count : ℕ) (ws : List Entry) (r : ℕ) (q : r ≡ length (held count ws)) (ids : List ℕ) where
  abbrev stay : List Entry
  stay = without ids (take r ws)

  pub unpatched : {k : ℕ} {zs : List Entry} → Dropped ids (take r ws) k zs → (0, k, zs ++ drop r ws) ≡ answer (unpatch ids) count ws
  unpatched d =
      let w : length stay ≤ length (take r ws) = filter-length (λ x. not (drops ids (key (fields x)))) (take r ws) in
      ap₂ (λ (k : ℕ) (l : List Entry). (0, k, l)) d.count (ap (λ (l : List Entry). l ++ drop r ws) d.words ∙ overwrite-front stay ws r w)
      ∙ ap (λ (l : List Entry). (0, length (without ids l), overwrite (without ids l) ws)) (held-take count ws r q)
