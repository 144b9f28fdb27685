-- Channels marked in a universe's words. Assumes nothing.
use Rattle.std.proofs.Common.{◌≡◌, ℕ, ◌+◌, ◌-◌, ◌*◌, ◌^◌, ◌<◌, ◌≤◌, min, Bool, true, false, not, ◌&&◌, ◌||◌, eqb, ltb, leb, ◌⊎◌, List, [], ◌∷◌, length, get_or, take, set, sym, refl, ap, ◌∙◌, ap₂, inl, inr, arith, ltb-false, ltb-true, le-ltb, lt-ltb, eq-eqb, eqb-true, le-leb, leb-false, leb-true}
use mathlib.Core.Bool.{or-false, or_assoc, and-false}
use lib.Bits.{bit_or}
use Rattle.std.specs.Prelude.{Some, None}
use borrow.Author.Tests.{lt-leb}
use Rattle.format.specs.Fault.{any}
use Rattle.patching.specs.Bits.{pack, packs}
use Rattle.patching.specs.Entry.{Entry, universe, channel, channel_count, end, holds}
use Rattle.patching.specs.Book.{taken_at, universe_words}
use Rattle.patching.proofs.Digits.{pack-ext, pack-less, pack-below, or-pack, packs-at, packs-ext-in, packs-set}
use Rattle.patching.proofs.Cases.{same_test, span-tests}
use Rattle.patching.proofs.Loops.{any-passed}
use Rattle.channels.specs.Offset.{Offset}

-- a span that c is not in
no_span : (a b c : ℕ) → (c < a) ⊎ (b ≤ c) → (leb a c && ltb c b) ≡ false
no_span a b c (inl h) = ap (λ (x : Bool). x && ltb c b) (lt-leb a c h)
no_span a b c (inr h) = ap (λ (x : Bool). leb a c && x) (le-ltb c b h) ∙ and-false (leb a c)

module _ (p : ℕ → Bool) (ws : List ℕ) (e : ws ≡ universe_words p) (k : ℕ) (h : k < 8)
    (low high r : ℕ) (a : low ≤ 64) (b : high ≤ 64) (w : r ≡ pack (λ j. leb low j && ltb j high) 64) where
  abbrev q : ℕ → Bool
  q c = p c || (leb (k * 64 + low) c && ltb c (k * 64 + high))

  moved : (j : ℕ) → (leb low j && ltb j high) ≡ (leb (k * 64 + low) (0 + k * 64 + j) && ltb (0 + k * 64 + j) (k * 64 + high))
  moved j =
      ap₂ (λ (x y : Bool). x && y)
      (same-leb low j (k * 64 + low) (0 + k * 64 + j) (λ h. omega arith) (λ h. omega arith))
      (same_test j high (0 + k * 64 + j) (k * 64 + high) (λ h. omega arith) (λ h. omega arith))
    where
      same-leb : (a b c d : ℕ) → (a ≤ b → c ≤ d) → (c ≤ d → a ≤ b) → leb a b ≡ leb c d
      same-leb a b c d f g = go (leb a b) refl
        where
          go : (t : Bool) → leb a b ≡ t → leb a b ≡ leb c d
          go true e = e ∙ sym (le-leb c d (f (leb-true a b e)))
          go false e = let n : b < a = leb-false a b e in e ∙ sym (by (leb c d) refl)
            where
              by : (t : Bool) → leb c d ≡ t → leb c d ≡ false
              by false s = s
              by true s = let m : a ≤ b = g (leb-true c d s) in let n : b < a = leb-false a b e in absurd (omega arith)

  pub marked : set ws k (bit_or (get_or ws k 0) r) ≡ universe_words q
  marked =
      let at : ℕ → Bool = λ j. p (0 + k * 64 + j) in
      let span : ℕ → Bool = λ j. leb low j && ltb j high in
      ap (λ (l : List ℕ). set l k (bit_or (get_or l k 0) r)) e
      ∙ ap₂ (λ (x y : ℕ). set (packs p 0 8) k (bit_or x y)) (packs-at p 0 8 k h) w
      ∙ ap (set (packs p 0 8) k) (or-pack at span 64)
      ∙ ap (set (packs p 0 8) k) (pack-ext (λ j. at j || span j) (λ j. q (0 + k * 64 + j)) 64 (λ j l. ap (λ (x : Bool). at j || x) (moved j)))
      ∙ packs-set p q 0 8 k h
      (λ c l. sym (or-false (p c)) ∙ ap (λ (x : Bool). p c || x) (sym (no_span (k * 64 + low) (k * 64 + high) c (inl (omega arith)))))
      (λ c l. sym (or-false (p c)) ∙ ap (λ (x : Bool). p c || x) (sym (no_span (k * 64 + low) (k * 64 + high) c (inr (omega arith)))))

-- an entry's channels beside those of the entries ahead of it
module _ (xs : List Entry) (i u : ℕ) (h : i < length xs) where
  abbrev x : Entry
  x = get_or xs i 0

  abbrev p : ℕ → Bool
  p c = taken_at (take i xs) u c

  abbrev goal : ℕ → Bool
  goal c = taken_at (take (i + 1) xs) u c

  one_more : (c : ℕ) → goal c ≡ (p c || holds u c x)
  one_more c = any-passed (holds u c) xs i 0 h

  -- none of its channels is one of the 512
  pub none-marked : Offset x u None → universe_words p ≡ universe_words goal
  none-marked o =
      packs-ext-in p goal 0 8
      (λ c a b. sym (one_more c ∙ ap (λ (t : Bool). p c || t) (none c (omega arith) (eqb (universe x) u) refl) ∙ or-false (p c)))
    where
      none : (c : ℕ) → c < 512 → (t : Bool) → eqb (universe x) u ≡ t → holds u c x ≡ false
      none c b false e = ap (λ (t : Bool). t && (leb (channel x) c && ltb c (end x))) e
      none c b true e =
          let m : 512 ≤ channel x = o (eqb-true (universe x) u e) in
          ap (λ (t : Bool). t && (leb (channel x) c && ltb c (end x))) e ∙ no_span (channel x) (end x) c (inl (omega arith))

  -- its channels from r to below m are marked, as far as the 512 go
  pub all-marked : (r m : ℕ) → Offset x u (Some r) → min (r + channel_count x) 512 ≤ m → m ≤ r + channel_count x
      → universe_words (λ c. p c || (leb r c && ltb c m)) ≡ universe_words goal
  all-marked r m o a b =
      packs-ext-in (λ c. p c || (leb r c && ltb c m)) goal 0 8
      (λ c s t. ap (λ (y : Bool). p c || y) (held_by c (omega arith)) ∙ sym (one_more c))
    where
      held_by : (c : ℕ) → c < 512 → (leb r c && ltb c m) ≡ holds u c x
      held_by c d =
          let n : channel x ≡ r = o.2 in
          ap₂ (λ (s t : Bool). s && t) (ap (λ (z : ℕ). leb z c) (sym n)) (same_test c m c (end x) (λ h. omega arith) (λ h. omega arith))
          ∙ sym (ap (λ (t : Bool). t && (leb (channel x) c && ltb c (end x))) (eq-eqb (universe x) u o.1))

-- a span and the next
pub longer : (p : ℕ → Bool) (a m n : ℕ) → a ≤ m → m ≤ n
    → universe_words (λ c. (p c || (leb a c && ltb c m)) || (leb m c && ltb c n)) ≡ universe_words (λ c. p c || (leb a c && ltb c n))
longer p a m n h k =
    packs-ext-in (λ c. (p c || (leb a c && ltb c m)) || (leb m c && ltb c n)) (λ c. p c || (leb a c && ltb c n)) 0 8
    (λ c s t. or_assoc (p c) (leb a c && ltb c m) (leb m c && ltb c n) ∙ ap (λ (x : Bool). p c || x) (by c (ltb c m) refl))
  where
    by : (c : ℕ) → (t : Bool) → ltb c m ≡ t → ((leb a c && t) || (leb m c && ltb c n)) ≡ (leb a c && ltb c n)
    by c true e =
        let l : c < m = ltb-true c m e in
        ap (λ (x : Bool). (leb a c && true) || x) (no_span m n c (inl l)) ∙ go (leb a c) (ltb c n) (lt-ltb c n (omega arith))
      where
        go : (x y : Bool) → y ≡ true → ((x && true) || false) ≡ (x && y)
        go true y q = sym q
        go false y q = refl
    by c false e =
        let l : m ≤ c = ltb-false c m e in
        let u : leb a c ≡ true = le-leb a c (omega arith) in
        ap₂ (λ (x y : Bool). (x && false) || (y && ltb c n)) u (le-leb m c l) ∙ sym (ap (λ (x : Bool). x && ltb c n) u)

-- a word's run of digits
pub span-pow : (low high : ℕ) → low ≤ high → high ≤ 64 → pack (λ j. leb low j && ltb j high) 64 + (2 ^ low - 1) ≡ 2 ^ high - 1
span-pow low high h k =
    ap₂ (λ (a b : ℕ). a + b)
    (pack-ext (λ j. leb low j && ltb j high) (λ j. ltb j high && not (ltb j low)) 64 (λ j l. span-tests low high j))
    (sym (pack-below low 64 (omega arith)))
    ∙ pack-less (λ j. ltb j low) (λ j. ltb j high) 64 (λ j s. let m : j < low = ltb-true j low s in lt-ltb j high (omega arith))
    ∙ pack-below high 64 k

-- no channel is marked yet
pub empty-span : (p : ℕ → Bool) (a : ℕ) → universe_words p ≡ universe_words (λ c. p c || (leb a c && ltb c a))
empty-span p a = packs-ext-in p (λ c. p c || (leb a c && ltb c a)) 0 8 (λ c s t. sym (or-false (p c)) ∙ ap (λ (x : Bool). p c || x) (sym (by c (ltb c a) refl)))
  where
    by : (c : ℕ) → (t : Bool) → ltb c a ≡ t → (leb a c && ltb c a) ≡ false
    by c true e = no_span a a c (inl (ltb-true c a e))
    by c false e = no_span a a c (inr (ltb-false c a e))

-- a word marked, by the numbers of its channels
pub span_of : (p : ℕ → Bool) (a b c d : ℕ) → a ≡ c → b ≡ d → universe_words (λ n. p n || (leb a n && ltb n b)) ≡ universe_words (λ n. p n || (leb c n && ltb n d))
span_of p a b c d e f = ap₂ (λ (x y : ℕ). universe_words (λ n. p n || (leb x n && ltb n y))) e f

-- no entry, no channel
pub none_yet : (u : ℕ) → 0 ∷ 0 ∷ 0 ∷ 0 ∷ 0 ∷ 0 ∷ 0 ∷ 0 ∷ [] ≡ universe_words (taken_at [] u)
unfolding any packs pack
none_yet u = refl
