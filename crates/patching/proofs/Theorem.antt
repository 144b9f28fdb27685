-- The patch book over every list of messages, from an empty one. Assumes nothing.
use Prim.Native.Nat.{ℕ, zero, suc, ◌+◌, ◌<◌, ◌≤◌, min}
use mathlib.Core.Path.{◌≡◌, refl, sym, ap, ap₂, ◌∙◌, subst}
use mathlib.Core.Bool.{Bool, true, false, not, ◌&&◌, ◌||◌}
use mathlib.Core.Logic.{◌⊎◌, inl, inr}
use mathlib.Core.List.{List, [], ◌∷◌, map}
use mathlib.Core.Option.{Option, none, some}
use native.Mathlib.Omega.{arith}
use lib.ListN.{length, take, drop, length-append, length-take, length-drop}
use lib.Seq.{take-append_seam}
use lib.Dec.{ltb, leb, eqb}
use borrow.Author.Tests.{leb-false, ltb-true, ltb-false, eqb-true, eq-eqb, le-ltb, not-true, not-false}
use Rattle.format.specs.Format.{Value, Read, got, refused, pick, decode, All, In, here, there}
use Rattle.format.specs.Fault.{any}
use Rattle.format.proofs.Lists.{all_in}
use Rattle.format.proofs.Faults.{all_both}
use Rattle.format.proofs.Codec.{read_back}
use Rattle.protocol.specs.Kind.{body_of, Ptch, UPtc}
use Rattle.format.proofs.Bools.{neither}
use Rattle.patching.specs.Bits.{many, first}
use Rattle.patching.specs.Entry.{Entry, universe, channel, channel_count, Fields, fields, entry_of, Key, key}
use Rattle.patching.specs.Entry.{same_key, same, end, spans, holds, shares, insert}
use Rattle.patching.specs.Book.{filter, Message, ptch, uptc, Change, patch, unpatch, unread, as_patch, as_unpatch, change, drops, without, others, changed}
use Rattle.patching.specs.Book.{misfits, clashes, is_full, number, settled, room_in, held, overwrite, answer, taken_at, taken_in, free_in}
use Rattle.patching.specs.Claims as claims
use Rattle.patching.specs.Claims.{Pairs, OfBytes, after, standing, Apart, total, Lower, feed, held_after}
use Rattle.patching.proofs.Digits.{first_holds, first-none, many-or}
use Rattle.patching.proofs.Cases.{and-rest, not-both, span-many}
use Rattle.patching.proofs.Fields.{Narrow, entry_whole, fields-of}
use Rattle.patching.proofs.Lists.{in-length, in_map, of_map, pairs-mapped, all_map, all_known, all_filter, all-passed, pairs-filter}
use Rattle.patching.proofs.Lists.{in-filter, filter-in, filter-length, filter-less, none_of}
use Rattle.patching.proofs.Entries.{all_insert, inserted, in_insert, insert-in, insert-length, pairs-insert}
use Rattle.patching.proofs.Entries.{Fits, first-held, shares-apart, apart-turned}
use Rattle.patching.proofs.Order.{Rises, rising-insert}

-- ---- one change

-- the entries after a change on a book with room for so many
abbrev apply : ℕ → Change → List Entry → List Entry
apply room c l = settled (number room c l) (changed c l) l

-- a patch is refused and changes nothing, or it passed the three tests
patch-case : (P : ℕ → List Entry → Type 0) (size : ℕ) (f : Fields) (l : List Entry) → ((n : ℕ) → P (suc n) l)
    → (misfits (entry_of f) ≡ false → any (clashes (entry_of f)) l ≡ false → is_full size (entry_of f) l ≡ false → P 0 (changed (patch f) l))
    → P (number size (patch f) l) (apply size (patch f) l)
patch-case P size f l kept g = go (misfits (entry_of f)) (any (clashes (entry_of f)) l) (is_full size (entry_of f) l) g
  where
    go : (a b c : Bool) → (a ≡ false → b ≡ false → c ≡ false → P 0 (changed (patch f) l))
        → P (pick a 16 (pick b 17 (pick c 18 0))) (settled (pick a 16 (pick b 17 (pick c 18 0))) (changed (patch f) l) l)
    go true b c g = kept 15
    go false true c g = kept 16
    go false false true g = kept 17
    go false false false g = g refl refl refl

settled_same : {A : Type 0} (n : ℕ) (x : A) → settled n x x ≡ x
settled_same zero x = refl
settled_same (suc n) x = refl

-- keys are told apart by the test
same_key_lem : {k j : Key} → k ≡ j → same_key k j ≡ true
same_key_lem {k = k} {j = j} e = eq-eqb k j e

-- the fixtures that stay are others
others-differ : (e : Entry) (l : List Entry) → All (λ x. same e x ≡ false) (others e l)
others-differ e l = all_map (λ x t. not-true (same e x) t) (others e l) (all-passed (λ x. not (same e x)) l)

fits : (e : Entry) → misfits e ≡ false → Fits e
fits e m =
    let t = neither (ltb (channel_count e) 1) (ltb 512 (end e)) m in
    record { some-channel = ltb-false (channel_count e) 1 t.0; inside = ltb-false 512 (end e) t.1 }

-- every entry lies in its universe, no two hold one channel, and they stand in their order
record Good (l : List Entry) : Type 0 where
  pub fit : All Fits l
  pub apart : Pairs Apart l
  pub rising : Pairs Rises l

good-filter : (p : Entry → Bool) (l : List Entry) → Good l → Good (filter p l)
good-filter p l g =
    record { fit = all_filter p Fits l g.fit; apart = pairs-filter p Apart l g.apart; rising = pairs-filter p Rises l g.rising }

-- an entry that does not clash holds no channel of another fixture
others_apart : (e : Entry) (l : List Entry) → any (clashes e) l ≡ false → All (Apart e) (others e l)
others_apart e l s =
    let p : Entry → Bool = λ x. not (same e x) in
    all_both (λ x t c. shares-apart e x (and-rest (not (same e x)) (shares e x) t c)) (others e l) (all-passed p l)
    (all_filter p (λ x. clashes e x ≡ false) l (none_of (clashes e) l s))

good_apply : (size : ℕ) (c : Change) (l : List Entry) → Good l → Good (apply size c l)
good_apply size (unpatch ids) l g = good-filter (λ x. not (drops ids (key (fields x)))) l g
good_apply size (unread n) l g = subst Good (sym (settled_same n l)) g
good_apply size (patch f) l g =
    let e : Entry = entry_of f in
    patch-case (λ n. Good) size f l (λ n. g)
    (λ m s h. let o : Good (others e l) = good-filter (λ x. not (same e x)) l g in record {
      fit = all_insert Fits e (others e l) (fits e m) o.fit;
      apart = pairs-insert Apart apart-turned e (others e l) (others_apart e l s) o.apart;
      rising = rising-insert e (others e l) (fits e m) o.fit (others_apart e l s) o.rising;
    })

-- there is room for a patch that passed
room : (size : ℕ) (e : Entry) (l : List Entry) → length l ≤ size → is_full size e l ≡ false → length (others e l) < size
room size e l h f = go (not-both (leb size (length l)) (not (any (same e) l)) f)
  where
    go : (leb size (length l) ≡ false) ⊎ (not (any (same e) l) ≡ false) → length (others e l) < size
    go (inl p) = let k : length l < size = leb-false size (length l) p in omega (arith, filter-length (λ x. not (same e x)) l)
    go (inr q) = omega (arith, filter-less (same e) l (not-false (any (same e) l) q))

pub changed-fits : (size : ℕ) (c : Change) (l : List Entry) → length l ≤ size → number size c l ≡ 0 → length (changed c l) ≤ size
changed-fits size (unpatch ids) l h z = omega (arith, filter-length (λ x. not (drops ids (key (fields x)))) l)
changed-fits size (unread n) l h z = h
changed-fits size (patch f) l h z =
    let e : Entry = entry_of f in
    patch-case (λ n k. n ≡ 0 → length (changed (patch f) l) ≤ size) size f l (λ n q. absurd (omega arith))
    (λ m s g q. omega (arith, room size e l h g, insert-length e (others e l))) z

-- ---- it holds exactly the fields of each fixture's last accepted patch that no later unpatch dropped

-- the entries and what the fixtures are left with say the same
pub record Tells (l : List Entry) (o : Key → Option Fields) : Type 0 where
  pub held-stands : (e : Entry) → In e l → o (key (fields e)) ≡ some (fields e)
  pub stands-held : (f : Fields) → o (key f) ≡ some f → In f (map fields l)

module _ (ids : List ℕ) (l : List Entry) (o : Key → Option Fields) (t : Tells l o) where
  abbrev stays : Entry → Bool
  stays x = not (drops ids (key (fields x)))

  still : (f : Fields) → drops ids (key f) ≡ false → In f (map fields l) → In f (map fields (without ids l))
  still f q i =
      of_map fields (λ g. drops ids (key g) ≡ false → In g (map fields (without ids l))) l
      (λ x j p. in_map fields (in-filter stays l j (ap not p))) i q

  tells-without : Tells (without ids l) (λ k. pick (drops ids k) none (o k))
  tells-without = record {
    held-stands = λ e i. ap (λ (b : Bool). pick b none (o (key (fields e))))
        (not-true (drops ids (key (fields e))) (all_in (λ x. stays x ≡ true) (without ids l) i (all-passed stays l)))
        ∙ t.held-stands e (filter-in stays l i);
    stands-held = λ f. go f (drops ids (key f)) refl;
  }
    where
      go : (f : Fields) (b : Bool) → drops ids (key f) ≡ b → pick b none (o (key f)) ≡ some f → In f (map fields (without ids l))
      go f true q s = let w : ◌≡◌ {A = ℕ} 0 1 = cc in absurd (omega arith)
      go f false q s = still f q (t.stands-held f s)

module _ (f : Fields) (narrow : Narrow f) (l : List Entry) (o : Key → Option Fields) (t : Tells l o) where
  abbrev e : Entry
  e = entry_of f

  abbrev other : Entry → Bool
  other x = not (same e x)

  mine : fields e ≡ f
  mine = fields-of f narrow

  tells-insert : Tells (insert e (others e l)) (λ k. pick (same_key (key f) k) (some f) (o k))
  tells-insert = record { held-stands = λ x i. from x (insert-in e (others e l) i); stands-held = λ g. to g (same_key (key f) (key g)) refl }
    where
      from : (x : Entry) → (x ≡ e) ⊎ In x (others e l) → pick (same_key (key f) (key (fields x))) (some f) (o (key (fields x))) ≡ some (fields x)
      from x (inl q) =
          let w : f ≡ fields x = sym mine ∙ ap fields (sym q) in
          ap (λ (b : Bool). pick b (some f) (o (key (fields x)))) (same_key_lem (ap key w)) ∙ ap some w
      from x (inr i) =
          let d : same e x ≡ false = all_in (λ y. same e y ≡ false) (others e l) i (others-differ e l) in
          ap (λ (b : Bool). pick b (some f) (o (key (fields x)))) (ap (λ (g : Fields). same_key (key g) (key (fields x))) (sym mine) ∙ d)
          ∙ t.held-stands x (filter-in other l i)

      stay : (g : Fields) → In g (map fields l) → same_key (key f) (key g) ≡ false → In g (map fields (insert e (others e l)))
      stay g = of_map fields (λ h. same_key (key f) (key h) ≡ false → In h (map fields (insert e (others e l)))) l
          (λ x j p. in_map fields (in_insert e (in-filter other l j (ap not (ap (λ (h : Fields). same_key (key h) (key (fields x))) mine ∙ p)))))

      to : (g : Fields) (b : Bool) → same_key (key f) (key g) ≡ b → pick b (some f) (o (key g)) ≡ some g → In g (map fields (insert e (others e l)))
      to g true q s =
          let w : f ≡ g = cc in
          subst (λ (h : Fields). In h (map fields (insert e (others e l)))) (mine ∙ w) (in_map fields (inserted e (others e l)))
      to g false q s = stay g (t.stands-held g s) q

-- what a body of bytes asks for has numbers of two bytes
abbrev Asks : Change → Type 0
Asks (patch f) = Narrow f
Asks (unpatch ids) = Unit {0}
Asks (unread n) = Unit {0}

tells-apply : (size : ℕ) (c : Change) → Asks c → (l : List Entry) (o : Key → Option Fields) → Tells l o
    → Tells (apply size c l) (λ k. after k c (number size c l) (o k))
tells-apply size (unpatch ids) a l o t = tells-without ids l o t
tells-apply size (unread n) a l o t = subst (λ (k : List Entry). Tells k o) (sym (settled_same n l)) t
tells-apply size (patch f) a l o t = patch-case (λ n k. Tells k (λ i. after i (patch f) n (o i))) size f l (λ n. t) (λ m s h. tells-insert f a l o t)

nothing : Tells [] (λ k. none)
nothing = record {
  held-stands = λ e i. absurd (omega (arith, in-length [] i));
  stands-held = λ f q. let w : ◌≡◌ {A = ℕ} 0 1 = cc in absurd (omega arith);
}

asks : (m : Message) → OfBytes m → Asks (change m)
asks (ptch s) h = go (decode (body_of Ptch) s) refl
  where
    go : (r : Read (Value (body_of Ptch))) → decode (body_of Ptch) s ≡ r → Asks (as_patch r)
    go (got v rest) e = let w = (read_back (body_of Ptch) s h e).0 in (w.0, w.1.1.1.0, w.1.1.1.1.0)
    go (refused n) e = tt
asks (uptc s) h = go (decode (body_of UPtc) s)
  where
    go : (r : Read (Value (body_of UPtc))) → Asks (as_unpatch r)
    go (got v rest) = tt
    go (refused n) = tt

-- ---- the taken count is the sum of the channel counts

no-channel : (d : ℕ) → many (λ c. false) d ≡ 0
unfolding many
no-channel zero = refl
no-channel (suc d) = ap (λ (n : ℕ). 0 + n) (no-channel d)

one_span : (u : ℕ) (e : Entry) → Fits e → many (λ c. holds u c e) 512 ≡ pick (eqb (universe e) u) (channel_count e) 0
one_span u e f = go (eqb (universe e) u)
  where
    go : (b : Bool) → many (λ c. b && spans e c) 512 ≡ pick b (channel_count e) 0
    go true =
        let h : many (λ c. spans e c) 512 + min (channel e) 512 ≡ min (end e) 512 = span-many (channel e) (end e) 512 (omega arith) in
        let i : end e ≤ 512 = f.inside in
        omega arith
    go false = no-channel 512

none-holds : (u c : ℕ) (e : Entry) (l : List Entry) → holds u c e ≡ true → All (Apart e) l → taken_at l u c ≡ false
unfolding any
none-holds u c e [] t d = refl
none-holds u c e (x ∷ l) t (d, more) = go (none-holds u c e l t more) (holds u c x) refl
  where
    go : taken_at l u c ≡ false → (b : Bool) → holds u c x ≡ b → (b || taken_at l u c) ≡ false
    go more true q = absurd (d u c t q)
    go more false q = more

total-taken : (u : ℕ) (l : List Entry) → All Fits l → Pairs Apart l → taken_in u l ≡ total u l
unfolding any total
total-taken u [] f a = no-channel 512
total-taken u (e ∷ l) (f, fs) (a, more) =
    many-or (λ c. holds u c e) (λ c. taken_at l u c) 512 (λ c t. none-holds u c e l t a)
    ∙ ap₂ (λ (m n : ℕ). m + n) (one_span u e f) (total-taken u l fs more)

-- ---- the first free channel, of any entries

module _ (l : List Entry) (u : ℕ) where
  abbrev least : ℕ
  least = first (λ c. not (taken_at l u c)) 512

  case : (b : Bool) → ltb least 512 ≡ b → (c : ℕ) → pick b (some least) none ≡ some c → (least ≡ c) × (c < 512)
  case true q c e = let w : least ≡ c = cc in let h : least < 512 = ltb-true least 512 q in (w, omega arith)
  case false q c e = let w : ◌≡◌ {A = ℕ} 0 1 = cc in absurd (omega arith)

  taken-below : (d : ℕ) → d < least → taken_at l u d ≡ true
  taken-below d h = not-false (taken_at l u d) (first-none (λ c. not (taken_at l u c)) 512 d h)

  free-means : (c : ℕ) → free_in u l ≡ some c → (c < 512) × (taken_at l u c ≡ false) × ((d : ℕ) → d < c → taken_at l u d ≡ true)
  free-means c e =
      let r = case (ltb least 512) refl c e in
      let h : least < 512 = omega arith in (
        r.1,
        not-true (taken_at l u c) (subst (λ (n : ℕ). not (taken_at l u n) ≡ true) r.0 (first_holds (λ c. not (taken_at l u c)) 512 h)),
        λ d k. taken-below d (omega arith),
      )

  none-case : (b : Bool) → ltb least 512 ≡ b → pick b (some least) none ≡ none → 512 ≤ least
  none-case true q e = let w : ◌≡◌ {A = ℕ} 0 1 = cc in absurd (omega arith)
  none-case false q e = ltb-false least 512 q

  none-means : free_in u l ≡ none → (d : ℕ) → d < 512 → taken_at l u d ≡ true
  none-means e d h = let k : 512 ≤ least = none-case (ltb least 512) refl e in taken-below d (omega arith)

-- ---- calls

-- entries that fit are found again where they were laid, and the words lent stay as many
overwrite-held : (l ws : List Entry) → length l ≤ room_in ws → held (length l) (overwrite l ws) ≡ l
overwrite-held l ws h =
    let e : min (length l) 256 ≡ length l = omega arith in
    ap (λ (n : ℕ). take n (overwrite l ws)) e ∙ take-append_seam l (drop (length l) ws)

overwrite-length : (l ws : List Entry) → length l ≤ room_in ws → length (overwrite l ws) ≡ length ws
overwrite-length l ws h = omega (arith, length-append l (drop (length l) ws), length-drop (length l) ws)

held_fits : (count : ℕ) (ws : List Entry) → length (held count ws) ≤ room_in ws
held_fits count ws = omega (arith, length-take (min count 256) ws)

-- a call: the entries after it are those of its change, and the words lent are as many
record Answered (c : Change) (count : ℕ) (ws : List Entry) : Type 0 where
  pub entries : held (answer c count ws).1 (answer c count ws).2 ≡ apply (room_in ws) c (held count ws)
  pub as_many : length (answer c count ws).2 ≡ length ws

answered : (c : Change) (count : ℕ) (ws : List Entry) → Answered c count ws
answered c count ws = record { entries = r.0; as_many = r.1 }
  where
    by : (n : ℕ) (new : List Entry) → (n ≡ 0 → length new ≤ room_in ws)
        → (held (settled n (length new) count) (settled n (overwrite new ws) ws) ≡ settled n new (held count ws))
        × (length (settled n (overwrite new ws) ws) ≡ length ws)
    by zero new h = (overwrite-held new ws (h refl), overwrite-length new ws (h refl))
    by (suc n) new h = (refl, refl)

    r : (held (answer c count ws).1 (answer c count ws).2 ≡ apply (room_in ws) c (held count ws)) × (length (answer c count ws).2 ≡ length ws)
    r = by (number (room_in ws) c (held count ws)) (changed c (held count ws)) (changed-fits (room_in ws) c (held count ws) (held_fits count ws))

-- what every change keeps, every list of calls keeps
over : (P : List Entry → Type 0) → ((size : ℕ) (c : Change) (l : List Entry) → P l → P (apply size c l))
    → (ms : List Message) (count : ℕ) (ws : List Entry) → P (held count ws) → P (held_after ms count ws)
unfolding feed
over P f [] count ws p = p
over P f (m ∷ ms) count ws p =
    over P f ms (answer (change m) count ws).1 (answer (change m) count ws).2
    (subst P (sym (answered (change m) count ws).entries) (f (room_in ws) (change m) (held count ws) p))

tells-feed : (ms : List Message) → All OfBytes ms → (count : ℕ) (ws : List Entry) (o : Key → Option Fields) → Tells (held count ws) o
    → Tells (held_after ms count ws) (λ k. standing k ms count ws (o k))
unfolding feed standing
tells-feed [] a count ws o t = t
tells-feed (m ∷ ms) (a, more) count ws o t =
    let n : Key → Option Fields = λ k. after k (change m) (answer (change m) count ws).0 (o k) in
    tells-feed ms more (answer (change m) count ws).1 (answer (change m) count ws).2 n
    (subst (λ (l : List Entry). Tells l n) (sym (answered (change m) count ws).entries) (tells-apply (room_in ws) (change m) (asks m a) (held count ws) o t))

-- ---- each fixture once

fits-span : (e : Entry) → Fits e → misfits e ≡ false
fits-span e f = ap₂ (λ (a b : Bool). a || b) (le-ltb (channel_count e) 1 f.some-channel) (le-ltb 512 (end e) f.inside)

module _ (o : Key → Option Fields) where
  differs : (x y : Entry) → o (key (fields x)) ≡ some (fields x) → o (key (fields y)) ≡ some (fields y) → Fits x → Apart x y → same x y ≡ false
  differs x y p q f a = go (same x y) refl
    where
      go : (b : Bool) → same x y ≡ b → b ≡ false
      go false e = refl
      go true e =
          let k : key (fields x) ≡ key (fields y) = eqb-true (key (fields x)) (key (fields y)) e in
          let s : some (fields x) ≡ some (fields y) = sym p ∙ ap o k ∙ q in
          let w : fields x ≡ fields y = cc in
          let z : x ≡ y = sym (entry_whole x) ∙ ap entry_of w ∙ entry_whole y in
          absurd (a (universe x) (channel x) (first-held x f) (subst (λ (e : Entry). holds (universe x) (channel x) e ≡ true) z (first-held x f)))

  once : (l : List Entry) → ((e : Entry) → In e l → o (key (fields e)) ≡ some (fields e)) → All Fits l → Pairs Apart l → Pairs (λ x y. same x y ≡ false) l
  once [] h f a = tt
  once (x ∷ l) h (f, fs) (a, more) =
      (all_known (λ y i p. differs x y (h x here) (h y (there i)) f p) l (λ y i. i) a, once l (λ e i. h e (there i)) fs more)

-- ---- the promises

good-feed : (count : ℕ) (ws : List Entry) → held count ws ≡ [] → (ms : List Message) → Good (held_after ms count ws)
good-feed count ws e ms = over Good good_apply ms count ws (subst Good (sym e) (record { fit = tt; apart = tt; rising = tt }))

pub patch-book : claims.PatchBook
patch-book count ws e ms a =
    let l : List Entry = held_after ms count ws in
    let g : Good l = good-feed count ws e ms in
    let t : Tells l (λ k. standing k ms count ws none) =
    tells-feed ms a count ws (λ k. none) (subst (λ (k : List Entry). Tells k (λ k. none)) (sym e) nothing) in record {
      exactly = λ f. (of_map fields (λ h. standing (key h) ms count ws none ≡ some h) l t.held-stands, t.stands-held f);
      once = once (λ k. standing k ms count ws none) l t.held-stands g.fit g.apart;
      fit = all_map fits-span l g.fit;
      at_most = omega (arith, held_fits (feed ms count ws).0 (feed ms count ws).1);
      apart = g.apart;
      taken = λ u. total-taken u l g.fit g.apart;
      free = free-means l;
      none_free = none-means l;
    }

pub book-rises : claims.BookRises
book-rises count ws e ms = pairs-mapped fields Lower (held_after ms count ws) (good-feed count ws e ms).rising
