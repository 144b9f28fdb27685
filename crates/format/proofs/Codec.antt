-- Writing then reading gives the value back, and reading then writing the bytes: one law, by induction over the formats.
use Prim.Native.Nat.{ℕ, zero, suc, ◌+◌, ◌*◌, ◌/◌, ◌%◌, ◌^◌, ◌<◌, ◌≤◌}
use mathlib.Core.Path.{◌≡◌, refl, ap}
use mathlib.Core.List.{List, [], ◌∷◌, ◌++◌, append_assoc, append-nil}
use native.Mathlib.Nat.{mod-eq_of_lt}
use native.Mathlib.Omega.{arith}
use lib.ListN.{length}
use lib.Dec.{ltb, eqb}
use borrow.Author.Tests.{ltb-true, ltb-false, lt-ltb, le-ltb, eqb-true, eqb-false, ne_eqb}
use Rattle.format.specs.Format.{Format, number, code, cstring, ucs2, list, ◌&◌, Value, Read, got, refused, bind, pick, at_most, All, Bytes, Letter, Valid}
use Rattle.format.specs.Format.{decode_number, decode_items, decode_cstring, decode_ucs2, decode, encode_number, concat_map, encode}
use Rattle.format.proofs.Reading.{Gives, gives, fails, given, gives-map, gives-bind, gives-pick}

pub bytes-append : (s t : List ℕ) → Bytes s → Bytes t → Bytes (s ++ t)
bytes-append [] t hs ht = ht
bytes-append (b ∷ s) t hs ht = (hs.0, bytes-append s t hs.1 ht)

pub bytes-behind : (s t : List ℕ) → Bytes (s ++ t) → Bytes t
bytes-behind [] t h = h
bytes-behind (b ∷ s) t h = bytes-behind s t h.1

-- ---- the law

-- a reader and a writer that undo each other: the writer on the values that fit, the reader on bytes
pub record Codec {A : Type 0} (read : List ℕ → Read A) (write : A → List ℕ) (Fits : A → Type 0) : Type 0 where
  pub there : (a : A) (t : List ℕ) → Fits a → read (write a ++ t) ≡ got a t
  pub back : (s : List ℕ) → Bytes s → Gives (λ a t. Fits a × (s ≡ write a ++ t)) (read s)
  pub clean : (a : A) → Fits a → Bytes (write a)

-- one part after another: the first says how the second is read, and `key` finds it again in what the second gives
pub sequel : {A B : Type 0} {read : List ℕ → Read A} {write : A → List ℕ} {Fits : A → Type 0}
    {then : A → List ℕ → Read B} {more : B → List ℕ} {Rest : B → Type 0} (key : B → A)
    → Codec read write Fits → ((a : A) → Codec (then a) more (λ b. (key b ≡ a) × Rest b))
    → Codec (λ s. bind (read s) then) (λ b. write (key b) ++ more b) (λ b. Fits (key b) × Rest b)
sequel {read} {write} {then} {more} key c k = record {
  there = λ b t h. rw (append_assoc, c.there (key b) (more b ++ t) h.0) ((k (key b)).there b t (refl, h.1));
  back = λ s hs. gives-bind (c.back s hs) λ a t h.
      gives-map ((k a).back t (bytes-behind (write a) t (rw h.1 at hs))) λ b u h'.
      ((rw h'.0.0 h.0, h'.0.1), rw (h'.0.0, append_assoc, ← h'.1) h.1);
  clean = λ b h. bytes-append (write (key b)) (more b) (c.clean (key b) h.0) ((k (key b)).clean b (refl, h.1));
}

-- a second part, with the first beside it
beside : {A B : Type 0} {read : List ℕ → Read B} {write : B → List ℕ} {Fits : B → Type 0} → Codec read write Fits
    → (a : A) → Codec {A = A × B} (λ s. bind (read s) (λ b t. got (a, b) t)) (λ x. write x.1) (λ x. (x.0 ≡ a) × Fits x.1)
beside c a = record {
  there = λ x t h. rw (c.there x.1 t h.1, ← h.0);
  back = λ s hs. gives-bind (c.back s hs) λ b t h. gives ((refl, h.0), h.1);
  clean = λ x h. c.clean x.1 h.1;
}

-- a test of what was read already, which takes no bytes
below : (n r c : ℕ) → Codec (λ s. pick (ltb c n) (got c s) (refused r)) (λ b. []) (λ b. (b ≡ c) × (b < n))
below n r c = record {
  there = λ b t h. rw (← h.0, lt-ltb b n h.1);
  back = λ s hs. gives-pick (ltb c n) (λ e. gives ((refl, ltb-true c n e), refl)) (λ e. fails);
  clean = λ b h. tt;
}

-- a string within a limit: tested once it is read, and written as any other
limited : {read : List ℕ → Read (List ℕ)} {write : List ℕ → List ℕ} {Fits : List ℕ → Type 0} → Codec read write Fits
    → (m : ℕ) → Codec (λ s. bind (read s) (at_most m)) write (λ xs. (length xs ≤ m) × Fits xs)
limited c m = record {
  there = λ xs t h. rw (c.there xs t h.1, le-ltb m (length xs) h.0);
  back = λ s hs. gives-bind (c.back s hs) λ xs t h. gives-pick (ltb m (length xs)) (λ e. fails) (λ e. gives ((ltb-false m (length xs) e, h.0), h.1));
  clean = λ xs h. c.clean xs h.1;
}

-- n items, each by the one codec
items-codec : {A : Type 0} {read : List ℕ → Read A} {write : A → List ℕ} {Fits : A → Type 0} → Codec read write Fits
    → (n : ℕ) → Codec (decode_items read n) (concat_map write) (λ xs. (length xs ≡ n) × All Fits xs)
unfolding decode_items concat_map
items-codec {A} {read} {write} {Fits} c n = record {
  there = λ xs t h. rw (← h.0) (there xs t h.1);
  back = back n;
  clean = λ xs h. clean xs h.1;
}
  where
    there : (xs : List A) (t : List ℕ) → All Fits xs → decode_items read (length xs) (concat_map write xs ++ t) ≡ got xs t
    there [] t h = refl
    there (x ∷ xs) t h = rw (append_assoc, c.there x (concat_map write xs ++ t) h.0, there xs t h.1)

    back : (n : ℕ) (s : List ℕ) → Bytes s → Gives (λ xs t. ((length xs ≡ n) × All Fits xs) × (s ≡ concat_map write xs ++ t)) (decode_items read n s)
    back zero s hs = gives ((refl, tt), refl)
    back (suc n) s hs = gives-bind (c.back s hs) λ x t h.
        gives-bind (back n t (bytes-behind (write x) t (rw h.1 at hs))) λ xs u h'.
        gives ((ap suc h'.0.0, (h.0, h'.0.1)), rw (append_assoc, ← h'.1) h.1)

    clean : (xs : List A) → All Fits xs → Bytes (concat_map write xs)
    clean [] h = tt
    clean (x ∷ xs) h = bytes-append (write x) (concat_map write xs) (c.clean x h.0) (clean xs h.1)

-- ---- numbers and strings

-- the lowest byte of a number, and the others
low_byte : (b n : ℕ) → b < 256 → (b + 256 * n) % 256 ≡ b
low_byte b n h = omega arith

high-bytes : (b n : ℕ) → b < 256 → (b + 256 * n) / 256 ≡ n
high-bytes b n h = omega arith

number-codec : (w : ℕ) → Codec (decode_number w) (encode_number w) (λ n. n < 256 ^ w)
unfolding decode_number encode_number
number-codec w = record { there = there w; back = back w; clean = λ n h. clean w n }
  where
    there : (w n : ℕ) (t : List ℕ) → n < 256 ^ w → decode_number w (encode_number w n ++ t) ≡ got n t
    there zero n t h = ap (λ (m : ℕ). got m t) (omega arith)
    there (suc w) n t h = rw (there w (n / 256) t (omega arith)) (ap (λ (m : ℕ). got m t) (omega arith))

    back : (w : ℕ) (s : List ℕ) → Bytes s → Gives (λ n t. (n < 256 ^ w) × (s ≡ encode_number w n ++ t)) (decode_number w s)
    back zero s hs = gives {a = 0} (omega arith, refl)
    back (suc w) [] hs = fails
    back (suc w) (b ∷ s) hs = gives-bind (back w s hs.1) λ n t h.
        gives {a = b + 256 * n} (omega arith, rw (low_byte b n hs.0, high-bytes b n hs.0, ← h.1))

    clean : (w n : ℕ) → Bytes (encode_number w n)
    clean zero n = tt
    clean (suc w) n = (omega arith, clean w (n / 256))

cstring-codec : Codec decode_cstring (λ xs. xs ++ (0 ∷ [])) (All (Letter 256))
unfolding decode_cstring
cstring-codec = record { there = there; back = back; clean = clean }
  where
    there : (xs t : List ℕ) → All (Letter 256) xs → decode_cstring (xs ++ (0 ∷ []) ++ t) ≡ got xs t
    there [] t h = refl
    there (x ∷ xs) t h = rw (ne_eqb x 0 (omega arith), there xs t h.1)

    back : (s : List ℕ) → Bytes s → Gives (λ xs t. All (Letter 256) xs × (s ≡ xs ++ (0 ∷ []) ++ t)) (decode_cstring s)
    back [] hs = fails
    back (b ∷ s) hs = gives-pick (eqb b 0)
        (λ e. gives (tt, rw (eqb-true b 0 e)))
        λ e. gives-bind (back s hs.1) λ xs t h. gives (((hs.0, omega (arith, eqb-false b 0 e)), h.0), ap (b ∷◌) h.1)

    clean : (xs : List ℕ) → All (Letter 256) xs → Bytes (xs ++ (0 ∷ []))
    clean [] h = (omega arith, tt)
    clean (x ∷ xs) h = (h.0.0, clean xs h.1)

ucs2-codec : Codec decode_ucs2 (λ xs. concat_map (encode_number 2) xs ++ (0 ∷ 0 ∷ [])) (All (Letter 65536))
unfolding decode_ucs2 concat_map encode_number
ucs2-codec = record { there = there; back = back; clean = λ xs h. clean xs }
  where
    there : (xs t : List ℕ) → All (Letter 65536) xs → decode_ucs2 (concat_map (encode_number 2) xs ++ (0 ∷ 0 ∷ []) ++ t) ≡ got xs t
    there [] t h = refl
    there (x ∷ xs) t h =
        let whole : x % 256 + 256 * (x / 256 % 256) ≡ x = omega arith in
        rw (whole, ne_eqb x 0 (omega arith), there xs t h.1)

    back : (s : List ℕ) → Bytes s → Gives (λ xs t. All (Letter 65536) xs × (s ≡ concat_map (encode_number 2) xs ++ (0 ∷ 0 ∷ []) ++ t)) (decode_ucs2 s)
    back [] hs = fails
    back (b ∷ []) hs = fails
    back (b ∷ c ∷ s) hs = gives-pick (eqb (b + 256 * c) 0)
        (λ e. let zeros : (b ≡ 0) × (c ≡ 0) = omega (arith, eqb-true (b + 256 * c) 0 e) in gives (tt, rw (zeros.0, zeros.1)))
        λ e. gives-bind (back s hs.1.1) λ xs t h.
        let letter : Letter 65536 (b + 256 * c) = omega (arith, eqb-false (b + 256 * c) 0 e) in
        gives ((letter, h.0), rw (low_byte b c hs.0, high-bytes b c hs.0, mod-eq_of_lt hs.1.0, ← h.1))

    clean : (xs : List ℕ) → Bytes (concat_map (encode_number 2) xs ++ (0 ∷ 0 ∷ []))
    clean [] = (omega arith, (omega arith, tt))
    clean (x ∷ xs) = (omega arith, (omega arith, clean xs))

-- ---- every format

pub codec : (f : Format) → Codec (decode f) (encode f) (Valid f)
unfolding decode encode encode_number
codec (number w) = number-codec w
codec (code n r) = sequel (λ c. c) (number-codec 1) (below n r)
codec (cstring m) = limited cstring-codec m
codec (ucs2 m) = limited ucs2-codec m
codec (list w f) = sequel length (number-codec w) (items-codec (codec f))
codec (f & g) = sequel (λ x. x.0) (codec f) (beside (codec g))

-- what is written is read back, with whatever stands behind it
pub round_trip : (f : Format) (v : Value f) (rest : List ℕ) → Valid f v → decode f (encode f v ++ rest) ≡ got v rest
round_trip f = (codec f).there

-- what is read can be written, and is written as the bytes that were taken
pub read_back : (f : Format) (s : List ℕ) {v : Value f} {rest : List ℕ} → Bytes s → decode f s ≡ got v rest → Valid f v × (s ≡ encode f v ++ rest)
read_back f s hs = given ((codec f).back s hs)

pub encode-bytes : (f : Format) (v : Value f) → Valid f v → Bytes (encode f v)
encode-bytes f = (codec f).clean

-- no written value begins another
pub no-prefix : (f : Format) (v w : Value f) (rest : List ℕ) → Valid f v → Valid f w → encode f v ++ rest ≡ encode f w → v ≡ w
no-prefix f v w rest hv hw e = cc (round_trip f v rest hv, round_trip f w [] hw, append-nil (encode f w))

-- bytes added behind do not change what is read
pub read-on : (f : Format) (s added : List ℕ) {v : Value f} {rest : List ℕ} → Bytes s → decode f s ≡ got v rest → decode f (s ++ added) ≡ got v (rest ++ added)
read-on f s added {v} {rest} hs e =
    let was = read_back f s hs e in
    rw (was.1, append_assoc) (round_trip f v (rest ++ added) was.0)

-- ---- encode, one format at a time

pub encode-pair : (f g : Format) (x : Value (f & g)) → encode (f & g) x ≡ encode f x.0 ++ encode g x.1
unfolding encode
encode-pair f g x = refl

pub encode-list : (w : ℕ) (f : Format) (xs : List (Value f)) → encode (list w f) xs ≡ encode (number w) (length xs) ++ concat_map (encode f) xs
unfolding encode
encode-list w f xs = refl
