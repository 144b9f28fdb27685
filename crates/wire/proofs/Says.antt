-- What an answer says determines it: each map has an inverse where the view that it is given has one, so nothing is lost.
use Rattle.std.proofs.Common.{ℕ, zero, suc, ◌+◌, ◌≡◌, refl, ap}
use Rattle.std.specs.Prelude.{Result, Ok, Err, Option, Some, None, IfOk, IfSome, MatchOption}
use native.Mathlib.Numerals.{add-one}
use Rattle.format.specs.View.{View, Seen, seen, missed, Next, item, done, broken}
use Rattle.protocol.specs.Kind.{Kind, body_of}
use Rattle.protocol.specs.Step.{Body, known, unread, refused_with}
use Rattle.refusal.specs.declared.Refusal.{Refusal}
use Rattle.refusal.proofs.Exact.{refusal_of, refusal-exact}
use Rattle.wire.specs.Says.{says, passed_says, next_says, message_says, number_view, cstring_range, ucs2_range, block_range, list_range}
use Rattle.wire.specs.declared.Cursor.{Cursor}
use Rattle.wire.specs.declared.CString.{CString}
use Rattle.wire.specs.declared.Ucs2.{Ucs2}
use Rattle.wire.specs.declared.Block.{Block}
use Rattle.wire.specs.declared.List.{List}

-- ---- answers

-- the answer about what was read: what is seen with the cursor behind it, or the refusal
abbrev pub read_by : {A V : Type 0} → (V → A) → Seen V → Result (A × Cursor) Refusal
read_by of (seen v e) = Ok (of v, record { at = e })
read_by of (missed n) = Err (refusal_of n)

pub says-exact : {A V : Type 0} (view : A → V) (of : V → A) → ((x : A) → x ≡ of (view x)) → (r : Result (A × Cursor) Refusal) → r ≡ read_by of (says view r)
says-exact view of exact (Ok x) = ap (λ a. Ok (a, x.1)) (exact x.0)
says-exact view of exact (Err e) = ap (λ (y : Refusal). Err y) (refusal-exact e)

-- the same where a view has its inverse on values of which so much is known
pub says_known-exact : {A V : Type 0} (view : A → V) (of : V → A) (Known : A → Type 0) → ((x : A) → Known x → x ≡ of (view x))
    → (r : Result (A × Cursor) Refusal) → IfOk r (λ x. Known x.0) → r ≡ read_by of (says view r)
says_known-exact view of Known exact (Ok x) h = ap (λ a. Ok (a, x.1)) (exact x.0 h)
says_known-exact view of Known exact (Err e) h = ap (λ (y : Refusal). Err y) (refusal-exact e)

abbrev pub passed_by : Seen (Unit {0}) → Result Cursor Refusal
passed_by (seen v e) = Ok (record { at = e })
passed_by (missed n) = Err (refusal_of n)

pub passed-exact : (r : Result Cursor Refusal) → r ≡ passed_by (passed_says r)
passed-exact (Ok c) = refl
passed-exact (Err e) = ap (λ (y : Refusal). Err y) (refusal-exact e)

abbrev pub next_by : {A N V : Type 0} → (V → A) → (ℕ → N) → Next V → Result (Option (A × List A N)) Refusal
next_by of left (item v e n) = Ok (Some (of v, record { at = e; left = left n; of = record {} }))
next_by of left done = Ok None
next_by of left (broken n) = Err (refusal_of n)

pub next-exact : {A N V : Type 0} (view : A → V) (count : N → ℕ) (of : V → A) (left : ℕ → N) (Known : A → Type 0)
    → ((x : A) → Known x → x ≡ of (view x)) → ((n : N) → n ≡ left (count n))
    → (r : Result (Option (A × List A N)) Refusal) → IfOk r (λ o. IfSome o (λ x. Known x.0)) → r ≡ next_by of left (next_says view count r)
next-exact view count of left Known exact counts (Ok (Some x)) h = rw (← exact x.0 h, ← counts x.1.left) refl
next-exact view count of left Known exact counts (Ok None) h = refl
next-exact view count of left Known exact counts (Err e) h = ap (λ (y : Refusal). Err y) (refusal-exact e)

abbrev pub message_by : {M : Type 0} → ((k : Kind) → View (body_of k) → M) → Body View → Result (Option (M × Cursor)) Refusal
message_by of (known k v e) = Ok (Some (of k v, record { at = e }))
message_by of unread = Ok None
message_by of (refused_with n) = Err (refusal_of n)

pub message-exact : {M : Type 0} (kind : M → Kind) (view : (m : M) → View (body_of (kind m))) (of : (k : Kind) → View (body_of k) → M)
    → ((m : M) → m ≡ of (kind m) (view m)) → (r : Result (Option (M × Cursor)) Refusal) → r ≡ message_by of (message_says kind view r)
message-exact kind view of exact (Ok (Some x)) = ap (λ m. Ok (Some (m, x.1))) (exact x.0)
message-exact kind view of exact (Ok None) = refl
message-exact kind view of exact (Err e) = ap (λ (y : Refusal). Err y) (refusal-exact e)

-- a count that is one less than n, or none where n is 0
abbrev pub less_by : {N : Type 0} → (ℕ → N) → ℕ → Option N
less_by left zero = None
less_by left (suc n) = Some (left n)

pub less-exact : {N : Type 0} (count : N → ℕ) (left : ℕ → N) → ((n : N) → n ≡ left (count n))
    → (n : ℕ) (r : Option N) → MatchOption r (n ≡ 0) (λ k. n ≡ count k + 1) → r ≡ less_by left n
less-exact count left exact n (Some k) h = rw (h, add-one) (ap Some (exact k))
less-exact count left exact n None h = rw h refl

-- ---- views

pub number_view-exact : (n : ℕ) → n ≡ number_view n
number_view-exact n = refl

abbrev cstring_of : ℕ × ℕ → CString
cstring_of x = record { start = x.0; len = x.1 }

pub cstring_range-exact : (x : CString) → x ≡ cstring_of (cstring_range x)
cstring_range-exact x = refl

abbrev ucs2_of : ℕ × ℕ → Ucs2
ucs2_of x = record { start = x.0; len = x.1 }

pub ucs2_range-exact : (x : Ucs2) → x ≡ ucs2_of (ucs2_range x)
ucs2_range-exact x = refl

abbrev block_of : ℕ × ℕ → Block
block_of x = record { start = x.0; len = x.1 }

pub block_range-exact : (x : Block) → x ≡ block_of (block_range x)
block_range-exact x = refl

abbrev pub list_by : {A N : Type 0} → (ℕ → N) → ℕ × ℕ → List A N
list_by left x = record { at = x.0; left = left x.1; of = record {} }

pub list_range-exact : {A N : Type 0} (count : N → ℕ) (left : ℕ → N) → ((n : N) → n ≡ left (count n))
    → (x : List A N) → x ≡ list_by left (list_range count x)
list_range-exact count left exact x = rw (← exact x.left) refl
