-- What a writer refuses: a string with a zero (11) or past its limit (19), a list too long for its count (12); then the place (15, 13).
use Rattle.std.specs.Prelude.{ℕ, ◌^◌, ◌<◌, Bool, false, ◌||◌, List, [], ◌∷◌, length, leb, ltb, eqb}
use Rattle.format.specs.Format.{Format, number, code, cstring, ucs2, list, ◌&◌, Value, pick, All}

-- some element passes the test
unfoldable pub any : {A : Type 0} → (A → Bool) → List A → Bool
any test [] = false
any test (x ∷ xs) = test x || any test xs

-- a zero among the elements
abbrev pub has_zero : List ℕ → Bool
has_zero xs = any (λ x. eqb x 0) xs

-- a string of the value holds a zero
unfoldable pub holds_zero : (f : Format) → Value f → Bool
holds_zero (number w) n = false
holds_zero (code n r) c = false
holds_zero (cstring m) xs = has_zero xs
holds_zero (ucs2 m) xs = has_zero xs
holds_zero (list w f) xs = any (holds_zero f) xs
holds_zero (f & g) x = holds_zero f x.0 || holds_zero g x.1

-- a string of the value is longer than its limit
unfoldable pub over_limit : (f : Format) → Value f → Bool
over_limit (number w) n = false
over_limit (code n r) c = false
over_limit (cstring m) xs = ltb m (length xs)
over_limit (ucs2 m) xs = ltb m (length xs)
over_limit (list w f) xs = any (over_limit f) xs
over_limit (f & g) x = over_limit f x.0 || over_limit g x.1

-- a list of the value is too long for its count
unfoldable pub too_long : (f : Format) → Value f → Bool
too_long (number w) n = false
too_long (code n r) c = false
too_long (cstring m) xs = false
too_long (ucs2 m) xs = false
too_long (list w f) xs = leb (256 ^ w) (length xs) || any (too_long f) xs
too_long (f & g) x = too_long f x.0 || too_long g x.1

-- every number fits its field's type, every element of a string its byte or unit, every code its enum: what a call's arguments are by themselves
abbrev pub Fits : (f : Format) → Value f → Type 0
Fits (number w) n = n < 256 ^ w
Fits (code n r) c = (c < 256 ^ 1) × (c < n)
Fits (cstring m) xs = All (λ x. x < 256) xs
Fits (ucs2 m) xs = All (λ x. x < 65536) xs
Fits (list w f) xs = All (Fits f) xs
Fits (f & g) x = Fits f x.0 × Fits g x.1

-- the bytes of the largest packet
abbrev pub limit : ℕ
limit = 16777216

-- the number of a write, by its end and the room: 11, 19, 12, a packet past its limit 15, an output too short 13, in that order; or 0
abbrev pub weighed : (zeros over long : Bool) (end room : ℕ) → ℕ
weighed zeros over long end room = pick zeros 11 (pick over 19 (pick long 12 (pick (ltb limit end) 15 (pick (ltb room end) 13 0))))

-- the number with which the value itself is refused, wherever there is room, or 0
unfoldable pub fault : (f : Format) → Value f → ℕ
fault f v = weighed (holds_zero f v) (over_limit f v) (too_long f v) 0 0
