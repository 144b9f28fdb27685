-- How the listing prints a number, a byte, a string and a line: each text is the list of its characters' ASCII codes.
use Rattle.std.specs.Prelude.{ℕ, zero, suc, ◌+◌, ◌/◌, ◌%◌, ◌^◌, Bool, ◌||◌, List, [], ◌∷◌, ◌++◌, ltb, eqb}
use Prim.Native.Char.{code}
use Prim.Native.String as string
use Prim.Native.String.{String}
use Rattle.format.specs.Format.{pick, concat_map}

-- the characters of a quoted text
abbrev pub chars : String → List ℕ
chars string.[] = []
chars (string.◌∷◌ c s) = code c ∷ chars s

-- a digit below 16: 0 to 9, then A to F
unfoldable pub digit : ℕ → ℕ
digit d = pick (ltb d 10) (48 + d) (55 + d)

-- the last k hexadecimal digits of n, the most significant first
unfoldable pub hex : ℕ → ℕ → List ℕ
hex zero n = []
hex (suc k) n = digit (n / 16 ^ k % 16) ∷ hex k n

-- the decimal digits of n, if there are at most k
unfoldable pub decimal_up_to : ℕ → ℕ → List ℕ
decimal_up_to zero n = []
decimal_up_to (suc k) n = pick (ltb n 10) ((48 + n) ∷ []) (decimal_up_to k (n / 10) ++ ((48 + n % 10) ∷ []))

-- the decimal digits of a number below 10 ^ 20
unfoldable pub decimal : ℕ → List ℕ
unfolding decimal_up_to
decimal n = decimal_up_to 20 n

-- a byte or unit as a backslash and four hexadecimal digits
unfoldable pub coded : ℕ → List ℕ
coded u = 92 ∷ hex 4 u

-- whether a byte or unit prints so: below 32, above 126, and a backslash
abbrev pub is_coded : ℕ → Bool
is_coded u = ltb u 32 || (ltb 126 u || eqb u 92)

-- a byte or unit, coded or as itself
unfoldable pub escape : ℕ → List ℕ
unfolding coded
escape u = pick (is_coded u) (coded u) (u ∷ [])

-- a string, escaped
abbrev pub escaped : List ℕ → List ℕ
escaped s = concat_map escape s

-- a block, two hexadecimal digits a byte
abbrev pub hex_block : List ℕ → List ℕ
hex_block s = concat_map (hex 2) s

-- a line's key, and the sign behind it
unfoldable pub keyed : (key : List ℕ) → List ℕ
keyed key = key ++ (61 ∷ [])

-- a line: key, '=', value, line feed
unfoldable pub line : (key value : List ℕ) → List ℕ
unfolding keyed
line key value = keyed key ++ (value ++ (10 ∷ []))
