-- What is promised of a string's text. Each claim is proved under its name in the file of proofs/ named beside it.
use Rattle.std.specs.Prelude.{ℕ, ◌^◌, ◌<◌, ◌≤◌, ◌≡◌, List, ◌∷◌}
use Rattle.format.specs.Format.{All}
use Rattle.text.specs.Text.{chars, escape, escaped}

-- backslash (Injective): a backslash prints as `\005C`
abbrev pub Backslash : Type 0
Backslash = escape 92 ≡ 92 ∷ chars "005C"

-- escaped-injective (Injective): two strings of the same unit width, of bytes or of 16-bit units, print alike only if they are equal
abbrev pub EscapedInjective : Type 0
EscapedInjective = (w : ℕ) → w ≤ 2 → (s t : List ℕ) → All (λ u. u < 256 ^ w) s → All (λ u. u < 256 ^ w) t → escaped s ≡ escaped t → s ≡ t
