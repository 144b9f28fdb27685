-- A laser feed named é, and one named by a backslash and the digits 00E9: each name is a field of its message, in a list, and their lines differ.
use Prim.Native.Nat.{ℕ}
use mathlib.Core.Path.{◌≡◌, refl}
use mathlib.Core.List.{List, [], ◌∷◌, ◌++◌}
use Rattle.format.specs.Format.{concat_map, decode_number, decode_items, decode_ucs2, decode, size}
use Rattle.format.specs.View.{view, placed, place, stepped, steps, units_of}
use Rattle.protocol.specs.Kind.{LaserFeedList}
use Rattle.text.specs.Text.{chars, digit, hex, coded, escape, keyed, line}
use Rattle.lines.specs.Lines.{lines}
use Rattle.names.specs.Names.{feed_name}
use Rattle.names.specs.Claims.{MessageField, second, item, itself}

abbrev accented : List ℕ
accented = 1 ∷ 0 ∷ 0 ∷ 0 ∷ 1 ∷ 0xE9 ∷ 0 ∷ 0 ∷ 0 ∷ []

abbrev spelled : List ℕ
spelled = 1 ∷ 0 ∷ 0 ∷ 0 ∷ 1 ∷ 92 ∷ 0 ∷ 48 ∷ 0 ∷ 48 ∷ 0 ∷ 69 ∷ 0 ∷ 57 ∷ 0 ∷ 0 ∷ 0 ∷ []

pub names-are-fields : MessageField LaserFeedList accented feed_name (5, 1) × MessageField LaserFeedList spelled feed_name (5, 5)
unfolding view placed place decode decode_number decode_items decode_ucs2 size steps stepped
names-are-fields = (
  record { whole = (1, (5, 1)); end = 9; read = refl; field = second (item [] [] refl itself) },
  record { whole = (1, (5, 1)); end = 17; read = refl; field = second (item [] [] refl itself) },
)

pub lines-differ : (lines feed_name accented (5, 1) ≡ chars "feed_names=" ++ (92 ∷ chars "00E9") ++ (10 ∷ []))
    × (lines feed_name spelled (5, 5) ≡ chars "feed_names=" ++ (92 ∷ chars "005C00E9") ++ (10 ∷ []))
unfolding lines line keyed units_of concat_map escape coded hex digit
lines-differ = (refl, refl)
