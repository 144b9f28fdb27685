-- Three floats under one name, and what is listed behind them.
use Prim.Native.Nat.{ℕ}
use mathlib.Core.Path.{◌≡◌}
use mathlib.Core.List.{List, ◌++◌, append_assoc}
use Rattle.format.specs.Format.{Format}
use Rattle.format.specs.View.{View}
use Rattle.text.specs.Prints.{Prints}
use Rattle.text.proofs.Prints.{put_then}
use Rattle.text.specs.Text.{hex, line}
use Rattle.lines.specs.Lines.{Name, Listed, bits, ◌and◌, lines, Lists}

module _ {from : ℕ} {name : Name} {x y z x' y' z' : ℕ} {s o o₁ : List ℕ} {p q : ℕ} where
  pub lists-vector : x ≡ x' → y ≡ y' → z ≡ z' → Prints from (line name (hex 8 x) ++ (line name (hex 8 y) ++ line name (hex 8 z))) p o q o₁
      → Lists from (bits name and bits name and bits name) s (x', (y', z')) p o q o₁
  unfolding lines
  lists-vector e f g a = record { puts = rw (e, f, g) at a }

  pub lists-vector-and : {f : Format} {b : Listed f} {v : View f} {o₂ : List ℕ} {r : ℕ} → x ≡ x' → y ≡ y' → z ≡ z'
      → Prints from (line name (hex 8 x) ++ (line name (hex 8 y) ++ line name (hex 8 z))) p o q o₁
      → Lists from b s v q o₁ r o₂ → Lists from (bits name and bits name and bits name and b) s (x', (y', (z', v))) p o r o₂
  unfolding lines
  lists-vector-and e f g a b = record { puts = simp append_assoc at (put_then (rw (e, f, g) at a) b.puts) }

pub ruleset vectors = (lists-vector, lists-vector-and)
