-- The lines of each field as a write of its parts: what `search` makes the answers of the functions from.
use Prim.Native.Nat.{ℕ, ◌-◌, min}
use mathlib.Core.Path.{◌≡◌, refl, ◌∙◌}
use mathlib.Core.List.{List}
use native.Mathlib.Omega.{arith}
use Rattle.std.proofs.lemmas.List.{drop_min}
use lib.ListN.{length, take, drop, length-drop}
use lib.Seq.{take_all}
use Rattle.format.specs.Format.{Format, concat_map}
use Rattle.format.specs.View.{View, units_of}
use Rattle.text.specs.Prints.{Prints}
use Rattle.text.proofs.Prints.{put_then}
use Rattle.text.specs.Text as text
use Rattle.text.specs.Text.{hex, escaped, hex_block, line}
use Rattle.lines.specs.Lines.{Name, Listed, decimal, bits, type, bytes, units, each, block, digits, ◌and◌, decimal_line, range_of, lines, item_lines, Lists}

module _ {name : Name} {s o o' : List ℕ} {p r : ℕ} where
  pub lists-decimal : {from : ℕ} {w n : ℕ} → Prints from (line name (text.decimal n)) p o r o' → Lists from (decimal {w = w} name) s n p o r o'
  unfolding lines
  lists-decimal a = record { puts = a }

  pub lists-bits : {from : ℕ} {n : ℕ} → Prints from (line name (hex 8 n)) p o r o' → Lists from (bits name) s n p o r o'
  unfolding lines
  lists-bits a = record { puts = a }

  pub lists-type : {from : ℕ} {n k c d : ℕ} → d ≡ c → Prints from (line name (text.decimal d)) p o r o' → Lists from (type {n = n} {r = k} name) s c p o r o'
  unfolding lines
  lists-type e a = record { puts = rw e at a }

  -- whatever the limit
  pub lists-bytes : {from m : ℕ} {x : ℕ × ℕ} → Prints from (line name (escaped (range_of s x))) p o r o' → Lists from (bytes {m = m} name) s x p o r o'
  unfolding lines
  lists-bytes a = record { puts = a }

  pub lists-units : {from m : ℕ} {x : ℕ × ℕ} → Prints from (line name (escaped (units_of x.1 (drop x.0 s)))) p o r o'
      → Lists from (units {m = m} name) s x p o r o'
  unfolding lines
  lists-units a = record { puts = a }

module _ {count : Name} {s o o₁ o₂ : List ℕ} {p q r : ℕ} where
  pub lists-each : {from : ℕ} {w at left : ℕ} {f : Format} {l : Listed f} → Prints from (line count (text.decimal left)) p o q o₁ → Prints from (item_lines l s at left) q o₁ r o₂
      → Lists from (each {w = w} count l) s (at, left) p o r o₂
  unfolding lines item_lines
  lists-each a b = record { puts = put_then a b }

  pub lists-block : {from : ℕ} {w : ℕ} {name : Name} {x : ℕ × ℕ} {t : List ℕ} → t ≡ range_of s x → Prints from (line count (text.decimal x.1)) p o q o₁
      → Prints from (concat_map (decimal_line name) t) q o₁ r o₂ → Lists from (block {w = w} count name) s x p o r o₂
  unfolding lines
  lists-block e a b = record { puts = put_then a (rw e at b) }

  pub lists-digits : {from : ℕ} {w : ℕ} {name : Name} {x : ℕ × ℕ} {t : List ℕ} → t ≡ range_of s x → Prints from (line count (text.decimal x.1)) p o q o₁
      → Prints from (line name (hex_block t)) q o₁ r o₂ → Lists from (digits {w = w} count name) s x p o r o₂
  unfolding lines
  lists-digits e a b = record { puts = put_then a (rw e at b) }

pub lists-and : {from : ℕ} {f g : Format} {a : Listed f} {b : Listed g} {v : View f} {w : View g} {s o o₁ o₂ : List ℕ} {p q r : ℕ}
    → Lists from a s v p o q o₁ → Lists from b s w q o₁ r o₂ → Lists from (a and b) s (v, w) p o r o₂
unfolding lines
lists-and a b = record { puts = put_then a.puts b.puts }

-- the same with a line in front, whose write says where it stops
module _ {name : Name} {g : Format} {b : Listed g} {w : View g} {s o o₁ o₂ : List ℕ} {p q r : ℕ} where
  pub lists-decimal-and : {from : ℕ} {k n : ℕ} → Prints from (line name (text.decimal n)) p o q o₁ → Lists from b s w q o₁ r o₂ → Lists from (decimal {w = k} name and b) s (n, w) p o r o₂
  lists-decimal-and a b = lists-and (lists-decimal a) b

  pub lists-bits-and : {from : ℕ} {n : ℕ} → Prints from (line name (hex 8 n)) p o q o₁ → Lists from b s w q o₁ r o₂ → Lists from (bits name and b) s (n, w) p o r o₂
  lists-bits-and a b = lists-and (lists-bits a) b

  pub lists-type-and : {from : ℕ} {n k c d : ℕ} → d ≡ c → Prints from (line name (text.decimal d)) p o q o₁ → Lists from b s w q o₁ r o₂
      → Lists from (type {n = n} {r = k} name and b) s (c, w) p o r o₂
  lists-type-and e a b = lists-and (lists-type e a) b

module _ {name : Name} {g : Format} {b : Listed g} {w : View g} {s o o₁ o₂ : List ℕ} {p q r : ℕ} {from m : ℕ} {x : ℕ × ℕ} where
  pub lists-bytes-and : Prints from (line name (escaped (range_of s x))) p o q o₁ → Lists from b s w q o₁ r o₂
      → Lists from (bytes {m = m} name and b) s (x, w) p o r o₂
  lists-bytes-and a b = lists-and (lists-bytes a) b

  pub lists-units-and : Prints from (line name (escaped (units_of x.1 (drop x.0 s)))) p o q o₁ → Lists from b s w q o₁ r o₂
      → Lists from (units {m = m} name and b) s (x, w) p o r o₂
  lists-units-and a b = lists-and (lists-units a) b

-- a string's own line
pub prints-bytes : (name s o o' t : List ℕ) (p r from start n : ℕ) → t ≡ take n (drop start s) → Prints from (line name (escaped t)) p o r o'
    → Prints from (line name (escaped (take n (drop start s)))) p o r o'
prints-bytes name s o o' t p r from start n e a = rw e at a

-- the bytes from an offset on, none where it is past the body
pub bytes_from : (s : List ℕ) (i : ℕ) → take (length s - min i (length s)) (drop (min i (length s)) s) ≡ drop i s
bytes_from s i =
    let start = min i (length s) in
    take_all (length s - start) (drop start s) (omega (arith, length-drop start s)) ∙ drop_min i s

pub ruleset strings = (refl, prints-bytes)

pub ruleset fields = (
  refl,
  lists-decimal,
  lists-bits,
  lists-type,
  lists-bytes,
  lists-units,
  lists-each,
  lists-block,
  lists-digits,
  lists-and,
  lists-decimal-and,
  lists-bits-and,
  lists-type-and,
  lists-bytes-and,
  lists-units-and,
)
