-- The lines of a message as a write of its parts.
use Prim.Native.Nat.{ℕ}
use mathlib.Core.Path.{◌≡◌}
use mathlib.Core.List.{List}
use mathlib.Core.Option.{none, some}
use Rattle.format.specs.View.{View}
use Rattle.protocol.specs.Kind.{Kind, body_of}
use Rattle.text.specs.Prints.{Prints}
use Rattle.text.proofs.Prints.{put_then}
use Rattle.text.specs.Text.{chars, decimal, line}
use Rattle.lines.specs.Lines.{Lists}
use Rattle.names.specs.Names.{listed, kind_name}
use Rattle.names.specs.Messages.{message_lines}

module _ {from : ℕ} (k : Kind) {v : View (body_of k)} {name s o o₁ o₂ : List ℕ} {p q r : ℕ} where
  pub put-message : name ≡ chars (kind_name k) → Prints from (line (chars "kind") name) p o q o₁ → Lists from (listed k) s v q o₁ r o₂
      → Prints from (message_lines k none s v) p o r o₂
  unfolding message_lines
  put-message e a b = put_then (rw e at a) b.puts

  pub put-hinted : (hint : ℕ) {o₃ : List ℕ} {t : ℕ} → name ≡ chars (kind_name k) → Prints from (line (chars "kind") name) p o q o₁
      → Prints from (line (chars "content_hint") (decimal hint)) q o₁ r o₂ → Lists from (listed k) s v r o₂ t o₃
      → Prints from (message_lines k (some hint) s v) p o t o₃
  unfolding message_lines
  put-hinted hint e a b d = put_then (rw e at a) (put_then b d.puts)

-- the fields of a message of a layer by its case
module _ {M : Type 0} (kind_of : M → Kind) (view_of : (m : M) → View (body_of (kind_of m))) where
  pub fields-case : {from : ℕ} {s : List ℕ} {m m' : M} {o o' : List ℕ} {p r : ℕ} → m ≡ m' → Lists from (listed (kind_of m')) s (view_of m') p o r o'
      → Lists from (listed (kind_of m)) s (view_of m) p o r o'
  fields-case e a = rw e a
