-- The lines of a message.
use Rattle.std.specs.Prelude.{ℕ, List, [], ◌++◌}
use Rattle.std.proofs.Math.Option.{Option, none, some}
use Rattle.format.specs.View.{View}
use Rattle.protocol.specs.Kind.{Kind, body_of}
use Rattle.text.specs.Text.{chars, line}
use Rattle.lines.specs.Lines.{decimal_line, lines}
use Rattle.names.specs.Names.{listed, kind_name}

abbrev pub hint_lines : Option ℕ → List ℕ
hint_lines none = []
hint_lines (some hint) = decimal_line (chars "content_hint") hint

-- its kind, in FPTC its content hint, and its fields
unfoldable pub message_lines : (k : Kind) (hint : Option ℕ) (body : List ℕ) → View (body_of k) → List ℕ
unfolding lines
message_lines k hint body v = line (chars "kind") (chars (kind_name k)) ++ (hint_lines hint ++ lines (listed k) body v)
