-- The listing of a stream: the lines of each packet's report, then how many there are and the number of the end.
use Rattle.std.specs.Prelude.{ℕ, ◌-◌, min, ◌≡◌, List, [], ◌++◌, length, drop}
use Rattle.std.proofs.Math.Option.{Option, none, some}
use Rattle.std.proofs.lemmas.List.Edits.{sets}
use Rattle.format.specs.Format.{concat_map}
use Rattle.format.specs.View.{View}
use Rattle.protocol.specs.Kind.{Kind, layer, body_of}
use Rattle.protocol.specs.Step.{Content, message, unknown, fragment, refusal, Report, walk, body_in}
use Rattle.text.specs.Text.{chars, hex, line}
use Rattle.lines.specs.Lines.{decimal_line}
use Rattle.names.specs.Messages.{message_lines}

abbrev pub report_is : List ℕ → List ℕ
report_is word = line (chars "report") word

-- ---- what a packet holds

unfoldable pub message_report : (k : Kind) (hint : Option ℕ) (body : List ℕ) → View (body_of k) → (added : ℕ) → List ℕ
unfolding message_lines
message_report k hint body v added = report_is (chars "message") ++ (message_lines k hint body v ++ decimal_line (chars "extra") added)

abbrev pub type_lines : Option ℕ → List ℕ
type_lines none = []
type_lines (some type) = line (chars "type") (hex 8 type)

unfoldable pub unknown_report : (cookie : ℕ) (type : Option ℕ) → List ℕ
unknown_report cookie type = report_is (chars "unknown") ++ (line (chars "layer") (hex 8 cookie) ++ type_lines type)

unfoldable pub fragment_report : (part count : ℕ) → List ℕ
fragment_report part count = report_is (chars "fragment") ++ (decimal_line (chars "part") part ++ decimal_line (chars "of") count)

unfoldable pub refusal_report : (number : ℕ) → List ℕ
refusal_report number = report_is (chars "refused") ++ decimal_line (chars "refusal") number

unfoldable pub content_lines : (stream : List ℕ) (size : ℕ) → Content View → List ℕ
unfolding message_report unknown_report fragment_report refusal_report
content_lines s size (message k start hint v added) = message_report k hint (body_in s size start (layer k)) v added
content_lines s size (unknown cookie type) = unknown_report cookie type
content_lines s size (fragment part count) = fragment_report part count
content_lines s size (refusal number) = refusal_report number

-- ---- a packet, and the stream

unfoldable pub report_lines : (stream : List ℕ) → Report View → List ℕ
unfolding content_lines
report_lines s r =
    decimal_line (chars "at") r.offset
    ++ (decimal_line (chars "size") r.size ++ (decimal_line (chars "request_index") r.request ++ content_lines s r.size r.content))

-- after so many reports, with the number of the end
unfoldable pub end_lines : (packets number : ℕ) → List ℕ
end_lines packets number = decimal_line (chars "packets") packets ++ decimal_line (chars "stop") number

abbrev pub ended_lines : (packets : ℕ) → Option (ℕ × ℕ) → List ℕ
ended_lines packets none = []
ended_lines packets (some end) = end_lines packets end.0

-- the text of a stream; the walk over every slice ends
unfoldable pub listing : (stream : List ℕ) → List ℕ
unfolding walk report_lines end_lines concat_map
listing s = let w = walk s in concat_map (report_lines s) w.0 ++ ended_lines (length w.0) w.1

-- a text from a character on, as much of it as an output holds: how many characters these are, and the output after it
pub record Part (text : List ℕ) (from : ℕ) (before : List ℕ) (count : ℕ) (after : List ℕ) : Type 0 where
  pub counts : count ≡ min (length text - from) (length before)
  pub holds : after ≡ sets before 0 (drop from text)
