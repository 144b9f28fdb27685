-- The lines of a report as a write of its parts.
use Prim.Native.Nat.{ℕ}
use mathlib.Core.Path.{◌≡◌, refl}
use mathlib.Core.List.{List, append_assoc, append-nil}
use mathlib.Core.Option.{Option, none, some}
use Rattle.format.specs.View.{View}
use Rattle.protocol.specs.Kind.{Kind, body_of}
use Rattle.text.specs.Prints.{Prints}
use Rattle.text.proofs.Prints.{put_then}
use Rattle.text.specs.Text.{chars, decimal, hex, line}
use Rattle.names.specs.Messages.{message_lines}
use Rattle.citp.specs.Says.{message_kind, message_hint, message_view, report_says, packet_says, body_of_report}
use Rattle.citp.specs.declared.Message.{Message}
use Rattle.citp.specs.declared.PacketReport.{PacketReport}
use Rattle.citp.specs.declared.Report.TheVariants as content
use Rattle.listing.specs.Listing.{message_report, unknown_report, fragment_report, refusal_report, content_lines, report_lines, end_lines}

-- a message by its case
pub put-case : {from : ℕ} (s : List ℕ) {m m' : Message} {o o' : List ℕ} {p r : ℕ} → m ≡ m'
    → Prints from (message_lines (message_kind m') (message_hint m') s (message_view m')) p o r o'
    → Prints from (message_lines (message_kind m) (message_hint m) s (message_view m)) p o r o'
put-case s e a = rw e a

module _ {o o₁ o₂ : List ℕ} {p q r : ℕ} where
  pub put-message : {from : ℕ} (k : Kind) (hint : Option ℕ) (body : List ℕ) (v : View (body_of k)) (added : ℕ) {o₃ : List ℕ} {t : ℕ}
      → Prints from (line (chars "report") (chars "message")) p o q o₁ → Prints from (message_lines k hint body v) q o₁ r o₂
      → Prints from (line (chars "extra") (decimal added)) r o₂ t o₃
      → Prints from (message_report k hint body v added) p o t o₃
  unfolding message_report
  put-message k hint body v added a b d = put_then a (put_then b d)

  pub put-unknown-layer : {from : ℕ} (cookie : ℕ) → Prints from (line (chars "report") (chars "unknown")) p o q o₁
      → Prints from (line (chars "layer") (hex 8 cookie)) q o₁ r o₂
      → Prints from (unknown_report cookie none) p o r o₂
  unfolding unknown_report
  put-unknown-layer cookie a b = put_then a (rw append-nil b)

  pub put-unknown-kind : {from : ℕ} (cookie type : ℕ) → Prints from (unknown_report cookie none) p o q o₁
      → Prints from (line (chars "type") (hex 8 type)) q o₁ r o₂
      → Prints from (unknown_report cookie (some type)) p o r o₂
  unfolding unknown_report
  put-unknown-kind cookie type a b = simp append_assoc at (put_then a b)

  pub put-fragment : {from : ℕ} (part count : ℕ) {o₃ : List ℕ} {t : ℕ} → Prints from (line (chars "report") (chars "fragment")) p o q o₁
      → Prints from (line (chars "part") (decimal part)) q o₁ r o₂
      → Prints from (line (chars "of") (decimal count)) r o₂ t o₃ → Prints from (fragment_report part count) p o t o₃
  unfolding fragment_report
  put-fragment part count a b d = put_then a (put_then b d)

  pub put-refusal : {from : ℕ} (number : ℕ) → Prints from (line (chars "report") (chars "refused")) p o q o₁
      → Prints from (line (chars "refusal") (decimal number)) q o₁ r o₂
      → Prints from (refusal_report number) p o r o₂
  unfolding refusal_report
  put-refusal number a b = put_then a b

  pub put-end : {from : ℕ} (packets number : ℕ) → Prints from (line (chars "packets") (decimal packets)) p o q o₁
      → Prints from (line (chars "stop") (decimal number)) q o₁ r o₂
      → Prints from (end_lines packets number) p o r o₂
  unfolding end_lines
  put-end packets number a b = put_then a b

-- what a packet holds, by its case
module _ (s : List ℕ) (x : PacketReport) {o o' : List ℕ} {p r : ℕ} where
  pub content-message : {from : ℕ} {m : Message} {start added : ℕ} {body : List ℕ} → x.report ≡ content.Message m start added
      → body ≡ body_of_report s (packet_says x)
      → Prints from (message_report (message_kind m) (message_hint m) body (message_view m) added) p o r o'
      → Prints from (content_lines s x.size (report_says x.report)) p o r o'
  unfolding content_lines
  content-message e b a = rw e (rw (b, e) at a)

  pub content-unknown-layer : {from : ℕ} {cookie : ℕ} → x.report ≡ content.UnknownLayer cookie → Prints from (unknown_report cookie none) p o r o'
      → Prints from (content_lines s x.size (report_says x.report)) p o r o'
  unfolding content_lines
  content-unknown-layer e a = rw e a

  pub content-unknown-kind : {from : ℕ} {cookie type : ℕ} → x.report ≡ content.UnknownKind cookie type
      → Prints from (unknown_report cookie (some type)) p o r o'
      → Prints from (content_lines s x.size (report_says x.report)) p o r o'
  unfolding content_lines
  content-unknown-kind e a = rw e a

  pub content-fragment : {from : ℕ} {part count : ℕ} → x.report ≡ content.Fragment part count → Prints from (fragment_report part count) p o r o'
      → Prints from (content_lines s x.size (report_says x.report)) p o r o'
  unfolding content_lines
  content-fragment e a = rw e a

  pub content-refusal : {from : ℕ} {number : ℕ} → x.report ≡ content.Refused number → Prints from (refusal_report number) p o r o'
      → Prints from (content_lines s x.size (report_says x.report)) p o r o'
  unfolding content_lines
  content-refusal e a = rw e a

pub put-report : {from : ℕ} (s : List ℕ) (x : PacketReport) {o o₁ o₂ o₃ o₄ : List ℕ} {p q r t u : ℕ}
    → Prints from (line (chars "at") (decimal x.offset)) p o q o₁
    → Prints from (line (chars "size") (decimal x.size)) q o₁ r o₂ → Prints from (line (chars "request_index") (decimal x.request_index)) r o₂ t o₃
    → Prints from (content_lines s x.size (report_says x.report)) t o₃ u o₄ → Prints from (report_lines s (packet_says x)) p o u o₄
unfolding report_lines
put-report s x a b d e = put_then a (put_then b (put_then d e))

pub ruleset reports = (refl, put-case, put-message, put-unknown-layer, put-unknown-kind, put-fragment, put-refusal, put-end, put-report)

pub ruleset contents = (refl, content-message, content-unknown-layer, content-unknown-kind, content-fragment, content-refusal)
