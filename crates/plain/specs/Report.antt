-- What a step of the walk answers.
use Rattle.std.specs.Prelude.{ℕ}
use Rattle.std.proofs.Math.Option.{Option, none, some}
use Rattle.format.specs.View.{View}
use Rattle.format.specs.Walk.{Step, stop, report}
use Rattle.protocol.specs.Kind.{index}
use Rattle.protocol.specs.Step.{Content, message, unknown, fragment, refusal, Report}
use Rattle.citp.specs.Says.{body_place}
use Rattle.plain.specs.declared.report.StepAnswer.{StepAnswer}

abbrev pub or_zero : Option ℕ → ℕ
or_zero none = 0
or_zero (some n) = n

-- a packet, the body's place that of a message, with the fields in which reports differ
abbrev pub packet_step : Report View → (next : ℕ) → (code number kind part count layer type hint added : ℕ) → StepAnswer
packet_step r next code number kind part count layer type hint added =
    let body = body_place r.size r.content in
    record {
      report = code;
      number = number;
      kind = kind;
      request_index = r.request;
      part = part;
      part_count = count;
      size = r.size;
      layer = layer;
      content_type = type;
      content_hint = hint;
      offset = r.offset;
      next = next;
      body_start = body.0;
      body_len = body.1;
      added = added;
    }

-- 1 message, 2 unknown layer, 3 unknown kind, 4 fragment, 5 refused
abbrev pub flat_content : Report View → (next : ℕ) → Content View → StepAnswer
flat_content r next (message k start hint v added) = packet_step r next 1 0 (index k) 0 0 0 0 (or_zero hint) added
flat_content r next (unknown layer none) = packet_step r next 2 0 0 0 0 layer 0 0 0
flat_content r next (unknown layer (some type)) = packet_step r next 3 0 0 0 0 layer type 0 0
flat_content r next (fragment part count) = packet_step r next 4 0 0 part count 0 0 0 0
flat_content r next (refusal n) = packet_step r next 5 n 0 0 0 0 0 0 0

abbrev pub flat_report : Report View → (next : ℕ) → StepAnswer
flat_report r next = flat_content r next r.content

-- 0 the end
abbrev pub end_step : (number offset : ℕ) → StepAnswer
end_step n at = record {
  report = 0;
  number = n;
  kind = 0;
  request_index = 0;
  part = 0;
  part_count = 0;
  size = 0;
  layer = 0;
  content_type = 0;
  content_hint = 0;
  offset = at;
  next = at;
  body_start = 0;
  body_len = 0;
  added = 0;
}

abbrev pub flat_step : Step (Report View) → StepAnswer
flat_step (stop n at) = end_step n at
flat_step (report r next) = flat_report r next
