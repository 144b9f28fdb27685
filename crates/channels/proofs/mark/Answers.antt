use Rattle.std.proofs.Common.{ℕ, ◌+◌, ◌*◌, ◌/◌, ◌%◌, Bool, ◌&&◌, ◌||◌, ltb, leb, get_or, take, refl, ◌∙◌, arith}
use Rattle.patching.specs.Book.{taken_at}
use Rattle.patching.proofs.Fields.{count-lt}
use Rattle.channels.proofs.Spans.{marked, none-marked, all-marked, longer, empty-span, span_of}
use Rattle.channels.proofs.mark.Goals as goal

pub returns-in_default : goal.returns-in_default
returns-in_default c = let a = c.args in
    c.requires.1 ∙ none-marked a.entries.now a.i a.universe (omega arith) c.in_default.ensures

pub overflow_add-at : goal.overflow_add-at
overflow_add-at c = let a = c.args in
    omega (arith, count-lt (get_or a.entries.now a.i 0))

pub returns-then-at-n-lt64 : goal.returns-then-at-n-lt64
returns-then-at-n-lt64 c = let a = c.args in
    let at = c.in-Some.at in
    let n = c.channel_count-n.result in
    let p : ℕ → Bool = λ m. taken_at (take a.i a.entries.now) a.universe m in
    marked p a.words.now c.requires.1 (at / 64) (omega arith) (at % 64) (at % 64 + n) c.run.result (omega arith) (omega arith) c.run.ensures
    ∙ span_of p (at / 64 * 64 + at % 64) (at / 64 * 64 + (at % 64 + n)) at (at + n) (omega arith) (omega arith)
    ∙ all-marked a.entries.now a.i a.universe (omega arith) at (at + n) c.in-Some.ensures (omega arith) (omega arith)

pub overflow_add-at-2 : goal.overflow_add-at-2
overflow_add-at-2 c = let a = c.args in
    omega (arith, count-lt (get_or a.entries.now a.i 0))

pub loop-from-init : goal.loop-from-init
loop-from-init c = let a = c.args in
    let p : ℕ → Bool = λ m. taken_at (take a.i a.entries.now) a.universe m in
    (omega arith, omega arith, c.requires.1 ∙ empty-span p c.in-Some.at)

pub run-requires-in-loop-from : goal.run-requires-in-loop-from
run-requires-in-loop-from c = (omega arith, omega arith, omega arith)

pub loop-from-preserved : goal.loop-from-preserved
loop-from-preserved c = let a = c.args in
    let l = c.loop-from in
    let at = c.in-Some.at in
    let high = c.min-high.result in
    let p : ℕ → Bool = λ m. taken_at (take a.i a.entries.now) a.universe m in
    let q : ℕ → Bool = λ m. p m || (leb at m && ltb m l.from) in (
      omega arith,
      omega arith,
      marked q l.words l.invariant.2 (l.from / 64) (omega arith) (l.from % 64) high c.run-in-loop-from.result
          (omega arith) (omega arith) c.run-in-loop-from.ensures
          ∙ span_of q (l.from / 64 * 64 + l.from % 64) (l.from / 64 * 64 + high) l.from (l.from / 64 * 64 + high) (omega arith) refl
          ∙ longer p at l.from (l.from / 64 * 64 + high) (omega arith) (omega arith),
    )

pub returns : goal.returns
returns c = let a = c.args in
    let l = c.loop-from in
    l.invariant.2 ∙ all-marked a.entries.now a.i a.universe (omega arith) c.in-Some.at l.from c.in-Some.ensures (omega arith) (omega arith)
