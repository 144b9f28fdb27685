use mathlib.Core.Path.{sym}
use Rattle.layers.specs.Says.{layer_is}
use Rattle.refusal.proofs.Handed.{handed}
use Rattle.citp.proofs.Reports.{header-short, header-bare, hint-short, header-hinted}
use Rattle.citp.proofs.layer_header.Goals as goal

pub returns-in_err-content_type : goal.returns-in_err-content_type
returns-in_err-content_type c = rw (handed c.from_residual.ensures) (header-short (layer_is c.args.layer) _ (sym c.in_err-content_type.ensures))

pub returns-then-not-has_hint : goal.returns-then-not-has_hint
returns-then-not-has_hint c = header-bare (layer_is c.args.layer) _ c.has_hint.ensures c.if-not-has_hint.true (sym c.in_ok-content_type.ensures)

pub returns-in_err-content_hint : goal.returns-in_err-content_hint
returns-in_err-content_hint c = rw (handed c.from_residual-in_err-content_hint.ensures) (hint-short (layer_is c.args.layer) _ c.has_hint.ensures
    c.if-not-has_hint.false (sym c.in_ok-content_type.ensures) (sym c.in_err-content_hint.ensures))

pub returns : goal.returns
returns c = header-hinted (layer_is c.args.layer) _ c.has_hint.ensures c.if-not-has_hint.false (sym c.in_ok-content_type.ensures)
    (sym c.in_ok-content_hint.ensures)
