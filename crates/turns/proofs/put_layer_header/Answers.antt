use Rattle.layers.specs.Says.{layer_is}
use Rattle.turns.proofs.Laws.{hint-written, no-hint}
use Rattle.turns.proofs.put_layer_header.Goals as goal

pub returns-then-has_hint : goal.returns-then-has_hint
returns-then-has_hint c = rw (← c.content_type.ensures, ← c.layer.ensures)
    (hint-written (layer_is c.layer.result) c.has_hint.ensures c.put_u32-at.ensures c.if-has_hint.true c.put_u32.ensures)

pub returns-else-has_hint : goal.returns-else-has_hint
returns-else-has_hint c = rw (← c.content_type.ensures, ← c.layer.ensures)
    (no-hint (layer_is c.layer.result) c.has_hint.ensures c.put_u32-at.ensures c.if-has_hint.false)
