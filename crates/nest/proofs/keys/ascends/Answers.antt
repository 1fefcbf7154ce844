use Rattle.nest.proofs.Rising.{climbing_first, climbing_next, climbing_end}
use Rattle.nest.proofs.keys.ascends.Goals as goal

pub loop-k-init : goal.loop-k-init
loop-k-init c = climbing_first _ _ _ c.key-last.ensures

pub loop-k-preserved : goal.loop-k-preserved
loop-k-preserved c = climbing_next _ _ _ _ _ c.loop-k.invariant c.key-key.ensures c.if-key-last.false

pub returns : goal.returns
returns c = λ z. climbing_end _ _ _ _ _ c.loop-k.invariant c.row_count-n.ensures c.loop-k-test.false
