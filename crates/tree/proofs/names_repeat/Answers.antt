use native.Mathlib.Omega.{arith}
use Rattle.tree.proofs.Names.{repeat_hit, repeat_miss, repeat_end}
use Rattle.tree.proofs.names_repeat.Goals as goal

pub returns-then-contains : goal.returns-then-contains
returns-then-contains c = repeat_hit c.args.names.now _ _ c.loop-i.i c.loop-i.invariant (omega arith) c.contains.ensures.value c.if-contains.true

pub loop-i-preserved : goal.loop-i-preserved
loop-i-preserved c = repeat_miss c.args.names.now _ _ c.loop-i.i c.loop-i.invariant (omega arith) c.contains.ensures.value c.if-contains.false

pub returns : goal.returns
returns c = repeat_end c.args.names.now _ c.loop-i.i c.loop-i.invariant (omega arith)
