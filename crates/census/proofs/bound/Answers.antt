use Rattle.nest.proofs.Small.{root_small}
use Rattle.census.proofs.Bounding.{roots_most, roots_most_next, roots_most_end}
use Rattle.census.proofs.bound.Goals as goal

pub loop-i-init : goal.loop-i-init
loop-i-init c = roots_most _

pub most-m-requires : goal.most-m-requires
most-m-requires c = root_small _ c.args.nest.nested.ready.passed _ _ _ c.root_count-count.ensures c.loop-i-test.true c.root-l.ensures

pub loop-i-preserved : goal.loop-i-preserved
loop-i-preserved c = roots_most_next _ _ _ c.loop-i.invariant _ c.root_count-count.ensures _ _ _ _ c.loop-i-test.true c.root-l.ensures c.loop_count-height.ensures c.most-m.ensures c.min-n.ensures

pub returns : goal.returns
returns c = roots_most_end _ _ _ c.loop-i.invariant _ c.root_count-count.ensures c.loop-i-test.false
