use Rattle.nest.proofs.Small.{root_small}
use Rattle.census.proofs.Counting.{rooted, rooted_next, rooted_end, outside_sound}
use Rattle.census.proofs.census.Goals as goal

pub loop-i-init : goal.loop-i-init
loop-i-init c = rooted _

pub entered-n-requires : goal.entered-n-requires
entered-n-requires c = (outside_sound _ _ c.outside-c.ensures, root_small _ c.args.nest.nested.ready.passed _ _ _ c.root_count-count.ensures c.loop-i-test.true c.root-l.ensures, c.loop-i.invariant.few)

pub loop-i-preserved : goal.loop-i-preserved
loop-i-preserved c = rooted_next _ _ _ c.loop-i.invariant _ c.root_count-count.ensures _ _ _ _ c.loop-i-test.true c.root-l.ensures c.loop_count-height.ensures c.outside-c.ensures c.entered-n.ensures

pub returns : goal.returns
returns c = rooted_end _ _ _ c.loop-i.invariant _ c.root_count-count.ensures c.loop-i-test.false
