use Rattle.nest.proofs.Claiming.{loop_small, within_next, within_all}
use native.Mathlib.Omega.{arith}
use mathlib.Core.Path.{◌∙◌}
use Rattle.nest.proofs.hang.deepest.Goals as goal

pub depth_at-requires : goal.depth_at-requires
depth_at-requires c = loop_small _ c.args.job.ready.passed _ _ _ _ c.table_loop_count-n.ensures c.loop-i-test.true c.table_loop-l.ensures

pub loop-i-preserved : goal.loop-i-preserved
loop-i-preserved c =
    let small = loop_small _ c.args.job.ready.passed _ _ _ _ c.table_loop_count-n.ensures c.loop-i-test.true c.table_loop-l.ensures in
    (within_next _ _ _ _ _ _ _ c.loop-i.invariant.0 c.table_loop-l.ensures (c.depth_at.ensures.value ∙ c.requires.of _ small) (omega (arith, c.max-d.ensures)) (omega (arith, c.max-d.ensures)), omega (arith, c.depth_at.ensures.small, c.max-d.ensures))

pub returns-clause-of : goal.returns-clause-of
returns-clause-of c = within_all _ _ _ _ _ c.loop-i.invariant.0 c.table_loop_count-n.ensures c.loop-i-test.false
