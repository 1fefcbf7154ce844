use Rattle.census.proofs.Widths.{longest_none, longest_same, longest_new}
use Rattle.census.proofs.longest.Goals as goal
use Rattle.census.proofs.longest.Goals.{then-above-last, else-above-last}

pub loop-k-init : goal.loop-k-init
loop-k-init c = longest_none _ _ _

pub loop-k-preserved : goal.loop-k-preserved
loop-k-preserved c = elim c.if-above-last.branch [
  | then-above-last w ↦ rw (w.last-is, w.run-is) (longest_same _ _ _ _ _ _ _ c.loop-k.invariant _ c.above-above.ensures _ w.if-above-last.true (rw w.run-is at c.max-best.ensures))
  | else-above-last w ↦ rw (w.last-is, w.run-is) (longest_new _ _ _ _ _ _ _ c.loop-k.invariant _ c.above-above.ensures _ c.requires.0 c.loop-k-test.true w.if-above-last.false (rw w.run-is at c.max-best.ensures))
]
