use Rattle.segment.proofs.Components.{group_next, group_end}
use native.Mathlib.Omega.{arith}
use Rattle.segment.proofs.put_components.Goals as goal
use Rattle.segment.proofs.put_components.Goals.{else-loop-c-test, then-loop-c-test+else-c-last}

pub loop-c-preserved : goal.loop-c-preserved
loop-c-preserved g c = λ f h. group_next c.loop-c-test.true (c.loop-c.invariant f h) (h _ _ c.value-v.ensures) c.component-t.ensures

-- the loop ends before the first component, or behind the last
pub returns : goal.returns
returns g c = elim c.loop-c-test.branch [
  | else-loop-c-test w ↦ λ f h. group_end w.loop-c-test.false (c.loop-c.invariant f h) (rw (w.doc-is, w.t-is) at c.finish.ensures)
  | then-loop-c-test+else-c-last w ↦ λ f h.
      group_end (omega arith) (group_next w.loop-c-test.true (c.loop-c.invariant f h) (h _ _ w.value-v.ensures) w.component-t.ensures) (rw (w.doc-is, w.t-is) at c.finish.ensures)
]
