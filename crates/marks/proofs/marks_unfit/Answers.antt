use native.Mathlib.Omega.{arith}
use mathlib.Core.Path.{refl}
use Rattle.codec.proofs.Ways.{case_is, case_not}
use Rattle.marks.proofs.Marks.{marks_three, marks_four}
use Rattle.marks.proofs.marks_unfit.Goals as goal

pub returns-then-eq : goal.returns-then-eq
returns-then-eq c v i j k l = marks_four _ _ _ _ _ _ _ _ _ _ _ _ v c.byte_at-x.ensures.0 c.byte_at-y.ensures.0 c.byte_at-z.ensures.0 (cc) (cc) (cc) i j k l _ _ _ _ (case_is _ _ _ _ c.case.ensures _ _ c.eq.ensures c.if-eq.true) refl c.le_at.ensures c.byte_at-w.ensures.0 c.marked.ensures

pub returns : goal.returns
returns c v i j k l = marks_three _ _ _ _ _ _ _ _ _ _ _ _ v c.byte_at-x.ensures.0 c.byte_at-y.ensures.0 c.byte_at-z.ensures.0 (cc) (cc) (cc) i j k l _ _ refl (case_not _ _ _ _ c.case.ensures _ _ c.eq.ensures c.if-eq.false (omega arith)) c.marked-2.ensures
