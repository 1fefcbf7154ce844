use native.Mathlib.Omega.{arith}
use mathlib.Core.Path.{refl}
use Rattle.codec.proofs.Ways.{case_is, case_not}
use Rattle.loops.proofs.Tangle.{child_roots, root_roots}
use Rattle.loops.proofs.misrooted_at.Goals as goal

pub returns-then-eq : goal.returns-then-eq
returns-then-eq c = child_roots _ _ _ _ _ _ _ (case_is _ _ _ _ c.case.ensures _ _ c.eq.ensures c.if-eq.true) c.times_at-t.ensures refl

pub returns : goal.returns
returns c = root_roots _ _ _ _ _ _ _ refl c.times_at-t.ensures (case_not _ _ _ _ c.case.ensures _ _ c.eq.ensures c.if-eq.false (omega arith))
