use mathlib.Core.Path.{refl, sym}
use Rattle.codec.proofs.Ways.{case_is, case_not}
use native.Mathlib.Omega.{arith}
use Rattle.says.proofs.Walk.{opt_there, opt_none}
use Rattle.says.proofs.lists.opt_at.Goals as goal

pub returns-then-eq-clause-says : goal.returns-then-eq-clause-says
returns-then-eq-clause-says g c f h = opt_there _ _ _ _ _ _ _ _ (case_is _ _ _ _ c.case.ensures _ _ c.eq.ensures c.if-eq.true) refl c.le_at.ensures (h _ _ (omega arith) c.test.ensures)

pub returns-then-eq-clause-none : goal.returns-then-eq-clause-none
returns-then-eq-clause-none g c n = absurd (n (sym (case_is _ _ _ _ c.case.ensures _ _ c.eq.ensures c.if-eq.true)))

pub returns-clause-says : goal.returns-clause-says
returns-clause-says g c f h = opt_none _ _ _ _ _ _ refl (case_not _ _ _ _ c.case.ensures _ _ c.eq.ensures c.if-eq.false (omega arith))

pub returns-clause-there : goal.returns-clause-there
returns-clause-there g c h = absurd (case_not _ _ _ _ c.case.ensures _ _ c.eq.ensures c.if-eq.false (omega arith) h)
