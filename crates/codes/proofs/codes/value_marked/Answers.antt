use native.Mathlib.Omega.{arith}
use mathlib.Core.Path.{refl}
use Rattle.codec.proofs.Ways.{case_is, case_not}
use Rattle.codes.proofs.Reading.{code_there, code_not}
use Rattle.codes.proofs.codes.value_marked.Goals as goal

pub returns-then-eq : goal.returns-then-eq
returns-then-eq c = code_there _ _ _ _ _ (case_is _ _ _ _ c.case.ensures _ _ c.eq.ensures c.if-eq.true) _ _ refl c.le_at.ensures c.text_marked.ensures

pub returns-else-eq : goal.returns-else-eq
returns-else-eq c = rw c.if-eq.false (code_not _ _ _ _ _ refl (case_not _ _ _ _ c.case.ensures _ _ c.eq.ensures c.if-eq.false (omega arith)))
