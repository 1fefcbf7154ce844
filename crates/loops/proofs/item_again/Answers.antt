use native.Mathlib.Omega.{arith}
use mathlib.Core.Path.{refl}
use lib.Dec.{eqb}
use Rattle.std.proofs.Common.{rules}
use Rattle.codec.proofs.Ways.{case_is, case_not}
use Rattle.says.proofs.Behind.{rest_says}
use Rattle.tree.specs.Parts.{on_loop}
use Rattle.loops.proofs.Items.{item_again, item_never, member_in_any}
use Rattle.loops.proofs.item_again.Goals as goal

pub returns-then-eq : goal.returns-then-eq
returns-then-eq c = item_again _ _ _ _ _ _ (case_is _ _ _ _ c.case.ensures _ _ c.eq.ensures c.if-eq.true) _ _ _ refl c.le_at-p.ensures c.count_at-x.ensures.0 (rest_says _ _ _ _ _ _ _ _ (c.any_rest.ensures.says (on_loop (eqb c.count_at-x.result)) (λ p r h q. search rules)) (member_in_any _))

pub returns : goal.returns
returns c = item_never _ _ _ _ _ _ refl (case_not _ _ _ _ c.case.ensures _ _ c.eq.ensures c.if-eq.false (omega arith))
