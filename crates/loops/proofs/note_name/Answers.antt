use Rattle.codec.proofs.Ways.{case_is, case_not}
use mathlib.Core.Path.{refl}
use native.Mathlib.Omega.{arith}
use lib.ListN.{length-set}
use Rattle.loops.proofs.Items.{name_there, name_not}
use Rattle.tree.proofs.Names.{name_in, name_none}
use Rattle.loops.proofs.note_name.Goals as goal

pub returns-then-eq : goal.returns-then-eq
returns-then-eq c = let a = c.args in (length-set a.names.now a.k c.count_at.result, (omega arith, λ y i. name_in a.names.now a.k c.count_at.result _ c.requires (name_there _ _ _ _ (case_is _ _ _ _ c.case.ensures _ _ c.eq.ensures c.if-eq.true) _ _ refl c.le_at-p.ensures c.count_at.ensures.0 y i)))

pub returns : goal.returns
returns c = (refl, (omega arith, λ y i. name_none c.args.names.now c.args.k _ (name_not _ _ _ _ refl (case_not _ _ _ _ c.case.ensures _ _ c.eq.ensures c.if-eq.false (omega arith)) y i)))
