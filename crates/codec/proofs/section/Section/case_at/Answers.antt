use Prim.Native.Nat.{◌≤◌}
use Rattle.std.proofs.Common.{arith, sym, ◌∙◌}
use Rattle.codec.proofs.Ways.{tag_case, case_in, case_out, case_some, case_none}
use Rattle.codec.proofs.section.Section.case_at.Goals as goal
use Rattle.codec.proofs.section.Section.case_at.Goals.{in_default-via-in-Some+else-t-n, in_default-via-in_default}

pub overflow_add-result : goal.overflow_add-result
overflow_add-result c = omega (arith, tag_case _ _ _ c.in-Some.t (sym (case_some _ _ _ _ c.case.ensures _ c.in-Some.is)) (omega arith))

pub returns-in-Some : goal.returns-in-Some
returns-in-Some c = let z = case_some _ _ _ _ c.case.ensures _ c.in-Some.is in sym (case_in _ _ _ _ (omega (arith, z, c.if-t-n.true)))

pub returns-in_default : goal.returns-in_default
returns-in_default c =
    let k : c.args.n ≤ _ = elim c.in_default.branch [
      | in_default-via-in-Some+else-t-n w ↦ omega (arith, case_some _ _ _ _ c.case.ensures _ w.in-Some.is, w.if-t-n.false)
      | in_default-via-in_default w ↦ omega (arith, case_none _ _ _ _ c.case.ensures w.in_default.is)
    ] in c.past.ensures ∙ sym (case_out _ _ _ _ k)
