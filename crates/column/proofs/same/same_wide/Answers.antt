use Rattle.column.proofs.Equal.{halves_differ, scales}
use Rattle.std.proofs.Common.{◌∙◌, inl, inr, arith}
use borrow.Author.Tests.{ne_eqb}
use Rattle.column.proofs.same.same_wide.Goals.{then-low-x, else-low-x}
use Rattle.column.proofs.same.same_wide.Goals as goal

pub returns-then-high-y : goal.returns-then-high-y
returns-then-high-y c = scales _ _ _ _ _ _ (omega arith) (omega arith) c.if-high-y.true.0 c.if-high-y.true.1

pub returns-else-high-y : goal.returns-else-high-y
returns-else-high-y c =
    halves_differ _ _ _ _ _ _ (omega arith) (omega arith) _ (elim c.if-low-x.branch [
      | then-low-x w ↦ w.t-8-is ∙ elim c.if-high-y.either [ inl d ↦ ne_eqb _ _ d.1 | inr d ↦ absurd (d w.if-low-x.true) ]
      | else-low-x w ↦ w.t-8-is ∙ ne_eqb _ _ w.if-low-x.false
    ]) c.if-high-y.either
