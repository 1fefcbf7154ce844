use Rattle.codec.proofs.Field.{stands_opt, stands_some}
use Rattle.column.proofs.Columns.{opt_zero, opt_there, int_absent, int_other}
use Rattle.column.specs.Cell.{int64_of}
use mathlib.Core.Path.{ap, ◌∙◌}
use Rattle.column.proofs.data.opt_int.Goals as goal

pub bounds-job-at : goal.bounds-job-at
bounds-job-at c = stands_opt _ _ _ c.requires

pub returns-then-job-at-eq0 : goal.returns-then-job-at-eq0
returns-then-job-at-eq0 c = λ e o l is. int_absent _ o (opt_zero _ _ c.if-job-at-eq0.true e o l is)

pub head-kind-requires : goal.head-kind-requires
head-kind-requires c = stands_some _ _ _ c.requires c.if-job-at-eq0.false

pub returns-then-kind-ne1 : goal.returns-then-kind-ne1
returns-then-kind-ne1 c = λ e o l is. int_other _ _ _ (λ h. c.if-kind-ne1.true (c.head-kind.ensures.kind ∙ h)) e o is

pub int_cell-requires : goal.int_cell-requires
int_cell-requires c = rw c.if-kind-ne1.false at c.head-kind.ensures

pub returns : goal.returns
returns c = λ e o l is. c.int_of.ensures _ ∙ ap int64_of (opt_there _ _ _ _ c.if-job-at-eq0.false c.int_cell.ensures e o l is).cell
