use Rattle.codec.proofs.Field.{stands_opt, stands_some}
use Rattle.column.proofs.Columns.{opt_zero, opt_absent, opt_there}
use Rattle.column.proofs.data.opt_get.Goals as goal

pub bounds-job-at : goal.bounds-job-at
bounds-job-at c = stands_opt _ _ _ c.requires

pub returns-then-job-at-eq0 : goal.returns-then-job-at-eq0
returns-then-job-at-eq0 c = λ e o l is. opt_absent _ _ o (opt_zero _ _ c.if-job-at-eq0.true e o l is)

pub get-requires : goal.get-requires
get-requires c = stands_some _ _ _ c.requires c.if-job-at-eq0.false

pub returns : goal.returns
returns c = opt_there _ _ _ _ c.if-job-at-eq0.false c.get.ensures
