use Rattle.column.proofs.Columns.{opt_end_absent, opt_end_there}
use Rattle.codec.proofs.Field.{stands_opt, stands_some}
use Rattle.column.proofs.data.after_opt.Goals as goal

pub returns-then-job-at-eq0 : goal.returns-then-job-at-eq0
returns-then-job-at-eq0 c = opt_end_absent _ _ c.if-job-at-eq0.true

pub after_column-requires : goal.after_column-requires
after_column-requires c = stands_some _ _ _ c.requires c.if-job-at-eq0.false

pub bounds-job-at : goal.bounds-job-at
bounds-job-at c = stands_opt _ _ _ c.requires

pub returns : goal.returns
returns c = opt_end_there _ _ _ c.if-job-at-eq0.false c.after_column.ensures
