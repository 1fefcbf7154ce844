use Rattle.column.proofs.Equal.{stretches}
use Rattle.column.proofs.same.same_bytes.Goals as goal

pub returns : goal.returns
returns c = stretches c.args.job.now c.args.s c.args.n c.args.t c.args.m _ c.eq.ensures
