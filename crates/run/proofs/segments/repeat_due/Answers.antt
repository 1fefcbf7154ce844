use Rattle.walk.specs.Contexts.{context_by}
use Rattle.run.proofs.Taking.{repeat_there, repeat_past}
use Rattle.run.proofs.segments.repeat_due.Goals as goal

pub returns-then-t-ge16 : goal.returns-then-t-ge16
returns-then-t-ge16 c = repeat_past _ _ c.args.t (context_by c.args.c) c.args.job.ready c.if-t-ge16.true

pub returns : goal.returns
returns c = repeat_there _ _ c.args.t c.args.c _ _ _ c.args.job.ready c.requires.0 c.has_occurrence.ensures c.own_row.ensures c.if-not-has_occurrence.false c.in_ok-own.was c.if-t-ge16.false
