use native.Mathlib.Omega.{arith}
use Rattle.writer.proofs.FilledLaws.{wrote_filled}
use Rattle.writer.proofs.walked.Goals as goal

pub returns : goal.returns
returns c = wrote_filled {b = c.args.job.now} c.args.from _ (λ i. omega (arith, c.type_inv.job i)) c.requires.0.ready.passed c.requires.1 c.start_of-start.ensures c.written-s.ensures c.answer_of.ensures
