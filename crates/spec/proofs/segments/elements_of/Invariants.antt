use Rattle.spec.proofs.Found.{OtherNames}
use Rattle.spec.specs.Answers.{stretch_of}
use Rattle.spec.proofs.segments.elements_of.Given as goal

abbrev pub invariant-loop-k : goal.invariant-loop-k
invariant-loop-k l = OtherNames l.job.bytes.now (stretch_of l.job.bytes.now l.identifier) l.k
