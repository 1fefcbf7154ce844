use Rattle.repeat_segment.proofs.JoinLaws.{RepeatSoFar}
use Rattle.repeat_segment.specs.Chunk.{parts_in}
use Rattle.repeat_segment.proofs.join.put_positions.Given as goal

abbrev pub invariant-loop-p : goal.invariant-loop-p
invariant-loop-p l = RepeatSoFar l.sep l.last (parts_in l.chunk) l.initial.t l.initial.doc l.p l.t l.doc
