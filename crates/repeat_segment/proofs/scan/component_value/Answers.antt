use Rattle.repeat_segment.proofs.FirstLaws.{later_ranked}
use Rattle.repeat_segment.specs.Chunk.{parts_in}
use native.Mathlib.Omega.{arith}
use Rattle.repeat_segment.proofs.scan.component_value.Goals as goal

pub returns : goal.returns
returns c = let a = c.args in later_ranked (parts_in a.chunk) a.p a.c _ c.if-c-eq1.false (omega arith) c.ranked_value.ensures
