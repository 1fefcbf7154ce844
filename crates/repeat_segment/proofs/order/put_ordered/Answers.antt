use Rattle.repeat_segment.proofs.OrderLaws.{ordered_stored}
use Rattle.repeat_segment.specs.Chunk.{parts_in}
use Rattle.lent.specs.Fit.{cap}
use lib.ListN.{length}
use Prim.Native.Nat.{◌≤◌}
use native.Mathlib.Omega.{arith}
use Rattle.repeat_segment.proofs.order.put_ordered.Goals as goal
use Rattle.repeat_segment.proofs.order.put_ordered.Goals.{Start}

pub returns : goal.returns
returns c = let a = c.args in let h : length a.doc.now ≤ cap = omega (arith, (goal.at.returns c).Start) in ordered_stored a.sep a.chunk.job.at.bytes.now a.chunk.segment (parts_in a.chunk) c.requires.0 h c.requires.1 c.begin-pen.ensures c.put_rows-end.ensures c.close.ensures
