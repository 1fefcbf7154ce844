use Prim.Native.Nat.{◌≤◌}
use native.Mathlib.Omega.{arith}
use lib.ListN.{length}
use Rattle.lent.specs.Fit.{cap}
use Rattle.lent.proofs.Fit.{wide}
use Rattle.row_segment.proofs.OrderLaws.{line_ordered}
use Rattle.row_segment.proofs.order.join_ordered.Goals as goal
use Rattle.row_segment.proofs.order.join_ordered.Goals.{Start}

pub returns : goal.returns
returns c = let a = c.args in
    let h : length a.doc.now ≤ cap = omega (arith, (goal.at.returns c).Start) in
    let k : length a.findings.now ≤ wide = omega (arith, (goal.at.returns c).Start) in
    line_ordered a.job.at.bytes.now a.x c.put_parts-g.result c.requires.0 c.requires.1 h k c.separators_of-s.ensures c.begin-pen.ensures c.more-start.ensures c.put_parts-g.ensures c.close-bytes.ensures
