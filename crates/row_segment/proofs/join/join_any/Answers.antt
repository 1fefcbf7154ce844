use Prim.Native.Nat.{◌≤◌}
use native.Mathlib.Omega.{arith}
use lib.ListN.{length}
use Rattle.lent.specs.Fit.{cap}
use Rattle.lent.proofs.Fit.{wide}
use Rattle.row_segment.proofs.NoteLaws.{room_first, small_first, between_room}
use Rattle.row_segment.proofs.RowLaws.{line_joined}
use Rattle.row_segment.proofs.join.join_any.Goals as goal
use Rattle.row_segment.proofs.join.join_any.Goals.{Start}

pub put_groups-g-requires : goal.put_groups-g-requires
put_groups-g-requires c =
    let l = c.first_part-n.ensures in
    (c.requires, c.tried_of-y.ensures, l.sees, room_first _ _ c.requires _ l _ _ c.none_noted-t.ensures (omega (arith, (goal.at.put_groups-g-requires c).Start)))

pub end_line-requires : goal.end_line-requires
end_line-requires c =
    let l = c.first_part-n.ensures in
    let e = c.none_noted-t.ensures in
    let g = c.put_groups-g.ensures in
    (c.requires, c.tried_of-y.ensures, g.0.sees, between_room g.1 (room_first _ _ c.requires _ l _ _ e (omega (arith, (goal.at.end_line-requires c).Start))), g.1.small (small_first _ _ c.requires _ l _ _ e))

pub returns : goal.returns
returns c =
    let a = c.args in
    let h : length a.doc.now ≤ cap = omega (arith, (goal.at.returns c).Start) in
    let k : length a.findings.now ≤ wide = omega (arith, (goal.at.returns c).Start) in
    line_joined a.job.at.bytes.now a.x _ _ c.requires h k c.separators_of-s.ensures c.first_part-n.ensures c.begin-pen.ensures c.none_noted-t.ensures c.put_groups-g.ensures c.end_line.ensures
