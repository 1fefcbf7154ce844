use Rattle.row_segment.proofs.write_row.Goals as goal

pub returns : goal.returns
returns c =
    let e = c.line_of-x.ensures in
    λ p. rw (e.1, e.2, e.3, e.4) at (c.put_line.ensures p)
