use Rattle.row_segment.specs.Stream.{part_put}
use Rattle.row_segment.proofs.parts.seen.Goals as goal

pub returns-in-Column : goal.returns-in-Column
unfolding part_put
returns-in-Column c = λ b x. rw (c.told.ensures, c.in-Column.is)

pub returns-in-Code : goal.returns-in-Code
unfolding part_put
returns-in-Code c = λ b x. rw (c.told-in-Code.ensures, c.in-Code.is)
