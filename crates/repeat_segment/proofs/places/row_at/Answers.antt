use Rattle.repeat_segment.proofs.PlaceLaws.{lowest_here, lowest_column, lowest_group, lowest_code}
use Rattle.repeat_segment.proofs.places.row_at.Goals as goal

pub returns-then-e-p : goal.returns-then-e-p
returns-then-e-p c = λ b. let a = c.args in lowest_here b a.e a.step a.p c.if-e-p.true

pub returns-in-Column : goal.returns-in-Column
returns-in-Column c = λ b. let a = c.args in lowest_column b a.e a.step a.p _ c.in-Column.is c.if-e-p.false

pub returns-in-Group : goal.returns-in-Group
returns-in-Group c = λ b. let a = c.args in lowest_group b a.e a.step a.p _ _ c.in-Group.is c.if-e-p.false c.group_row.ensures

pub returns-in-Code : goal.returns-in-Code
returns-in-Code c = λ b. let a = c.args in lowest_code b a.e a.step a.p _ c.in-Code.is c.if-e-p.false
