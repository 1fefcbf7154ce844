use Rattle.repeat_segment.proofs.PlaceLaws.{place_column, place_group, place_code}
use Rattle.repeat_segment.proofs.places.place_of.Goals as goal

pub returns-in-Column : goal.returns-in-Column
returns-in-Column c = λ b. let a = c.args in place_column b a.e a.step a.k _ _ c.in-Column.is c.first_only.ensures

pub returns-in-Group : goal.returns-in-Group
returns-in-Group c = λ b. let a = c.args in place_group b a.e a.step a.k _ _ c.in-Group.is c.moved.ensures

pub returns-in-Code : goal.returns-in-Code
returns-in-Code c = λ b. let a = c.args in place_code b a.e a.step a.k _ _ c.in-Code.is c.first_only-in-Code.ensures
