use Rattle.texts.proofs.Rendered.{says_as, cell_years}
use Rattle.texts.proofs.render.date_text.Goals as goal

pub returns : goal.returns
returns c = says_as c.date_by.ensures (cell_years _ _ c.ranges.days)
