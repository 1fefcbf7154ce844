use Rattle.texts.proofs.Rendered.{says_as, envelope_years}
use Rattle.texts.proofs.render.envelope_date.Goals as goal

pub returns : goal.returns
returns c = says_as c.date_by.ensures (envelope_years _ _ c.ranges.days)
