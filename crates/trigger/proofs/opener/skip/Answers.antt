use Rattle.trigger.proofs.Draws.{draw_none, reach_none}
use Rattle.emit.proofs.FindingLaws.{none_stored}
use mathlib.Core.List.{[]}
use Rattle.trigger.proofs.opener.skip.Goals as goal

pub returns : goal.returns
returns c = λ s d f. record { drawn = draw_none c.args.at.stuck 0 []; findings = none_stored c.more-findings.ensures; entries = c.more-entries.ensures; last = reach_none c.args.at.last }
