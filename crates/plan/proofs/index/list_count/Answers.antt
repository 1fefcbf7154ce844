use Rattle.codec.specs.Codec.{le}
use mathlib.Core.Path.{ap, ◌∙◌}
use Rattle.plan.proofs.index.list_count.Goals as goal

pub returns : goal.returns
returns c = c.num_in.ensures.0 ∙ ap (le 4 _) c.place-p.ensures.0
