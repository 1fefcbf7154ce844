use Rattle.nest.proofs.Claiming.{anchor_here}
use mathlib.Core.Path.{◌∙◌}
use Rattle.nest.proofs.hang.anchor.Goals as goal

pub returns-then-depth_at-d : goal.returns-then-depth_at-d
returns-then-depth_at-d c = anchor_here _ _ _ _ (c.depth_at.ensures.value ∙ c.requires.0.of _ c.requires.1) _ _ c.if-depth_at-d.true c.instances.ensures c.row_table.ensures
