use Rattle.plan.proofs.Elements.{element_stands, element_step}
use Rattle.due.proofs.cells.element.Goals as goal

pub element_at-requires : goal.element_at-requires
element_at-requires c = element_stands _ _ c.args.job.ready.plan _ _ _ c.requires.0 c.requires.1

pub returns : goal.returns
returns c = element_step _ _ c.args.job.ready.plan _ _ _ c.requires.0 c.requires.1 _ c.element_at.ensures
