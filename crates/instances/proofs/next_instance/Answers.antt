use Rattle.instances.proofs.Cursors.{came_none, came_one}
use Rattle.instances.proofs.next_instance.Goals as goal

pub returns-in-Nothing : goal.returns-in-Nothing
returns-in-Nothing c = came_none _ _ _ c.in-Nothing.is

pub returns-in-Itself : goal.returns-in-Itself
returns-in-Itself c = came_one _ _ _ c.in-Itself.is c.requires
