use Rattle.paths.proofs.Bridge.{parent_small}
use Rattle.paths.proofs.Answers.{up_top, up_past}
use mathlib.Core.Path.{sym, ◌∙◌}
use Rattle.paths.proofs.up.step_up.Goals as goal

pub past_loop-requires : goal.past_loop-requires
past_loop-requires c = parent_small _ c.args.job.ready.passed _ _ (sym c.loop_parent.ensures ∙ c.in-Some.is)

pub returns-in-Some : goal.returns-in-Some
returns-in-Some c = up_past _ _ _ _ c.loop_parent.ensures _ c.past_loop.result c.in-Some.is c.past_loop.ensures

pub returns-in-None : goal.returns-in-None
returns-in-None c = up_top _ _ _ _ c.loop_parent.ensures c.top.result c.in-None.is c.top.ensures
