use Rattle.format.proofs.Ends.{skip_usage}
use Rattle.format.proofs.Fields.{is_loop}
use Rattle.codes.specs.Rules.{wrong_loop}
use Rattle.says.proofs.Walk.{says_at}
use Rattle.codes.proofs.rules.loop_wrong.Goals as goal

pub returns : goal.returns
unfolding wrong_loop
returns c v i = let l = is_loop _ _ _ v i in says_at _ _ _ _ _ _ _ _ c.opt_control_wrong.ensures l.control (simp (skip_usage) (cc))
