use Rattle.format.proofs.Fields.{is_version}
use Rattle.format.specs.Refusal.{over_version}
use Rattle.says.proofs.Walk.{says_at}
use Rattle.limits.proofs.version_over.Goals as goal

pub returns : goal.returns
unfolding over_version
returns c v i = let l = is_version _ _ _ v i in (says_at _ _ _ _ _ _ _ _ c.large_at.ensures l.element (cc))
