use Rattle.format.proofs.Fields.{is_version}
use Rattle.codes.specs.Codes.{marked_version}
use Rattle.says.proofs.Walk.{says_at}
use Rattle.codes.proofs.codes.version_marked.Goals as goal

pub returns : goal.returns
unfolding marked_version
returns c v i = let l = is_version _ _ _ v i in says_at _ _ _ _ _ _ _ _ c.text_marked.ensures l.first (cc)
