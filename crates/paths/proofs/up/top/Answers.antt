use Rattle.paths.proofs.Answers.{top_no, top_yes}
use Rattle.paths.proofs.up.top.Goals as goal

pub returns-in-Some : goal.returns-in-Some
returns-in-Some c = top_no _ _ _ c.table_parent.ensures _ c.in-Some.is

pub returns-in-None : goal.returns-in-None
returns-in-None c = top_yes _ _ _ c.table_parent.ensures c.in-None.is
