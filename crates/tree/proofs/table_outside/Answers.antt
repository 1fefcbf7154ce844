use mathlib.Core.Path.{refl}
use Rattle.format.proofs.Fields.{is_table}
use Rattle.format.specs.Refusal.{outside_table}
use Rattle.says.proofs.Walk.{says_at}
use Rattle.tree.proofs.table_outside.Goals as goal

pub returns-clause-says : goal.returns-clause-says
unfolding outside_table
returns-clause-says c v i = let l = is_table _ _ _ v i in (says_at _ _ _ _ _ _ _ _ c.outsides_at.ensures.says l.loops (refl))
