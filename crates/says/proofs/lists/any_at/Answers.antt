use Rattle.says.proofs.Asked.{told_found}
use Rattle.says.proofs.Pass.{clears_found}
use Rattle.says.proofs.lists.any_at.Goals as goal

pub returns-clause-says : goal.returns-clause-says
returns-clause-says g c f h = clears_found _ _ _ _ _ _ _ (c.any_clear.ensures.says f h) c.is_none.ensures

pub returns-clause-asked : goal.returns-clause-asked
returns-clause-asked g c = told_found _ _ _ _ _ _ _ _ c.any_clear.ensures.asked c.is_none.ensures
