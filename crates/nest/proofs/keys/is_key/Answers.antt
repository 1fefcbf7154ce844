use Rattle.nest.proofs.Rising.{key_there, key_other, key_past}
use borrow.Author.Tests.{eqb-true, eqb-false}
use Rattle.nest.proofs.keys.is_key.Goals as goal

pub returns-then-k-row_count-clause-there : goal.returns-then-k-row_count-clause-there
returns-then-k-row_count-clause-there c = λ z. key_there _ _ _ _ _ _ c.row_count.ensures c.if-k-row_count.true c.key.ensures (eqb-true _ _ z)

pub returns-then-k-row_count-clause-not_there : goal.returns-then-k-row_count-clause-not_there
returns-then-k-row_count-clause-not_there c = λ z. key_other _ _ _ _ _ c.key.ensures (eqb-false _ _ z)

pub returns-else-k-row_count-clause-not_there : goal.returns-else-k-row_count-clause-not_there
returns-else-k-row_count-clause-not_there c = λ z. key_past _ _ _ _ _ c.row_count.ensures c.if-k-row_count.false
