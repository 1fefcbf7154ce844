use borrow.Author.Rules.{rules}
use Rattle.nest.proofs.RisingRows.{before_at, before_turns, parted}
use Rattle.nest.proofs.table_rows.TableRows.first_at.Goals as goal

pub returns : goal.returns
returns c =
    let a = c.args in
    parted _ _ _ _ _ _ (c.halve.ensures (before_at a.self.array.now a.self.base a.self.rows a.above) (λ k r h q. search rules) (before_turns _ _ _ _ c.requires.1))
