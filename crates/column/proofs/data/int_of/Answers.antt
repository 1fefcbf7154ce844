use Rattle.column.proofs.Read.{no_int}
use Rattle.column.specs.Answers.{cell_at}
use Rattle.column.proofs.data.int_of.Goals as goal

pub returns-in-Int : goal.returns-in-Int
unfolding cell_at
returns-in-Int c = λ b. rw c.in-Int.is

pub returns-in_default : goal.returns-in_default
returns-in_default c = λ b. no_int b _ c.in_default.not-Int
