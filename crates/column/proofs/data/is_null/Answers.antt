use Rattle.std.proofs.Common.{inl, inr}
use Rattle.column.proofs.Read.{not_null}
use Rattle.column.specs.Answers.{cell_at}
use Rattle.column.proofs.data.is_null.Goals as goal

pub returns-in-None : goal.returns-in-None
unfolding cell_at
returns-in-None c = λ b. elim c.in-None.is [ inl h ↦ rw h | inr h ↦ rw h ]

pub returns-in_default : goal.returns-in_default
returns-in_default c = λ b. not_null b _ c.in_default.not-None c.in_default.not-Null
