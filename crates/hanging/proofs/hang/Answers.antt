use Rattle.std.proofs.Common.{rules, sym, ap, ◌∙◌}
use Rattle.format.proofs.Passed.{passed}
use Rattle.refusal.specs.Answer.{number_of}
use Rattle.hanging.proofs.Laws.{nested, refused}
use Rattle.hanging.proofs.hang.Goals as goal

-- the job is refused: the list is as it was
pub returns-in_err-check-clause-nest_after : goal.returns-in_err-check-clause-nest_after
returns-in_err-check-clause-nest_after c = refused _ _ _ (sym (ap number_of c.in_err-check.was) ∙ c.check.ensures)

pub fill_index-requires : goal.fill_index-requires
fill_index-requires c = (passed _ (sym c.check.ensures ∙ ap number_of c.in_ok-check.was), search rules)

-- the job is not refused: the list holds where its rows hang
pub returns-clause-nest_after : goal.returns-clause-nest_after
returns-clause-nest_after c = nested _ _ _ (sym c.check.ensures ∙ ap number_of c.in_ok-check.was) c.nested.ensures
