use mathlib.Core.Path.{sym, ap, ◌∙◌}
use Rattle.std.proofs.lemmas.Result.{err_from_is_err_and}
use Rattle.refusal.specs.Answer.{number_of}
use Rattle.format.proofs.Passed.{passed}
use Rattle.writer.proofs.AnswerLaws.{wrote_not}
use Rattle.writer.proofs.window.Goals as goal

pub passed-requires : goal.passed-requires
passed-requires c = passed _ (sym c.check.ensures ∙ ap number_of c.in_ok-check.was)

pub returns-in_err-check : goal.returns-in_err-check
returns-in_err-check c =
    let p = err_from_is_err_and c.from_residual.result c.from_residual.ensures.1 in
    rw (p.1, p.2) (wrote_not _ (sym (ap number_of c.in_err-check.was) ∙ c.check.ensures))
