use Rattle.repeat_segment.proofs.HighLaws.{high_nowhere, high_there}
use Rattle.plan.specs.Answers.{element_of}
use mathlib.Core.Path.{sym, ◌∙◌}
use Rattle.repeat_segment.proofs.last.highest_at.Goals as goal

pub returns-in-None : goal.returns-in-None
returns-in-None c = let a = c.args in let j = a.job.at.bytes.now in high_nowhere j a.s a.q a.k a.r.0 (element_of j a.e) (sym (c.place_of-place.ensures j) ∙ c.in-None.is)

pub returns-in-Some : goal.returns-in-Some
returns-in-Some c = let a = c.args in let j = a.job.at.bytes.now in c.number_if.ensures ∙ high_there j a.s a.q a.k a.r.0 (element_of j a.e) _ _ (sym (c.place_of-place.ensures j) ∙ c.in-Some.is) c.number_of.ensures
