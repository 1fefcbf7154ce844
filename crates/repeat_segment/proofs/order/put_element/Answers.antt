use Rattle.repeat_segment.proofs.OrderLaws.{fed_nowhere, fed_there}
use Rattle.plan.specs.Answers.{element_of}
use mathlib.Core.Path.{sym, ◌∙◌}
use Rattle.repeat_segment.proofs.order.put_element.Goals as goal

pub returns-in-None : goal.returns-in-None
returns-in-None c = let a = c.args in let j = a.job.at.bytes.now in fed_nowhere j a.s a.k a.r.0 (element_of j a.e) (sym (c.place_of-place.ensures j) ∙ c.in-None.is)

pub returns-in-Some : goal.returns-in-Some
returns-in-Some c = let a = c.args in let j = a.job.at.bytes.now in fed_there j a.s a.k a.r.0 (element_of j a.e) _ (sym (c.place_of-place.ensures j) ∙ c.in-Some.is) c.put_source.ensures
