use Rattle.trigger.proofs.Laws.{close_endless, close_is, text_gone, text_there}
use Rattle.emit.proofs.DidLaws.{did_nothing}
use Rattle.emit.proofs.StateLaws.{number_in}
use Rattle.spec.specs.Answers.{rule_of, stretch_of}
use Rattle.segment.specs.Values.{value_text}
use Rattle.emit.specs.Did.{state_of, state_with}
use Rattle.format.specs.Sections.{job_of}
use mathlib.Core.Path.{refl, sym}
use lib.ListN.{set}
use Rattle.trigger.proofs.close_loop.Goals as goal

pub returns-in_default : goal.returns-in_default
returns-in_default c = λ f p high counter h. rw (close_endless _ _ _ _ _ _ _ c.requires.2 (text_gone _ _ _ c.loop_end.ensures.bytes c.in_default.is)) (did_nothing _ c.requires.0)

pub returns : goal.returns
unfolding stretch_of
returns c = λ f p high counter h. let a = c.args in let b = a.job.at.bytes.now in rw (close_is (job_of b) a.l.0 a.opened a.children a.count (state_of (state_with high (set counter a.l.0 a.number) a.s)) (rule_of a.c) (stretch_of b c.in-Some.id) (value_text b c.repeated-control.result) a.number c.counted-n.result c.requires.2 (text_there _ _ _ c.loop_end.ensures.bytes _ c.in-Some.is) (number_in high counter a.l.0 a.number a.s h) (c.repeated-control.ensures (rule_of a.c) refl) c.counted-n.ensures) (c.write_closer.ensures (job_of b) (rule_of a.c) f p (sym c.separators_of-sep.ensures) refl refl c.requires.0 high (set counter a.l.0 a.number))
