use mathlib.Core.Path.{sym, ◌∙◌}
use Rattle.codes.proofs.Whole.{codes_decided}
use Rattle.codes.proofs.codes_clear.Goals as goal

pub returns-then-not-in_plan : goal.returns-then-not-in_plan
returns-then-not-in_plan c = codes_decided _ c.args.job.ready.passed _ c.marks-m.ensures _ _ _ _ _ c.start-plan.ensures c.section.ensures.1 (rw c.section.ensures.0 at c.plan_marked-in_plan.ensures) (rw (c.spec_of.ensures.0, c.spec_of.ensures.1 ∙ sym c.start-plan.ensures) at c.spec_marked-in_spec.ensures) (rw c.if-not-in_plan.true)

pub returns-else-not-in_plan : goal.returns-else-not-in_plan
returns-else-not-in_plan c = codes_decided _ c.args.job.ready.passed _ c.marks-m.ensures _ _ _ _ _ c.start-plan.ensures c.section.ensures.1 (rw c.section.ensures.0 at c.plan_marked-in_plan.ensures) (rw (c.spec_of.ensures.0, c.spec_of.ensures.1 ∙ sym c.start-plan.ensures) at c.spec_marked-in_spec.ensures) (rw c.if-not-in_plan.false)
