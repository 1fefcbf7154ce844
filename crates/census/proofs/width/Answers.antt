use mathlib.Core.Path.{ap, ◌∙◌}
use Rattle.nest.specs.OfJob.{kind_in}
use Rattle.plan.specs.Answers.{instances_of}
use Rattle.instances.proofs.Made.{kind_of_lem}
use Rattle.census.proofs.Widths.{width_absent, width_envelope, width_implied, width_inside, width_rows, width_groups}
use Rattle.census.proofs.width.Goals as goal

pub returns-in-Absent : goal.returns-in-Absent
returns-in-Absent c = width_absent _ _ (kind_of_lem _ _ c.instances-kind.result c.instances-kind.ensures ∙ ap (λ k. kind_in (instances_of k)) c.in-Absent.is)

pub returns-in-Envelope : goal.returns-in-Envelope
returns-in-Envelope c = width_envelope _ _ (kind_of_lem _ _ c.instances-kind.result c.instances-kind.ensures ∙ ap (λ k. kind_in (instances_of k)) c.in-Envelope.is)

pub returns-in-Rows : goal.returns-in-Rows
returns-in-Rows c = width_rows _ _ _ _ c.fan.ensures (kind_of_lem _ _ c.instances-kind.result c.instances-kind.ensures ∙ ap (λ k. kind_in (instances_of k)) c.in-Rows.is)

pub returns-in-Inside : goal.returns-in-Inside
returns-in-Inside c = width_inside _ _ _ (kind_of_lem _ _ c.instances-kind.result c.instances-kind.ensures ∙ ap (λ k. kind_in (instances_of k)) c.in-Inside.is)

pub returns-in-Groups : goal.returns-in-Groups
returns-in-Groups c = width_groups _ _ _ _ c.fan-in-Groups.ensures (kind_of_lem _ _ c.instances-kind.result c.instances-kind.ensures ∙ ap (λ k. kind_in (instances_of k)) c.in-Groups.is)

pub returns-in-Implied : goal.returns-in-Implied
returns-in-Implied c = width_implied _ _ (kind_of_lem _ _ c.instances-kind.result c.instances-kind.ensures ∙ ap (λ k. kind_in (instances_of k)) c.in-Implied.is)
