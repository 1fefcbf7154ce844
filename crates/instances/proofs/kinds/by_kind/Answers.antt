use mathlib.Core.Path.{ap, ◌∙◌}
use Rattle.nest.specs.OfJob.{kind_in}
use Rattle.plan.specs.Answers.{instances_of}
use Rattle.instances.proofs.Made.{kind_of_lem, of_absent, of_envelope_lem, of_rows, of_groups, of_inside}
use Rattle.instances.proofs.kinds.by_kind.Goals as goal

pub returns-in-Absent : goal.returns-in-Absent
returns-in-Absent c = of_absent _ _ _ _ c.requires.0 c.requires.1 _ (kind_of_lem _ _ c.args.kind c.requires.2 ∙ ap (λ k. kind_in (instances_of k)) c.in-Absent.is) c.rowless.ensures

pub returns-in-Envelope : goal.returns-in-Envelope
returns-in-Envelope c = of_envelope_lem _ _ _ _ c.requires.0 c.requires.1 _ (kind_of_lem _ _ c.args.kind c.requires.2 ∙ ap (λ k. kind_in (instances_of k)) c.in-Envelope.is) c.rowless-in-Envelope.ensures

pub returns-in-Rows : goal.returns-in-Rows
returns-in-Rows c = of_rows _ _ _ _ c.requires.0 c.requires.1 _ _ (kind_of_lem _ _ c.args.kind c.requires.2 ∙ ap (λ k. kind_in (instances_of k)) c.in-Rows.is) c.listed.ensures

pub returns-in-Inside : goal.returns-in-Inside
returns-in-Inside c = of_inside _ _ _ _ c.requires.0 c.requires.1 _ _ (kind_of_lem _ _ c.args.kind c.requires.2 ∙ ap (λ k. kind_in (instances_of k)) c.in-Inside.is) c.inside_itself.ensures

pub returns-in-Groups : goal.returns-in-Groups
returns-in-Groups c = of_groups _ _ _ _ c.requires.0 c.requires.1 _ _ (kind_of_lem _ _ c.args.kind c.requires.2 ∙ ap (λ k. kind_in (instances_of k)) c.in-Groups.is) c.listed-in-Groups.ensures
