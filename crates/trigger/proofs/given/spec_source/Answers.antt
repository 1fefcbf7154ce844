use mathlib.Core.Path.{refl, sym, ◌∙◌}
use mathlib.Core.List.{[]}
use Rattle.format.specs.Sections.{job_of}
use Rattle.spec.specs.Answers.{stretch_of}
use Rattle.trigger.proofs.Givens.{rule_within, version_here, version_other, version_elsewhere, unversioned}
use Rattle.trigger.proofs.given.spec_source.Goals as goal
use Rattle.trigger.proofs.given.spec_source.Goals.{in_default-via-in-Some+then-same+else-v-x, in_default-via-in-Some+else-same, in_default-via-in_default}

pub same-requires : goal.same-requires
same-requires c = ((rule_within _ _ (job_of c.args.job.at.bytes.now) c.version.ensures [] 0 _ c.in-Some.is).0, c.requires)

pub returns-in-Some : goal.returns-in-Some
returns-in-Some c = λ y h. rw (version_here _ _ (job_of c.args.job.at.bytes.now) c.version.ensures (stretch_of c.args.job.at.bytes.now c.args.id) y.0 _ c.in-Some.is _ c.same.ensures c.if-same.true (c.if-v-x.true ∙ h.number)) (c.of_stretch.ensures _ _ (record { bytes = refl; within = (rule_within _ _ (job_of c.args.job.at.bytes.now) c.version.ensures [] 0 _ c.in-Some.is).1 }))

pub returns-in_default : goal.returns-in_default
returns-in_default c = λ y h.
    let j = job_of c.args.job.at.bytes.now in
    let id = stretch_of c.args.job.at.bytes.now c.args.id in
    elim c.in_default.branch [
      | in_default-via-in-Some+then-same+else-v-x w ↦ rw (version_other _ _ j c.version.ensures id y.0 _ w.in-Some.is _ w.same.ensures w.if-same.true (λ q. w.if-v-x.false (q ∙ sym h.number))) (c.code_source.ensures _ y h)
      | in_default-via-in-Some+else-same w ↦ rw (version_elsewhere _ _ j c.version.ensures id y.0 _ w.in-Some.is _ w.same.ensures w.if-same.false) (c.code_source.ensures _ y h)
      | in_default-via-in_default w ↦ rw (unversioned _ _ j c.version.ensures id y.0 w.in_default.is) (c.code_source.ensures _ y h)
    ]
