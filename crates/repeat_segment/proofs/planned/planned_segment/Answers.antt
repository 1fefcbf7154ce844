use Rattle.repeat_segment.proofs.FillLaws.{planned_of_lem}
use mathlib.Core.Path.{refl}
use Rattle.repeat_segment.proofs.planned.planned_segment.Goals as goal

pub returns : goal.returns
returns c =
    let a = c.args in
    let p = c.segment-s.ensures.segment in
    (planned_of_lem _ _ a.l a.i a.t _ _ _ _ _ c.args.job.ready p.occurrence c.occurrence-id.ensures c.step-step.ensures p.first p.count, refl, refl, refl)
