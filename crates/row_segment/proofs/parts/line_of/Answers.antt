use mathlib.Core.Path.{refl}
use Rattle.row_segment.proofs.StreamLaws.{lined}
use Rattle.row_segment.proofs.parts.line_of.Goals as goal

pub returns : goal.returns
returns c =
    let p = c.requires.1.segment in
    (lined _ _ c.args.job.ready.passed c.requires.0 p.count p.first p.occurrence c.occurrence-id.ensures, refl, refl, refl, refl)
