use mathlib.Core.Path.{refl}
use native.Mathlib.Omega.{arith}
use Rattle.format.proofs.Decoding.{read_job, sound_of}
use Rattle.format.specs.Refusal.{unfit}
use Rattle.says.proofs.Walk.{both, only, section_says}
use Rattle.says.proofs.Pass.{section_is, told_is}
use Rattle.codec.proofs.Joined.{or_pick, pick_pick}
use Rattle.marks.proofs.unfit_at.Goals as goal

pub invariant_of-spec_unfit : goal.invariant_of-spec_unfit
invariant_of-spec_unfit c = record { within = omega (arith, sound_of _ c.requires.0) }

pub invariant_of-envelope_unfit : goal.invariant_of-envelope_unfit
invariant_of-envelope_unfit c = record { within = omega (arith, sound_of _ c.requires.0) }

pub returns : goal.returns
unfolding unfit
returns c =
    let r = read_job _ c.requires.0 c.requires.1 in
    let x = told_is _ _ _ _ (c.spec_unfit.ensures _ (section_is _ _ _ _ _ _ _ refl c.start-plan.ensures r.spec)) c.is_none-x.ensures in
    let z = told_is _ _ _ _ (c.data_unfit.ensures _ (section_is _ _ _ _ _ _ _ c.start-data.ensures c.trailer-t.ensures r.tables)) c.is_none-z.ensures in
    simp (or_pick, pick_pick) (both _ _ _ _ _ refl x (both _ _ _ _ _ refl (section_says _ _ _ _ _ _ _ _ _ c.envelope_unfit-y.ensures c.start-envelope.ensures c.start-data.ensures r.envelope) (only _ _ z)))
