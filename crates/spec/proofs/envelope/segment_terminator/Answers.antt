use mathlib.Core.Path.{refl}
use Rattle.codec.proofs.Field.{is_at, stands_le, stands_at}
use Rattle.spec.proofs.ReadsLaws.{byte_reads}
use native.Mathlib.Omega.{arith}
use Rattle.spec.proofs.envelope.segment_terminator.Goals as goal

pub bounds-job-p : goal.bounds-job-p
bounds-job-p c = omega (arith, stands_le _ _ _ (stands_at _ _ _ _ _ _ c.place-p.ensures.0 c.requires.within c.requires.segment))

pub returns : goal.returns
returns c = byte_reads _ _ _ refl _ _ (is_at _ _ _ _ _ _ c.place-p.ensures.0 c.requires.segment)
