use Rattle.format.specs.Spec.{Loop}
use Rattle.spec.proofs.Index.{loop_lacks, loop_is, loop_stands}
use Rattle.spec.proofs.Standing.{stands_usage}
use Rattle.spec.proofs.ReadsLaws.{usage_reads}
use Rattle.spec.proofs.loops.required.Goals as goal

pub returns-in_default : goal.returns-in_default
returns-in_default c = rw (loop_lacks _ _ c.requires _ _ _ c.loop_field.ensures c.in_default.is)

pub flag_at-requires : goal.flag_at-requires
flag_at-requires c = stands_usage _ _ (loop_stands _ _ c.requires _ _ _ _ (λ (v : Loop). v.usage) c.requires.usage c.loop_field.ensures _ c.in-Some.is)

pub returns : goal.returns
returns c = usage_reads _ _ _ c.flag_at.ensures _ _ (loop_is _ _ c.requires _ _ _ _ (λ (v : Loop). v.usage) c.requires.usage c.loop_field.ensures _ c.in-Some.is)
