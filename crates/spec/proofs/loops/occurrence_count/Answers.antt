use Rattle.format.specs.Spec.{Loop}
use Rattle.spec.proofs.Index.{loop_lacks, loop_is, loop_stands}
use Rattle.codec.proofs.Field.{stands_list}
use Rattle.spec.proofs.ReadsLaws.{count_reads}
use Rattle.spec.proofs.loops.occurrence_count.Goals as goal

pub returns-in_default : goal.returns-in_default
returns-in_default c = rw (loop_lacks _ _ c.requires _ _ _ c.loop_field.ensures c.in_default.is)

pub num_in-requires : goal.num_in-requires
num_in-requires c = stands_list _ _ _ (loop_stands _ _ c.requires _ _ _ _ (λ (v : Loop). v.occurrences) c.requires.occurrences c.loop_field.ensures _ c.in-Some.is)

pub returns : goal.returns
returns c = count_reads _ _ _ _ c.num_in.ensures.0 _ _ (loop_is _ _ c.requires _ _ _ _ (λ (v : Loop). v.occurrences) c.requires.occurrences c.loop_field.ensures _ c.in-Some.is)
