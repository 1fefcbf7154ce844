use Rattle.format.specs.Spec.{Table}
use Rattle.spec.proofs.Index.{table_lacks, table_is, table_stands}
use Rattle.spec.proofs.Standing.{stands_flag}
use Rattle.spec.proofs.ReadsLaws.{flag_reads}
use Rattle.spec.proofs.tables.repeats.Goals as goal

pub returns-in_default : goal.returns-in_default
returns-in_default c = rw (table_lacks _ _ c.requires _ _ _ c.table_field.ensures c.in_default.is)

pub flag_at-requires : goal.flag_at-requires
flag_at-requires c = stands_flag _ _ (table_stands _ _ c.requires _ _ _ _ (λ (v : Table). v.segment) c.requires.segment c.table_field.ensures _ c.in-Some.is)

pub returns : goal.returns
returns c = flag_reads _ _ _ c.flag_at.ensures _ _ (table_is _ _ c.requires _ _ _ _ (λ (v : Table). v.segment) c.requires.segment c.table_field.ensures _ c.in-Some.is)
