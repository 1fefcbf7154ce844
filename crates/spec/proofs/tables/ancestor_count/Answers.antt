use Rattle.format.specs.Spec.{Table}
use Rattle.spec.proofs.Index.{table_lacks, table_is, table_stands}
use Rattle.codec.proofs.Field.{stands_list}
use Rattle.spec.proofs.ReadsLaws.{count_reads}
use Rattle.spec.proofs.tables.ancestor_count.Goals as goal

pub returns-in_default : goal.returns-in_default
returns-in_default c = rw (table_lacks _ _ c.requires _ _ _ c.table_field.ensures c.in_default.is)

pub num_in-requires : goal.num_in-requires
num_in-requires c = stands_list _ _ _ (table_stands _ _ c.requires _ _ _ _ (λ (v : Table). v.ancestors) c.requires.ancestors c.table_field.ensures _ c.in-Some.is)

pub returns : goal.returns
returns c = count_reads _ _ _ _ c.num_in.ensures.0 _ _ (table_is _ _ c.requires _ _ _ _ (λ (v : Table). v.ancestors) c.requires.ancestors c.table_field.ensures _ c.in-Some.is)
