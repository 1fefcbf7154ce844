use Rattle.format.specs.Spec.{Table}
use Rattle.spec.proofs.Index.{table_lacks, table_is, table_stands}
use Rattle.spec.proofs.tables.table_loop.Goals as goal

pub returns-in_default : goal.returns-in_default
returns-in_default c = rw (table_lacks _ _ c.requires _ _ _ c.table_field.ensures c.in_default.is)

pub item_at-requires : goal.item_at-requires
item_at-requires c = table_stands _ _ c.requires _ _ _ _ (λ (v : Table). v.loops) c.requires.table_loops c.table_field.ensures _ c.in-Some.is

pub returns : goal.returns
returns c = c.item_at.ensures _ _ (table_is _ _ c.requires _ _ _ _ (λ (v : Table). v.loops) c.requires.table_loops c.table_field.ensures _ c.in-Some.is)
