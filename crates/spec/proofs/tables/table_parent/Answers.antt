use Rattle.format.specs.Spec.{Table}
use Rattle.spec.proofs.Index.{table_lacks, table_is, table_stands}
use Rattle.spec.proofs.tables.table_parent.Goals as goal

pub returns-in_err-p : goal.returns-in_err-p
returns-in_err-p c = rw c.from_residual.ensures (rw (table_lacks _ _ c.requires _ _ _ c.table_field.ensures c.in_err-p.was))

pub number_at-requires : goal.number_at-requires
number_at-requires c = table_stands _ _ c.requires _ _ _ _ (λ (v : Table). v.parent) c.requires.table_parent c.table_field.ensures _ c.in_ok-p.was

pub returns : goal.returns
returns c = c.number_at.ensures _ _ (table_is _ _ c.requires _ _ _ _ (λ (v : Table). v.parent) c.requires.table_parent c.table_field.ensures _ c.in_ok-p.was)
