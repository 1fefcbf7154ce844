use Rattle.format.specs.Spec.{Table}
use Rattle.spec.proofs.Index.{table_lacks, table_is, table_stands}
use Rattle.format.specs.Ask.{step_of}
use Rattle.spec.proofs.tables.step.Goals as goal

pub returns-in_default : goal.returns-in_default
unfolding step_of
returns-in_default c = rw (table_lacks _ _ c.requires _ _ _ c.table_field.ensures c.in_default.is)

pub step_at-requires : goal.step_at-requires
step_at-requires c = table_stands _ _ c.requires _ _ _ _ (λ (v : Table). v.repeat) c.requires.repeat c.table_field.ensures _ c.in-Some.is

pub returns : goal.returns
unfolding step_of
returns c = c.step_at.ensures _ _ (table_is _ _ c.requires _ _ _ _ (λ (v : Table). v.repeat) c.requires.repeat c.table_field.ensures _ c.in-Some.is)
