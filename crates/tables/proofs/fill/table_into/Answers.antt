use Rattle.tables.proofs.Filled.{table_more}
use Rattle.tables.proofs.fill.table_into.Goals as goal

pub returns : goal.returns
returns c = λ start old h. table_more _ _ start _ _ _ _ _ old _ _ _ c.requires c.put.ensures c.refs_at-refs.ensures c.ends_at-columns.ensures c.list_into.ensures h
