use native.Mathlib.Omega.{arith}
use Rattle.tables.proofs.Filled.{few_counted, filled}
use Rattle.tables.proofs.fill.fill.Goals as goal

pub tables_into-requires : goal.tables_into-requires
tables_into-requires c = (few_counted _ _ _ _ c.requires c.num_in-start.ensures.0 (omega arith) c.count_at-n.ensures.0, c.count_at-n.ensures.0)

pub refs_into-requires : goal.refs_into-requires
refs_into-requires c = few_counted _ _ _ _ c.requires c.num_in-start.ensures.0 (omega arith) c.count_at-n.ensures.0

pub firsts_into-requires : goal.firsts_into-requires
firsts_into-requires c = few_counted _ _ _ _ c.requires c.num_in-start.ensures.0 (omega arith) c.count_at-n.ensures.0

pub returns : goal.returns
returns c = filled _ _ _ _ _ _ _ _ c.requires c.num_in-start.ensures.0 (omega arith) c.count_at-n.ensures.0 c.tables_into.ensures c.refs_into.ensures c.firsts_into.ensures.0 c.firsts_into.ensures.1
