use Rattle.spec.proofs.Filling.{few_loops, few_at, fill_done}
use Rattle.spec.proofs.Filled.{spec_filled}
use Rattle.spec.proofs.fill.fill_spec.Goals as goal

pub loops_into-roots-requires : goal.loops_into-roots-requires
loops_into-roots-requires c = rw (c.spec_of-s.ensures.0, c.spec_of-s.ensures.1) (few_loops _ c.requires)

pub tables_into-version-requires : goal.tables_into-version-requires
tables_into-version-requires c = rw c.spec_of-s.ensures.0 (few_at _ c.requires _ _ c.spec_of-s.ensures.1 c.fill_segments-tables.ensures.0)

pub returns : goal.returns
returns c = spec_filled _ _ _ _ _ (fill_done _ c.requires _ _ _ _ c.spec_of-s.ensures.1 (rw c.spec_of-s.ensures.0 at c.loops_into-roots.ensures.0) c.fill_segments-tables.ensures.0 (rw c.spec_of-s.ensures.0 at c.tables_into-version.ensures.0) _ _ _ _ _ (rw c.spec_of-s.ensures.0 at c.loops_into-roots.ensures.1) c.fill_segments-tables.ensures.2 (rw c.spec_of-s.ensures.0 at c.tables_into-version.ensures.1) c.heads_into.ensures) (c.fill_segments-tables.ensures.1, c.fill_segments-tables.ensures.2)
