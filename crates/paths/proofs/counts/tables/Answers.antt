use Rattle.nest.proofs.Bridge.{table_count_is}
use native.Mathlib.Omega.{arith}
use mathlib.Core.Path.{sym, ◌∙◌}
use Rattle.paths.proofs.counts.tables.Goals as goal

pub returns : goal.returns
returns c = (c.table_count.ensures ∙ sym (table_count_is _), omega (arith, c.table_count.ensures, c.args.job.ready.spec.few_tables))
