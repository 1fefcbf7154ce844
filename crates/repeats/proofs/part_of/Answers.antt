use mathlib.Core.Path.{sym, ◌∙◌}
use native.Mathlib.Omega.{arith}
use Rattle.repeats.proofs.RowLaws.{part_all, part_climbs, part_narrow}
use Rattle.repeats.proofs.part_of.Goals as goal

pub first_at-low-requires : goal.first_at-low-requires
first_at-low-requires c = (omega arith, part_climbs c.args.nest.nested _ c.args.p.0 _ c.table_of-w.ensures.0 c.table_of-w.ensures.1 c.table_of-w.ensures.2 c.requires.1 (sym c.rises.ensures ∙ c.if-rises.true))

pub first_at-high-requires : goal.first_at-high-requires
first_at-high-requires c = (c.first_at-low.ensures.within, part_climbs c.args.nest.nested _ c.args.p.0 _ c.table_of-w.ensures.0 c.table_of-w.ensures.1 c.table_of-w.ensures.2 c.requires.1 (sym c.rises.ensures ∙ c.if-rises.true))

pub returns-then-rises : goal.returns-then-rises
returns-then-rises c = part_narrow c.args.nest.nested _ _ _ c.table_of-w.ensures.0 c.table_of-w.ensures.1 c.table_of-w.ensures.2 c.requires.1 _ _ c.first_at-low.ensures c.first_at-high.ensures

pub returns : goal.returns
returns c = part_all c.args.nest.nested _ _ _ c.table_of-w.ensures.0 c.table_of-w.ensures.1 c.table_of-w.ensures.2 c.requires.1
