use native.Mathlib.Omega.{arith}
use Prim.Native.Nat.{◌≤◌}
use mathlib.Core.List.{[]}
use lib.ListN.{length}
use Rattle.lent.specs.Fit.{cap}
use Rattle.lent.proofs.Fit.{wide}
use Rattle.emit.specs.Fold.{stop_out}
use Rattle.repeats.proofs.RowLaws.{table_small}
use Rattle.repeats.proofs.Adding.{row_added, mark_small}
use borrow.Author.Rules.{rules}
use Rattle.repeats.proofs.add_row.Goals as goal
use Rattle.repeats.proofs.add_row.Goals.{Start}

pub enter-n-requires : goal.enter-n-requires
enter-n-requires c = (c.requires.0, table_small c.args.nest.nested.ready _ _ c.requires.2, c.requires.2)

pub fill_row-n-requires : goal.fill_row-n-requires
fill_row-n-requires c = (mark_small _ (stop_out _ _ _ _) (c.enter-n.ensures [] []), c.requires.1, c.requires.3)

pub returns : goal.returns
returns c = let a = c.args in let hf : length a.findings.now ≤ wide = omega (arith, (goal.at.returns c).Start) in let hp : length a.stops.now ≤ cap = omega (arith, (goal.at.returns c).Start) in (row_added _ _ _ _ _ _ hf hp c.enter-n.ensures c.fill_row-n.ensures, search rules)
