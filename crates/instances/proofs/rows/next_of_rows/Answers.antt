use Prim.Native.Nat.{◌<◌}
use mathlib.Core.Path.{◌≡◌}
use lib.ListN.{length}
use Rattle.std.specs.Prelude.{None}
use Rattle.instances.proofs.Cursors.{came_rows, rows_over}
use borrow.Author.Rules.{rules}
use Rattle.instances.proofs.rows.next_of_rows.Goals as goal

pub returns-in_err-a : goal.returns-in_err-a
returns-in_err-a c = λ o g. let e : c.from_residual.result ≡ None = search rules in rw e (rows_over o _ _ c.requires.2 (c.next_row.ensures.over c.in_err-a.was))

pub returns : goal.returns
returns c = let w : c.args.cur.table.0 < length c.args.cur.context.rows = search rules in λ o g. came_rows o _ _ _ c.requires.2 w g (c.next_row.ensures.row _ c.in_ok-a.was)
