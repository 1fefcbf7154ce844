use native.Mathlib.Omega.{arith}
use Prim.Native.Nat.{◌<◌}
use mathlib.Core.Path.{◌≡◌}
use lib.ListN.{length}
use Rattle.std.specs.Prelude.{None}
use Rattle.instances.proofs.Cursors.{further, came_run, runs_over}
use borrow.Author.Rules.{rules}
use Rattle.instances.proofs.pieces.next_piece.Goals as goal

pub returns-in_err-a : goal.returns-in_err-a
returns-in_err-a c = let e : c.from_residual.result ≡ None = search rules in rw e (runs_over _ _ _ c.requires.1 (c.next_row.ensures.over c.in_err-a.was))

pub run_end-e-requires : goal.run_end-e-requires
run_end-e-requires c = let h = c.next_row.ensures.row _ c.in_ok-a.was in let f = further _ _ _ _ _ _ c.moved-first.ensures c.requires.0 h.inner in (f.0, f.1)

pub overflow_sub-result : goal.overflow_sub-result
overflow_sub-result c = let h = c.next_row.ensures.row _ c.in_ok-a.was in omega (arith, h.place)

pub returns : goal.returns
returns c = let e : length c.args.cur.context.rows ≡ 16 = search rules in let w : c.args.cur.table.0 < length c.args.cur.context.rows = omega (arith, e, c.requires.0.a_table) in came_run _ _ _ _ _ _ c.requires.1 w c.requires.0 (c.next_row.ensures.row _ c.in_ok-a.was) c.moved-first.ensures c.run_end-e.ensures
