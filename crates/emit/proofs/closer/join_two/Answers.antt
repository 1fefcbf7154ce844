use Rattle.std.specs.Prelude.{None}
use Rattle.emit.specs.Puts.{part_at}
use Rattle.segment.proofs.Runs.{run_stored}
use Rattle.emit.proofs.JoinLaws.{last_of_two}
use Rattle.lent.specs.Fit.{cap}
use Rattle.lent.specs.Window.{stretch}
use lib.ListN.{length}
use native.Mathlib.Omega.{arith}
use mathlib.Core.List.{[], ◌∷◌}
use Prim.Native.Nat.{◌≤◌}
use Rattle.segment.specs.Values.{value_text}
use Rattle.emit.proofs.closer.join_two.Goals as goal
use Rattle.emit.proofs.closer.join_two.Goals.{Start}

pub returns : goal.returns
returns c = let a = c.args in let h : length a.doc.now ≤ cap = omega (arith, (goal.at.returns c).Start) in run_stored a.s (stretch a.job.now a.id.start a.id.len) (part_at a.p None (value_text a.job.now a.v) ∷ part_at a.q None (value_text a.job.now a.w) ∷ []) h c.begin-pen.ensures (rw (last_of_two a.p a.q _ _ (value_text a.job.now a.v) (value_text a.job.now a.w) c.raised-first.ensures c.raised-last.ensures) at c.put_two.ensures)
