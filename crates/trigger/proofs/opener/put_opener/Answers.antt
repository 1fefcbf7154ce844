use Rattle.trigger.proofs.Openers.{opening, opened_all}
use native.Mathlib.Omega.{arith}
use lib.ListN.{length}
use Prim.Native.Nat.{◌≤◌}
use Rattle.lent.specs.Fit.{cap}
use Rattle.trigger.proofs.opener.put_opener.Goals as goal
use Rattle.trigger.proofs.opener.put_opener.Goals.{Start}

pub put_elements-drawn-requires : goal.put_elements-drawn-requires
put_elements-drawn-requires c = opening c.args.w.now _ c.elements_in-c.ensures

pub returns : goal.returns
returns c = let h : length c.args.doc.now ≤ cap = omega (arith, (goal.at.returns c).Start) in opened_all c.args.w.now h c.elements_in-c.ensures c.begin-pen.ensures c.put_elements-drawn.ensures c.close-bytes.ensures
