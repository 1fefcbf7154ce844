use Rattle.emit.specs.Written.{tried_last}
use Rattle.emit.proofs.FindingLaws.{stored_next}
use Rattle.lent.proofs.Fit.{wide}
use lib.ListN.{length}
use native.Mathlib.Omega.{arith}
use Prim.Native.Nat.{◌≤◌}
use Rattle.segment.specs.Values.{value_text}
use Rattle.emit.proofs.findings.try_from_segment.Goals as goal
use Rattle.emit.proofs.findings.try_from_segment.Goals.{Start}

pub returns : goal.returns
returns c = λ o p e. let a = c.args in let h : length a.findings.now ≤ wide = omega (arith, (goal.at.returns c).Start) in stored_next o p (value_text a.job.now a.v) 2 a.b (tried_last a.r) h (c.try_one-a.ensures o p e) (c.try_last.ensures o p e)
