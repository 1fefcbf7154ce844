use Rattle.emit.specs.Written.{tried_last}
use mathlib.Core.List.{◌∷◌}
use Rattle.emit.proofs.FindingLaws.{stored_next, still_fits}
use Rattle.lent.proofs.Fit.{wide}
use lib.ListN.{length}
use native.Mathlib.Omega.{arith}
use Prim.Native.Nat.{◌≤◌}
use Rattle.segment.specs.Values.{value_text}
use Rattle.emit.proofs.findings.try_each.Goals as goal
use Rattle.emit.proofs.findings.try_each.Goals.{Start}

pub returns : goal.returns
returns c = λ o p e. let a = c.args in let h : length a.findings.now ≤ wide = omega (arith, (goal.at.returns c).Start) in let s = c.try_one-a.ensures o p e in stored_next o p (value_text a.job.now a.v) 0 a.d.element (a.d.component ∷ a.d.segment ∷ tried_last a.d.repetition) h s (stored_next o p (value_text a.job.now a.v) 1 a.d.component (a.d.segment ∷ tried_last a.d.repetition) (still_fits h s) (c.try_one-b.ensures o p e) (c.try_from_segment.ensures o p e))
