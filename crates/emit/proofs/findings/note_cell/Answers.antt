use Rattle.texts.specs.Said.{why_in}
use Rattle.emit.specs.Puts.{held_in, unwritten}
use Rattle.emit.specs.Written.{tried}
use Rattle.emit.proofs.FindingLaws.{stored_findings}
use Rattle.lent.proofs.Fit.{wide}
use lib.ListN.{length}
use native.Mathlib.Omega.{arith}
use Prim.Native.Nat.{◌≤◌}
use Rattle.segment.specs.Values.{value_text}
use Rattle.emit.proofs.findings.note_cell.Goals as goal
use Rattle.emit.proofs.findings.note_cell.Goals.{Start}

pub returns : goal.returns
returns c = λ o p e. let a = c.args in let h : length a.findings.now ≤ wide = omega (arith, (goal.at.returns c).Start) in stored_findings (unwritten o p (why_in a.x.reason)) (held_in o p (value_text a.job.now a.x.value) 0 (tried a.d)) h (c.note_reason-a.ensures o p e) (c.try_delimiters.ensures o p e)
