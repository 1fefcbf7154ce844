use Rattle.std.specs.Prelude.{Bool, List, ◌-◌, ◌^◌, ◌<◌}
use Rattle.says.specs.Says.{TestsBefore, any_before}
use Rattle.says.proofs.Asked.{Asking}
use Rattle.says.proofs.Behind.{NoneBehind}
use Rattle.codec.specs.Codec.{le_c}
use Rattle.codec.specs.Skip.{skip}
use Rattle.says.proofs.lists.any_before.Given as goal

abbrev pub invariant-loop-i : goal.invariant-loop-i
invariant-loop-i g l = ((u : List g.F.Form.Value → g.F.Form.Value → Bool) → TestsBefore g.F.Form.codec l.s.bytes.now l.s.end (goal.T-post g l.test) u → NoneBehind g.F.Form.codec l.s.bytes.now l.s.end l.at (any_before u) (l.n - l.i) l.p) × (l.p < 2 ^ 64) × Asking g.F.Form.codec l.s.bytes.now l.s.end (λ k p. goal.T-post g l.test p (l.n - k - 1) (skip g.F.Form.codec l.s.bytes.now p l.s.end)) (skip (le_c 4) l.s.bytes.now l.at l.s.end) l.i l.p
