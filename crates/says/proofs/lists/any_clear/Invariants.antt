use Rattle.std.specs.Prelude.{Bool, ◌-◌, ◌^◌, ◌<◌}
use Rattle.says.specs.Says.{Tests}
use Rattle.says.proofs.Pass.{Going}
use Rattle.says.proofs.Asked.{Asking}
use Rattle.codec.specs.Codec.{le_c}
use Rattle.codec.specs.Skip.{skip}
use Rattle.says.proofs.lists.any_clear.Given as goal

abbrev pub invariant-loop-i : goal.invariant-loop-i
invariant-loop-i g l = ((f : g.F.Form.Value → Bool) → Tests g.F.Form.codec l.s.bytes.now l.s.end (goal.T-post g l.test) f → Going g.F.Form.codec l.s.bytes.now l.s.end l.at f (l.n - l._i) l.p) × (l.p < 2 ^ 64) × Asking g.F.Form.codec l.s.bytes.now l.s.end (λ k. goal.T-post g l.test) (skip (le_c 4) l.s.bytes.now l.at l.s.end) l._i l.p
