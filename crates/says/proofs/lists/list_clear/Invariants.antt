use Rattle.std.specs.Prelude.{Bool, ◌-◌, ◌^◌, ◌<◌}
use Rattle.says.specs.Says.{Clearing, Passed}
use Rattle.says.proofs.Pass.{Going}
use Rattle.codec.specs.Codec.{le_c}
use Rattle.codec.specs.Skip.{skip}
use Rattle.says.proofs.lists.list_clear.Given as goal

abbrev pub invariant-loop-i : goal.invariant-loop-i
invariant-loop-i g l = ((f : g.F.Form.Value → Bool) → Clearing g.F.Form.codec l.s.bytes.now l.s.end (goal.T-post g l.test) f → Going g.F.Form.codec l.s.bytes.now l.s.end l.at f (l.n - l._i) l.p) × (l.p < 2 ^ 64) × Passed (goal.T-post g l.test) l._i (skip (le_c 4) l.s.bytes.now l.at l.s.end) l.p
