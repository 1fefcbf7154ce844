use Rattle.std.specs.Prelude.{Bool, ℕ, ◌-◌, ◌^◌, ◌<◌}
use Rattle.says.specs.Says.{TestsNumbered}
use Rattle.says.proofs.Asked.{Asking}
use Rattle.says.proofs.Behind.{NoneUpTo}
use Rattle.codec.specs.Codec.{le_c}
use Rattle.codec.specs.Skip.{skip}
use Rattle.says.proofs.lists.any_numbered.Given as goal

abbrev pub invariant-loop-k : goal.invariant-loop-k
invariant-loop-k g l = ((f : ℕ → g.F.Form.Value → Bool) → TestsNumbered g.F.Form.codec l.s.bytes.now l.s.end l.at (goal.T-post g l.test) f → NoneUpTo g.F.Form.codec l.s.bytes.now l.s.end l.at f l.k (l.n - l.k) l.p) × (l.p < 2 ^ 64) × Asking g.F.Form.codec l.s.bytes.now l.s.end (goal.T-post g l.test) (skip (le_c 4) l.s.bytes.now l.at l.s.end) l.k l.p
