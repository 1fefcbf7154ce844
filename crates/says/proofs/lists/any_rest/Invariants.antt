use Rattle.std.specs.Prelude.{Bool, ◌-◌, ◌^◌, ◌<◌}
use Rattle.codec.specs.Limits.{any_of}
use Rattle.says.specs.Says.{Tests}
use Rattle.says.proofs.Asked.{Asking}
use Rattle.says.proofs.Behind.{Still}
use Rattle.says.proofs.lists.any_rest.Given as goal

abbrev pub invariant-loop-i : goal.invariant-loop-i
invariant-loop-i g l = ((f : g.F.Form.Value → Bool) → Tests g.F.Form.codec l.s.bytes.now l.s.end (goal.T-post g l.test) f → Still g.F.Form.codec l.s.bytes.now l.s.end l.rest l.at (any_of f) (l.rest - l._i) l.p) × (l.p < 2 ^ 64) × Asking g.F.Form.codec l.s.bytes.now l.s.end (λ k. goal.T-post g l.test) l.at l._i l.p
