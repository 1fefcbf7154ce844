use Rattle.trigger.proofs.Givens.{trim_white, trim_kept, trim_none}
use Prim.Native.Nat.{◌+◌, ◌-◌}
use native.Mathlib.Omega.{arith}
use borrow.Author.Rules.{rules}
use mathlib.Core.Path.{◌≡◌, refl, ◌∙◌}
use lib.ListN.{get_or}
use Rattle.spec.specs.Answers.{stretch_of}
use Rattle.trigger.proofs.given.trim_end.Goals as goal
use Rattle.trigger.proofs.given.trim_end.Goals.{After-is_white}

byte : (c : After-is_white) → let a = c.args in get_or a.job.now (a.s.start + (c.loop-n.n - 1)) 0 ≡ get_or a.job.now (a.s.start + c.loop-n.n - 1) 0
byte c = let z : c.args.s.start + (c.loop-n.n - 1) ≡ c.args.s.start + c.loop-n.n - 1 = omega arith in rw z

pub loop-n-init : goal.loop-n-init
loop-n-init c = (c.requires, refl)

pub loop-n-preserved : goal.loop-n-preserved
loop-n-preserved c = (omega arith, c.loop-n.invariant.1 ∙ trim_white _ _ _ _ c.loop-n-test.true c.loop-n.invariant.0 (byte (goal.at.loop-n-preserved c).After-is_white) _ c.is_white.ensures (search rules))

pub returns-then-not-is_white : goal.returns-then-not-is_white
unfolding stretch_of
returns-then-not-is_white c =
    let z : c.loop-n.n - 1 + 1 ≡ c.loop-n.n = omega arith in
    rw z (trim_kept _ _ _ _ c.loop-n-test.true c.loop-n.invariant.0 (byte (goal.at.returns-then-not-is_white c).After-is_white) _ _ c.is_white.ensures (search rules) c.loop-n.invariant.1)

pub returns : goal.returns
unfolding stretch_of
returns c = trim_none _ _ c.args.s.start _ c.loop-n-test.false c.loop-n.invariant.1
