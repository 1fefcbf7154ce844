use mathlib.Core.Path.{◌≡◌, ◌∙◌}
use native.Mathlib.Omega.{arith}
use Rattle.segment.proofs.Placed.{found_here, found_next, found_end}
use Rattle.segment.proofs.read.find.Goals as goal

pub returns-then-document-i : goal.returns-then-document-i
returns-then-document-i c = found_here _ _ _ _ c.loop-i.invariant.nothing c.loop-i-test.true c.if-document-i.true

pub loop-i-preserved : goal.loop-i-preserved
loop-i-preserved c = record { within = omega arith; nothing = found_next _ _ _ _ c.loop-i.invariant.nothing c.loop-i-test.true c.if-document-i.false }

pub returns : goal.returns
returns c =
    let e : c.max.result ≡ c.loop-i.i = omega (arith, c.max.ensures, c.loop-i.invariant.within) in
    e ∙ found_end _ _ _ _ c.loop-i.invariant.nothing c.loop-i-test.false
