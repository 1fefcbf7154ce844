use mathlib.Core.Path.{sym, ◌∙◌}
use native.Mathlib.Omega.{arith}
use Prim.Native.Nat.{◌<◌, ◌+◌, ◌-◌, ◌/◌}
use Rattle.nest.proofs.Seeking.{halving_low, halving_high, halved}
use Rattle.nest.proofs.seek.halve.Goals as goal

pub loop-from-preserved-then-passes : goal.loop-from-preserved-then-passes
loop-from-preserved-then-passes g c =
    let within : c.loop-from.from + (c.loop-from.to - c.loop-from.from) / 2 < c.loop-from.to = omega (arith, c.loop-from-test.true) in
    let below : c.loop-from.from + (c.loop-from.to - c.loop-from.from) / 2 < c.args.high = omega (arith, within, c.loop-from.invariant.2) in
    (omega (arith, c.loop-from.invariant.0), omega (arith, within), c.loop-from.invariant.2, λ p h t. halving_low p _ _ _ _ _ (c.loop-from.invariant.3 p h t) t below (sym (h _ _ below c.passes.ensures) ∙ c.if-passes.true))

pub loop-from-preserved : goal.loop-from-preserved
loop-from-preserved g c =
    let within : c.loop-from.from + (c.loop-from.to - c.loop-from.from) / 2 < c.loop-from.to = omega (arith, c.loop-from-test.true) in
    let below : c.loop-from.from + (c.loop-from.to - c.loop-from.from) / 2 < c.args.high = omega (arith, within, c.loop-from.invariant.2) in
    (c.loop-from.invariant.0, omega arith, omega (arith, below), λ p h t. halving_high p _ _ _ _ _ (c.loop-from.invariant.3 p h t) t (sym (h _ _ below c.passes.ensures) ∙ c.if-passes.false))

pub returns : goal.returns
returns g c = λ p h t. halved p _ _ _ _ c.loop-from.invariant.0 c.loop-from.invariant.1 c.loop-from.invariant.2 c.loop-from-test.false (c.loop-from.invariant.3 p h t)
