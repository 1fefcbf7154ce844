use mathlib.Core.Path.{sym, ◌∙◌}
use native.Mathlib.Omega.{arith}
use Rattle.paths.proofs.BelowLaws.{each_all, each_bad, down_more}
use Rattle.paths.proofs.below.each_from_last.Goals as goal

pub returns-then-not-passes : goal.returns-then-not-passes
returns-then-not-passes g c = λ p h. sym (each_bad p _ _ (omega (arith, c.loop-k-test.true)) (sym (h _ _ (omega (arith, c.loop-k-test.true)) c.passes.ensures) ∙ c.if-not-passes.true))

pub loop-k-init : goal.loop-k-init
loop-k-init g c = λ p h i a b. absurd (omega arith)

pub loop-k-preserved : goal.loop-k-preserved
loop-k-preserved g c = λ p h. down_more p _ _ (c.loop-k.invariant p h) c.loop-k-test.true (sym (h _ _ (omega (arith, c.loop-k-test.true)) c.passes.ensures) ∙ c.if-not-passes.false)

pub returns : goal.returns
returns g c = λ p h. sym (each_all p _ (λ i k. c.loop-k.invariant p h i (omega (arith, c.loop-k-test.false)) k))
