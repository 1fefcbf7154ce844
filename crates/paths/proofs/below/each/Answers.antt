use mathlib.Core.Path.{◌≡◌, sym, ◌∙◌}
use mathlib.Core.Bool.{true}
use native.Mathlib.Omega.{arith}
use borrow.Author.Count.{below_more}
use Rattle.paths.proofs.BelowLaws.{each_all, each_bad}
use Rattle.paths.proofs.below.each.Goals as goal

pub returns-then-not-passes : goal.returns-then-not-passes
returns-then-not-passes g c = λ p h. sym (each_bad p _ _ c.loop-k-test.true (sym (h _ _ c.loop-k-test.true c.passes.ensures) ∙ c.if-not-passes.true))

pub loop-k-preserved : goal.loop-k-preserved
loop-k-preserved g c = λ p h. below_more (λ i. p i ≡ true) _ (c.loop-k.invariant p h) (sym (h _ _ c.loop-k-test.true c.passes.ensures) ∙ c.if-not-passes.false)

pub returns : goal.returns
returns g c = λ p h. sym (each_all p _ (λ i k. c.loop-k.invariant p h i (omega (arith, k, c.loop-k-test.false))))
