use mathlib.Core.Path.{sym, ◌∙◌}
use Rattle.nest.proofs.Scan.{some_yes, some_no}
use Rattle.nest.proofs.seek.some.Goals as goal

pub returns-then-passes : goal.returns-then-passes
returns-then-passes g c = λ p h. sym (c.loop-k.invariant p h ∙ some_yes p _ _ c.loop-k-test.true (sym (h _ _ c.loop-k-test.true c.passes.ensures) ∙ c.if-passes.true))

pub loop-k-preserved : goal.loop-k-preserved
loop-k-preserved g c = λ p h. c.loop-k.invariant p h ∙ some_no p _ _ c.loop-k-test.true (sym (h _ _ c.loop-k-test.true c.passes.ensures) ∙ c.if-passes.false)
