use mathlib.Core.Path.{sym, ap, ◌∙◌}
use Rattle.nest.specs.Found.{found_by}
use Rattle.nest.proofs.Scan.{first_here, first_next}
use Rattle.nest.proofs.seek.first_row_where.Goals as goal

pub returns-then-passes : goal.returns-then-passes
returns-then-passes g c = λ p h. sym (ap found_by (c.loop-k.invariant p h ∙ first_here p _ _ c.loop-k-test.true (sym (h _ _ c.loop-k-test.true c.passes.ensures) ∙ c.if-passes.true)))

pub loop-k-preserved : goal.loop-k-preserved
loop-k-preserved g c = λ p h. c.loop-k.invariant p h ∙ first_next p _ _ c.loop-k-test.true (sym (h _ _ c.loop-k-test.true c.passes.ensures) ∙ c.if-passes.false)
