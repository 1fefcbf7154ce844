use Rattle.repeat_segment.specs.Places.{taken, kept}
use Rattle.repeat_segment.proofs.FirstLaws.{rank_same, same_rank}
use mathlib.Core.Path.{sym, ◌∙◌}
use mathlib.Core.Bool.{false≢true}
use native.Mathlib.Omega.{arith}
use Rattle.repeat_segment.proofs.scan.earlier.Goals as goal

pub returns-then-k-f : goal.returns-then-k-f
returns-then-k-f c = λ b. taken c.row_at-k.result c.if-k-f.true (rank_same c.args.e.component c.args.c (sym c.eq.ensures ∙ c.if-eq.true)) (c.row_at-k.ensures b)

pub returns-then-eq : goal.returns-then-eq
returns-then-eq c = λ b. kept (λ m h i e r. (c.row_at-k.ensures b).below m (omega (arith, c.if-k-f.false)) i e)

pub returns : goal.returns
returns c = λ b. kept (λ m h i e r. false≢true (sym c.if-eq.false ∙ c.eq.ensures ∙ same_rank c.args.e.component c.args.c r))
