use mathlib.Core.Path.{refl, ◌∙◌}
use mathlib.Core.List.{[]}
use Rattle.segment.specs.Values.{one_of}
use Rattle.segment.proofs.Texts.{any_none, any_run}
use Rattle.segment.proofs.run_holds.Goals as goal

pub returns-then-n-ne0 : goal.returns-then-n-ne0
returns-then-n-ne0 c =
    let a = c.args in c.one_of.ensures ∙ any_run (one_of a.s.0 a.s.1 a.s.2 a.s.3) a.x a.n c.if-n-ne0.true

pub returns-else-n-ne0 : goal.returns-else-n-ne0
returns-else-n-ne0 c =
    let s = c.args.s in rw c.if-n-ne0.false (any_none (one_of s.0 s.1 s.2 s.3) [] refl)
