use mathlib.Core.Path.{sym, ◌∙◌}
use Rattle.segment.proofs.Strokes.{placed_none, penned_none, penned_text}
use Rattle.segment.specs.Values.{value_text}
use Rattle.segment.proofs.component.Goals as goal

pub returns-then-is_empty : goal.returns-then-is_empty
returns-then-is_empty c =
    let a = c.args in
    rw (placed_none a.s a.pen a.p a.c (value_text a.job.now a.v) (sym c.is_empty.ensures ∙ c.if-is_empty.true)) (penned_none a.pen c.stay.ensures)

pub returns : goal.returns
returns c =
    let a = c.args in
    penned_text a.s a.pen a.p a.c (value_text a.job.now a.v) (sym c.is_empty.ensures ∙ c.if-is_empty.false) c.put_filled-a.ensures c.reach.ensures
