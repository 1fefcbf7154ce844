use mathlib.Core.Path.{refl, sym, ◌∙◌}
use borrow.Author.Tests.{ltb-true, ltb-false, not-true, not-false}
use Rattle.run.proofs.Taking.{gives_source, unplanned}
use Rattle.run.proofs.segments.segment_due.Goals as goal

pub returns-in-Envelope : goal.returns-in-Envelope
returns-in-Envelope c =
    let p = c.requires.2 in
    gives_source _ _ _ _ _ refl _ _ (ltb-true _ _ (sym p.there ∙ not-false _ c.if-not-s.false)) p.segment.source c.in-Envelope.is _ (c.opener_due.ensures _)

pub returns-in-Row : goal.returns-in-Row
returns-in-Row c =
    let p = c.requires.2 in
    gives_source _ _ _ _ _ refl _ _ (ltb-true _ _ (sym p.there ∙ not-false _ c.if-not-s.false)) p.segment.source c.in-Row.is _ c.row_due.ensures

pub returns-in-Repeat : goal.returns-in-Repeat
returns-in-Repeat c =
    let p = c.requires.2 in
    gives_source _ _ _ _ _ refl _ _ (ltb-true _ _ (sym p.there ∙ not-false _ c.if-not-s.false)) p.segment.source c.in-Repeat.is _ c.repeat_due.ensures

pub returns-then-not-s : goal.returns-then-not-s
returns-then-not-s c = unplanned _ _ _ _ _ refl (ltb-false _ _ (sym c.requires.2.there ∙ not-true _ c.if-not-s.true))
