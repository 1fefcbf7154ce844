use mathlib.Core.Path.{sym, ◌∙◌}
use Rattle.segment.proofs.Placed.{at_end, at_unended, at_line_feed, at_unfed, at_plain}
use Rattle.segment.proofs.read.read_segment.Goals as goal

pub returns-then-document-at : goal.returns-then-document-at
returns-then-document-at c = sym (at_end _ _ _ c.if-document-at.true)

pub returns-then-document-end : goal.returns-then-document-end
returns-then-document-end c = sym (at_unended _ _ _ _ c.if-document-at.false c.find-end.ensures c.if-document-end.true)

pub returns-then-line_feed_at : goal.returns-then-line_feed_at
returns-then-line_feed_at c =
    c.with_name.ensures
    ∙ sym (at_line_feed _ _ _ _ c.if-document-at.false c.find-end.ensures c.if-document-end.false c.if-s.true (sym c.line_feed_at.ensures ∙ c.if-line_feed_at.true))

pub returns-then-s : goal.returns-then-s
returns-then-s c =
    sym (at_unfed _ _ _ _ c.if-document-at.false c.find-end.ensures c.if-document-end.false c.if-s.true (sym c.line_feed_at.ensures ∙ c.if-line_feed_at.false))

pub returns : goal.returns
returns c =
    c.with_name-2.ensures ∙ sym (at_plain _ _ _ _ c.if-document-at.false c.find-end.ensures c.if-document-end.false c.if-s.false)
