use mathlib.Core.Path.{sym, ◌∙◌}
use borrow.Author.Tests.{le-ltb}
use Rattle.segment.proofs.Placed.{feed_end, feed_here}
use Rattle.segment.proofs.read.line_feed_at.Goals as goal

pub returns-then-at-document : goal.returns-then-at-document
returns-then-at-document c = sym (feed_here _ _ c.if-at-document.true)

pub returns-else-at-document : goal.returns-else-at-document
returns-else-at-document c = le-ltb _ _ c.if-at-document.false ∙ sym (feed_end _ _ c.if-at-document.false)
