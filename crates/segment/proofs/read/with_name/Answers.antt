use mathlib.Core.Path.{sym}
use Rattle.segment.proofs.Placed.{name_nothing, name_none, name_some}
use Rattle.segment.proofs.read.with_name.Goals as goal
use Rattle.segment.proofs.read.with_name.Goals.{then-at-end-via-then-at-end, then-at-end-via-else-at-end+then-document-at}

pub returns-then-at-end : goal.returns-then-at-end
returns-then-at-end c = elim c.then-at-end.branch [
  | then-at-end-via-then-at-end w ↦ sym (name_nothing _ _ _ _ _ w.if-at-end.true)
  | then-at-end-via-else-at-end+then-document-at w ↦ sym (name_none _ _ _ _ _ c.requires.0 w.if-at-end.false c.requires.1 w.if-document-at.true)
]

pub returns : goal.returns
returns c = sym (name_some _ _ _ _ _ c.requires.0 c.if-at-end.false c.requires.1 c.if-document-at.false)
