use Rattle.due.proofs.Loops.{shown_as_required, shown_by_data, shown_unknown}
use Rattle.due.proofs.shown.Goals as goal
use Rattle.due.proofs.shown.Goals.{else-l-n-via-then-l-n+else-required, else-l-n-via-else-l-n}

pub returns-then-required : goal.returns-then-required
returns-then-required c = shown_as_required _ _ _ _ _ c.loop_count-n.ensures _ c.if-l-n.true c.required.ensures c.if-required.true

pub returns : goal.returns
returns c = elim c.else-l-n.branch [
  | else-l-n-via-then-l-n+else-required w ↦ shown_by_data _ _ _ _ _ c.loop_count-n.ensures _ _ w.if-l-n.true w.required.ensures w.if-required.false c.has_data.ensures
  | else-l-n-via-else-l-n w ↦ shown_unknown _ _ _ _ _ c.loop_count-n.ensures _ w.if-l-n.false c.has_data.ensures
]
