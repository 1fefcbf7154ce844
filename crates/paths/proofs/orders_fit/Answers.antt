use mathlib.Core.Path.{sym, ap, ◌∙◌}
use mathlib.Core.Bool.{not, true≢false}
use Rattle.paths.proofs.Whole.{two_entries, two_parents, two_orders}
use Rattle.paths.proofs.orders_fit.Goals as goal
use Rattle.paths.proofs.orders_fit.Goals.{then-entries_fit, else-entries_fit}

pub returns-then-parents_plain : goal.returns-then-parents_plain
returns-then-parents_plain c = elim c.if-entries_fit.branch [
  | then-entries_fit w ↦ two_orders _ _ c.entries_fit.ensures (ap not w.if-entries_fit.true) _ w.parents_plain.ensures (ap not (sym w.value-is ∙ c.if-parents_plain.true)) _ c.loops_ordered.ensures
  | else-entries_fit w ↦ absurd (true≢false (sym c.if-parents_plain.true ∙ w.value-is ∙ w.if-entries_fit.false))
]

pub returns-else-parents_plain : goal.returns-else-parents_plain
returns-else-parents_plain c = elim c.if-entries_fit.branch [
  | then-entries_fit w ↦ rw c.if-parents_plain.false (two_parents _ _ w.parents_plain.ensures (ap not (sym w.value-is ∙ c.if-parents_plain.false)))
  | else-entries_fit w ↦ rw c.if-parents_plain.false (two_entries _ _ c.entries_fit.ensures (ap not w.if-entries_fit.false))
]
