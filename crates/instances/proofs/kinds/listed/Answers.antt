use mathlib.Core.Path.{sym, ◌∙◌}
use Rattle.instances.proofs.Made.{lists_rows, lists_same, rows_base, lists_none, lists_lost}
use Rattle.instances.proofs.kinds.listed.Goals as goal

pub returns-then-not-is_plain : goal.returns-then-not-is_plain
returns-then-not-is_plain c = lists_none c.args.nest.nested _ _ _ _ _ c.requires.0 c.requires.1 c.rowless.ensures (sym c.is_plain.ensures ∙ c.if-not-is_plain.true)

pub returns-in_default : goal.returns-in_default
returns-in_default c = lists_lost c.args.nest.nested _ _ _ _ _ c.requires.0 c.requires.1 c.rowless-in_default.ensures (sym c.is_plain.ensures ∙ c.if-not-is_plain.false) (sym c.in_default.is ∙ c.above_in.ensures)

pub narrowed-requires : goal.narrowed-requires
narrowed-requires c = ((lists_rows c.args.nest.nested _ _ _ _ _ (sym c.is_plain.ensures ∙ c.if-not-is_plain.false) (sym c.in-Some.is ∙ c.above_in.ensures) _ _ c.requires.0 c.requires.1 c.all_rows-all.ensures c.from_run-run.ensures).going, rows_base c.args.nest.nested _ _ _ _ _ _ _ c.all_rows-all.ensures c.from_run-run.ensures)

pub returns : goal.returns
returns c = lists_same c.args.nest.nested _ _ _ _ _ _ (lists_rows c.args.nest.nested _ _ _ _ _ (sym c.is_plain.ensures ∙ c.if-not-is_plain.false) (sym c.in-Some.is ∙ c.above_in.ensures) _ _ c.requires.0 c.requires.1 c.all_rows-all.ensures c.from_run-run.ensures) c.narrowed.ensures
