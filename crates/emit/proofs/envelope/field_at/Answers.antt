use mathlib.Core.Path.{◌∙◌}
use Rattle.emit.proofs.TableLaws.{in_table, none_at_zero, none_deeper}
use Rattle.emit.proofs.envelope.field_at.Goals as goal
use Rattle.emit.proofs.envelope.field_at.Goals.{then-position-eq0-via-then-position-eq0, then-position-eq0-via-else-position-eq0+then-depth-ge3}

pub returns-then-position-eq0 : goal.returns-then-position-eq0
returns-then-position-eq0 c = elim c.then-position-eq0.branch [
  | then-position-eq0-via-then-position-eq0 w ↦ rw w.if-position-eq0.true (none_at_zero c.args.depth)
  | then-position-eq0-via-else-position-eq0+then-depth-ge3 w ↦ none_deeper c.args.depth c.args.position w.if-depth-ge3.true
]

pub returns : goal.returns
returns c =
    let a = c.args in
    c.search.ensures ∙ in_table a.depth a.position c.if-depth-ge3.false c.if-position-eq0.false
