use mathlib.Core.Path.{sym, ◌∙◌}
use native.Mathlib.Omega.{arith}
use Rattle.std.specs.Prelude.{◌+◌}
use Rattle.marks.proofs.Marks.{marked_textual, marked_twice, marked_next, marked_done}
use Rattle.says.proofs.Members.{behind}
use Rattle.marks.proofs.marked.Goals as goal

pub returns-then-is_textual : goal.returns-then-is_textual
returns-then-is_textual c = marked_textual _ _ c.loop-i.invariant (omega arith) (sym c.is_textual.ensures ∙ c.if-is_textual.true)

pub returns-then-contains : goal.returns-then-contains
returns-then-contains c = marked_twice _ _ c.loop-i.invariant _ (omega arith) (c.contains.ensures.value ∙ behind _ (c.loop-i.i + 1) c.args.marks.now) c.if-contains.true

pub loop-i-preserved : goal.loop-i-preserved
loop-i-preserved c = marked_next _ _ c.loop-i.invariant _ (omega arith) (sym c.is_textual.ensures ∙ c.if-is_textual.false) (c.contains.ensures.value ∙ behind _ (c.loop-i.i + 1) c.args.marks.now) c.if-contains.false

pub returns : goal.returns
returns c = marked_done _ _ c.loop-i.invariant (omega arith)
