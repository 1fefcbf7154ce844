use Rattle.emit.proofs.JoinLaws.{plain_empty, plain_filled}
use mathlib.Core.Path.{sym, ◌∙◌}
use Rattle.segment.specs.Values.{value_text}
use Rattle.emit.proofs.closer.put_plain.Goals as goal

pub returns-then-is_empty : goal.returns-then-is_empty
returns-then-is_empty c = let a = c.args in plain_empty (value_text a.job.now a.v) (sym c.is_empty.ensures ∙ c.if-is_empty.true) c.finish.ensures

pub returns : goal.returns
returns c = let a = c.args in plain_filled (value_text a.job.now a.v) (sym c.is_empty.ensures ∙ c.if-is_empty.false) c.element-t.ensures c.finish-2.ensures
