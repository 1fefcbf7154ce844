use Rattle.emit.proofs.JoinLaws.{same_empty, same_filled}
use mathlib.Core.Path.{sym, ◌∙◌}
use Rattle.segment.specs.Values.{value_text}
use Rattle.emit.proofs.closer.put_same.Goals as goal

pub returns-then-both_empty : goal.returns-then-both_empty
returns-then-both_empty c = let a = c.args in same_empty (value_text a.job.now a.v) (value_text a.job.now a.w) (sym c.both_empty.ensures ∙ c.if-both_empty.true) c.finish.ensures

pub returns : goal.returns
returns c = let a = c.args in same_filled (value_text a.job.now a.v) (value_text a.job.now a.w) (sym c.both_empty.ensures ∙ c.if-both_empty.false) c.element-t.ensures c.finish-2.ensures
