use Rattle.spec.proofs.Storing.{put_item_in, put_item_out}
use mathlib.Core.Path.{sym, ◌∙◌}
use Rattle.spec.proofs.region.put_item.Goals as goal

pub returns-then-i-lt32 : goal.returns-then-i-lt32
returns-then-i-lt32 c = c.put.ensures ∙ sym (put_item_in _ _ _ _ c.if-i-lt32.true)

pub returns-else-i-lt32 : goal.returns-else-i-lt32
returns-else-i-lt32 c = sym (put_item_out _ _ _ _ c.if-i-lt32.false)
