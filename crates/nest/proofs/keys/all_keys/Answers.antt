use Rattle.nest.proofs.Rising.{marked_end}
use Rattle.nest.proofs.keys.all_keys.Goals as goal

pub returns : goal.returns
returns c = marked_end _ _ _ _ c.loop-u.invariant c.data_count-count.ensures c.loop-u-test.false
