use Rattle.input.proofs.Reading.{more_read}
use Rattle.input.proofs.read_up_to.Goals as goal

pub loop-done-preserved : goal.loop-done-preserved
loop-done-preserved g c = let r = c.in_ok-n.ensures in (r.fits, more_read _ _ _ _ _ _ _ r.front c.loop-done.invariant.1 r.read)
