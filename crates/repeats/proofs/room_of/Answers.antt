use Rattle.repeats.proofs.RowLaws.{room_is}
use Rattle.repeats.proofs.room_of.Goals as goal

pub returns : goal.returns
returns c = room_is _ c.args.job.ready.passed _ _ c.capacity.ensures _ c.max.ensures
