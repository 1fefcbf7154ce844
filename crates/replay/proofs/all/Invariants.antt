-- `all` ends, since each job that is replayed leaves fewer bytes behind it.
use Rattle.std.proofs.Common.{length, ◌-◌}
use Rattle.replay.proofs.all.Given as goal

abbrev pub decreases-loop-at : goal.decreases-loop-at
decreases-loop-at g l = length l.s - l.at
