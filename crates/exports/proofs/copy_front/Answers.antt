use Rattle.std.proofs.Math.Seq.{take-length}
use Rattle.exports.proofs.copy_front.Goals as goal

pub returns : goal.returns
returns g c = rw (take-length c.args.source.now) at c.put_stretch.ensures.stored
