use Rattle.std.proofs.Common.{◌≡◌, ◌+◌, ◌*◌, arith}
use Rattle.baktuven.specs.Windows.{records_of}
use Rattle.baktuven.proofs.Windows.{none_stored, turn_stored}
use Rattle.baktuven.proofs.rest.Goals as goal

pub loop-w-init : goal.loop-w-init
loop-w-init c = none_stored c.args.findings.now (records_of c.args.job.now) c.args.end

pub loop-w-preserved : goal.loop-w-preserved
loop-w-preserved c =
    let w = c.loop-w.w in
    let next : (w + 1) * 64 ≡ w * 64 + 64 = omega arith in
    rw next (turn_stored _ _ _ _ _ (w * 64) _ _ (omega arith) (omega arith) c.requires.1 c.later.ensures c.in_window.ensures c.store.ensures c.loop-w.invariant)
