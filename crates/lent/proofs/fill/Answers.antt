use Rattle.std.proofs.Common.{◌≡◌, replicate, arith}
use lib.ListN.{length-replicate}
use Rattle.lent.proofs.Laws.{part_put}
use Rattle.lent.proofs.fill.Goals as goal

pub returns-then-n-gt0 : goal.returns-then-n-gt0
returns-then-n-gt0 c =
    let e : c.fill.new.self ≡ replicate c.args.n c.args.b = grind (arith, c.fill.ensures) in
    rw e (part_put _ _ _ _ (length-replicate c.args.n c.args.b) (omega (arith, c.requires)))
