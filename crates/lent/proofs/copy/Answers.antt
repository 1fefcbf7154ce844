use Rattle.std.proofs.Common.{◌≡◌, take, drop, arith, ◌∙◌}
use Rattle.lent.proofs.Laws.{part_put, length_stretch}
use Rattle.lent.proofs.copy.Goals as goal

pub returns-then-n-gt0 : goal.returns-then-n-gt0
returns-then-n-gt0 g c =
    let e : c.copy_from_slice.new.self ≡ take c.args.n (drop c.args.start c.args.source.now) = grind (arith, c.copy_from_slice.ensures) in
    rw e (part_put _ _ _ _ (length_stretch c.args.source.now c.args.start c.args.n ∙ omega (arith, c.requires.1)) (omega (arith, c.requires.0)))
