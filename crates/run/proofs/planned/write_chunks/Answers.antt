use mathlib.Core.Path.{◌≡◌, refl}
use native.Mathlib.Omega.{arith}
use borrow.Author.Rules.{rules}
use lib.ListN.{length}
use Rattle.run.proofs.Along.{marks_long}
use Rattle.run.proofs.Taking.{repeat_took}
use Rattle.run.proofs.planned.write_chunks.Goals as goal

pub returns : goal.returns
returns c =
    let w : length c.args.s.now.high ≡ 16 = search (rules, marks_long) in
    repeat_took {s = c.args.s.now} _ _ _ refl (omega (arith, w, c.requires.2)) c.write_repeats-w.ensures
