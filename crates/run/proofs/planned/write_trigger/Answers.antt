use mathlib.Core.Path.{◌≡◌, refl}
use native.Mathlib.Omega.{arith}
use borrow.Author.Rules.{rules}
use lib.ListN.{length}
use Rattle.run.proofs.Taking.{trigger_took}
use Rattle.run.proofs.planned.write_trigger.Goals as goal

pub returns : goal.returns
returns c =
    let w : length c.args.s.now.counter ≡ 32 = search rules in
    trigger_took {s = c.args.s.now} _ c.args.l.0 refl (omega (arith, w, c.requires.1)) c.write_opener-o.ensures
