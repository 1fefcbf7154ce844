use mathlib.Core.Path.{◌≡◌, refl}
use native.Mathlib.Omega.{arith}
use borrow.Author.Rules.{rules}
use lib.ListN.{length}
use Rattle.run.proofs.Taking.{takes_closer, leaves_closer}
use Rattle.run.proofs.closing.close.Goals as goal

pub returns-then-closes : goal.returns-then-closes
returns-then-closes c =
    let w : length c.args.s.now.counter ≡ 32 = search rules in
    takes_closer _ c.args.l.0 _ _ _ c.closes.ensures {s = c.args.s.now} _ c.opened-opened.ensures c.if-closes.true refl (omega (arith, w, c.requires.1)) c.write_close-s.ensures

pub returns : goal.returns
returns c = leaves_closer _ _ _ _ _ c.closes.ensures {s = c.args.s.now} c.if-closes.false c.requires.0
