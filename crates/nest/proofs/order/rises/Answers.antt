use mathlib.Core.Path.{sym}
use lib.ListN.{get_or-eq_default}
use Rattle.nest.specs.Rising.{rises}
use borrow.Author.Rules.{rules}
use Rattle.nest.proofs.order.rises.Goals as goal

pub returns : goal.returns
unfolding rises
returns c = sym (rw (get_or-eq_default c.args.nest.now 0 c.if-i-nest.false))

pub returns-then-i-nest : goal.returns-then-i-nest
unfolding rises
returns-then-i-nest c = search rules
