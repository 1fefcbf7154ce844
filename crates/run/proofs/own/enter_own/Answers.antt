use mathlib.Core.Path.{◌≡◌, refl}
use native.Mathlib.Omega.{arith}
use borrow.Author.Rules.{rules}
use lib.ListN.{length}
use Rattle.run.proofs.Along.{marks_long}
use Rattle.run.proofs.Taking.{own_known, stops_there, stops_not}
use Rattle.run.proofs.own.enter_own.Goals as goal

pub bounds-s-i : goal.bounds-s-i
bounds-s-i c = (own_known c.args.l.0 c.args.c _ _ c.args.nest.nested.ready c.requires.sound c.own_row.ensures c.in-Some.is).0

pub enter-e-requires : goal.enter-e-requires
enter-e-requires c = let k = own_known c.args.l.0 c.args.c _ _ c.args.nest.nested.ready c.requires.sound c.own_row.ensures c.in-Some.is in (c.requires.small, k.0, k.1)

pub bounds-s-i-in-Some : goal.bounds-s-i-in-Some
bounds-s-i-in-Some c = (own_known c.args.l.0 c.args.c _ _ c.args.nest.nested.ready c.requires.sound c.own_row.ensures c.in-Some.is).0

pub returns-in-Some : goal.returns-in-Some
returns-in-Some c =
    let k = own_known c.args.l.0 c.args.c _ _ c.args.nest.nested.ready c.requires.sound c.own_row.ensures c.in-Some.is in
    let w : length c.args.s.now.high ≡ 16 = search (rules, marks_long) in
    λ d g. stops_there _ c.args.l.0 _ c.own_row.ensures {s = c.args.s.now} _ c.in-Some.is refl (omega (arith, k.0, w)) (c.enter-e.ensures d g)

pub returns-in_default : goal.returns-in_default
returns-in_default c = λ d g. stops_not _ c.args.l.0 _ c.own_row.ensures {s = c.args.s.now} c.in_default.is c.requires.small
