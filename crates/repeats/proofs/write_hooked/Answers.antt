use native.Mathlib.Omega.{arith}
use Rattle.nest.specs.Found.{hooked_at}
use Rattle.repeats.proofs.SoFar.{took_nothing, hooked_none, hooked_few, took_hooked}
use Rattle.repeats.proofs.RowLaws.{next_found, next_none}
use Rattle.repeats.proofs.write_hooked.Goals as goal

pub invariant_of-all : goal.invariant_of-all
invariant_of-all c = let v = c.part_of-part.ensures c.args.l.0 in record { within = omega (arith, v.is.among, c.args.nest.nested.room) }

pub next_hooked-f-requires : goal.next_hooked-f-requires
next_hooked-f-requires c = let v = c.part_of-part.ensures c.args.l.0 in (c.requires.2, omega (arith, v.is.within))

pub begin-requires : goal.begin-requires
begin-requires c = let a = c.args in let v = c.part_of-part.result in let y = next_found (hooked_at a.nest.array.now v.table.base a.l.0 a.p.0) v.from v.table.rows _ c.next_hooked-f.ensures _ c.in-Some.is in (c.requires.0, c.requires.1, c.requires.2, (c.part_of-part.ensures a.l.0).is, y.within, c.requires.3, hooked_few _ _ _ _ _ (c.part_of-part.ensures a.l.0) _ y c.requires.5)

pub returns-in-None : goal.returns-in-None
returns-in-None c = let a = c.args in let v = c.part_of-part.result in took_nothing _ _ _ c.args.nest.nested _ _ _ _ _ _ c.requires.0 (hooked_none _ a.i _ _ _ (c.part_of-part.ensures a.l.0) (next_none (hooked_at a.nest.array.now v.table.base a.l.0 a.p.0) v.from v.table.rows _ c.next_hooked-f.ensures c.in-None.is))

pub returns-in-Some : goal.returns-in-Some
returns-in-Some c = let a = c.args in let v = c.part_of-part.result in let y = next_found (hooked_at a.nest.array.now v.table.base a.l.0 a.p.0) v.from v.table.rows _ c.next_hooked-f.ensures _ c.in-Some.is in took_hooked _ _ _ _ _ (c.part_of-part.ensures a.l.0) _ y c.begin.ensures
