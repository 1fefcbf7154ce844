use Rattle.enter.proofs.Laws.{placed_none, placed_some}
use native.Mathlib.Nat.{add-zero}
use Rattle.enter.proofs.placed_by.Goals as goal

pub returns-then-nest-i-eq0 : goal.returns-then-nest-i-eq0
returns-then-nest-i-eq0 c = let a = c.args in placed_none a.nest.now a.base a.r.0 (rw add-zero c.if-nest-i-eq0.true)

pub returns : goal.returns
returns c = let a = c.args in placed_some a.nest.now a.base a.r.0 (rw add-zero c.if-nest-i-eq0.false)
