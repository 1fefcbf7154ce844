use Prim.Native.Nat.{◌≤◌}
use Rattle.plan.specs.Filling.{PlanLists}
use Rattle.plan.proofs.index.plan_into.Given as goal

abbrev pub invariant-loop-l : goal.invariant-loop-l
invariant-loop-l l = PlanLists l.s.bytes.now l.s.end l.initial.p l.l l.p l.initial.index l.index × (l.l ≤ l.n)
