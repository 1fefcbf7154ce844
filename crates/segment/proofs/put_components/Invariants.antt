use Rattle.std.specs.Prelude.{ℕ, List}
use Rattle.segment.specs.Calls.{Gives}
use Rattle.segment.proofs.Components.{GroupSoFar}
use Rattle.segment.proofs.put_components.Given as goal

abbrev pub invariant-loop-c : goal.invariant-loop-c
invariant-loop-c g l = (f : ℕ → List ℕ) → Gives l.job (goal.F-post g l.value) f → GroupSoFar l.s l.last f l.p l.initial.t l.initial.doc l.c l.t l.doc
