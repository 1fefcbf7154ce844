use Rattle.std.specs.Prelude.{◌≡◌, drop}
use Rattle.marks.specs.Parts.{marked}
use Rattle.marks.proofs.marked.Given as goal

abbrev pub invariant-loop-i : goal.invariant-loop-i
invariant-loop-i l = marked l.marks ≡ marked (drop l.i l.marks)
