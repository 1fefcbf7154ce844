use Rattle.std.specs.Prelude.{◌≡◌, drop}
use Rattle.format.specs.Words.{repeats}
use Rattle.tree.proofs.names_repeat.Given as goal

abbrev pub invariant-loop-i : goal.invariant-loop-i
invariant-loop-i l = repeats l.names ≡ repeats (drop l.i l.names)
