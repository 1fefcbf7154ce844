use mathlib.Core.Path.{◌≡◌}
use lib.ListN.{drop}
use Rattle.lent.specs.Window.{stretch}
use Rattle.segment.specs.Values.{holds_any, one_of}
use Rattle.segment.proofs.stretch_holds.Given as goal

abbrev pub invariant-loop-i : goal.invariant-loop-i
invariant-loop-i l = holds_any (one_of l.s.0 l.s.1 l.s.2 l.s.3) (stretch l.source l.start l.len) ≡ holds_any (one_of l.s.0 l.s.1 l.s.2 l.s.3) (drop l.i (stretch l.source l.start l.len))
