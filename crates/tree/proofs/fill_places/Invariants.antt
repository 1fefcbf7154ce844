use Rattle.std.specs.Prelude.{◌≡◌, length, drop}
use Rattle.tree.proofs.Places.{Filling}
use Rattle.tree.proofs.fill_places.Given as goal

abbrev pub invariant-loop-k : goal.invariant-loop-k
invariant-loop-k l = (length l.places ≡ length l.initial.places) × Filling l.s.bytes.now l.s.end l.at l.p l.k l.places × (drop l.n l.places ≡ drop l.n l.initial.places)
