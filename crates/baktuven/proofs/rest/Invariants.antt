use Rattle.std.proofs.Common.{◌≡◌, ◌*◌, min}
use Rattle.std.proofs.lemmas.List.Edits.{sets}
use Rattle.baktuven.specs.Windows.{records_of, behind}
use Rattle.baktuven.proofs.rest.Given as goal

abbrev pub invariant-loop-w : goal.invariant-loop-w
invariant-loop-w l = l.findings ≡ sets l.initial.findings 64 (behind 64 (min (l.w * 64) l.end) (records_of l.job))
