use Rattle.std.proofs.Common.{◌≡◌}
use Rattle.std.proofs.lemmas.List.Edits.{sets}
use Rattle.finding.specs.Records.{findings_in}
use Rattle.finding.proofs.append_all.Given as goal

abbrev pub invariant-loop-k : goal.invariant-loop-k
invariant-loop-k l = l.findings ≡ sets l.initial.findings l.at (findings_in l.words l.i l.k)
