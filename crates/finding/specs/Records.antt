-- Not to be believed: words of inner contracts, beside those of Findings, on which no contract of what users call rests.
use Rattle.std.specs.Prelude.{ℕ, zero, suc, ◌+◌, ◌*◌, List, [], ◌∷◌, drop}
use Rattle.finding.specs.declared.Finding.{Finding}
use Rattle.finding.specs.Findings.{finding_from}

-- record i of a list of numbers
unfoldable pub finding_at : List ℕ → ℕ → Finding
finding_at ws i = finding_from (drop (i * 10) ws)

-- records i, i + 1, .., so many of them
unfoldable pub findings_in : List ℕ → ℕ → ℕ → List Finding
findings_in ws i zero = []
findings_in ws i (suc n) = finding_at ws i ∷ findings_in ws (i + 1) n
