-- Findings as records of ten numbers (docs/RULES.md, "Findings").
use Rattle.std.specs.Prelude.{ℕ, List, [], ◌∷◌, get_or}
use Rattle.finding.specs.declared.Finding.{Finding}

-- the first ten numbers; where there are fewer, zeros
abbrev pub finding_from : List ℕ → Finding
finding_from ws = record {
  kind = get_or ws 0 0;
  values = get_or ws 1 0 ∷ get_or ws 2 0 ∷ get_or ws 3 0 ∷ get_or ws 4 0 ∷ get_or ws 5 0 ∷ get_or ws 6 0 ∷ get_or ws 7 0 ∷ get_or ws 8 0 ∷ get_or ws 9 0 ∷ [];
}
