-- The listing's other lines: docs/RULES.md, "The listing". Those of findings are finding's.
use Rattle.std.specs.Prelude.{ℕ, ◌-◌, ◌==◌, List, [], ◌∷◌, if◌then◌else◌, codes, decimal}
use Rattle.finding.specs.Listing.{spaced}

-- a stop: loop, table, row
abbrev pub stop_line : ℕ → ℕ → ℕ → List ℕ
stop_line loop_id table row = spaced (codes "R" ∷ decimal loop_id ∷ decimal table ∷ decimal row ∷ [])

-- a segment: its first trace entry, and its row's table and number; the table stands as one more than its number, and as 0 where the segment has no row
abbrev pub segment_line : ℕ → ℕ → ℕ → List ℕ
segment_line entry table row =
    if table == 0
    then spaced (codes "S" ∷ decimal entry ∷ codes "-" ∷ codes "-" ∷ [])
    else spaced (codes "S" ∷ decimal entry ∷ decimal (table - 1) ∷ decimal row ∷ [])

-- the four counts of a finished job: bytes, segments, findings, stops
abbrev pub done_line : ℕ → ℕ → ℕ → ℕ → List ℕ
done_line bytes segments findings stops = spaced (codes "done" ∷ decimal bytes ∷ decimal segments ∷ decimal findings ∷ decimal stops ∷ [])

-- a job that is refused, with the number of the answer
abbrev pub refused_line : ℕ → List ℕ
refused_line number = spaced (codes "refused" ∷ decimal number ∷ [])
