-- Not to be believed: words of inner contracts, on which no contract of what users call rests.
-- What the code knows on the way: the records that a job's findings are, and how windows of 64 of them make up the list.
use Rattle.std.specs.Prelude.{ℕ, List, [], map, take, drop, replicate}
use Rattle.finding.specs.declared.Finding.{Finding}
use Rattle.format.specs.Sections.{job_of}
use Rattle.writer.specs.Result.{result_of}
use Rattle.writer.specs.Refused.{refusal}
use Rattle.writer.specs.Lists.{unless_refused}
use Rattle.baktuven.specs.Wrote.{finding_of}

-- an empty window: 64 records
abbrev pub blank : List ℕ
blank = replicate 640 0

-- the records of a job; a refused one has none
unfoldable pub records_of : List ℕ → List Finding
records_of b = unless_refused (refusal b) [] (map finding_of (result_of (job_of b)).findings)

-- those from number `from` on, below `end`
abbrev pub behind : ℕ → ℕ → List Finding → List Finding
behind from end xs = drop from (take end xs)
