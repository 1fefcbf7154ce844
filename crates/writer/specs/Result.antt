-- What a job comes to, from the job alone: the document, its segments, the findings and the stops (`nest` and `Emitter::run`; docs/RULES.md, "What a call
-- tells").
use Rattle.std.specs.Prelude.{ℕ, List, [], ◌∷◌, ◌++◌, length}
use Rattle.format.specs.Job.{Job}
use Rattle.nest.specs.Finding.{Finding}
use Rattle.nest.specs.NestFindings.{nest_findings}
use Rattle.nest.specs.OfJob.{outline_of}
use Rattle.walk.specs.Tour.{Stop}
use Rattle.emit.specs.Fold.{Traced}
use Rattle.lossless.specs.Due.{trace_list}
use Rattle.lossless.specs.Separators.{kinds_of}
use Rattle.lossless.specs.NothingLost.{walked_out, NothingLost}

pub record Result : Type 0 where
  pub bytes : List ℕ
  pub segments : List Traced
  pub findings : List Finding
  pub stops : List Stop

-- the walk's findings follow nest's; the trace list counts entries by their sum
unfoldable pub result_of : Job → Result
result_of j =
    let o = walked_out j in
    record { bytes = o.bytes; segments = trace_list j; findings = nest_findings (outline_of j) ++ o.findings; stops = o.stops }

-- of what a job comes to nothing is lost
abbrev pub ResultKept : Job → Result → Type 0
ResultKept j r = NothingLost j r.bytes r.segments (kinds_of r.findings) r.stops

-- the four counts
abbrev pub counts_of : Result → List ℕ
counts_of r = length r.bytes ∷ length r.segments ∷ length r.findings ∷ length r.stops ∷ []
