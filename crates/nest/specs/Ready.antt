-- Not to be believed: words of inner contracts, on which no contract of what users call rests.
-- What nest and the walk ask for: a job that passed, and its index.
use Rattle.std.specs.Prelude.{ℕ, List}
use Rattle.format.specs.Passed.{Passed}
use Rattle.spec.specs.Index.{SpecIndexed}
use Rattle.spec.specs.EnvelopeIndex.{EnvelopeIndexed}
use Rattle.spec.specs.Segments.{SegmentsIndexed}
use Rattle.plan.specs.Index.{PlanIndexed}
use Rattle.tables.specs.Index.{TablesIndexed}
use Rattle.nest.specs.Lists.{each}
use Rattle.nest.specs.Finding.{Finding, record_of}

pub record Ready (b idx : List ℕ) : Type 0 where
  pub passed : Passed b
  pub spec : SpecIndexed b idx
  pub envelope : EnvelopeIndexed b idx
  pub segments : SegmentsIndexed b idx
  pub plan : PlanIndexed b idx
  pub tables : TablesIndexed b idx

-- findings as numbers, one record after the other
abbrev pub words : List Finding → List ℕ
words fs = each record_of fs
