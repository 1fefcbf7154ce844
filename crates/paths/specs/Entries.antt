-- Not to be believed: words of inner contracts, on which no contract of what users call rests.
-- What the check of entries and orders finds (docs/RULES.md, "Entries and orders"): the entries, and that the orders' test passes.
use Rattle.std.specs.Prelude.{◌≡◌, true}
use Rattle.format.specs.Job.{Job}
use Rattle.nest.specs.OfJob.{outline_of}
use Rattle.complete.specs.Complete.{Entries}
use Rattle.paths.specs.Tests.{condition2}

pub record Orders (j : Job) : Type 0 where
  pub entries : Entries j
  pub ordered : condition2 (outline_of j) ≡ true
