use Rattle.repeat_segment.specs.Places.{number_by, parts_from}
use Rattle.plan.specs.Answers.{element_of}
use Rattle.segment.specs.Parts.{highest}
use mathlib.Core.List.{[], ◌∷◌}
use mathlib.Core.Path.{◌≡◌}
use Prim.Native.Nat.{◌-◌, ◌≤◌}
use Rattle.repeat_segment.proofs.last.highest_rows.Given as goal

abbrev pub invariant-loop-k : goal.invariant-loop-k
invariant-loop-k l = (l.from ≤ l.k) × (l.k ≤ l.to) × (l.best ≡ highest (number_by l.q) (parts_from l.chunk.job.at.bytes.now l.chunk.segment l.chunk.rows.now l.from (l.k - l.from) (element_of l.chunk.job.at.bytes.now l.e ∷ [])))
