-- Not to be believed: words of inner contracts, on which no contract of what users call rests.
-- Places of a complete plan (docs/RULES.md, "Places"): the fields of `CompletePlan` that speak of the spec's maps and of control rules.
use Rattle.std.specs.Prelude.{ℕ, List}
use Rattle.format.specs.Spec.{Loop, SegmentDef}
use Rattle.format.specs.Job.{Job}
use Rattle.nest.specs.Lists.{All}
use Rattle.complete.specs.Complete.{IfThere, MapStarts, RuleFits}

abbrev pub MapsFit : Job → Type 0
MapsFit j = All (λ (s : List ℕ × SegmentDef). All MapStarts s.1) j.spec.segments

abbrev pub RulesFit : Job → Type 0
RulesFit j = All (λ (l : Loop). IfThere RuleFits l.control) j.spec.loops
