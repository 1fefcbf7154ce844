-- Not to be believed: words of inner contracts, beside those of Plan, on which no contract of what users call rests.
use Rattle.std.specs.Prelude.{[], None}
use Rattle.format.specs.Plan.{from_code, ElementPlan}

-- ---- what stands for one that is not there
abbrev pub no_element_plan : ElementPlan
no_element_plan = record { element = 0; component = None; value = from_code [] }
