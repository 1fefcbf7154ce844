-- Not to be believed: words of inner contracts, on which no contract of what users call rests.
-- A planned segment, all that is asked of it read at once, and the order of a loop.
use Rattle.std.specs.Prelude.{ℕ, ◌+◌, ◌*◌, ◌≤◌, ◌<◌, ◌≡◌, List, true, false, length, get_or, ltb}
use Rattle.codec.specs.Skip.{Is}
use Rattle.format.specs.Plan.{SegmentPlan, element_plan_c}
use Rattle.format.specs.Layout.{item_c}
use Rattle.format.specs.Sections.{job_of, layout_start, envelope_start}
use Rattle.format.specs.Ask.{plan_of, planned_of}
use Rattle.format.specs.Orders.{order_of}
use Rattle.plan.specs.declared.answers.Order.{Order}
use Rattle.plan.specs.declared.answers.Planned.{Planned}
use Rattle.plan.specs.declared.answers.Source.TheVariants.{Envelope}
use Rattle.plan.specs.Answers.{source_of, no_item}
use Rattle.plan.specs.Elements.{Run}

-- what stands for one that is not there
abbrev pub unplanned : Planned
unplanned = record { there = false; source = Envelope; occurrence = 0; count = 0; first = 0 }

-- what was read of the one that stands at a place
pub record SegmentIs (b : List ℕ) (e : ℕ) (v : SegmentPlan) (r : Planned) : Type 0 where
  pub source : source_of r.source ≡ v.source
  pub occurrence : r.occurrence ≡ v.occurrence
  pub count : r.count ≡ length v.elements
  pub first : Run element_plan_c b e r.first v.elements

pub record SegmentRead (b : List ℕ) (e : ℕ) (v : SegmentPlan) (r : Planned) : Type 0 where
  pub there : r.there ≡ true
  pub segment : SegmentIs b e v r

-- planned segment i of loop l of the job b
pub record PlannedIs (b : List ℕ) (l i : ℕ) (r : Planned) : Type 0 where
  pub there : r.there ≡ ltb i (length (plan_of (job_of b) l).segments)
  pub segment : SegmentIs b (layout_start b) (planned_of (job_of b) l i) r

-- the order of loop l of the job b
pub record OrderIs (b : List ℕ) (l : ℕ) (r : Order) : Type 0 where
  pub count : r.count ≡ length (order_of (job_of b) l)
  pub within : envelope_start b ≤ length b
  pub item : (k : ℕ) → k < r.count → Is item_c b (envelope_start b) (r.first + k * 5) (get_or (order_of (job_of b) l) k no_item)
