-- Not to be believed: words of inner contracts, on which no contract of what users call rests.
-- The region of plan and layout in the index of a job that passed. A list takes 33 numbers: its place, then the places of its first 32 items.
use Rattle.std.specs.Prelude.{ℕ, ◌+◌, ◌*◌, ◌≤◌, ◌<◌, List, length, get_or}
use Rattle.codec.specs.Codec.{list_c}
use Rattle.codec.specs.Forms.{num_c, opt_c, flag_c}
use Rattle.codec.specs.Skip.{Is}
use Rattle.format.specs.Plan.{loop_plan_c, segment_plan_c}
use Rattle.format.specs.Layout.{item_c}
use Rattle.format.specs.Sections.{job_of, layout_start, envelope_start}
use Rattle.format.specs.Ask.{plan_of}
use Rattle.spec.specs.Kept.{Kept}
use Rattle.spec.specs.Region.{Listed}

-- from here on, the planned segments of a loop
abbrev pub segments_at : ℕ → ℕ
segments_at l = 1222 + l * 33

pub record PlanIndexed (b idx : List ℕ) : Type 0 where
  pub short : length b ≤ 65536
  pub plan_end : layout_start b ≤ length b
  pub layout_end : envelope_start b ≤ length b
  pub few : (l : ℕ) → length (plan_of (job_of b) l).segments ≤ 32
  pub plan : Listed loop_plan_c b (layout_start b) idx 1024 (job_of b).plan
  pub segments : (l : ℕ) → l < length (job_of b).plan → l < 32 → Listed segment_plan_c b (layout_start b) idx (segments_at l) (plan_of (job_of b) l).segments
  pub order : Listed (list_c item_c) b (envelope_start b) idx 1057 (job_of b).layout.order
  pub forced : Listed (list_c flag_c) b (envelope_start b) idx 1090 (job_of b).layout.forced
  pub columns : Listed (list_c num_c) b (envelope_start b) idx 1123 (job_of b).layout.group_columns
  pub depth : Listed (opt_c num_c) b (envelope_start b) idx 1156 (job_of b).layout.depth
  pub capacity : Is (list_c num_c) b (envelope_start b) (get_or idx 1189 0) (job_of b).layout.capacity

-- what filling does: the region of an index that has room for it, and nothing else
pub record PlanFilled (b old new : List ℕ) : Type 0 where
  pub kept : Kept 1024 2560 old new
  pub indexed : 2560 ≤ length old → PlanIndexed b new
