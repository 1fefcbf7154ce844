-- Not to be believed: words of inner contracts, on which no contract of what users call rests.
-- What the two parts of filling store: the places of a plan and of a layout that stand at a place.
use Rattle.std.specs.Prelude.{ℕ, ◌+◌, ◌*◌, ◌<◌, ◌≡◌, List, length, get_or}
use Rattle.codec.specs.Codec.{le_c, list_c}
use Rattle.codec.specs.Forms.{num_c, opt_c, flag_c}
use Rattle.codec.specs.Skip.{skip, steps, count_at}
use Rattle.codec.specs.Rows.{small}
use Rattle.format.specs.Plan.{instances_c, loop_plan_c, segment_plan_c}
use Rattle.format.specs.Layout.{item_c}
use Rattle.format.specs.Fields.{layout_forced, layout_group_columns, layout_depth, layout_capacity}
use Rattle.spec.specs.Kept.{Kept}
use Rattle.spec.specs.Region.{Stored, Lists}

-- the plans of the loops, and the planned segments of each
abbrev pub PlanLists : List ℕ → ℕ → ℕ → ℕ → ℕ → List ℕ → List ℕ → Type 0
PlanLists b e = Lists loop_plan_c segment_plan_c b e (λ p. skip instances_c b p e) 1024 1222 2278

pub record PlanInto (b : List ℕ) (e at : ℕ) (old new : List ℕ) : Type 0 where
  pub kept : Kept 1024 2278 old new
  pub plan : Stored loop_plan_c b e at 1024 new
  pub segments : (l : ℕ) → l < count_at b at e → l < 32 → Stored segment_plan_c b e (skip instances_c b (steps loop_plan_c b e l (skip (le_c 4) b at e)) e) (1222 + l * 33) new

pub record LayoutInto (b : List ℕ) (e at : ℕ) (old new : List ℕ) : Type 0 where
  pub kept : Kept 1057 1222 old new
  pub order : Stored (list_c item_c) b e at 1057 new
  pub forced : Stored (list_c flag_c) b e (layout_forced b e at) 1090 new
  pub columns : Stored (list_c num_c) b e (layout_group_columns b e at) 1123 new
  pub depth : Stored (opt_c num_c) b e (layout_depth b e at) 1156 new
  pub capacity : 1189 < length new → get_or new 1189 0 ≡ small (layout_capacity b e at)
