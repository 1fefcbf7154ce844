-- The tests over the sections of a job that passed decide the conditions.
use Prim.Native.Nat.{ℕ, ◌≤◌}
use mathlib.Core.Path.{◌≡◌}
use mathlib.Core.List.{List}
use mathlib.Core.Bool.{Bool, not}
use Rattle.codec.specs.Codec.{list_c}
use Rattle.codec.specs.Skip.{count_at}
use Rattle.codec.proofs.Field.{is_list, count_list}
use lib.ListN.{length}
use Rattle.codec.specs.Limits.{any_of}
use Rattle.format.specs.Words.{any_from}
use Rattle.format.proofs.Decoding.{is_read}
use Rattle.format.specs.Plan.{loop_plan_c, plan_c}
use Rattle.format.specs.Sections.{job_of, plan_start, layout_start}
use Rattle.format.specs.Passed.{Passed}
use Rattle.format.proofs.Passed.{few}
use Rattle.complete.specs.Complete.{SeparatorsAlone}
use Rattle.says.specs.Says.{Says}
use Rattle.says.proofs.Walk.{section_says}
use Rattle.complete.specs.Decides.{Decides}
use Rattle.places.specs.Fits.{SegmentsFit}
use Rattle.places.specs.Triggers.{wrong_loop_at}
use Rattle.places.proofs.Separate.{alone_refuted}
use Rattle.places.specs.Spots.{wrong_plan}
use Rattle.places.proofs.Placing.{segments_refuted}
use Rattle.codes.proofs.Laws.{decided}

-- ---- planned segments
pub segments_decided : (b : List ℕ) → Passed b → (e at : ℕ) (t : Bool) → at ≡ plan_start b → e ≡ layout_start b
    → Says (list_c loop_plan_c) b e at (any_of (wrong_plan (job_of b))) t → Decides (not t) (SegmentsFit (job_of b))
segments_decided b p e at t i k s =
    let z : t ≡ any_of (wrong_plan (job_of b)) (job_of b).plan = section_says _ _ _ _ _ _ _ _ _ s i k p.read.plan in
    rw z (decided _ _ (segments_refuted (job_of b)))

-- ---- envelope fields that give a separator
abbrev pub OneEach : List ℕ → Type 0
OneEach b = length (job_of b).plan ≡ length (job_of b).spec.loops

-- a plan that has one entry a loop has few
pub plan_few : (b : List ℕ) → Passed b → OneEach b → (at e : ℕ) → at ≡ plan_start b → e ≡ layout_start b → count_at b at e ≤ 32
plan_few b p o at e i k =
    let n : length (job_of b).plan ≡ count_at b (plan_start b) (layout_start b) = count_list loop_plan_c b (layout_start b) (plan_start b) _ (is_list loop_plan_c b (layout_start b) (plan_start b) _ (is_read plan_c b (plan_start b) (layout_start b) _ p.read.plan)) in
    let f : length (job_of b).spec.loops ≤ 32 = (few (job_of b) p.limits).loops in
    rw (i, k, ← n, o) f

pub alone_decided : (b : List ℕ) → Passed b → (e at : ℕ) (t : Bool) → at ≡ plan_start b → e ≡ layout_start b
    → Says (list_c loop_plan_c) b e at (any_from (wrong_loop_at (job_of b)) 0) t → Decides (not t) (SeparatorsAlone (job_of b))
alone_decided b p e at t i k s =
    let z : t ≡ any_from (wrong_loop_at (job_of b)) 0 (job_of b).plan = section_says _ _ _ _ _ _ _ _ _ s i k p.read.plan in
    rw z (decided _ _ (alone_refuted (job_of b)))
