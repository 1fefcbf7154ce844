-- What filling stores, put together.
use Prim.Native.Nat.{ℕ, ◌+◌, ◌*◌, ◌≤◌, ◌<◌}
use mathlib.Core.Path.{◌≡◌, refl, ap, ◌∙◌}
use mathlib.Core.List.{List}
use mathlib.Core.Logic.{inl, inr}
use mathlib.Core.Bool.{Bool, true, false}
use native.Mathlib.Omega.{arith}
use lib.ListN.{length, get_or, set, get_or-eq_default}
use lib.Seq.{get_or-set_same}
use lib.Dec.{ltb}
use borrow.Author.Tests.{ltb-true, ltb-false}
use Rattle.codec.specs.Codec.{le_c, list_c}
use Rattle.codec.specs.Forms.{num_c, opt_c, flag_c}
use Rattle.codec.specs.Skip.{skip, count_at, Is}
use Rattle.codec.proofs.Skip.{skip_le, skip_map, skip_pair}
use Rattle.codec.proofs.Field.{is_list, count_list}
use Rattle.codec.specs.Rows.{small}
use Rattle.codec.proofs.Rows.{is_small}
use Rattle.codec.proofs.Limits.{none_of, none_in}
use Rattle.format.specs.Plan.{LoopPlan, no_loop_plan, instances_c, loop_plan_c, segment_plan_c, plan_c}
use Rattle.format.specs.Layout.{item_c, layout_c}
use Rattle.format.proofs.Fields.{LayoutIs, is_layout, is_loop_plan}
use Rattle.format.specs.Sections.{job_of, plan_start, layout_start, envelope_start}
use Rattle.format.proofs.Decoding.{is_read}
use Rattle.format.specs.Refusal.{over, over_loop_plan}
use Rattle.format.specs.Passed.{Passed}
use Rattle.format.specs.Ask.{plan_of}
use Rattle.spec.specs.Kept.{Kept}
use Rattle.spec.proofs.Kept.{kept_same, kept_set, kept_then, kept_wide}
use Rattle.spec.specs.Region.{Stored, Listed}
use Rattle.spec.proofs.Storing.{stored_kept, listed, lists_more, lists_all}
use Rattle.plan.specs.Index.{PlanIndexed, PlanFilled}
use Rattle.plan.specs.Filling.{PlanLists, PlanInto, LayoutInto}

module _ (b : List ℕ) (e : ℕ) where
  -- ---- a loop's plan, whose planned segments stand behind its instances
  pub loop_plan_more : (start l p at q : ℕ) (old d mid new : List ℕ) → l < 32 → mid ≡ set d (1025 + l) (small p) → at ≡ skip instances_c b p e → (q ≡ skip (list_c segment_plan_c) b at e) × Kept (1222 + l * 33) (1222 + l * 33 + 33) mid new × Stored segment_plan_c b e at (1222 + l * 33) new → PlanLists b e start l p old d → PlanLists b e start (l + 1) q old new
  unfolding loop_plan_c
  loop_plan_more start l p at q old d mid new m w i x h = lists_more loop_plan_c segment_plan_c b e (λ r. skip instances_c b r e) 1024 1222 2278 start l p q old d mid new m (omega arith) (omega arith) h w x.1 (rw i at x.2) (x.0 ∙ rw i (simp (skip_map, skip_pair)))

  -- ---- the plan
  pub plan_into : (at n start p l : ℕ) (old d new : List ℕ) → n ≡ count_at b at e → start ≡ skip (le_c 4) b at e → l ≡ n → PlanLists b e start l p old d → new ≡ set d 1024 (small at) → PlanInto b e at old new
  plan_into at n start p l old d new c f x h w =
      let y = lists_all loop_plan_c segment_plan_c b e (λ r. skip instances_c b r e) 1024 1222 2278 start at n p l old d new c f x (omega arith) (omega arith) h w in
      record { kept = y.0; plan = y.1; segments = λ j i m. y.2 j (omega arith) m }

  -- ---- the layout
  module _ (at f g d c : ℕ) (x₀ x₁ x₂ x₃ x₄ x₅ : List ℕ)
      (p₁ : f ≡ skip (list_c (list_c item_c)) b at e) (p₂ : g ≡ skip (list_c (list_c flag_c)) b f e) (p₃ : d ≡ skip (list_c (list_c num_c)) b g e) (p₄ : c ≡ skip (list_c (opt_c num_c)) b d e)
      (k₁ : Kept 1057 1090 x₀ x₁) (k₂ : Kept 1090 1123 x₁ x₂) (k₃ : Kept 1123 1156 x₂ x₃) (k₄ : Kept 1156 1189 x₃ x₄) (w : x₅ ≡ set x₄ 1189 (small c))
      (s₁ : Stored (list_c item_c) b e at 1057 x₁) (s₂ : Stored (list_c flag_c) b e f 1090 x₂) (s₃ : Stored (list_c num_c) b e g 1123 x₃) (s₄ : Stored (opt_c num_c) b e d 1156 x₄) where
    last : Kept 1189 1190 x₄ x₅
    last = kept_set 1189 1190 x₄ x₄ x₅ 1189 (small c) (kept_same _ _ x₄) w (omega arith) (omega arith)

    from₃ : Kept 1156 1222 x₃ x₅
    from₃ = kept_then 1156 1222 1189 1190 x₃ x₄ x₅ (kept_wide 1156 1189 1156 1222 x₃ x₄ (omega arith) (omega arith) k₄) last (omega arith) (omega arith)

    from₂ : Kept 1123 1222 x₂ x₅
    from₂ = kept_then 1123 1222 1156 1222 x₂ x₃ x₅ (kept_wide 1123 1156 1123 1222 x₂ x₃ (omega arith) (omega arith) k₃) from₃ (omega arith) (omega arith)

    from₁ : Kept 1090 1222 x₁ x₅
    from₁ = kept_then 1090 1222 1123 1222 x₁ x₂ x₅ (kept_wide 1090 1123 1090 1222 x₁ x₂ (omega arith) (omega arith) k₂) from₂ (omega arith) (omega arith)

    pub layout_into : LayoutInto b e at x₀ x₅
    layout_into = record {
      kept = kept_then 1057 1222 1090 1222 x₀ x₁ x₅ (kept_wide 1057 1090 1057 1222 x₀ x₁ (omega arith) (omega arith) k₁) from₁ (omega arith) (omega arith);
      order = stored_kept _ b e at 1057 1090 1222 x₁ x₅ s₁ from₁ (inl (omega arith));
      forced = rw (← p₁) (stored_kept _ b e f 1090 1123 1222 x₂ x₅ s₂ from₂ (inl (omega arith)));
      columns = rw (← p₁, ← p₂) (stored_kept _ b e g 1123 1156 1222 x₃ x₅ s₃ from₃ (inl (omega arith)));
      depth = rw (← p₁, ← p₂, ← p₃) (stored_kept _ b e d 1156 1189 1190 x₄ x₅ s₄ last (inl (omega arith)));
      capacity = λ m. rw (← p₁, ← p₂, ← p₃, ← p₄, w) (get_or-set_same x₄ 1189 (small c) 0 (omega (arith, last.long)));
    }

-- ---- both
module _ (b old d new : List ℕ) (x : Passed b) (p : PlanInto b (layout_start b) (plan_start b) old d) (q : LayoutInto b (envelope_start b) (layout_start b) d new) where
  low : layout_start b ≤ length b
  low = omega (arith, x.sound.least, x.sound.layout, x.sound.envelope, x.sound.tables)

  low' : envelope_start b ≤ length b
  low' = omega (arith, x.sound.least, x.sound.envelope, x.sound.tables)

  fits : layout_start b < 65536
  fits = omega (arith, low, x.sound.most)

  fits' : envelope_start b < 65536
  fits' = omega (arith, low', x.sound.most)

  few_segments : (l : ℕ) → length (plan_of (job_of b) l).segments ≤ 32
  unfolding plan_of over over_loop_plan
  few_segments l = go (ltb l (length (job_of b).plan)) refl
    where
      go : (t : Bool) → ltb l (length (job_of b).plan) ≡ t → length (get_or (job_of b).plan l no_loop_plan).segments ≤ 32
      go true r = ltb-false _ _ (none_of _ _ (none_in over_loop_plan (job_of b).plan (none_of _ _ (none_of _ _ x.limits).1).0 l no_loop_plan (ltb-true _ _ r))).0
      go false r = let z : length (get_or (job_of b).plan l no_loop_plan).segments ≡ 0 = ap (λ (s : LoopPlan). length s.segments) (get_or-eq_default (job_of b).plan no_loop_plan {n = l} (ltb-false _ _ r)) in omega arith

  plan_there : Is plan_c b (layout_start b) (plan_start b) (job_of b).plan
  plan_there = is_read plan_c b (plan_start b) (layout_start b) _ x.read.plan

  layout_there : LayoutIs b (envelope_start b) (layout_start b) (job_of b).layout
  layout_there = is_layout b (envelope_start b) (layout_start b) _ (is_read layout_c b (layout_start b) (envelope_start b) _ x.read.layout)

  module _ (room : 2560 ≤ length old) where
    long : length new ≡ length old
    long = q.kept.long ∙ p.kept.long

    listed_plan : Listed loop_plan_c b (layout_start b) new 1024 (job_of b).plan
    listed_plan = listed loop_plan_c b (layout_start b) (plan_start b) 1024 new _ fits (omega (arith, long)) (stored_kept loop_plan_c b (layout_start b) (plan_start b) 1024 1057 1222 d new p.plan q.kept (inl (omega arith))) plan_there

    listed_segments : (l : ℕ) → l < length (job_of b).plan → l < 32 → Listed segment_plan_c b (layout_start b) new (1222 + l * 33) (plan_of (job_of b) l).segments
    unfolding plan_of
    listed_segments l m n =
        let z = is_list loop_plan_c b (layout_start b) (plan_start b) _ plan_there in
        let c : length (job_of b).plan ≡ count_at b (plan_start b) (layout_start b) = count_list loop_plan_c b (layout_start b) (plan_start b) _ z in
        let f : skip (le_c 4) b (plan_start b) (layout_start b) ≡ plan_start b + 4 = skip_le 4 b _ (layout_start b) z.room in
        let s = stored_kept segment_plan_c b (layout_start b) _ (1222 + l * 33) 1057 1222 d new (p.segments l (rw c at m) n) q.kept (inr (omega arith)) in
        listed segment_plan_c b (layout_start b) _ (1222 + l * 33) new _ fits (omega (arith, long)) s (rw f (is_loop_plan b (layout_start b) _ _ (z.item l no_loop_plan m)).segments)

    pub plan_indexed : PlanIndexed b new
    plan_indexed = record {
      short = x.sound.most;
      plan_end = low;
      layout_end = low';
      few = few_segments;
      plan = listed_plan;
      segments = listed_segments;
      order = listed (list_c item_c) b (envelope_start b) _ 1057 new _ fits' (omega (arith, long)) q.order layout_there.order;
      forced = listed (list_c flag_c) b (envelope_start b) _ 1090 new _ fits' (omega (arith, long)) q.forced layout_there.forced;
      columns = listed (list_c num_c) b (envelope_start b) _ 1123 new _ fits' (omega (arith, long)) q.columns layout_there.group_columns;
      depth = listed (opt_c num_c) b (envelope_start b) _ 1156 new _ fits' (omega (arith, long)) q.depth layout_there.depth;
      capacity = is_small (list_c num_c) b (envelope_start b) _ _ _ fits' (q.capacity (omega (arith, long))) layout_there.capacity;
    }

  pub plan_filled : PlanFilled b old new
  plan_filled = record { kept = kept_then 1024 2560 1057 1222 old d new (kept_wide 1024 2278 1024 2560 old d (omega arith) (omega arith) p.kept) q.kept (omega arith) (omega arith); indexed = plan_indexed }

-- the numbers of the trailer, as they were read
pub filled : (b old d new : List ℕ) (p l e : ℕ) → Passed b → p ≡ plan_start b → l ≡ layout_start b → e ≡ envelope_start b → PlanInto b l p old d → LayoutInto b e l d new → PlanFilled b old new
filled b old d new p l e x h i j q r = plan_filled b old d new x (rw (← h, ← i) q) (rw (← i, ← j) r)
