-- The numbers that are stored make the index.
use Rattle.std.specs.Prelude.{ℕ, ◌+◌, ◌*◌, ◌≤◌, ◌<◌, ◌≡◌, List, [], ◌∷◌, length, get_or}
use Rattle.std.proofs.Math.Path.{refl}
use Rattle.std.proofs.Common.{◌∙◌, arith, zero-add}
use Rattle.codec.specs.Codec.{le_c, list_c}
use Rattle.codec.specs.Skip.{skip, steps, count_at}
use Rattle.codec.proofs.Skip.{skip_le}
use Rattle.codec.specs.Forms.{num_c, bytes_c, opt_c, flag_c}
use Rattle.codec.proofs.Field.{is_list, count_list}
use Rattle.codec.specs.Rows.{stored, small}
use Rattle.codec.proofs.Rows.{is_small, rows_length}
use Rattle.format.specs.Spec.{no_loop, loop_c, no_table, table_c, usage_c, control_c, repeat_c, version_c, spec_c}
use Rattle.format.specs.Sections.{plan_start, job_of}
use Rattle.format.proofs.Fields.{LoopIs, is_loop, TableIs, is_table, SpecIs, is_spec}
use Rattle.format.specs.Fields.{spec_tables}
use Rattle.format.proofs.Decoding.{is_read}
use Rattle.format.specs.Passed.{Passed}
use Rattle.format.proofs.Passed.{few}
use Rattle.format.specs.Ask.{loop_of, table_of}
use Rattle.spec.specs.Index.{SpecIndexed}
use Rattle.spec.specs.Rows.{loop_row, table_row, loop_rows, table_rows}
use Rattle.spec.proofs.Rows.{head_row}
use Rattle.spec.specs.Kept.{Kept}
use Rattle.spec.proofs.Kept.{Has, kept_stored, kept_then, kept_wide, has_stored, has_below, has_above, row_has}

module _ (b : List ℕ) (w : Passed b) where
  pub spec_is : SpecIs b (plan_start b) 0 (job_of b).spec
  spec_is = is_spec b (plan_start b) 0 (job_of b).spec (is_read spec_c b 0 (plan_start b) (job_of b).spec w.read.spec)

  pub spec_within : plan_start b + 24 ≤ length b
  spec_within = let s = w.sound in omega (arith, s.least, s.plan, s.layout, s.envelope, s.tables)

  -- ---- how many there are
  pub loops_counted : length (job_of b).spec.loops ≡ count_at b 0 (plan_start b)
  loops_counted = count_list loop_c b (plan_start b) 0 (job_of b).spec.loops (is_list loop_c b (plan_start b) 0 (job_of b).spec.loops spec_is.loops)

  pub tables_counted : length (job_of b).spec.tables ≡ count_at b (spec_tables b (plan_start b) 0) (plan_start b)
  tables_counted = count_list table_c b (plan_start b) _ (job_of b).spec.tables (is_list table_c b (plan_start b) _ (job_of b).spec.tables spec_is.tables)

  pub few_loops : count_at b 0 (plan_start b) ≤ 32
  few_loops = rw (← loops_counted) (few (job_of b) w.limits).loops

  pub few_tables : count_at b (spec_tables b (plan_start b) 0) (plan_start b) ≤ 16
  few_tables = rw (← tables_counted) (few (job_of b) w.limits).tables

  loops_long : length (loop_rows b (plan_start b) 0) ≤ 224
  unfolding loop_rows
  loops_long =
      let n = few_loops in
      let l = rows_length loop_c b (plan_start b) (loop_row b (plan_start b)) 7 (λ p. refl) (count_at b 0 (plan_start b)) (skip (le_c 4) b 0 (plan_start b)) in
      omega (arith, l, n)

  tables_long : length (table_rows b (plan_start b) (spec_tables b (plan_start b) 0)) ≤ 96
  unfolding table_rows
  tables_long =
      let n = few_tables in
      let l = rows_length table_c b (plan_start b) (table_row b (plan_start b)) 6 (λ p. refl) (count_at b (spec_tables b (plan_start b) 0) (plan_start b)) (skip (le_c 4) b (spec_tables b (plan_start b) 0) (plan_start b)) in
      omega (arith, l, n)

  heads_long : length (head_row b) ≡ 4
  unfolding head_row
  heads_long = refl

  -- ---- from the numbers to the index
  module _ (idx : List ℕ) (h : Has idx 0 (head_row b)) (l : Has idx 8 (loop_rows b (plan_start b) 0)) (t : Has idx 232 (table_rows b (plan_start b) (spec_tables b (plan_start b) 0))) where
    low : plan_start b < 65536
    low = let s = w.sound in let i = spec_within in omega (arith, s.most)

    head : (i : ℕ) → i < 4 → get_or idx i 0 ≡ get_or (head_row b) i 0
    head i q = rw zero-add at (h i (rw heads_long q))

    loop_number : (i j : ℕ) → i < length (job_of b).spec.loops → j < 7 → get_or idx (8 + i * 7 + j) 0 ≡ get_or (loop_row b (plan_start b) (steps loop_c b (plan_start b) i (skip (le_c 4) b 0 (plan_start b)))) j 0
    unfolding loop_rows
    loop_number i j q r = row_has loop_c b idx (plan_start b) (loop_row b (plan_start b)) 7 (λ p. refl) (count_at b 0 (plan_start b)) (skip (le_c 4) b 0 (plan_start b)) 8 l i j (rw loops_counted at q) r

    table_number : (i j : ℕ) → i < length (job_of b).spec.tables → j < 6 → get_or idx (232 + i * 6 + j) 0 ≡ get_or (table_row b (plan_start b) (steps table_c b (plan_start b) i (skip (le_c 4) b (spec_tables b (plan_start b) 0) (plan_start b)))) j 0
    unfolding table_rows
    table_number i j q r = row_has table_c b idx (plan_start b) (table_row b (plan_start b)) 6 (λ p. refl) (count_at b (spec_tables b (plan_start b) 0) (plan_start b)) (skip (le_c 4) b (spec_tables b (plan_start b) 0) (plan_start b)) 232 t i j (rw tables_counted at q) r

    loop_is : (i : ℕ) → i < length (job_of b).spec.loops → LoopIs b (plan_start b) (steps loop_c b (plan_start b) i (skip (le_c 4) b 0 (plan_start b))) (loop_of (job_of b) i)
    unfolding loop_of
    loop_is i q =
        let s = is_list loop_c b (plan_start b) 0 (job_of b).spec.loops spec_is.loops in
        let m : skip (le_c 4) b 0 (plan_start b) ≡ 0 + 4 = skip_le 4 b 0 (plan_start b) s.room in
        is_loop b (plan_start b) _ _ (rw m (s.item i no_loop q))

    table_is : (i : ℕ) → i < length (job_of b).spec.tables → TableIs b (plan_start b) (steps table_c b (plan_start b) i (skip (le_c 4) b (spec_tables b (plan_start b) 0) (plan_start b))) (table_of (job_of b) i)
    unfolding table_of
    table_is i q =
        let s = is_list table_c b (plan_start b) (spec_tables b (plan_start b) 0) (job_of b).spec.tables spec_is.tables in
        let m : skip (le_c 4) b (spec_tables b (plan_start b) 0) (plan_start b) ≡ spec_tables b (plan_start b) 0 + 4 = skip_le 4 b _ (plan_start b) s.room in
        is_table b (plan_start b) _ _ (rw m (s.item i no_table q))

    pub spec_indexed : SpecIndexed b idx
    unfolding head_row
    spec_indexed = record {
      trailed = w.sound.least;
      short = w.sound.most;
      within = let i = spec_within in omega (arith, i);
      few_loops = (few (job_of b) w.limits).loops;
      few_tables = (few (job_of b) w.limits).tables;
      loops = is_small (list_c loop_c) b (plan_start b) _ _ _ low (head 0 (omega arith)) spec_is.loops;
      roots = is_small (list_c num_c) b (plan_start b) _ _ _ low (head 1 (omega arith)) spec_is.roots;
      tables = is_small (list_c table_c) b (plan_start b) _ _ _ low (head 2 (omega arith)) spec_is.tables;
      version = is_small (opt_c version_c) b (plan_start b) _ _ _ low (head 3 (omega arith)) spec_is.version;
      parent = λ i q. is_small (opt_c num_c) b (plan_start b) _ _ _ low (loop_number i 0 q (omega arith)) (loop_is i q).parent;
      trigger = λ i q. is_small bytes_c b (plan_start b) _ _ _ low (loop_number i 1 q (omega arith)) (loop_is i q).trigger;
      occurrences = λ i q. is_small (list_c bytes_c) b (plan_start b) _ _ _ low (loop_number i 2 q (omega arith)) (loop_is i q).occurrences;
      usage = λ i q. is_small usage_c b (plan_start b) _ _ _ low (loop_number i 3 q (omega arith)) (loop_is i q).usage;
      end = λ i q. is_small (opt_c bytes_c) b (plan_start b) _ _ _ low (loop_number i 4 q (omega arith)) (loop_is i q).end;
      control = λ i q. is_small (opt_c control_c) b (plan_start b) _ _ _ low (loop_number i 5 q (omega arith)) (loop_is i q).control;
      children = λ i q. is_small (list_c num_c) b (plan_start b) _ _ _ low (loop_number i 6 q (omega arith)) (loop_is i q).children;
      table_loops = λ i q. is_small (list_c num_c) b (plan_start b) _ _ _ low (table_number i 0 q (omega arith)) (table_is i q).loops;
      segment = λ i q. is_small flag_c b (plan_start b) _ _ _ low (table_number i 1 q (omega arith)) (table_is i q).segment;
      repeat = λ i q. is_small (opt_c repeat_c) b (plan_start b) _ _ _ low (table_number i 2 q (omega arith)) (table_is i q).repeat;
      columns = λ i q. is_small num_c b (plan_start b) _ _ _ low (table_number i 3 q (omega arith)) (table_is i q).columns;
      table_parent = λ i q. is_small (opt_c num_c) b (plan_start b) _ _ _ low (table_number i 4 q (omega arith)) (table_is i q).parent;
      ancestors = λ i q. is_small (list_c num_c) b (plan_start b) _ _ _ low (table_number i 5 q (omega arith)) (table_is i q).ancestors;
    }

  -- ---- storing them one after the other, the segments in between
  pub few_at : (e tables : ℕ) → e ≡ plan_start b → tables ≡ spec_tables b e 0 → count_at b tables e ≤ 16
  few_at e tables i₀ i = rw (i, i₀) few_tables

  module _ (d₀ d₁ d₂ d₃ d₄ : List ℕ) (e₁ : d₁ ≡ stored d₀ 8 (loop_rows b (plan_start b) 0)) (k₂ : Kept 4096 10752 d₁ d₂) (e₃ : d₃ ≡ stored d₂ 232 (table_rows b (plan_start b) (spec_tables b (plan_start b) 0))) (e₄ : d₄ ≡ stored d₃ 0 (head_row b)) where
    k₁ : Kept 8 232 d₀ d₁
    k₁ = kept_stored 8 232 d₀ d₁ (loop_rows b (plan_start b) 0) 8 e₁ (omega arith) (omega (arith, loops_long))

    k₃ : Kept 232 328 d₂ d₃
    k₃ = kept_stored 232 328 d₂ d₃ (table_rows b (plan_start b) (spec_tables b (plan_start b) 0)) 232 e₃ (omega arith) (omega (arith, tables_long))

    k₄ : Kept 0 4 d₃ d₄
    k₄ = kept_stored 0 4 d₃ d₄ (head_row b) 0 e₄ (omega arith) (rw heads_long (omega arith))

    pub before_kept : Kept 0 1024 d₀ d₁
    before_kept = kept_wide 8 232 0 1024 d₀ d₁ (omega arith) (omega arith) k₁

    pub behind_kept : Kept 0 1024 d₂ d₄
    behind_kept = kept_then 0 1024 0 4 d₂ d₃ d₄ (kept_wide 232 328 0 1024 d₂ d₃ (omega arith) (omega arith) k₃) k₄ (omega arith) (omega arith)

    pub spec_filled : 10752 ≤ length d₀ → SpecIndexed b d₄
    spec_filled m =
        let n₁ = k₁.long in
        let n₂ = k₂.long in
        let n₃ = k₃.long in
        spec_indexed d₄
        (has_stored d₃ d₄ (head_row b) 0 e₄ (omega (arith, heads_long)))
        (has_above d₃ d₄ (loop_rows b (plan_start b) 0) 8 0 4 (has_below d₂ d₃ (loop_rows b (plan_start b) 0) 8 232 328 (has_below d₁ d₂ (loop_rows b (plan_start b) 0) 8 4096 10752 (has_stored d₀ d₁ (loop_rows b (plan_start b) 0) 8 e₁ (omega (arith, loops_long))) k₂ (omega (arith, loops_long))) k₃ (omega (arith, loops_long))) k₄ (omega arith))
        (has_above d₃ d₄ (table_rows b (plan_start b) (spec_tables b (plan_start b) 0)) 232 0 4 (has_stored d₂ d₃ (table_rows b (plan_start b) (spec_tables b (plan_start b) 0)) 232 e₃ (omega (arith, tables_long))) k₄ (omega arith))

  -- the same, by what is read and stored on the way
  pub fill_done : (e roots tables version : ℕ) → e ≡ plan_start b → roots ≡ skip (list_c loop_c) b 0 e → tables ≡ spec_tables b e 0 → version ≡ skip (list_c table_c) b tables e
      → (d₀ d₁ d₂ d₃ d₄ : List ℕ) → d₁ ≡ stored d₀ 8 (loop_rows b e 0) → Kept 4096 10752 d₁ d₂ → d₃ ≡ stored d₂ 232 (table_rows b e tables) → d₄ ≡ stored d₃ 0 (small 0 ∷ small roots ∷ small tables ∷ small version ∷ [])
      → (10752 ≤ length d₀ → SpecIndexed b d₄) × Kept 0 1024 d₀ d₁ × Kept 0 1024 d₂ d₄
  unfolding head_row
  fill_done e roots tables version i₀ i₁ i₃ i₄ d₀ d₁ d₂ d₃ d₄ f₁ k f₃ f₄ =
      let e₁ : d₁ ≡ stored d₀ 8 (loop_rows b (plan_start b) 0) = f₁ ∙ rw i₀ in
      let e₃ : d₃ ≡ stored d₂ 232 (table_rows b (plan_start b) (spec_tables b (plan_start b) 0)) = f₃ ∙ rw (i₃, i₀) in
      let e₄ : d₄ ≡ stored d₃ 0 (head_row b) = f₄ ∙ rw (i₄, i₃, i₁, i₀) in
      (spec_filled d₀ d₁ d₂ d₃ d₄ e₁ k e₃ e₄, before_kept d₀ d₁ d₂ d₃ d₄ e₁ k e₃ e₄, behind_kept d₀ d₁ d₂ d₃ d₄ e₁ k e₃ e₄)
