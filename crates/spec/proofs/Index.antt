-- Laws of the definitions of specs/Index, and words that only proofs use.
use Rattle.std.specs.Prelude.{ℕ, ◌+◌, ◌*◌, ◌≤◌, ◌<◌, ◌≡◌, List, Bool, true, false, get_or, ltb, Option, None, Some}
use Rattle.std.proofs.Math.Path.{refl}
use Rattle.std.proofs.Common.{ap, arith}
use Rattle.std.proofs.Math.ListN.{length, get_or-eq_default}
use borrow.Author.Tests.{ltb-true, ltb-false, lt-ltb, le-ltb}
use Rattle.codec.specs.Codec.{Codec, pick, le, list_c}
use Rattle.codec.specs.Skip.{Is}
use Rattle.codec.specs.Forms.{num_c, bytes_c, opt_c, flag_c}
use Rattle.codec.proofs.Field.{is_list, is_at, stands_at}
use Rattle.codec.specs.Field.{Stands}
use Rattle.format.specs.Spec.{Loop, no_loop, loop_c, Table, no_table, table_c, usage_c, control_c, repeat_c, version_c}
use Rattle.format.specs.Sections.{plan_start, job_of}
use Rattle.format.specs.Ask.{loop_of, table_of}
use Rattle.spec.specs.Index.{LoopField, TableField, SpecIndexed, row_place}

-- an index that agrees on the region of the spec
module _ (b idx idx' : List ℕ) (x : SpecIndexed b idx) (same : (i : ℕ) → i < 1024 → get_or idx' i 0 ≡ get_or idx i 0) where
  at_loop : {A : Type 0} (C : Codec A) (field : Loop → A) (f : ℕ) → f < 7 → LoopField b idx f C field → LoopField b idx' f C field
  at_loop C field f q h i r = let n = x.few_loops in is_at C b (plan_start b) _ _ _ (same (8 + i * 7 + f) (omega (arith, n))) (h i r)

  at_table : {A : Type 0} (C : Codec A) (field : Table → A) (f : ℕ) → f < 6 → TableField b idx f C field → TableField b idx' f C field
  at_table C field f q h i r = let n = x.few_tables in is_at C b (plan_start b) _ _ _ (same (232 + i * 6 + f) (omega (arith, n))) (h i r)

  pub spec_agrees : SpecIndexed b idx'
  spec_agrees = record {
    trailed = x.trailed;
    short = x.short;
    within = x.within;
    few_loops = x.few_loops;
    few_tables = x.few_tables;
    loops = is_at (list_c loop_c) b (plan_start b) _ _ _ (same 0 (omega arith)) x.loops;
    roots = is_at (list_c num_c) b (plan_start b) _ _ _ (same 1 (omega arith)) x.roots;
    tables = is_at (list_c table_c) b (plan_start b) _ _ _ (same 2 (omega arith)) x.tables;
    version = is_at (opt_c version_c) b (plan_start b) _ _ _ (same 3 (omega arith)) x.version;
    parent = at_loop (opt_c num_c) (λ v. v.parent) 0 (omega arith) x.parent;
    trigger = at_loop bytes_c (λ v. v.trigger) 1 (omega arith) x.trigger;
    occurrences = at_loop (list_c bytes_c) (λ v. v.occurrences) 2 (omega arith) x.occurrences;
    usage = at_loop usage_c (λ v. v.usage) 3 (omega arith) x.usage;
    end = at_loop (opt_c bytes_c) (λ v. v.end) 4 (omega arith) x.end;
    control = at_loop (opt_c control_c) (λ v. v.control) 5 (omega arith) x.control;
    children = at_loop (list_c num_c) (λ v. v.children) 6 (omega arith) x.children;
    table_loops = at_table (list_c num_c) (λ v. v.loops) 0 (omega arith) x.table_loops;
    segment = at_table flag_c (λ v. v.segment) 1 (omega arith) x.segment;
    repeat = at_table (opt_c repeat_c) (λ v. v.repeat) 2 (omega arith) x.repeat;
    columns = at_table num_c (λ v. v.columns) 3 (omega arith) x.columns;
    table_parent = at_table (opt_c num_c) (λ v. v.parent) 4 (omega arith) x.table_parent;
    ancestors = at_table (list_c num_c) (λ v. v.ancestors) 5 (omega arith) x.ancestors;
  }

-- ---- the place of field f of row i: the list's own place is number `list`, its rows of `width` numbers begin at `from`; none for a row that is not there

module _ (b idx : List ℕ) (list from width i f p n : ℕ) (q : p ≡ get_or idx list 0) (c : n ≡ le 4 b p) where
  pub row_none : n ≤ i → None ≡ row_place b idx list from width i f
  unfolding row_place
  row_none h = rw (← q, ← c, le-ltb _ _ h)

  pub row_is : (x : ℕ) → i < n → x ≡ get_or idx (from + i * width + f) 0 → Some x ≡ row_place b idx list from width i f
  unfolding row_place
  row_is x h j = rw (← q, ← c, lt-ltb _ _ h) (ap Some j)

module _ {R : Type 0} (D : Codec R) (d : R) (b idx : List ℕ) (e list from width i f : ℕ) (rs : List R) (l : Is (list_c D) b e (get_or idx list 0) rs) (r : Option ℕ) (q : r ≡ row_place b idx list from width i f) where
  counted : length rs ≡ le 4 b (get_or idx list 0)
  counted = (is_list D b e (get_or idx list 0) rs l).counted

  row_lacks : r ≡ None → get_or rs i d ≡ d
  unfolding row_place
  row_lacks h = go (ltb i (le 4 b (get_or idx list 0))) refl q
    where
      go : (t : Bool) → ltb i (le 4 b (get_or idx list 0)) ≡ t → r ≡ pick t (Some (get_or idx (from + i * width + f) 0)) None → get_or rs i d ≡ d
      go true m u = absurd (let z : ◌≡◌ {A = ℕ} 0 1 = cc in omega arith)
      go false m u = get_or-eq_default rs d (rw counted (ltb-false _ _ m))

  row_there : {A : Type 0} (C : Codec A) (field : R → A) → ((k : ℕ) → k < length rs → Is C b e (get_or idx (from + k * width + f) 0) (field (get_or rs k d))) → (p : ℕ) → r ≡ Some p → Is C b e p (field (get_or rs i d))
  unfolding row_place
  row_there C field h p k = go (ltb i (le 4 b (get_or idx list 0))) refl q
    where
      go : (t : Bool) → ltb i (le 4 b (get_or idx list 0)) ≡ t → r ≡ pick t (Some (get_or idx (from + i * width + f) 0)) None → Is C b e p (field (get_or rs i d))
      go true m u =
          let j : i < length rs = rw counted (ltb-true _ _ m) in
          let w : p ≡ get_or idx (from + i * width + f) 0 = cc in
          rw w (h i j)
      go false m u = absurd (let z : ◌≡◌ {A = ℕ} 0 1 = cc in omega arith)

module _ (b idx : List ℕ) (x : SpecIndexed b idx) (i f : ℕ) (r : Option ℕ) where
  pub loop_lacks : r ≡ row_place b idx 0 8 7 i f → r ≡ None → loop_of (job_of b) i ≡ no_loop
  unfolding loop_of
  loop_lacks q h = row_lacks loop_c no_loop b idx (plan_start b) 0 8 7 i f (job_of b).spec.loops x.loops r q h

  pub loop_is : {A : Type 0} (C : Codec A) (field : Loop → A) → LoopField b idx f C field → r ≡ row_place b idx 0 8 7 i f → (p : ℕ) → r ≡ Some p → Is C b (plan_start b) p (field (loop_of (job_of b) i))
  unfolding loop_of
  loop_is C field g q p h = row_there loop_c no_loop b idx (plan_start b) 0 8 7 i f (job_of b).spec.loops x.loops r q C field g p h

  pub loop_stands : {A : Type 0} (C : Codec A) (field : Loop → A) → LoopField b idx f C field → r ≡ row_place b idx 0 8 7 i f → (p : ℕ) → r ≡ Some p → Stands C b p
  loop_stands C field g q p h = stands_at C b p p (plan_start b) _ refl x.within (loop_is C field g q p h)

  pub table_lacks : r ≡ row_place b idx 2 232 6 i f → r ≡ None → table_of (job_of b) i ≡ no_table
  unfolding table_of
  table_lacks q h = row_lacks table_c no_table b idx (plan_start b) 2 232 6 i f (job_of b).spec.tables x.tables r q h

  pub table_is : {A : Type 0} (C : Codec A) (field : Table → A) → TableField b idx f C field → r ≡ row_place b idx 2 232 6 i f → (p : ℕ) → r ≡ Some p → Is C b (plan_start b) p (field (table_of (job_of b) i))
  unfolding table_of
  table_is C field g q p h = row_there table_c no_table b idx (plan_start b) 2 232 6 i f (job_of b).spec.tables x.tables r q C field g p h

  pub table_stands : {A : Type 0} (C : Codec A) (field : Table → A) → TableField b idx f C field → r ≡ row_place b idx 2 232 6 i f → (p : ℕ) → r ≡ Some p → Stands C b p
  table_stands C field g q p h = stands_at C b p p (plan_start b) _ refl x.within (table_is C field g q p h)
