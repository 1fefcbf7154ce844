-- What filling stores, put together.
use Prim.Native.Nat.{ℕ, zero, suc, ◌+◌, ◌*◌, ◌≤◌, ◌<◌}
use mathlib.Core.Path.{◌≡◌, refl, sym, ap, ◌∙◌}
use mathlib.Core.List.{List, [], ◌∷◌}
use mathlib.Core.Logic.{inl, inr}
use mathlib.Core.Bool.{Bool, true, false}
use native.Mathlib.Omega.{arith}
use native.Mathlib.Numerals.{add-one}
use lib.ListN.{length, get_or, set, get_or-eq_default}
use lib.Seq.{get_or-set_same, get_or-set_other}
use lib.Dec.{ltb}
use borrow.Author.Tests.{ltb-true, ltb-false}
use Rattle.codec.specs.Codec.{le, le_c, list_c}
use Rattle.codec.specs.Forms.{opt_c}
use Rattle.codec.specs.Skip.{skip, steps, count_at, Is}
use Rattle.codec.proofs.Skip.{skip_le, skip_map, skip_pair}
use Rattle.codec.proofs.Field.{is_list, count_list, is_le}
use Rattle.codec.specs.Rows.{small}
use Rattle.codec.proofs.Rows.{is_small}
use Rattle.codec.proofs.Limits.{none_of, none_in}
use Rattle.format.specs.Data.{column_c, TableData, table_data_c, no_table_data, data_c}
use Rattle.format.specs.Sections.{job_of, data_start, trailer}
use Rattle.format.proofs.Decoding.{is_read}
use Rattle.format.specs.Refusal.{over, over_data, over_table_data, rows_of_all}
use Rattle.format.specs.Passed.{Passed}
use Rattle.format.proofs.Passed.{few}
use Rattle.format.specs.Ask.{data_of}
use Rattle.column.specs.Parts.{refs_c}
use Rattle.column.proofs.Parts.{is_table_data}
use Rattle.spec.specs.Kept.{Kept}
use Rattle.spec.proofs.Kept.{kept_same, kept_set, kept_then, kept_wide}
use Rattle.spec.specs.Region.{Stored, Listed}
use Rattle.spec.proofs.Storing.{stored_kept, listed, lists_more}
use Rattle.tables.specs.Parts.{refs_from, columns_from, rows_before, rows_by}
use Rattle.tables.specs.Index.{DataLists, DataInto, TablesIndexed, RefsStored, TablesFilled}

-- ---- the tables and their columns, one table after the other
module _ (b : List ℕ) (e : ℕ) where
  -- the columns stand behind rows, row, segment and refs
  pub table_more : (start t p f at q : ℕ) (old d mid new : List ℕ) → t < 16 → mid ≡ set d (2625 + t) (small p) → f ≡ refs_from b e p → at ≡ skip refs_c b f e → (q ≡ skip (list_c (opt_c column_c)) b at e) × Kept (2674 + t * 33) (2674 + t * 33 + 33) mid new × Stored (opt_c column_c) b e at (2674 + t * 33) new → DataLists b e start t p old d → DataLists b e start (t + 1) q old new
  unfolding table_data_c
  table_more start t p f at q old d mid new m w i l x h =
      let z : at ≡ columns_from b e p = rw (l, i) in
      lists_more table_data_c (opt_c column_c) b e (columns_from b e) 2624 2674 3202 start t p q old d mid new (omega arith) (omega arith) (omega arith) h w x.1 (rw z at x.2) (x.0 ∙ rw z (simp (skip_map, skip_pair)))

-- ---- the references of the tables
-- the places of the first t tables' references are stored
pub record Refs (b : List ℕ) (e t : ℕ) (old new : List ℕ) : Type 0 where
  pub kept : Kept 3202 3219 old new
  pub stored : (j : ℕ) → j < t → 3203 + j < length old → get_or new (3203 + j) 0 ≡ small (refs_from b e (get_or old (2625 + j) 0))

-- ---- the rows before each table
-- the numbers of the first t tables are stored; f rows stand before the next
pub record Firsts (b : List ℕ) (t f : ℕ) (old new : List ℕ) : Type 0 where
  pub kept : Kept 2657 2674 old new
  pub count : f ≡ rows_by b old t
  pub least : f ≤ t * 4294967296
  pub stored : (j : ℕ) → j < t → 2657 + j < length old → get_or new (2657 + j) 0 ≡ small (rows_by b old j)

module _ (b : List ℕ) where
  pub firsts_none : (idx : List ℕ) → Firsts b 0 0 idx idx
  unfolding rows_by
  firsts_none idx = record { kept = kept_same _ _ idx; count = refl; least = omega arith; stored = λ j m. absurd (omega arith) }

  -- one more number
  pub firsts_put : (t f : ℕ) (old d new : List ℕ) → t ≤ 16 → Firsts b t f old d → new ≡ set d (2657 + t) (small f) → Kept 2657 2674 old new × ((j : ℕ) → j < t + 1 → 2657 + j < length old → get_or new (2657 + j) 0 ≡ small (rows_by b old j))
  firsts_put t f old d new m h w = (kept_set 2657 2674 old d new (2657 + t) (small f) h.kept w (omega arith) (omega arith), λ j q l. rw w (go j q l (ltb j t) refl))
    where
      go : (j : ℕ) → j < t + 1 → 2657 + j < length old → (u : Bool) → ltb j t ≡ u → get_or (set d (2657 + t) (small f)) (2657 + j) 0 ≡ small (rows_by b old j)
      go j q l true r = let o : j < t = ltb-true _ _ r in get_or-set_other d (2657 + t) (2657 + j) (small f) 0 (omega arith) ∙ h.stored j o l
      go j q l false r =
          let o : t ≤ j = ltb-false _ _ r in
          let z : j ≡ t = omega arith in
          let y : 2657 + t < length d = omega (arith, h.kept.long) in
          rw z (get_or-set_same d (2657 + t) (small f) 0 y ∙ rw h.count)

  -- and the rows of its table
  pub firsts_more : (t f p n : ℕ) (old d new : List ℕ) → t < 16 → Firsts b t f old d → new ≡ set d (2657 + t) (small f) → p ≡ get_or new (2625 + t) 0 → n ≡ le 4 b p → n < 4294967296 → Firsts b (t + 1) (f + n) old new
  unfolding rows_by
  firsts_more t f p n old d new m h w q c s =
      let z = firsts_put t f old d new (omega arith) h w in
      let y : p ≡ get_or old (2625 + t) 0 = q ∙ z.0.below (2625 + t) (omega arith) in
      record { kept = z.0; count = rw (add-one, ← y, ← c, h.count); least = omega (arith, h.least); stored = z.1 }

-- ---- the rows before a table, by its place and by the job
rows_before_next : (ts : List TableData) (t : ℕ) → t < length ts → rows_before ts (t + 1) ≡ rows_before ts t + (get_or ts t no_table_data).rows
unfolding rows_before rows_of_all
rows_before_next [] t h = absurd (omega arith)
rows_before_next (x ∷ ts) zero h = omega arith
rows_before_next (x ∷ ts) (suc t) h = let i = rows_before_next ts t (omega arith) in let q : suc t + 1 ≡ suc (t + 1) = omega arith in rw q (omega (arith, i))

rows_before_all : (ts : List TableData) (t : ℕ) → rows_before ts t ≤ rows_of_all ts
unfolding rows_before rows_of_all
rows_before_all [] zero = omega arith
rows_before_all [] (suc t) = omega arith
rows_before_all (x ∷ ts) zero = omega arith
rows_before_all (x ∷ ts) (suc t) = omega (arith, rows_before_all ts t)

rows_before_none : (ts : List TableData) → 0 ≡ rows_before ts 0
unfolding rows_before rows_of_all
rows_before_none ts = refl

rows_by_lem : (b idx : List ℕ) (e : ℕ) (ts : List TableData) → Listed table_data_c b e idx 2624 ts → length ts ≤ 16 → (t : ℕ) → t ≤ length ts → rows_by b idx t ≡ rows_before ts t
unfolding rows_by
rows_by_lem b idx e ts h m zero q = rows_before_none ts
rows_by_lem b idx e ts h m (suc t) q =
    let i = rows_by_lem b idx e ts h m t (omega arith) in
    let k = (is_le 4 b e _ _ (is_table_data b e _ _ (h.item t no_table_data (omega arith) (omega arith))).rows).1 in
    let n = rows_before_next ts t (omega arith) in
    let z : suc t ≡ t + 1 = omega arith in
    rw z (rw (i, ← k) (sym n))

-- ---- all together
module _ (b x₀ x₁ x₂ x₃ : List ℕ) (w : Passed b) (i₁ : DataInto b (trailer b) (data_start b) x₀ x₁)
    (r₂ : RefsStored b (trailer b) (count_at b (data_start b) (trailer b)) x₁ x₂)
    (k₃ : Kept 2657 2674 x₂ x₃) (s₃ : (t : ℕ) → t ≤ count_at b (data_start b) (trailer b) → 2657 + t < length x₂ → get_or x₃ (2657 + t) 0 ≡ small (rows_by b x₂ t)) where
  k₂ : Kept 2624 4096 x₀ x₂
  k₂ = kept_then 2624 4096 3202 3219 x₀ x₁ x₂ (kept_wide 2624 3202 2624 4096 x₀ x₁ (omega arith) (omega arith) i₁.kept) r₂.kept (omega arith) (omega arith)

  s₂ : Stored table_data_c b (trailer b) (data_start b) 2624 x₂
  s₂ = stored_kept table_data_c b (trailer b) _ 2624 3202 3219 x₁ x₂ i₁.tables r₂.kept (inl (omega arith))

  data-there : Is data_c b (trailer b) (data_start b) (job_of b).tables
  data-there = is_read data_c b (data_start b) (trailer b) _ w.read.tables

  counted : length (job_of b).tables ≡ count_at b (data_start b) (trailer b)
  counted = count_list table_data_c b (trailer b) (data_start b) _ (is_list table_data_c b (trailer b) (data_start b) _ data-there)

  fits : trailer b < 65536
  fits = omega (arith, w.sound.most)

  few_columns : (t : ℕ) → length (data_of (job_of b) t).columns ≤ 32
  unfolding data_of over over_data over_table_data
  few_columns t = go (ltb t (length (job_of b).tables)) refl
    where
      go : (u : Bool) → ltb t (length (job_of b).tables) ≡ u → length (get_or (job_of b).tables t no_table_data).columns ≤ 32
      go true r = ltb-false _ _ (none_in over_table_data (job_of b).tables (none_of _ _ (none_of _ _ (none_of _ _ (none_of _ _ (none_of _ _ (none_of _ _ (none_of _ _ w.limits).1).1).1).0).1).1).0 t no_table_data (ltb-true _ _ r))
      go false r = let z : length (get_or (job_of b).tables t no_table_data).columns ≡ 0 = ap (λ (s : TableData). length s.columns) (get_or-eq_default (job_of b).tables no_table_data {n = t} (ltb-false _ _ r)) in omega arith

  module _ (room : 4096 ≤ length x₀) where
    long₂ : length x₂ ≡ length x₀
    long₂ = k₂.long

    long₃ : length x₃ ≡ length x₀
    long₃ = k₃.long ∙ long₂

    few_tables : length (job_of b).tables ≤ 16
    few_tables = (few (job_of b) w.limits).filled

    few_rows : rows_of_all (job_of b).tables ≤ 4096
    few_rows = (few (job_of b) w.limits).rows

    listed₁ : Listed table_data_c b (trailer b) x₁ 2624 (job_of b).tables
    listed₁ = listed table_data_c b (trailer b) (data_start b) 2624 x₁ _ fits (omega (arith, i₁.kept.long)) i₁.tables data-there

    listed₂ : Listed table_data_c b (trailer b) x₂ 2624 (job_of b).tables
    listed₂ = listed table_data_c b (trailer b) (data_start b) 2624 x₂ _ fits (omega (arith, long₂)) s₂ data-there

    listed₃ : Listed table_data_c b (trailer b) x₃ 2624 (job_of b).tables
    listed₃ = listed table_data_c b (trailer b) (data_start b) 2624 x₃ _ fits (omega (arith, long₃)) (stored_kept table_data_c b (trailer b) _ 2624 2657 2674 x₂ x₃ s₂ k₃ (inl (omega arith))) data-there

    firsts : (t : ℕ) → t ≤ length (job_of b).tables → get_or x₃ (2657 + t) 0 ≡ rows_before (job_of b).tables t
    firsts t q =
        let m = few_tables in
        let s = s₃ t (omega (arith, counted)) (omega (arith, long₂)) in
        let r = rows_by_lem b x₂ (trailer b) _ listed₂ few_tables t q in
        let l = rows_before_all (job_of b).tables t in
        let f = few_rows in
        omega (arith, s, r, l, f)

    listed_columns : (t : ℕ) → t < length (job_of b).tables → Listed (opt_c column_c) b (trailer b) x₃ (2674 + t * 33) (data_of (job_of b) t).columns
    unfolding data_of
    listed_columns t m =
        let n = few_tables in
        let z = is_list table_data_c b (trailer b) (data_start b) _ data-there in
        let f : skip (le_c 4) b (data_start b) (trailer b) ≡ data_start b + 4 = skip_le 4 b _ (trailer b) z.room in
        let c = rw f at (i₁.columns t (omega (arith, counted))) in
        let s = stored_kept (opt_c column_c) b (trailer b) _ (2674 + t * 33) 2657 2674 x₂ x₃ (stored_kept (opt_c column_c) b (trailer b) _ (2674 + t * 33) 3202 3219 x₁ x₂ c r₂.kept (inl (omega arith))) k₃ (inr (omega arith)) in
        let i = is_table_data b (trailer b) _ _ (z.item t no_table_data m) in
        let y : skip (le_c 4) b (steps table_data_c b (trailer b) t (data_start b + 4)) (trailer b) ≡ steps table_data_c b (trailer b) t (data_start b + 4) + 4 = skip_le 4 b _ (trailer b) (is_le 4 b (trailer b) _ _ i.rows).0 in
        listed (opt_c column_c) b (trailer b) _ (2674 + t * 33) x₃ _ fits (omega (arith, long₃)) s (rw y i.columns)

    count : get_or x₃ 3202 0 ≡ length (job_of b).tables
    count = omega (arith, few_tables, counted, k₃.above 3202 (omega arith), r₂.count (omega (arith, i₁.kept.long)))

    listed_refs : (t : ℕ) → t < length (job_of b).tables → Is refs_c b (trailer b) (get_or x₃ (3203 + t) 0) (data_of (job_of b) t).refs
    unfolding data_of
    listed_refs t m =
        let n = few_tables in
        let i = is_table_data b (trailer b) _ _ (listed₁.item t no_table_data m (omega arith)) in
        let y : skip (le_c 4) b (get_or x₁ (2625 + t) 0) (trailer b) ≡ get_or x₁ (2625 + t) 0 + 4 = skip_le 4 b _ (trailer b) (is_le 4 b (trailer b) _ _ i.rows).0 in
        let z : get_or x₃ (3203 + t) 0 ≡ small (refs_from b (trailer b) (get_or x₁ (2625 + t) 0)) = k₃.above (3203 + t) (omega arith) ∙ r₂.place t (omega (arith, counted)) (omega (arith, i₁.kept.long)) in
        is_small refs_c b (trailer b) (refs_from b (trailer b) (get_or x₁ (2625 + t) 0)) _ _ fits z (rw y i.refs)

    pub tables_indexed : TablesIndexed b x₃
    tables_indexed = record { short = w.sound.most; few = few_tables; few_rows = few_rows; few_columns = few_columns; tables = listed₃; first = firsts; count = count; refs = listed_refs; columns = listed_columns }

  pub tables_filled : TablesFilled b x₀ x₃
  tables_filled = record { kept = kept_then 2624 4096 2657 2674 x₀ x₂ x₃ k₂ k₃ (omega arith) (omega arith); indexed = tables_indexed }

-- how many tables there are, as counted at a place
pub few_counted : (b : List ℕ) (n at e : ℕ) → Passed b → at ≡ data_start b → e ≡ trailer b → n ≡ count_at b at e → n ≤ 16
few_counted b n at e w p q c =
    let i : Is data_c b (trailer b) (data_start b) (job_of b).tables = is_read data_c b (data_start b) (trailer b) _ w.read.tables in
    let k : length (job_of b).tables ≡ count_at b (data_start b) (trailer b) = count_list table_data_c b (trailer b) (data_start b) _ (is_list table_data_c b (trailer b) (data_start b) _ i) in
    let m : n ≡ count_at b (data_start b) (trailer b) = rw (c, p, q) in
    let f = (few (job_of b) w.limits).filled in
    omega arith

-- the numbers of the trailer, as they were read
pub filled : (b x₀ x₁ x₂ x₃ : List ℕ) (n at e : ℕ) → Passed b → at ≡ data_start b → e ≡ trailer b → n ≡ count_at b at e → DataInto b e at x₀ x₁ → RefsStored b e n x₁ x₂
    → Kept 2657 2674 x₂ x₃ → ((t : ℕ) → t ≤ n → 2657 + t < length x₂ → get_or x₃ (2657 + t) 0 ≡ small (rows_by b x₂ t)) → TablesFilled b x₀ x₃
filled b x₀ x₁ x₂ x₃ n at e w p q c i₁ r₂ k₃ s₃ =
    let m : n ≡ count_at b (data_start b) (trailer b) = rw (← p, ← q) c in
    tables_filled b x₀ x₁ x₂ x₃ w (rw (← p, ← q) i₁) (rw (← m, ← q) r₂) k₃ (λ t h. s₃ t (omega arith))
