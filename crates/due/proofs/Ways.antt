-- The ways through the searches for cells that have a value or differ.
use Prim.Native.Nat.{ℕ, ◌+◌, ◌≤◌, ◌<◌}
use mathlib.Core.Path.{◌≡◌, refl, sym, ap, ◌∙◌}
use mathlib.Core.Bool.{Bool, true, false, not, ◌&&◌, ◌||◌}
use mathlib.Core.List.{List, [], ◌∷◌}
use native.Mathlib.Omega.{arith}
use lib.ListN.{length, get_or, drop}
use Rattle.format.specs.Plan as P
use Rattle.format.specs.NoElement
use Rattle.format.specs.Job.{Job}
use Rattle.format.specs.Ask as A
use Rattle.column.specs.Cell.{Cell, or_null, is_null, same_cell, same_answer, segment_cell}
use Rattle.column.specs.Answers.{cell_at, Reads}
use Rattle.column.proofs.SameLaws.{answers_cells}
use Rattle.column.specs.declared.Cell.{Cell as Read}
use Rattle.plan.specs.Answers.{value_of}
use Rattle.plan.specs.Elements.{Elements, ElementStep}
use Rattle.plan.specs.declared.answers.ElementPlan.{ElementPlan}
use Rattle.nest.specs.Lists.{each, some_of}
use Rattle.nest.specs.OfJob.{outline_of, group_table, repeat_table, same_in, same_chunk_in, filled_in, column_in, columns_in}
use Rattle.nest.proofs.Scan.{some_at, some_not_at, some_past, some_append}
use Rattle.std.specs.Prelude.{unwrap_or, Option, Some}
use Rattle.due.specs.Cells.{has_value, differ, groups_in, repeats_in}
use Rattle.due.proofs.Bridge.{filled_is, group_is, chunk_is}

-- ---- one cell, two cells

pub has_value_lem : (b : List ℕ) (r : Read) (x : Cell) (y : Bool) → Reads b r (Some x) → ((l : List ℕ) → y ≡ is_null (or_null (cell_at l r))) → not y ≡ not (is_null x)
has_value_lem b r x y h e = ap not (e b ∙ ap (λ c. is_null (or_null c)) h.cell)

pub apart : (b : List ℕ) (r s : Read) (x y : Cell) (z : Bool) → Reads b r (Some x) → Reads b s (Some y) → ((u v : Option Cell) → Reads b r u → Reads b s v → z ≡ same_answer u v)
    → not z ≡ not (same_cell x y)
apart b r s x y z h i e = ap not (e (Some x) (Some y) h i ∙ answers_cells x y)

-- ---- a search over lists put together

some_each : {A B : Type 0} (q : B → Bool) (f : A → List B) (xs : List A) → some_of q (each f xs) ≡ some_of (λ x. some_of q (f x)) xs
some_each q f [] = refl
some_each q f (x ∷ xs) = some_append q (f x) (each f xs) ∙ ap (λ b. some_of q (f x) || b) (some_each q f xs)

-- ---- the columns that planned elements name, from element k on, which stands at p

abbrev pub names : (ℕ → Bool) → P.ElementPlan → Bool
names q e = some_of q (column_in e.value)

pub columns_some : (q : ℕ → Bool) (s : P.SegmentPlan) → some_of q (columns_in s) ≡ some_of (names q) s.elements
unfolding columns_in
columns_some q s = some_each q (λ (e : P.ElementPlan). column_in e.value) s.elements

-- where they stand
pub record Placed (b : List ℕ) (vs : List P.ElementPlan) (n p k : ℕ) : Type 0 where
  pub count : n ≡ length vs
  pub place : Elements b p (drop k vs)

pub placed_next : {b : List ℕ} {vs : List P.ElementPlan} {n p k : ℕ} {e : ElementPlan} → Placed b vs n p k → ElementStep b k vs e → Placed b vs n e.next (k + 1)
placed_next w s = record { count = w.count; place = s.rest }

-- no column before element k passes
abbrev pub None_before : (ℕ → Bool) → List P.ElementPlan → ℕ → Type 0
None_before q vs k = some_of (names q) vs ≡ some_of (names q) (drop k vs)

value_is : {b : List ℕ} (q : ℕ → Bool) {vs : List P.ElementPlan} {k : ℕ} {e : ElementPlan} → ElementStep b k vs e → names q (get_or vs k NoElement.no_element_plan) ≡ some_of q (column_in (value_of b e.value))
value_is q s = ap (names q) (sym s.plan)

module _ {b : List ℕ} (q : ℕ → Bool) {vs : List P.ElementPlan} {n p k : ℕ} (w : Placed b vs n p k) (r : None_before q vs k) where
  module _ {e : ElementPlan} {x : Bool} (h : k < n) (s : ElementStep b k vs e) (d : x ≡ some_of q (column_in (value_of b e.value))) where
    pub search_found : x ≡ true → some_of (names q) vs ≡ true
    search_found y = r ∙ some_at (names q) vs k NoElement.no_element_plan (omega (arith, h, w.count)) (value_is q s ∙ sym d ∙ y)

    pub search_next : x ≡ false → None_before q vs (k + 1)
    search_next y = r ∙ some_not_at (names q) vs k NoElement.no_element_plan (omega (arith, h, w.count)) (value_is q s ∙ sym d ∙ y)

  pub search_end : n ≤ k → some_of (names q) vs ≡ false
  search_end h = r ∙ some_past (names q) vs k (omega (arith, h, w.count))

-- ---- whether a planned segment has a value in a row

pub filled_columns : (j : Job) (l i t r : ℕ) → (outline_of j).filled l i t r ≡ some_of (has_value j t r) (columns_in (A.planned_of j l i))
unfolding filled_in
filled_columns j l i t r = filled_is j l i t r

-- the same, by the planned elements
pub filled_some : (j : Job) (l i t r : ℕ) → (outline_of j).filled l i t r ≡ some_of (names (has_value j t r)) (A.planned_of j l i).elements
filled_some j l i t r = filled_columns j l i t r ∙ columns_some (has_value j t r) (A.planned_of j l i)

-- ---- the tables of a loop with groups and of a repeat segment; 0 where there is none

pub group_zero : (k : P.Instances) → (unwrap_or (groups_in k) (record { 0 = 0 })).0 ≡ group_table k
group_zero P.absent = refl
group_zero P.enveloped = refl
group_zero (P.rows_of t) = refl
group_zero (P.inside t) = refl
group_zero (P.groups_of t) = refl
group_zero P.implied = refl

pub repeat_zero : (s : P.Source) → (unwrap_or (repeats_in s) (record { 0 = 0 })).0 ≡ repeat_table s
repeat_zero P.from_envelope = refl
repeat_zero (P.from_row t) = refl
repeat_zero (P.from_repeat t) = refl

-- ---- whether two rows agree in the columns from place k on

pub group_start : (j : Job) (l a b t : ℕ) (k : P.Instances) → t ≡ group_table k → k ≡ (A.plan_of j l).instances
    → (outline_of j).same_group l a b ≡ not (some_of (differ j t a b) (drop 0 (A.group_columns_of j l)))
unfolding same_in
group_start j l a b t k e q = group_is j l a b ∙ rw (← q, ← e)

-- ---- whether two rows may share a repeat segment

module _ (j : Job) (l i a b t : ℕ) (s : P.Source) (x : Bool) (e : t ≡ repeat_table s) (q : s ≡ (A.planned_of j l i).source) (h : x ≡ same_answer (segment_cell (A.data_of j t) a) (segment_cell (A.data_of j t) b)) where
  chunk_at : (outline_of j).same_chunk l i a b ≡ x && not (some_of (differ j t a b) (columns_in (A.planned_of j l i)))
  unfolding same_chunk_in same_in
  chunk_at = chunk_is j l i a b ∙ rw (← q, ← e, ← h)

  pub chunk_agrees : (y : Bool) → x ≡ true → y ≡ some_of (differ j t a b) (columns_in (A.planned_of j l i)) → not y ≡ (outline_of j).same_chunk l i a b
  chunk_agrees y g d = sym (chunk_at ∙ rw (g, d))

  pub chunk_apart : x ≡ false → false ≡ (outline_of j).same_chunk l i a b
  chunk_apart g = sym (chunk_at ∙ rw g)
