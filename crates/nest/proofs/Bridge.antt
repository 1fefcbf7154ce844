-- What the accessors of a job say, in terms of its outline.
use Prim.Native.Nat.{ℕ, zero, suc}
use mathlib.Core.Path.{◌≡◌, refl, sym, ap, ◌∙◌}
use mathlib.Core.List.{List, [], ◌∷◌, map}
use Rattle.std.specs.Prelude.{Option}
use lib.ListN.{length, get_or, length-map}
use Rattle.format.specs.Spec as S
use Rattle.format.specs.Plan as P
use Rattle.format.specs.Data.{TableData, no_table_data}
use Rattle.format.specs.Job.{Job}
use Rattle.format.specs.Ask as A
use Rattle.format.specs.Orders
use Rattle.plan.specs.Answers.{no_item}
use Rattle.column.specs.Cell.{key_of, reference_of}
use Rattle.nest.specs.Outline.{Loop, Table, Plan, Planned, Item, segment, no_loop, no_segment, loop_of, table_of, plan_of, parent_of, kind_of, order_of, segment_of, planned, table_parent, row_count}
use Rattle.nest.specs.OfJob.{outline_of, is_there, loop_in, table_in, plan_in, planned_in, kind_in, source_in, item_in}

pub get_d_map : {A B : Type 0} (f : A → B) (xs : List A) (i : ℕ) (d : A) → get_or (map f xs) i (f d) ≡ f (get_or xs i d)
get_d_map f [] i d = refl
get_d_map f (x ∷ xs) zero d = refl
get_d_map f (x ∷ xs) (suc i) d = get_d_map f xs i d

module _ (j : Job) where
  pub key_is : (t r : ℕ) → (outline_of j).key t r ≡ key_of (A.data_of j t) r
  unfolding outline_of
  key_is t r = refl

  pub reference_is : (t u r : ℕ) → (outline_of j).reference t u r ≡ reference_of (A.data_of j t) u r
  unfolding outline_of
  reference_is t u r = refl

  pub capacity_is : (t : ℕ) → (outline_of j).capacity t ≡ A.capacity_of j t
  unfolding outline_of
  capacity_is t = refl

  pub roots_is : (outline_of j).roots ≡ j.spec.roots
  unfolding outline_of
  roots_is = refl

  pub rows_is : (t : ℕ) → row_count (outline_of j) t ≡ (A.data_of j t).rows
  unfolding outline_of row_count A.data_of
  rows_is t = get_d_map (λ (v : TableData). v.rows) j.tables t no_table_data

  pub data-count-is : length (outline_of j).row_counts ≡ length j.tables
  unfolding outline_of
  data-count-is = length-map j.tables (λ (v : TableData). v.rows)

  pub table_count_is : length (outline_of j).tables ≡ length j.spec.tables
  unfolding outline_of
  table_count_is = length-map j.spec.tables table_in

  pub loop_count_is : length (outline_of j).loops ≡ length j.spec.loops
  unfolding outline_of
  loop_count_is = length-map j.spec.loops loop_in

  pub table_is : (t : ℕ) → table_of (outline_of j) t ≡ table_in (A.table_of j t)
  unfolding outline_of table_of A.table_of
  table_is t = get_d_map table_in j.spec.tables t S.no_table

  -- a field of a loop, if it is the same of a loop that is not there
  loop_by : {F : Type 0} (f : Loop → F) (g : S.Loop → F) → ((x : S.Loop) → f (loop_in x) ≡ g x) → f no_loop ≡ g S.no_loop → (l : ℕ) → f (loop_of (outline_of j) l) ≡ g (A.loop_of j l)
  unfolding outline_of loop_of A.loop_of
  loop_by f g h d l = go j.spec.loops l
    where
      go : (ls : List S.Loop) (l : ℕ) → f (get_or (map loop_in ls) l no_loop) ≡ g (get_or ls l S.no_loop)
      go [] l = d
      go (x ∷ ls) zero = h x
      go (x ∷ ls) (suc l) = go ls l

  pub parent_is : (l : ℕ) → parent_of (outline_of j) l ≡ (A.loop_of j l).parent
  unfolding parent_of
  parent_is = loop_by (λ v. v.parent) (λ v. v.parent) (λ x. refl) refl

  pub children_is : (l : ℕ) → (loop_of (outline_of j) l).children ≡ (A.loop_of j l).children
  children_is = loop_by (λ v. v.children) (λ v. v.children) (λ x. refl) refl

  pub occurrences_is : (l : ℕ) → (loop_of (outline_of j) l).occurrences ≡ length (A.loop_of j l).occurrences
  occurrences_is = loop_by (λ v. v.occurrences) (λ v. length v.occurrences) (λ x. refl) refl

  pub controlled_is : (l : ℕ) → (loop_of (outline_of j) l).controlled ≡ is_there (A.loop_of j l).control
  controlled_is = loop_by (λ v. v.controlled) (λ v. is_there v.control) (λ x. refl) refl

  pub ends_is : (l : ℕ) → (loop_of (outline_of j) l).ends ≡ is_there (A.loop_of j l).end
  ends_is = loop_by (λ v. v.ends) (λ v. is_there v.end) (λ x. refl) refl

  -- ---- the plan and the order
  pub plan_count_is : length (outline_of j).plan ≡ length j.plan
  unfolding outline_of
  plan_count_is = length-map j.plan plan_in

  plan_is : (l : ℕ) → plan_of (outline_of j) l ≡ plan_in (A.plan_of j l)
  unfolding outline_of plan_of A.plan_of
  plan_is l = get_d_map plan_in j.plan l P.no_loop_plan

  pub kind_is : (l : ℕ) → kind_of (outline_of j) l ≡ kind_in (A.plan_of j l).instances
  unfolding kind_of
  kind_is l = ap (λ (v : Plan). v.instances) (plan_is l)

  pub planned_is : (l : ℕ) → planned (outline_of j) l ≡ length (A.plan_of j l).segments
  planned_is l = ap (λ (v : Plan). length v.segments) (plan_is l) ∙ length-map (A.plan_of j l).segments planned_in

  pub segment_is : (l i : ℕ) → segment_of (outline_of j) l i ≡ planned_in (A.planned_of j l i)
  unfolding segment_of A.planned_of
  segment_is l i = ap (λ (v : Plan). get_or v.segments i no_segment) (plan_is l) ∙ get_d_map planned_in (A.plan_of j l).segments i P.no_segment_plan

  pub source_is : (l i : ℕ) → (segment_of (outline_of j) l i).source ≡ source_in (A.planned_of j l i).source
  source_is l i = ap (λ (v : Planned). v.source) (segment_is l i)

  pub order_count_is : length (outline_of j).order ≡ length j.layout.order
  unfolding outline_of
  order_count_is = length-map j.layout.order (map item_in)

  pub order_is : (l : ℕ) → order_of (outline_of j) l ≡ map item_in (Orders.order_of j l)
  unfolding outline_of order_of Orders.order_of
  order_is l = get_d_map (map item_in) j.layout.order l []

  pub order_length : (l : ℕ) → length (order_of (outline_of j) l) ≡ length (Orders.order_of j l)
  order_length l = ap length (order_is l) ∙ length-map (Orders.order_of j l) item_in

  pub order_item : (l k : ℕ) → get_or (order_of (outline_of j) l) k (segment 0) ≡ item_in (get_or (Orders.order_of j l) k no_item)
  order_item l k = ap (λ (xs : List Item). get_or xs k (segment 0)) (order_is l) ∙ get_d_map item_in (Orders.order_of j l) k no_item

  -- ---- the tables
  pub table_parent_is : (t : ℕ) → table_parent (outline_of j) t ≡ (A.table_of j t).parent
  unfolding table_parent
  table_parent_is t = ap (λ (v : Table). v.parent) (table_is t)

  -- the parent, as its accessor answers
  pub table_parent_by : (t : ℕ) (x : Option ℕ) → x ≡ (A.table_of j t).parent → (y : Option ℕ) → x ≡ y → table_parent (outline_of j) t ≡ y
  table_parent_by t x e y q = table_parent_is t ∙ sym e ∙ q

  pub ancestors_is : (t : ℕ) → (table_of (outline_of j) t).ancestors ≡ (A.table_of j t).ancestors
  ancestors_is t = ap (λ (v : Table). v.ancestors) (table_is t)

  pub loops_is : (t : ℕ) → (table_of (outline_of j) t).loops ≡ (A.table_of j t).loops
  loops_is t = ap (λ (v : Table). v.loops) (table_is t)
