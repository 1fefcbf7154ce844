-- What the layers above ask of a job. A number that a list lacks is answered as the Rust's `get` chains answer it: with nothing (docs/RULES.md, "A job").
use Rattle.std.specs.Prelude.{ℕ, Bool, true, false, cond, List, [], ◌∷◌, eqb, get_or, Option, None, Some}
use Rattle.format.specs.Spec.{Loop, no_loop, ElementDef, SegmentDef, ComponentDef, Table, no_table, Repeat}
use Rattle.format.specs.Plan.{LoopPlan, no_loop_plan, SegmentPlan, no_segment_plan}
use Rattle.format.specs.Data.{TableData, no_table_data}
use Rattle.format.specs.Job.{Job}

-- f of what is there, or else d
abbrev pub on : {A B : Type 0} → Option A → (A → B) → B → B
on None f d = d
on (Some a) f d = f a

-- ---- the spec

unfoldable pub loop_of : Job → ℕ → Loop
loop_of j l = get_or j.spec.loops l no_loop

unfoldable pub table_of : Job → ℕ → Table
table_of j t = get_or j.spec.tables t no_table

-- how far the places of one repeat row stand behind those of the row before
unfoldable pub step_of : Job → ℕ → ℕ
unfolding table_of
step_of j t = on (table_of j t).repeat (λ (r : Repeat). r.step) 0

-- the value of the first key that passes
abbrev pub found : {K A : Type 0} → (K → Bool) → List (K × A) → Option A
found is [] = None
found is (x ∷ xs) = cond (is x.0) (Some x.1) (found is xs)

abbrev pub same_bytes : List ℕ → List ℕ → Bool
same_bytes [] [] = true
same_bytes [] (y ∷ ys) = false
same_bytes (x ∷ xs) [] = false
same_bytes (x ∷ xs) (y ∷ ys) = cond (eqb x y) (same_bytes xs ys) false

-- spec/mod.rs, `segment`: the elements of a segment, none where the map lacks its identifier
unfoldable pub segment_def : Job → List ℕ → Option SegmentDef
segment_def j id = found (same_bytes id) j.spec.segments

-- spec/mod.rs, `element_def` without a component
unfoldable pub element_def : Job → List ℕ → ℕ → Option ElementDef
unfolding segment_def
element_def j id e = on (segment_def j id) (found (eqb e)) None

-- the most that a place takes, by its own definition: an element's, or its component's
unfoldable pub max_of : Job → List ℕ → ℕ → Option ℕ → Option ℕ
unfolding element_def
max_of j id e None = on (element_def j id e) (λ (d : ElementDef). d.max) None
max_of j id e (Some c) = on (element_def j id e) (λ (d : ElementDef). on (found (eqb c) d.components) (λ (k : ComponentDef). k.max) None) None

-- the least length of an element
unfoldable pub min_of : Job → List ℕ → ℕ → Option ℕ
unfolding element_def
min_of j id e = on (element_def j id e) (λ (d : ElementDef). d.min) None

-- ---- the plan and the layout

unfoldable pub plan_of : Job → ℕ → LoopPlan
plan_of j l = get_or j.plan l no_loop_plan

unfoldable pub planned_of : Job → ℕ → ℕ → SegmentPlan
unfolding plan_of
planned_of j l i = get_or (plan_of j l).segments i no_segment_plan

-- the identifier of a planned segment: that of its occurrence in its loop
unfoldable pub identifier_of : Job → ℕ → ℕ → List ℕ
unfolding loop_of planned_of
identifier_of j l i = get_or (loop_of j l).occurrences (planned_of j l i).occurrence []

-- written also where none of its columns has a value
unfoldable pub forced_of : Job → ℕ → ℕ → Bool
forced_of j l i = get_or (get_or j.layout.forced l []) i false

unfoldable pub group_columns_of : Job → ℕ → List ℕ
group_columns_of j l = get_or j.layout.group_columns l []

-- the depth among the envelope loops; absent reads as 0
unfoldable pub depth_of : Job → ℕ → ℕ
depth_of j l = on (get_or j.layout.depth l None) (λ d. d) 0

-- how many rows a repeat segment takes; absent reads as 1
unfoldable pub capacity_of : Job → ℕ → ℕ
capacity_of j t = get_or j.layout.capacity t 1

-- ---- data

unfoldable pub data_of : Job → ℕ → TableData
data_of j t = get_or j.tables t no_table_data
