-- What of a job shares its bytes: planned elements and their codes stand in the plan, references and columns in the data, identifiers in the spec.
use Prim.Native.Nat.{ℕ, ◌+◌, ◌*◌, ◌≤◌}
use mathlib.Core.Path.{refl}
use mathlib.Core.Bool.{Bool, true, false}
use mathlib.Core.List.{List, [], ◌∷◌, ◌++◌}
use native.Mathlib.Omega.{arith}
use Rattle.std.specs.Prelude.{Option, None, Some}
use lib.ListN.{length, get_or, length-append}
use lib.Dec.{eqb}
use Rattle.codec.specs.Codec as C
use Rattle.codec.specs.Codec.{Codec, Bytes, le_c, items_enc, list_c, map_c, dep_c, ◌⊗◌, enum_c, ◌⊕◌}
use Rattle.codec.specs.Forms.{num_c, byte_c, bytes_c, opt_c}
use Rattle.format.specs.Spec as S
use Rattle.format.specs.Layout as L
use Rattle.format.specs.Plan.{Value, from_column, from_group, from_code, ElementPlan, SegmentPlan, LoopPlan, no_segment_plan, no_loop_plan, value_c, element_plan_c, segment_plan_c, loop_plan_c, plan_c}
use Rattle.format.specs.Data.{Column, TableData, no_table_data, column_c, table_data_c, data_c}
use Rattle.format.specs.Job.{Job}
use Rattle.format.specs.Sections.{job_of}
use Rattle.format.specs.Ask.{plan_of, planned_of, data_of, loop_of, identifier_of}
use Rattle.format.specs.Passed.{Passed}
use Rattle.column.specs.Cell.{ref_column}
use Rattle.nest.specs.Lists.{on, sum}
use Rattle.writer.proofs.Lengths.{items_long, list_within, number_long, whole}
use Rattle.writer.proofs.BytesSums.{sum_more}
use Rattle.writer.proofs.BytesColumns.{rows_in, bytes_in, ints_in, column_takes, ints_taken, text_long, byte_long, option_in}
use Rattle.writer.proofs.BytesRows.{within}

abbrev pub spec_bytes : Job → ℕ
spec_bytes j = length ((S.spec_c).enc j.spec)

abbrev pub plan_bytes : Job → ℕ
plan_bytes j = length (plan_c.enc j.plan)

abbrev pub layout_bytes : Job → ℕ
layout_bytes j = length ((L.layout_c).enc j.layout)

abbrev pub data_bytes : Job → ℕ
data_bytes j = length (data_c.enc j.tables)

-- ---- planned elements

abbrev pub code_in : Value → ℕ
code_in (from_column c) = 0
code_in (from_group c) = 0
code_in (from_code code) = length code

-- the bytes that a planned element takes at least: ten, and its code
abbrev pub takes : ElementPlan → ℕ
takes e = 10 + code_in e.value

text_longer : (xs : List ℕ) → 4 + length xs ≤ length (bytes_c.enc xs)
unfolding list_c
text_longer xs = omega (arith, length-append (num_c.enc (length xs)) (items_enc byte_c xs), number_long (length xs), items_long byte_c 1 byte_long xs)

option_some : (x : Option ℕ) → 1 ≤ length ((opt_c num_c).enc x)
unfolding opt_c map_c enum_c ◌⊕◌
option_some None = omega arith
option_some (Some n) = omega arith

value_long : (v : Value) → 5 + code_in v ≤ length (value_c.enc v)
unfolding value_c map_c enum_c ◌⊕◌
value_long (from_column c) = omega (arith, number_long c)
value_long (from_group c) = omega (arith, number_long c)
value_long (from_code code) = omega (arith, text_longer code)

element_long : (e : ElementPlan) → takes e ≤ length (element_plan_c.enc e)
unfolding element_plan_c map_c dep_c
element_long e = let h = number_long e.element in let k = option_some e.component in let m = value_long e.value in simp length-append (omega arith)

items_sum : {A : Type 0} (C : Codec A) (f : A → ℕ) → ((x : A) → f x ≤ length (C.enc x)) → (xs : List A) → sum f xs ≤ length (items_enc C xs)
items_sum C f h [] = omega arith
items_sum C f h (x ∷ xs) = omega (arith, h x, items_sum C f h xs, length-append (C.enc x) (items_enc C xs))

list_sum : {A : Type 0} (C : Codec A) (f : A → ℕ) → ((x : A) → f x ≤ length (C.enc x)) → (xs : List A) → sum f xs ≤ length ((list_c C).enc xs)
unfolding list_c
list_sum C f h xs = omega (arith, items_sum C f h xs, length-append ((le_c 4).enc (length xs)) (items_enc C xs))

elements_in : (x : SegmentPlan) → sum takes x.elements ≤ length (segment_plan_c.enc x)
unfolding segment_plan_c map_c dep_c
elements_in x = let h = list_sum element_plan_c takes element_long x.elements in simp length-append (omega arith)

planned_in_lem : (i : ℕ) (x : LoopPlan) → sum takes (get_or x.segments i no_segment_plan).elements ≤ length (loop_plan_c.enc x)
unfolding loop_plan_c map_c dep_c
planned_in_lem i x = let h = list_within segment_plan_c (λ (y : SegmentPlan). sum takes y.elements) no_segment_plan refl elements_in x.segments i in simp length-append (omega arith)

pub planned_within : (j : Job) (l i : ℕ) → sum takes (planned_of j l i).elements ≤ plan_bytes j
unfolding planned_of plan_of
planned_within j l i = list_within loop_plan_c (λ (x : LoopPlan). sum takes (get_or x.segments i no_segment_plan).elements) no_loop_plan refl (planned_in_lem i) j.plan l

-- their number alone
pub planned_short : (b : List ℕ) → Bytes b → Passed b → (l i : ℕ) → length (planned_of (job_of b) l i).elements ≤ 16384
planned_short b bs p l i = omega (arith, planned_within (job_of b) l i, sum_more 10 (λ (e : ElementPlan). code_in e.value) (planned_of (job_of b) l i).elements, whole b bs p)

-- ---- references and columns

refs_take : (refs : List (ℕ × Option Column)) (u : ℕ) → ints_in (ref_column refs u) * 8 ≤ length (items_enc (num_c ⊗ opt_c column_c) refs)
unfolding ref_column dep_c
refs_take [] u = omega arith
refs_take (x ∷ refs) u = go (eqb x.0 u) (refs_take refs u)
  where
    go : (t : Bool) → ints_in (ref_column refs u) * 8 ≤ length (items_enc (num_c ⊗ opt_c column_c) refs)
        → ints_in (C.pick t x.1 (ref_column refs u)) * 8 ≤ length ((num_c.enc x.0 ++ (opt_c column_c).enc x.1) ++ items_enc (num_c ⊗ opt_c column_c) refs)
    go true h = let q = ints_taken x.1 in simp length-append (omega arith)
    go false h = simp length-append (omega arith)

refs_in : (t : TableData) (u : ℕ) → ints_in (ref_column t.refs u) * 8 ≤ length ((list_c (num_c ⊗ opt_c column_c)).enc t.refs)
unfolding list_c
refs_in t u = omega (arith, refs_take t.refs u, length-append ((le_c 4).enc (length t.refs)) (items_enc (num_c ⊗ opt_c column_c) t.refs))

-- the references to u and column c
abbrev column_of : TableData → ℕ → Option Column
column_of t c = get_or t.columns c None

column_in_lem : (t : TableData) (c : ℕ) → rows_in (column_of t c) * 4 + bytes_in (column_of t c) ≤ length ((list_c (opt_c column_c)).enc t.columns)
column_in_lem t c = list_within (opt_c column_c) (λ (x : Option Column). rows_in x * 4 + bytes_in x) None refl column_takes t.columns c

table_takes : (u c : ℕ) (t : TableData) → ints_in (ref_column t.refs u) * 8 + (rows_in (column_of t c) * 4 + bytes_in (column_of t c)) ≤ length (table_data_c.enc t)
unfolding table_data_c map_c dep_c
table_takes u c t = let h = refs_in t u in let k = column_in_lem t c in simp length-append (omega arith)

table_within : (j : Job) (t c u : ℕ) → ints_in (ref_column (data_of j t).refs u) * 8 + (rows_in (column_of (data_of j t) c) * 4 + bytes_in (column_of (data_of j t) c)) ≤ data_bytes j
unfolding data_of ref_column
table_within j t c u = list_within table_data_c (λ (x : TableData). ints_in (ref_column x.refs u) * 8 + (rows_in (column_of x c) * 4 + bytes_in (column_of x c))) no_table_data refl (table_takes u c) j.tables t

pub data-within : (j : Job) (t c : ℕ) (x : Option ℕ) → within j t x * 8 + (rows_in (column_of (data_of j t) c) * 4 + bytes_in (column_of (data_of j t) c)) ≤ data_bytes j
data-within j t c None = omega (arith, table_within j t c 0)
data-within j t c (Some u) = table_within j t c u

-- ---- identifiers

loops_in_lem : (v : S.Spec) → length ((list_c S.loop_c).enc v.loops) ≤ length ((S.spec_c).enc v)
unfolding S.spec_c map_c dep_c
loops_in_lem v = simp length-append (omega arith)

occurrence_in : (k : ℕ) (v : S.Loop) → length (get_or v.occurrences k []) ≤ length ((S.loop_c).enc v)
unfolding S.loop_c map_c dep_c
occurrence_in k v = let h = list_within bytes_c (λ (x : List ℕ). length x) [] refl text_long v.occurrences k in simp length-append (omega arith)

trigger_in : (v : S.Loop) → length v.trigger ≤ length ((S.loop_c).enc v)
unfolding S.loop_c map_c dep_c
trigger_in v = let h = text_long v.trigger in simp length-append (omega arith)

abbrev pub or_nothing : Option (List ℕ) → List ℕ
or_nothing None = []
or_nothing (Some x) = x

pub option_text : (x : Option (List ℕ)) → length (or_nothing x) ≤ length ((opt_c bytes_c).enc x)
unfolding opt_c map_c enum_c ◌⊕◌
option_text None = omega arith
option_text (Some x) = let h = text_long x in omega arith

end_in : (v : S.Loop) → length (or_nothing v.end) ≤ length ((S.loop_c).enc v)
unfolding S.loop_c map_c dep_c
end_in v = let h = option_text v.end in simp length-append (omega arith)

pub identifier_within : (j : Job) (l i : ℕ) → length (identifier_of j l i) ≤ spec_bytes j
unfolding identifier_of loop_of
identifier_within j l i = let k : ℕ = (planned_of j l i).occurrence in omega (arith, list_within S.loop_c (λ (v : S.Loop). length (get_or v.occurrences k [])) S.no_loop refl (occurrence_in k) j.spec.loops l, loops_in_lem j.spec)

pub trigger_within : (j : Job) (l : ℕ) → length (loop_of j l).trigger ≤ spec_bytes j
unfolding loop_of
trigger_within j l = omega (arith, list_within S.loop_c (λ (v : S.Loop). length v.trigger) S.no_loop refl trigger_in j.spec.loops l, loops_in_lem j.spec)

pub end_within : (j : Job) (l : ℕ) → length (or_nothing (loop_of j l).end) ≤ spec_bytes j
unfolding loop_of
end_within j l = omega (arith, list_within S.loop_c (λ (v : S.Loop). length (or_nothing v.end)) S.no_loop refl end_in j.spec.loops l, loops_in_lem j.spec)

-- ---- the version's text

first_in : (v : S.Version) → length v.first ≤ length ((S.version_c).enc v)
unfolding S.version_c map_c dep_c
first_in v = let h = text_long v.first in simp length-append (omega arith)

version_in : (x : Option S.Version) → length (on x (λ (v : S.Version). v.first) []) ≤ length ((opt_c S.version_c).enc x)
version_in None = omega arith
version_in (Some v) = omega (arith, first_in v, option_in S.version_c v)

version_spec : (v : S.Spec) → length ((opt_c S.version_c).enc v.version) ≤ length ((S.spec_c).enc v)
unfolding S.spec_c map_c dep_c
version_spec v = simp length-append (omega arith)

pub version_within : (j : Job) → length (on j.spec.version (λ (v : S.Version). v.first) []) ≤ spec_bytes j
version_within j = omega (arith, version_in j.spec.version, version_spec j.spec)
