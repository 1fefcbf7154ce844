-- How many bytes the repeat segments of one instance and one planned segment have at most, all chunks together.
use Prim.Native.Nat.{ℕ, ◌+◌, ◌*◌, ◌/◌, ◌≤◌, min, max}
use mathlib.Core.Path.{◌≡◌, refl}
use mathlib.Core.List.{List, [], ◌∷◌}
use native.Mathlib.Omega.{arith}
use native.Mathlib.Nat.{mul-add, mul-le-mul, mul-le-mul_right}
use Rattle.std.specs.Prelude.{Option, None}
use lib.ListN.{length, get_or}
use Rattle.format.specs.Plan.{Value, from_column, from_group, from_code, ElementPlan}
use Rattle.format.specs.Data.{Column}
use Rattle.format.specs.Job.{Job}
use Rattle.format.specs.Ask.{planned_of, data_of}
use Rattle.column.specs.Cell.{cell_of}
use Rattle.nest.specs.Lists.{sum}
use Rattle.nest.specs.Outline.{Outline, row_table, kind_of}
use Rattle.nest.specs.Nest.{repeat_rows}
use Rattle.nest.specs.OfJob.{outline_of}
use Rattle.nest.proofs.Sums.{sum_append, sum_each, sum_same, sum_zero}
use Rattle.walk.specs.Tour.{Step, enters, stop, opener, row_segment, fill, chunk, closer, chunks_of, row_steps, chunk_steps, repeat_steps}
use Rattle.walk.proofs.Own.{chunks_all}
use Rattle.walk.proofs.Counts.{row_steps_sum}
use Rattle.walk.proofs.Bounds.{chunks_no_more}
use Rattle.writer.proofs.BytesSums.{sum_more, sum_each_time, sum_less, sum_times, sum_swap}
use Rattle.writer.proofs.BytesProduct.{quota, shared, shared_rows}
use Rattle.writer.proofs.BytesColumns.{weigh, rows_in, bytes_in}
use Rattle.writer.proofs.BytesRows.{limit, rows_limit, column_sum}
use Rattle.writer.proofs.BytesSections.{spec_bytes, plan_bytes, data_bytes, code_in, takes, planned_within, data-within}
use Rattle.writer.proofs.BytesSegments.{given, given_by}

-- what a step of a repeat segment writes at most
abbrev pub grouped : Job → Step → ℕ
grouped j (enters l) = 0
grouped j (stop l t r) = 0
grouped j (opener l) = 0
grouped j (row_segment l i t r) = 0
grouped j (fill l i t k r) = 0
grouped j (chunk l i t rs) = spec_bytes j + 257 + sum (λ r. sum (given_by j t r) (planned_of j l i).elements + 255) rs
grouped j (closer l opened children count) = 0

-- a weight that the steps of repeat segments lack
pub repeat_lone : (o : Outline) (f : Step → ℕ) → ((l t r : ℕ) → f (stop l t r) ≡ 0) → ((l i t k r : ℕ) → f (fill l i t k r) ≡ 0) → ((l i t : ℕ) (rs : List ℕ) → f (chunk l i t rs) ≡ 0)
    → (l i t p : ℕ) → sum f (repeat_steps o l i t p) ≤ 0
unfolding repeat_steps
repeat_lone o f stops fills chunks l i t p =
    let cs : List (List ℕ) = chunks_of (o.same_chunk l i) (max 1 (o.capacity t)) (repeat_rows o t l p) in
    omega (arith, sum_each f (chunk_steps l i t) cs, sum_zero (λ rs. sum f (chunk_steps l i t rs)) cs one)
  where
    one : (rs : List ℕ) → sum f (chunk_steps l i t rs) ≡ 0
    one rs = omega (arith, sum_append f (row_steps l i t 0 rs) (chunk l i t rs ∷ []), chunks l i t rs, row_steps_sum f fills l i t 0 rs, sum_zero (λ r. f (stop l t r)) rs (λ r. stops l t r))

module _ (j : Job) (l i t p : ℕ) where
  abbrev o : Outline
  o = outline_of j

  abbrev hung : List ℕ
  hung = repeat_rows o t l p

  abbrev es : List ElementPlan
  es = (planned_of j l i).elements

  -- ---- one planned element, over all rows

  column_total : (c : ℕ) → sum (λ r. weigh (cell_of (data_of j t) c r)) hung ≤ quota (data_bytes j)
  column_total c =
      let x : Option Column = get_or (data_of j t).columns c None in
      let k : ℕ = min (limit j t l) (rows_in x) in
      omega (arith, column_sum j t c l p, shared k (bytes_in x) (data_bytes j) (omega (arith, data-within j t c (row_table (kind_of o l)))))

  rows_eight : length hung * 8 ≤ data_bytes j
  rows_eight = omega (arith, rows_limit j t l p, data-within j t 0 (row_table (kind_of o l)))

  element_total : (v : Value) → sum (λ r. given j t r v) hung ≤ quota (data_bytes j) + length hung * code_in v
  element_total (from_column c) = omega (arith, column_total c)
  element_total (from_group c) = omega (arith, column_total c)
  element_total (from_code code) = omega (arith, sum_each_time (length code + 255) hung, mul-add (length hung) (length code) 255, shared_rows (length hung) (data_bytes j) rows_eight)

  elements_total : sum (λ r. sum (given_by j t r) es) hung ≤ length es * quota (data_bytes j) + length hung * sum (λ (e : ElementPlan). code_in e.value) es
  elements_total =
      let Q : ℕ = quota (data_bytes j) in
      let code : ElementPlan → ℕ = λ (e : ElementPlan). code_in e.value in
      omega (
        arith,
        sum_swap (given_by j t) hung es,
        sum_less (λ e. sum (λ r. given_by j t r e) hung) (λ e. Q + length hung * code e) (λ e. element_total e.value) es,
        sum_more Q (λ e. length hung * code e) es,
        sum_times (length hung) code es,
      )

  -- ---- all chunks

  chunks_total : sum (grouped j) (repeat_steps o l i t p) ≤ length hung * (spec_bytes j + 257) + (length hung * 255 + sum (λ r. sum (given_by j t r) es) hung)
  unfolding repeat_steps
  chunks_total =
      let cs : List (List ℕ) = chunks_of (o.same_chunk l i) (max 1 (o.capacity t)) hung in
      let K : ℕ = spec_bytes j + 257 in
      let G : ℕ → ℕ = λ r. sum (given_by j t r) es + 255 in
      omega (
        arith,
        sum_each (grouped j) (chunk_steps l i t) cs,
        sum_same (λ rs. sum (grouped j) (chunk_steps l i t rs)) (λ rs. K + sum G rs) cs one,
        sum_more K (sum G) cs,
        chunks_all G (o.same_chunk l i) (max 1 (o.capacity t)) hung,
        mul-le-mul_right K (chunks_no_more (o.same_chunk l i) (max 1 (o.capacity t)) hung),
        sum_same G (λ r. 255 + sum (given_by j t r) es) hung (λ r. omega arith),
        sum_more 255 (λ r. sum (given_by j t r) es) hung,
      )
    where
      one : (rs : List ℕ) → sum (grouped j) (chunk_steps l i t rs) ≡ (spec_bytes j + 257) + sum (λ r. sum (given_by j t r) es + 255) rs
      one rs =
          omega (
            arith,
            sum_append (grouped j) (row_steps l i t 0 rs) (chunk l i t rs ∷ []),
            row_steps_sum (grouped j) (λ l i t k r. refl) l i t 0 rs,
            sum_zero (λ r. grouped j (stop l t r)) rs (λ r. refl),
          )

  takes_sum : (xs : List ElementPlan) → sum takes xs ≡ length xs * 10 + sum (λ (e : ElementPlan). code_in e.value) xs
  takes_sum xs = sum_more 10 (λ (e : ElementPlan). code_in e.value) xs

  pub repeat_total : length hung ≤ 4096 → spec_bytes j + plan_bytes j ≤ 65512 → sum (grouped j) (repeat_steps o l i t p) ≤ plan_bytes j / 10 * quota (data_bytes j) + 4096 * 66024
  repeat_total few fits =
      let n : ℕ = length hung in
      let code : ℕ = sum (λ (e : ElementPlan). code_in e.value) es in
      let ten : length es ≤ plan_bytes j / 10 = omega (arith, planned_within j l i, takes_sum es) in
      let rest : code + (spec_bytes j + 257) + 255 ≤ 66024 = omega (arith, planned_within j l i, takes_sum es) in
      omega (
        arith,
        chunks_total,
        elements_total,
        mul-le-mul_right (quota (data_bytes j)) ten,
        mul-le-mul few rest,
        mul-add n (code + (spec_bytes j + 257)) 255,
        mul-add n code (spec_bytes j + 257),
      )
