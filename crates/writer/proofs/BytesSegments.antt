-- How many bytes a row segment and the repeat segments of one instance have at most, by what their planned elements give.
use Prim.Native.Nat.{ℕ, ◌+◌, ◌*◌, ◌≤◌, max}
use mathlib.Core.Bool.{Bool, true, false}
use mathlib.Core.List.{List, [], ◌∷◌, ◌++◌}
use native.Mathlib.Omega.{arith}
use native.Mathlib.Nat.{mul-le-mul}
use Rattle.std.specs.Prelude.{Option}
use lib.ListN.{length}
use lib.Dec.{eqb}
use Rattle.format.specs.Plan.{Value, from_column, from_group, from_code, ElementPlan}
use Rattle.format.specs.Job.{Job}
use Rattle.format.specs.Ask.{identifier_of, planned_of, step_of, data_of, max_of}
use Rattle.column.specs.Cell.{cell_of}
use Rattle.segment.specs.Parts.{Part, pick, is_empty, or_one, highest, last_element, joined, sorted}
use Rattle.segment.proofs.Sorting.{sorted_highest}
use Rattle.nest.specs.Lists.{sum, All}
use Rattle.nest.proofs.Sums.{sum_append}
use Rattle.emit.specs.Puts.{Put, nothing, put_text, put_all, put_cell, cell_text, row_value, chunk_value, row_put, chunk_put, chunk_puts}
use Rattle.emit.proofs.ScaleLaws.{scale_of}
use Rattle.emit.specs.Fold as F
use Rattle.emit.specs.Fold.{row_out, chunk_out}
use Rattle.writer.proofs.BytesJoined.{cost, joined_within, sorted_cost, highest_append}
use Rattle.writer.proofs.BytesColumns.{weigh}
use Rattle.writer.proofs.BytesTexts.{cell_charge, charge_most}
use Rattle.writer.proofs.BytesLimits.{Placed}

-- what a planned element gives at most from row r of table t
abbrev pub given : Job → ℕ → ℕ → Value → ℕ
given j t r (from_column c) = weigh (cell_of (data_of j t) c r)
given j t r (from_group c) = weigh (cell_of (data_of j t) c r)
given j t r (from_code code) = length code + 255

abbrev pub given_by : Job → ℕ → ℕ → ElementPlan → ℕ
given_by j t r e = given j t r e.value

-- the parts of a put: what they cost, and their elements
pub record Bounded (p : Put) (n m : ℕ) : Type 0 where
  pub costs : sum cost p.parts ≤ n
  pub reaches : last_element p.parts ≤ m

pub nothing_bounded : (n m : ℕ) → Bounded nothing n m
unfolding highest
nothing_bounded n m = record { costs = omega arith; reaches = omega arith }

one_high : (t : List ℕ) (e m : ℕ) → e ≤ m → max (pick (is_empty t) 0 e) 0 ≤ m
one_high [] e m h = omega arith
one_high (x ∷ xs) e m h = omega arith

pub text_bounded : (e m : ℕ) (c : Option ℕ) (text : List ℕ) → or_one c ≤ 255 → e ≤ m → Bounded (put_text e c text) (length text + 255) m
unfolding highest
text_bounded e m c text h k = record { costs = omega (arith, charge_most text (or_one c)); reaches = one_high text e m k }

-- no decimal cell has a scale above 38
abbrev pub Scaled : Job → Type 0
Scaled j = (t column r : ℕ) → scale_of (cell_of (data_of j t) column r) ≤ 38

cell_bounded : (j : Job) → Scaled j → (id : List ℕ) (e m : ℕ) (c : Option ℕ) (t column r : ℕ) → or_one c ≤ 255 → e ≤ m → Bounded (put_cell j id e c t column r) (weigh (cell_of (data_of j t) column r)) m
unfolding put_cell highest
cell_bounded j z id e m c t column r h k = record {
  costs = omega (arith, cell_charge (cell_of (data_of j t) column r) (max_of j id e c) (or_one c) (z t column r) h);
  reaches = one_high (cell_text (cell_of (data_of j t) column r) (max_of j id e c)).text e m k;
}

-- ---- one element

row_bounded : (j : Job) → Scaled j → (id : List ℕ) (t r : ℕ) (p : ElementPlan) (v : Value) → Placed p → Bounded (row_value j id t r p v) (given j t r v) 255
row_bounded j z id t r p (from_column c) h = cell_bounded j z id p.element 255 p.component t c r h.component h.element
row_bounded j z id t r p (from_group c) h = nothing_bounded (weigh (cell_of (data_of j t) c r)) 255
row_bounded j z id t r p (from_code code) h = text_bounded p.element 255 p.component code h.component h.element

first_bounded : (b : Bool) (p : Put) (n m : ℕ) → Bounded p n m → Bounded (pick b p nothing) n m
first_bounded true p n m h = h
first_bounded false p n m h = nothing_bounded n m

-- the place of row number k stands k steps on
module _ (j : Job) (z : Scaled j) (id : List ℕ) (t step k m : ℕ) (small : 255 + k * step ≤ m) where
  chunk_bounded : (r : ℕ) (p : ElementPlan) (v : Value) → Placed p → Bounded (chunk_value j id t step k r p v) (given j t r v) m
  chunk_bounded r p (from_column c) h = first_bounded (eqb k 0) (put_cell j id p.element p.component t c r) _ m (cell_bounded j z id p.element m p.component t c r h.component (omega (arith, h.element)))
  chunk_bounded r p (from_group c) h = cell_bounded j z id (p.element + k * step) m p.component t c r h.component (omega (arith, h.element))
  chunk_bounded r p (from_code code) h = first_bounded (eqb k 0) (put_text p.element p.component code) _ m (text_bounded p.element m p.component code h.component (omega (arith, h.element)))

-- ---- all elements

both_bounded : (a b : Put) (x y m : ℕ) → Bounded a x m → Bounded b y m → Bounded (record { parts = a.parts ++ b.parts; findings = a.findings ++ b.findings; entries = a.entries + b.entries }) (x + y) m
both_bounded a b x y m h k = record {
  costs = omega (arith, sum_append cost a.parts b.parts, h.costs, k.costs);
  reaches = highest_append (λ x. x.element) m a.parts b.parts h.reaches k.reaches;
}

pub all_bounded : {A : Type 0} (P : A → Type 0) (f : A → Put) (w : A → ℕ) (m : ℕ) → ((x : A) → P x → Bounded (f x) (w x) m) → (xs : List A) → All P xs → Bounded (put_all f xs) (sum w xs) m
all_bounded P f w m h [] g = nothing_bounded 0 m
all_bounded P f w m h (x ∷ xs) g = both_bounded (f x) (put_all f xs) (w x) (sum w xs) m (h x g.0) (all_bounded P f w m h xs g.1)

-- ---- a row segment

module _ (j : Job) (z : Scaled j) (id : List ℕ) (t : ℕ) (es : List ElementPlan) (placed : All Placed es) where
  rows_bounded : (r : ℕ) → Bounded (row_put j id t r es) (sum (given_by j t r) es) 255
  unfolding row_put
  rows_bounded r = all_bounded Placed (λ (p : ElementPlan). row_value j id t r p p.value) (given_by j t r) 255 (λ p h. row_bounded j z id t r p p.value h) es placed

  -- ---- a repeat segment

  module _ (step m : ℕ) (low : step ≤ 255) where
    one_row : (k r : ℕ) → 255 + k * 255 ≤ m → Bounded (chunk_put j id t step k r es) (sum (given_by j t r) es) m
    unfolding chunk_put
    one_row k r h =
        all_bounded Placed (λ (p : ElementPlan). chunk_value j id t step k r p p.value) (given_by j t r) m
        (λ p g. chunk_bounded j z id t step k m (omega (arith, mul-le-mul (le k) low)) r p p.value g) es placed
      where
        le : (k : ℕ) → k ≤ k
        le k = omega arith

    all_rows : (rs : List ℕ) (k : ℕ) → 255 + (k + length rs) * 255 ≤ m → Bounded (chunk_puts j id t step k es rs) (sum (λ r. sum (given_by j t r) es) rs) m
    unfolding chunk_puts
    all_rows [] k h = nothing_bounded 0 m
    all_rows (r ∷ rs) k h =
        both_bounded (chunk_put j id t step k r es) (chunk_puts j id t step (k + 1) es rs) (sum (given_by j t r) es) (sum (λ r. sum (given_by j t r) es) rs) m (one_row k r (omega arith)) (all_rows rs (k + 1) (omega arith))

-- ---- the steps

-- a segment of these parts
pub segment_bytes_lem : (j : Job) (id : List ℕ) (p : Put) (n m : ℕ) → Bounded p n m → length (joined (F.separators_of j) id p.parts) ≤ length id + m + n + 2
segment_bytes_lem j id p n m h = omega (arith, joined_within (F.separators_of j) id p.parts, h.costs, h.reaches)

module _ (j : Job) (z : Scaled j) (placed : (l i : ℕ) → All Placed (planned_of j l i).elements) (stepped : (t : ℕ) → step_of j t ≤ 255) where
  pub row_bytes : (l i t r : ℕ) (s : F.State) → length (row_out j l i t r s).bytes ≤ length (identifier_of j l i) + sum (given_by j t r) (planned_of j l i).elements + 257
  unfolding row_out
  row_bytes l i t r s =
      let es : List ElementPlan = (planned_of j l i).elements in
      omega (arith, segment_bytes_lem j (identifier_of j l i) (row_put j (identifier_of j l i) t r es) (sum (given_by j t r) es) 255 (rows_bounded j z (identifier_of j l i) t es (placed l i) r))

  pub chunk_bytes : (l i t : ℕ) (rs : List ℕ) (s : F.State)
      → length (chunk_out j l i t rs s).bytes ≤ length (identifier_of j l i) + sum (λ r. sum (given_by j t r) (planned_of j l i).elements) rs + length rs * 255 + 257
  unfolding chunk_out
  chunk_bytes l i t rs s =
      let id : List ℕ = identifier_of j l i in
      let es : List ElementPlan = (planned_of j l i).elements in
      let ps : List Part = (chunk_puts j id t (step_of j t) 0 es rs).parts in
      let b = all_rows j z id t es (placed l i) (step_of j t) (255 + length rs * 255) (stepped t) rs 0 (omega arith) in
      omega (arith, joined_within (F.separators_of j) id (sorted ps), sorted_cost ps, sorted_highest (λ x. x.element) ps, b.costs, b.reaches)
