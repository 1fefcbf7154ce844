-- How many findings nest reports at most: one a row for its key, and for the row itself one or as many as its parent's table has ancestors.
use Prim.Native.Nat.{ℕ, zero, suc, ◌+◌, ◌-◌, ◌*◌, ◌≤◌, ◌<◌}
use mathlib.Core.Path.{◌≡◌, ap}
use mathlib.Core.Bool.{Bool, true, false, cond}
use mathlib.Core.List.{List, [], ◌∷◌}
use native.Mathlib.Nat.{add-mul, mul-le-mul_right}
use native.Mathlib.Numerals.{add-one}
use native.Mathlib.Omega.{arith}
use native.Mathlib.Decide.{dec_lt}
use Rattle.std.specs.Prelude.{Option, None, Some}
use lib.ListN.{length, length-append, get_or-eq_default}
use lib.Dec.{eqb, ltb}
use Rattle.nest.specs.Lists.{each, on, from, sum}
use Rattle.nest.specs.Outline.{Outline, table_of, table_parent, row_count, repeated}
use Rattle.nest.specs.Nest.{Row, first_row, hangs}
use Rattle.nest.specs.Finding.{duplicate, missing, mismatch}
use Rattle.nest.specs.NestFindings.{duplicate_at, duplicates, differing, contradiction_at, contradictions, missing_anchor, missing_at, row_findings, table_findings, nest_findings}
use Rattle.nest.proofs.NestLaws.{length_each, rows_before, before_none, before_next}

-- ---- rows

-- a table that data lacks has no rows
pub rows_past : (j : Outline) (t : ℕ) → length j.row_counts ≤ t → row_count j t ≡ 0
unfolding row_count
rows_past j t h = get_or-eq_default j.row_counts 0 {n = t} h

grows : (j : Outline) (m n : ℕ) → rows_before j m ≤ rows_before j (m + n)
grows j m zero = let q : m + 0 ≡ m = omega arith in rw q (omega arith)
grows j m (suc n) = let q : m + suc n ≡ m + n + 1 = omega arith in rw q (omega (arith, before_next j (m + n), grows j m n))

-- the rows of the first n tables are no more than all rows of data
pub rows_all : (j : Outline) (n : ℕ) → rows_before j n ≤ rows_before j (length j.row_counts)
rows_all j zero = omega (arith, before_none j)
rows_all j (suc n) = go (dec_lt n (length j.row_counts)) (rows_all j n)
  where
    go : Dec (n < length j.row_counts) → rows_before j n ≤ rows_before j (length j.row_counts) → rows_before j (suc n) ≤ rows_before j (length j.row_counts)
    go (yes h) more =
        let q : suc n + (length j.row_counts - suc n) ≡ length j.row_counts = omega arith in
        omega (arith, grows j (suc n) (length j.row_counts - suc n), ap (rows_before j) q)
    go (no h) more = omega (arith, ap (rows_before j) (add-one n), before_next j n, rows_past j n (omega arith), more)

-- ---- findings

sum_most : (f : ℕ → ℕ) (b n a : ℕ) → ((x : ℕ) → f x ≤ b) → sum f (from a n) ≤ n * b
sum_most f b zero a h = omega arith
sum_most f b (suc n) a h = omega (arith, h a, sum_most f b n (suc a) h)

sum_least : {A : Type 0} (f g : A → ℕ) (b : ℕ) (xs : List A) → ((x : A) → f x ≤ g x * b) → sum f xs ≤ sum g xs * b
sum_least f g b [] h = omega arith
sum_least f g b (x ∷ xs) h = omega (arith, h x, sum_least f g b xs h, add-mul (g x) (sum g xs) b)

sum_each_one : {A : Type 0} (f : A → ℕ) (xs : List A) → ((x : A) → f x ≤ 1) → sum f xs ≤ length xs
sum_each_one f [] h = omega arith
sum_each_one f (x ∷ xs) h = omega (arith, h x, sum_each_one f xs h)

module _ (j : Outline) where
  duplicate_most : (t r : ℕ) → length (duplicate_at j t r) ≤ 1
  unfolding duplicate_at
  duplicate_most t r = go (first_row j t (j.key t r))
    where
      earlier : (f : ℕ) (b : Bool) → length (cond b (duplicate t r (j.key t r) f ∷ []) []) ≤ 1
      earlier f true = omega arith
      earlier f false = omega arith

      go : (x : Option ℕ) → length (on x (λ f. cond (ltb f r) (duplicate t r (j.key t r) f ∷ []) []) []) ≤ 1
      go None = omega arith
      go (Some f) = earlier f (ltb f r)

  contradiction_most : (t r : ℕ) (p : Row) (a : ℕ) → length (contradiction_at j t r p a) ≤ 1
  unfolding contradiction_at
  contradiction_most t r p a = go (j.reference t a r) (j.reference p.table a p.row)
    where
      unlike : (v e : ℕ) (b : Bool) → length (cond b [] (mismatch t r a v p.table p.row e ∷ [])) ≤ 1
      unlike v e true = omega arith
      unlike v e false = omega arith

      go : (x y : Option ℕ) → length (differing x y (λ v e. mismatch t r a v p.table p.row e ∷ [])) ≤ 1
      go None y = omega arith
      go (Some v) None = omega arith
      go (Some v) (Some e) = unlike v e (eqb v e)

  missing_most : (t r : ℕ) → length (missing_at j t r) ≤ 1
  unfolding missing_at
  missing_most t r = go (repeated j t)
    where
      parented : (x : Option ℕ) → length (on x (λ u. missing t r u (j.reference t u r) ∷ []) []) ≤ 1
      parented None = omega arith
      parented (Some u) = omega arith

      go : (b : Bool) → length (cond b (missing_anchor j t r ∷ []) (on (table_parent j t) (λ u. missing t r u (j.reference t u r) ∷ []) [])) ≤ 1
      go true = omega arith
      go false = parented (table_parent j t)

  module _ (A : ℕ) (few : (t : ℕ) → length (table_of j t).ancestors ≤ A) where
    row_most : (t r : ℕ) → length (row_findings j t r) ≤ suc A
    unfolding row_findings contradictions
    row_most t r = go (hangs j t r)
      where
        go : (x : Option Row) → length (on x (contradictions j t r) (missing_at j t r)) ≤ suc A
        go None = omega (arith, missing_most t r)
        go (Some p) =
            omega (
              arith,
              length_each (contradiction_at j t r p) (table_of j p.table).ancestors,
              sum_each_one (λ a. length (contradiction_at j t r p a)) (table_of j p.table).ancestors (contradiction_most t r p),
              few p.table,
            )

    pub findings_bound : length (nest_findings j) ≤ rows_before j (length j.row_counts) * (A + 2)
    unfolding nest_findings duplicates table_findings rows_before
    findings_bound =
        let n : ℕ = length j.row_counts in
        let m : ℕ = length j.tables in
        let keys : length (each (duplicates j) (from 0 n)) ≤ rows_before j n * 1 =
        rw (length_each (duplicates j) (from 0 n)) (sum_least (λ t. length (duplicates j t)) (row_count j) 1 (from 0 n) (λ t. rw (length_each (duplicate_at j t) (from 0 (row_count j t))) (sum_most _ 1 (row_count j t) 0 (duplicate_most t)))) in
        let rows : length (each (table_findings j) (from 0 m)) ≤ rows_before j m * suc A =
        rw (length_each (table_findings j) (from 0 m)) (sum_least (λ t. length (table_findings j t)) (row_count j) (suc A) (from 0 m) (λ t. rw (length_each (row_findings j t) (from 0 (row_count j t))) (sum_most _ (suc A) (row_count j t) 0 (row_most t)))) in
        omega (arith, length-append (each (duplicates j) (from 0 n)) (each (table_findings j) (from 0 m)), keys, rows, mul-le-mul_right (suc A) (rows_all j m))
