-- The rows of one repeat segment: each has a reference, so there are no more than the reference's column has values, and the texts of one column
-- are no more than its cells.
use Prim.Native.Nat.{ℕ, zero, suc, ◌+◌, ◌*◌, ◌-◌, ◌≤◌, ◌<◌, min}
use mathlib.Core.Path.{◌≡◌, refl, sym, ap}
use mathlib.Core.Bool.{Bool, true, false, cond, true≢false}
use mathlib.Core.List.{List, [], ◌∷◌, foldr}
use native.Mathlib.Omega.{arith}
use native.Mathlib.Nat.{suc-mul, mul-le-mul_right}
use Rattle.std.specs.Prelude.{Option, None, Some}
use Rattle.std.specs.Option.{option_map}
use Rattle.std.proofs.lemmas.Option.{none-some}
use lib.ListN.{length, get_or}
use lib.Dec.{eqb, leb}
use borrow.Author.Tests.{eqb-true, leb-true, leb-false}
use Rattle.format.specs.Data.{Column}
use Rattle.format.specs.Job.{Job}
use Rattle.format.specs.Ask.{data_of}
use Rattle.column.specs.Cell.{cell_of, cell_in, ref_column}
use Rattle.nest.specs.Lists.{each, on, keep, from, sum, All}
use Rattle.nest.specs.Outline.{Outline, Kind, absent, envelope, implied, rows, inside, groups, row_table, kind_of, table_of, row_count, repeated}
use Rattle.nest.specs.Nest.{Anchor, depth_of, anchor_at, insert, anchors, Claim, claim_on, claim_in, hook_on, settle, hook, hooked, first_row, repeat_rows}
use Rattle.nest.specs.OfJob.{outline_of}
use Rattle.nest.proofs.Alls.{all_append}
use Rattle.walk.proofs.Tests.{both}
use Rattle.writer.proofs.BytesSums.{sum_each_time}
use Rattle.writer.proofs.BytesColumns.{rows_in, bytes_in, ints_in, reference_below, weigh, cell_weigh, cell_past}

-- ---- a sum over the numbers that pass

-- at most B each, and nothing from k on
module _ (p : ℕ → Bool) (g : ℕ → ℕ) (k B : ℕ) (most : (r : ℕ) → p r ≡ true → g r ≤ B) (past : (r : ℕ) → p r ≡ true → k ≤ r → g r ≡ 0) where
  kept_from : (n a : ℕ) → sum g (keep p (from a n)) ≤ (k - a) * B
  kept_from zero a = omega arith
  kept_from (suc n) a = go (p a) refl (leb k a) refl (kept_from n (suc a))
    where
      go : (s : Bool) → p a ≡ s → (t : Bool) → leb k a ≡ t → sum g (keep p (from (suc a) n)) ≤ (k - suc a) * B
          → sum g (cond s (a ∷ keep p (from (suc a) n)) (keep p (from (suc a) n))) ≤ (k - a) * B
      go true e true q rest =
          let h : k ≤ a = leb-true k a q in
          let z : k - suc a ≡ k - a = omega arith in
          rw (← z) (omega (arith, past a e h, rest))
      go true e false q rest =
          let h : a < k = leb-false k a q in
          let z : k - a ≡ suc (k - suc a) = omega arith in
          rw z (omega (arith, most a e, rest, suc-mul (k - suc a) B))
      go false e t q rest = omega (arith, rest, mul-le-mul_right B (less k a))
        where
          less : (k a : ℕ) → k - suc a ≤ k - a
          less k a = omega arith

  pub kept_sum : (n : ℕ) → sum g (keep p (from 0 n)) ≤ k * B
  kept_sum n = let z : k - 0 ≡ k = omega arith in rw z at (kept_from n 0)

-- ---- anchors

module _ (o : Outline) where
  Anchored : Anchor → Type 0
  Anchored a = row_table (kind_of o a.loop) ≡ Some a.table

  anchor_is : (l : ℕ) (k : Kind) → kind_of o l ≡ k → All Anchored (anchor_at l k)
  unfolding Anchored
  anchor_is l absent e = tt
  anchor_is l envelope e = tt
  anchor_is l implied e = tt
  anchor_is l (rows u) e = (ap row_table e, tt)
  anchor_is l (inside u) e = tt
  anchor_is l (groups u) e = tt

  each_is : (ls : List ℕ) → All Anchored (each (λ l. anchor_at l (kind_of o l)) ls)
  each_is [] = tt
  each_is (l ∷ ls) = all_append Anchored (anchor_at l (kind_of o l)) (each (λ l. anchor_at l (kind_of o l)) ls) (anchor_is l (kind_of o l) refl) (each_is ls)

  insert_is : (a : Anchor) (bs : List Anchor) → Anchored a → All Anchored bs → All Anchored (insert o a bs)
  insert_is a [] h k = (h, tt)
  insert_is a (b ∷ bs) h k = go (leb (depth_of o b.loop) (depth_of o a.loop)) (insert_is a bs h k.1)
    where
      go : (t : Bool) → All Anchored (insert o a bs) → All Anchored (cond t (a ∷ b ∷ bs) (b ∷ insert o a bs))
      go true more = (h, k)
      go false more = (k.0, more)

  sorted_is : (bs : List Anchor) → All Anchored bs → All Anchored (foldr (insert o) [] bs)
  sorted_is [] h = tt
  sorted_is (a ∷ bs) h = insert_is a (foldr (insert o) [] bs) h.0 (sorted_is bs h.1)

  anchors_are : (t : ℕ) → All Anchored (anchors o t)
  unfolding anchors
  anchors_are t = sorted_is (each (λ l. anchor_at l (kind_of o l)) (table_of o t).loops) (each_is (table_of o t).loops)

-- ---- the rows that a loop's instance takes

module _ (j : Job) (t : ℕ) where
  abbrev o : Outline
  o = outline_of j

  -- how many values the references of t to a loop's table have
  abbrev pub within : Option ℕ → ℕ
  within x = on x (λ u. ints_in (ref_column (data_of j t).refs u)) 0

  abbrev pub limit : ℕ → ℕ
  limit l = within (row_table (kind_of o l))

  claim_below : (r : ℕ) (bs : List Anchor) (k : Claim) → All (Anchored o) bs → claim_in o t r bs ≡ Some k → r < limit k.loop
  unfolding claim_in Anchored outline_of
  claim_below r [] k h e = absurd (none-some k e)
  claim_below r (a ∷ bs) k h e = go (o.reference t a.table r) refl e (claim_below r bs k h.1)
    where
      go : (x : Option ℕ) → o.reference t a.table r ≡ x → on x (λ v. Some (claim_on a v)) (claim_in o t r bs) ≡ Some k → (claim_in o t r bs ≡ Some k → r < limit k.loop) → r < limit k.loop
      go None q e more = more e
      go (Some v) q e more =
          let c : claim_on a v ≡ k = cc in
          let w : row_table (kind_of o a.loop) ≡ Some a.table = h.0 in
          rw (← c) (rw w (reference_below (data_of j t).refs a.table r v q))

  pub hooked_below : (l p r : ℕ) → hooked (hook o t r) l p ≡ true → r < limit l
  unfolding hook
  hooked_below l p r e = go (repeated o t) (claim_in o t r (anchors o t)) refl e
    where
      placed : (k : Claim) (y : Option ℕ) → r < limit k.loop → hooked (option_map (hook_on k) y) l p ≡ true → r < limit l
      placed k None h e = absurd (true≢false (sym e))
      placed k (Some q) h e = let s : l ≡ k.loop = eqb-true l k.loop (both (eqb l k.loop) (eqb p q) e).0 in rw s h

      go : (b : Bool) (x : Option Claim) → claim_in o t r (anchors o t) ≡ x → hooked (cond b (on x (settle o) None) None) l p ≡ true → r < limit l
      go false x q e = absurd (true≢false (sym e))
      go true None q e = absurd (true≢false (sym e))
      go true (Some k) q e = placed k (first_row o k.table k.value) (claim_below r (anchors o t) k (anchors_are o t) q) e

  pub rows_limit : (l p : ℕ) → length (repeat_rows o t l p) ≤ limit l
  unfolding repeat_rows
  rows_limit l p =
      let q : ℕ → Bool = λ r. hooked (hook o t r) l p in
      omega (arith, sum_each_time 1 (keep q (from 0 (row_count o t))), kept_sum q (λ r. 1) (limit l) 1 (λ r e. omega arith) (λ r e h. absurd (let z = hooked_below l p r e in omega arith)) (row_count o t))

  -- the cells of one column
  pub column_sum : (c l p : ℕ) → sum (λ r. weigh (cell_of (data_of j t) c r)) (repeat_rows o t l p) ≤ min (limit l) (rows_in (get_or (data_of j t).columns c None)) * (bytes_in (get_or (data_of j t).columns c None) + 303)
  unfolding repeat_rows
  column_sum c l p =
      let col : Option Column = get_or (data_of j t).columns c None in
      kept_sum (λ r. hooked (hook o t r) l p) (λ r. weigh (cell_in col r)) (min (limit l) (rows_in col)) (bytes_in col + 303) (λ r e. cell_weigh col r)
      (λ r e h. cell_past col r (let z = hooked_below l p r e in omega arith)) (row_count o t)
