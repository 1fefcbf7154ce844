-- The tests of the plan check pass exactly when the conditions hold.
use Prim.Native.Nat.{ℕ, zero, suc, ◌≤◌, ◌<◌}
use mathlib.Core.Path.{◌≡◌, refl, sym, ap, ◌∙◌}
use mathlib.Core.Logic.{◌⊎◌, inl, inr, ◌↔◌}
use mathlib.Core.Bool.{Bool, true, false, ◌&&◌, false≢true}
use mathlib.Core.List.{[]}
use native.Mathlib.Omega.{arith}
use native.Mathlib.Decide.{dec_lt}
use Rattle.std.specs.Prelude.{None, Some}
use Rattle.std.proofs.lemmas.Option.{none-some, same_Some}
use lib.ListN.{length, get_or-eq_default}
use lib.Dec.{eqb, ltb}
use borrow.Author.Tests.{eq-eqb, eqb-true, lt-ltb, le-ltb, ltb-true, le-leb, leb-true}
use Rattle.nest.specs.Lists.{once, on, times, is, All}
use Rattle.nest.specs.Outline.{Outline, Table, Plan, Kind, absent, envelope, implied, rows, inside, groups, row_table, Source, of_envelope, of_row, of_repeat, no_loop, no_table, no_plan, loop_of, plan_of, table_of, parent_of, kind_of, order_of, segment_of, table_parent, plain, repeated}
use Rattle.nest.specs.Outline.{item_loops, item_segments}
use Rattle.walk.specs.Complete.{Tree, Complete, ExactlyOne, PlansRepeat, Anchors, climbs, is_root}
use Rattle.walk.specs.Check.{each_of, how_many, rows_of, named, repeat_table, planned, if_there, all_pass, fits, tree_tests, plan_tests, complete_ok}
use Rattle.walk.proofs.Paths.{in_range, parent_range, planned_range, is_some, once_true}
use Rattle.nest.proofs.Hanging.{plain_in}
use Rattle.walk.proofs.Right.{repeated_in}
use Rattle.walk.proofs.Condition3.{Three, fits_three, three_fits}
use Rattle.walk.proofs.Tests.{both, and_true, if_then, then_if, there_is, is_there_lem, below_true, true_below, of_true, true_of, OneBelow, many_one, one_many, tests_all, that_is_all, ◌⨾◌, all_tests}

-- ---- past the end of a list

loop_out : (j : Outline) (l : ℕ) → length j.loops ≤ l → loop_of j l ≡ no_loop
unfolding loop_of
loop_out j l h = get_or-eq_default j.loops no_loop {n = l} h

parent_out : (j : Outline) (l : ℕ) → length j.loops ≤ l → parent_of j l ≡ None
unfolding parent_of
parent_out j l h = ap (λ d. d.parent) (loop_out j l h)

children_out : (j : Outline) (l k : ℕ) → length j.loops ≤ l → times k (loop_of j l).children ≡ 0
children_out j l k h = ap (λ d. times k d.children) (loop_out j l h)

plan_out : (j : Outline) (l : ℕ) → length j.plan ≤ l → planned j l ≡ 0
unfolding plan_of
plan_out j l h = ap (λ (d : Plan). length d.segments) (get_or-eq_default j.plan no_plan {n = l} h)

kind_out : (j : Outline) (l : ℕ) → length j.plan ≤ l → kind_of j l ≡ absent
unfolding kind_of plan_of
kind_out j l h = ap (λ (d : Plan). d.instances) (get_or-eq_default j.plan no_plan {n = l} h)

order_out : (j : Outline) (l : ℕ) → length j.order ≤ l → order_of j l ≡ []
unfolding order_of
order_out j l h = get_or-eq_default j.order [] {n = l} h

table_out : (j : Outline) (t : ℕ) → length j.tables ≤ t → table_parent j t ≡ None
unfolding table_parent table_of
table_out j t h = ap (λ d. d.parent) (get_or-eq_default j.tables no_table {n = t} h)

loops_out : (j : Outline) (t l : ℕ) → length j.tables ≤ t → times l (table_of j t).loops ≡ 0
unfolding table_of
loops_out j t l h = ap (λ (d : Table). times l d.loops) (get_or-eq_default j.tables no_table {n = t} h)

-- a number is 0, or there is some
zero_or : (n : ℕ) → (n ≡ 0) ⊎ (0 < n)
zero_or zero = inl refl
zero_or (suc n) = inr (omega arith)

-- ---- the tree

-- ---- tests give facts, facts give tests

module _ (j : Outline) where
  abbrev L : ℕ
  L = length j.loops

  tree_passed : all_pass (tree_tests j) ≡ true → Tree j
  unfolding tree_tests is_root
  tree_passed pass = record { children = children; roots = roots; no_ring = below_true L (climbs j L) t.1.1.1.1.1.0; order = order; table_loops = table_loops }
    where
      t : All (λ b. b ≡ true) (tree_tests j)
      t = tests_all (tree_tests j) pass

      kid_in : (l k : ℕ) → l < L → 0 < times k (loop_of j l).children → k < L
      kid_in l k h q = ltb-true k L (of_true (loop_of j l).children _ (below_true L _ t.1.0 l h) k q)

      parent_in : (k l : ℕ) → k < L → parent_of j k ≡ Some l → l < L
      parent_in k l h e = ltb-true l L (there_is (parent_of j k) _ (below_true L _ t.1.1.0 k h) l e)

      children : (l k : ℕ) → times k (loop_of j l).children ≡ once (is (parent_of j k) l)
      children l k = go (dec_lt l L) (dec_lt k L)
        where
          stranger : L ≤ l → (b : Bool) → is (parent_of j k) l ≡ b → once b ≡ 0
          stranger h true e =
              let q : parent_of j k ≡ Some l = is_some (parent_of j k) l e in
              absurd (omega (arith, h, parent_in k l (in_range j k l q) q))
          stranger h false e = refl

          absent_kid : l < L → L ≤ k → (times k (loop_of j l).children ≡ 0) ⊎ (0 < times k (loop_of j l).children) → times k (loop_of j l).children ≡ once (is (parent_of j k) l)
          absent_kid h q (inl z) = z ∙ sym (ap (λ x. once (is x l)) (parent_out j k q))
          absent_kid h q (inr z) = absurd (omega (arith, q, kid_in l k h z))

          go : Dec (l < L) → Dec (k < L) → times k (loop_of j l).children ≡ once (is (parent_of j k) l)
          go (yes h) (yes q) = eqb-true _ _ (below_true L _ (below_true L _ t.0 l h) k q)
          go (yes h) (no q) = absent_kid h (omega arith) (zero_or _)
          go (no h) d = children_out j l k (omega arith) ∙ sym (stranger (omega arith) (is (parent_of j k) l) refl)

      roots : (l : ℕ) → times l j.roots ≡ once (is_root j l)
      roots l = go (dec_lt l L)
        where
          none_there : L ≤ l → (times l j.roots ≡ 0) ⊎ (0 < times l j.roots) → times l j.roots ≡ once (is_root j l)
          none_there h (inl z) = z ∙ sym (ap (λ b. once (b && on (parent_of j l) (λ p. false) true)) (le-ltb l L h))
          none_there h (inr z) = absurd (omega (arith, h, ltb-true l L (of_true j.roots _ t.1.1.1.1.0 l z)))

          go : Dec (l < L) → times l j.roots ≡ once (is_root j l)
          go (yes h) = eqb-true _ _ (below_true L _ t.1.1.1.0 l h)
          go (no h) = none_there (omega arith) (zero_or _)

      order : (l k : ℕ) → times k (item_loops (order_of j l)) ≤ times k (loop_of j l).children
      order l k = go (dec_lt l (length j.order))
        where
          listed : l < length j.order → (times k (item_loops (order_of j l)) ≡ 0) ⊎ (0 < times k (item_loops (order_of j l))) → times k (item_loops (order_of j l)) ≤ times k (loop_of j l).children
          listed h (inl z) = omega arith
          listed h (inr z) = leb-true _ _ (of_true (item_loops (order_of j l)) _ (below_true (length j.order) _ t.1.1.1.1.1.1.0 l h) k z)

          go : Dec (l < length j.order) → times k (item_loops (order_of j l)) ≤ times k (loop_of j l).children
          go (yes h) = listed h (zero_or _)
          go (no h) = omega (arith, ap (λ o. times k (item_loops o)) (order_out j l (omega arith)))

      table_loops : (t l : ℕ) → 0 < times l (table_of j t).loops → l < L
      table_loops u l q = go (dec_lt u (length j.tables))
        where
          go : Dec (u < length j.tables) → l < L
          go (yes h) = ltb-true l L (of_true (table_of j u).loops _ (below_true (length j.tables) _ t.1.1.1.1.1.1.1.0 u h) l q)
          go (no h) = absurd (omega (arith, q, loops_out j u l (omega arith)))

  passed_tree : Tree j → all_pass (tree_tests j) ≡ true
  unfolding tree_tests is_root
  passed_tree T = all_tests (
      true_below L _ (λ l h. true_below L _ (λ k q. eq-eqb _ _ (T.children l k)))
      ⨾ true_below L _ (λ l h. true_of (loop_of j l).children _ (λ k q. lt-ltb k L (kid l k q)))
      ⨾ true_below L _ (λ l h. is_there_lem (parent_of j l) _ (λ p e. lt-ltb p L (parent_range j T l p e)))
      ⨾ true_below L _ (λ l h. eq-eqb _ _ (T.roots l))
      ⨾ true_of j.roots _ (λ l q. lt-ltb l L (root_in l q))
      ⨾ true_below L _ (λ l h. T.no_ring l h)
      ⨾ true_below (length j.order) _ (λ l h. true_of (item_loops (order_of j l)) _ (λ k q. le-leb _ _ (T.order l k)))
      ⨾ true_below (length j.tables) _ (λ t h. true_of (table_of j t).loops _ (λ l q. lt-ltb l L (T.table_loops t l q)))
      ⨾ that_is_all)
    where
      kid : (l k : ℕ) → 0 < times k (loop_of j l).children → k < L
      kid l k q = in_range j k l (is_some (parent_of j k) l (once_true (is (parent_of j k) l) (omega (arith, T.children l k))))

      root_in : (l : ℕ) → 0 < times l j.roots → l < L
      root_in l q = ltb-true l L (both (ltb l L) _ (once_true (is_root j l) (omega (arith, T.roots l)))).0

  -- ---- the plan

  abbrev S : ℕ → ℕ
  S l = planned j l

  rows_of_lem : (t : ℕ) (k : Kind) → rows_of t k ≡ true → k ≡ rows t
  rows_of_lem t absent e = absurd (false≢true e)
  rows_of_lem t envelope e = absurd (false≢true e)
  rows_of_lem t implied e = absurd (false≢true e)
  rows_of_lem t (inside u) e = absurd (false≢true e)
  rows_of_lem t (groups u) e = absurd (false≢true e)
  rows_of_lem t (rows u) e = ap rows (sym (eqb-true t u e))

  of_rows : (t : ℕ) (k : Kind) → k ≡ rows t → rows_of t k ≡ true
  of_rows t k e = rw e (eq-eqb t t refl)

  row_table_lem : (t : ℕ) (k : Kind) → row_table k ≡ Some t → k ≡ rows t
  row_table_lem t absent e = absurd (none-some t e)
  row_table_lem t envelope e = absurd (none-some t e)
  row_table_lem t implied e = absurd (none-some t e)
  row_table_lem t (inside u) e = absurd (none-some t e)
  row_table_lem t (groups u) e = absurd (none-some t e)
  row_table_lem t (rows u) e = ap rows (same_Some u t e)

  repeat_table_lem : (t : ℕ) (s : Source) → repeat_table s ≡ Some t → s ≡ of_repeat t
  repeat_table_lem t of_envelope e = absurd (none-some t e)
  repeat_table_lem t (of_row u) e = absurd (none-some t e)
  repeat_table_lem t (of_repeat u) e = ap of_repeat (same_Some u t e)

  names : (u : ℕ) (k : Kind) → named k ≡ Some u → (k ≡ rows u) ⊎ (k ≡ groups u)
  names u absent e = absurd (none-some u e)
  names u envelope e = absurd (none-some u e)
  names u implied e = absurd (none-some u e)
  names u (inside v) e = absurd (none-some u e)
  names u (rows v) e = inl (ap rows (same_Some v u e))
  names u (groups v) e = inr (ap groups (same_Some v u e))

  has_row : (k : Kind) → on (row_table k) (λ u. true) false ≡ true → (u : ℕ) × (k ≡ rows u)
  has_row absent e = absurd (false≢true e)
  has_row envelope e = absurd (false≢true e)
  has_row implied e = absurd (false≢true e)
  has_row (inside u) e = absurd (false≢true e)
  has_row (groups u) e = absurd (false≢true e)
  has_row (rows u) e = (u, refl)

  is_repeat : (l t i : ℕ) → PlansRepeat j l t i → is (repeat_table (segment_of j l i).source) t ≡ true
  is_repeat l t i P = ap (λ s. is (repeat_table s) t) P.of_table ∙ eq-eqb t t refl

  pub plan_passed : Tree j → all_pass (plan_tests j) ≡ true → Complete j
  unfolding plan_tests
  plan_passed T pass = record {
    tree = T;
    row_loop = row_loop;
    rows_plain = λ l t e. there_is (named (kind_of j l)) (plain j) (below_true L _ t₀.1.0 l (rows_in_lem l t e)) t (ap named e);
    groups_plain = groups_plain;
    plan_entries = plan_l;
    order_entries = order_l;
    order_loops = order_loops;
    order_segments = order_segments;
    occurrences = occurrences;
    parents_plain = parents_plain;
    above_kinds = λ l t m e. (three l t e).above_kinds m;
    above_only = λ l t m u e. (three l t e).above_only m u;
    above_all = λ l t u e. (three l t e).above_all u;
    groups_end = λ l t g u e. (three l t e).groups_end g u;
    repeat_planned = repeat_planned_lem;
    no_other_repeat = no_other;
  }
    where
      t₀ : All (λ b. b ≡ true) (plan_tests j)
      t₀ = tests_all (plan_tests j) pass

      plan_l : length j.plan ≡ L
      plan_l = eqb-true _ _ t₀.1.1.0

      order_l : length j.order ≡ L
      order_l = eqb-true _ _ t₀.1.1.1.0

      rows_in_lem : (l t : ℕ) → kind_of j l ≡ rows t → l < L
      rows_in_lem l t e = omega (arith, planned_range j l t e, plan_l)

      inside_l : (l : ℕ) → (L ≤ l → ⊥) → l < L
      inside_l l d = go (dec_lt l L)
        where
          go : Dec (l < L) → l < L
          go (yes h) = h
          go (no h) = absurd (d (omega arith))

      planned_in_lem : (l i : ℕ) → i < S l → l < L
      planned_in_lem l i h = inside_l l (λ q. omega (arith, h, plan_out j l (omega (arith, q, plan_l))))

      row_loop : (t : ℕ) → plain j t ≡ true → ExactlyOne (λ l. kind_of j l ≡ rows t)
      row_loop t p = turn (many_one L (λ l. rows_of t (kind_of j l)) (eqb-true _ _ (if_then (plain j t) _ (below_true (length j.tables) _ t₀.0 t (plain_in j t p)) p)))
        where
          turn : OneBelow L (λ l. rows_of t (kind_of j l)) → ExactlyOne (λ l. kind_of j l ≡ rows t)
          turn O = record { the = O.the; has = rows_of_lem t (kind_of j O.the) O.has; only = λ l e. O.only l (rows_in_lem l t e) (of_rows t (kind_of j l) e) }

      groups_in : (l t : ℕ) → kind_of j l ≡ groups t → l < L
      groups_in l t e = inside_l l (λ q. clash (kind_out j l (omega (arith, q, plan_l))) e)
        where
          clash : {k : Kind} → k ≡ absent → k ≡ groups t → ⊥
          clash y z = let n : ◌≡◌ {A = ℕ} 0 1 = cc in omega arith

      groups_plain : (l t : ℕ) → kind_of j l ≡ groups t → plain j t ≡ true
      groups_plain l t e = there_is (named (kind_of j l)) (plain j) (below_true L _ t₀.1.0 l (groups_in l t e)) t (ap named e)

      order_loops : (l k : ℕ) → times k (item_loops (order_of j l)) ≡ times k (loop_of j l).children
      order_loops l k = go (dec_lt l L) (dec_lt k L)
        where
          go : Dec (l < L) → Dec (k < L) → times k (item_loops (order_of j l)) ≡ times k (loop_of j l).children
          go (yes h) (yes q) = eqb-true _ _ (below_true L _ (below_true L _ t₀.1.1.1.1.0 l h) k q)
          go (yes h) (no q) = omega (arith, T.order l k, T.children l k, ap (λ x. once (is x l)) (parent_out j k (omega arith)))
          go (no h) d = omega (arith, T.order l k, children_out j l k (omega arith))

      order_segments : (l i : ℕ) → times i (item_segments (order_of j l)) ≡ once (ltb i (S l))
      order_segments l i = go (dec_lt l L) (dec_lt i (S l))
        where
          not_listed : l < L → S l ≤ i → (times i (item_segments (order_of j l)) ≡ 0) ⊎ (0 < times i (item_segments (order_of j l))) → times i (item_segments (order_of j l)) ≡ once (ltb i (S l))
          not_listed h q (inl z) = z ∙ sym (ap once (le-ltb i (S l) q))
          not_listed h q (inr z) = absurd (omega (arith, q, ltb-true i (S l) (of_true (item_segments (order_of j l)) _ (below_true L _ t₀.1.1.1.1.1.1.0 l h) i z)))

          go : Dec (l < L) → Dec (i < S l) → times i (item_segments (order_of j l)) ≡ once (ltb i (S l))
          go (yes h) (yes q) = eqb-true _ _ (below_true (S l) _ (below_true L _ t₀.1.1.1.1.1.0 l h) i q) ∙ sym (ap once (lt-ltb i (S l) q))
          go (yes h) (no q) = not_listed h (omega arith) (zero_or _)
          go (no h) d = ap (λ o. times i (item_segments o)) (order_out j l (omega (arith, order_l))) ∙ sym (ap once (le-ltb i (S l) (omega (arith, plan_out j l (omega (arith, plan_l))))))

      occurrences : (l i : ℕ) → i < S l → (segment_of j l i).occurrence < (loop_of j l).occurrences
      occurrences l i h = ltb-true _ _ (below_true (S l) _ (below_true L _ t₀.1.1.1.1.1.1.1.0 l (planned_in_lem l i h)) i h)

      parents_plain : (t u : ℕ) → table_parent j t ≡ Some u → plain j u ≡ true
      parents_plain t u e = go (dec_lt t (length j.tables))
        where
          go : Dec (t < length j.tables) → plain j u ≡ true
          go (yes h) = there_is (table_parent j t) (plain j) (below_true (length j.tables) _ t₀.1.1.1.1.1.1.1.1.0 t h) u e
          go (no h) = absurd (none-some u (sym (table_out j t (omega arith)) ∙ e))

      three : (l t : ℕ) → kind_of j l ≡ rows t → Three j l t
      three l t e = fits_three j T L l t e (there_is (row_table (kind_of j l)) (fits j L l) (below_true L _ t₀.1.1.1.1.1.1.1.1.1.0 l (rows_in_lem l t e)) t (ap row_table e))

      repeat_planned_lem : (l t : ℕ) → Anchors j l t → ExactlyOne (PlansRepeat j l t)
      repeat_planned_lem l t A = turn (many_one (S l) (λ i. is (repeat_table (segment_of j l i).source) t) (eqb-true _ _ once_planned))
        where
          listed : each_of (table_of j t).loops (λ l. if_there (row_table (kind_of j l)) (λ u. eqb (how_many (planned j l) (λ i. is (repeat_table (segment_of j l i).source) t)) 1)) ≡ true
          listed = if_then (repeated j t) _ (below_true (length j.tables) _ t₀.1.1.1.1.1.1.1.1.1.1.0 t (repeated_in j t A.repeat_table)) A.repeat_table

          once_planned : eqb (how_many (S l) (λ i. is (repeat_table (segment_of j l i).source) t)) 1 ≡ true
          once_planned = there_is (row_table (kind_of j l)) (λ u. eqb (how_many (S l) (λ i. is (repeat_table (segment_of j l i).source) t)) 1) (of_true (table_of j t).loops _ listed l A.in_list) A.owner (ap row_table A.owner_rows)

          turn : OneBelow (S l) (λ i. is (repeat_table (segment_of j l i).source) t) → ExactlyOne (PlansRepeat j l t)
          turn O = record {
            the = O.the;
            has = record { planned = O.small; of_table = repeat_table_lem t (segment_of j l O.the).source (is_some (repeat_table (segment_of j l O.the).source) t O.has) };
            only = λ i P. O.only i P.planned (is_repeat l t i P);
          }

      no_other : (l t i : ℕ) → PlansRepeat j l t i → Anchors j l t
      no_other l t i P = record { repeat_table = b.0; in_list = ltb-true 0 _ c.0; owner = r.0; owner_rows = r.1 }
        where
          passed : repeated j t && (ltb 0 (times l (table_of j t).loops) && on (row_table (kind_of j l)) (λ u. true) false) ≡ true
          passed = there_is (repeat_table (segment_of j l i).source) (λ t. repeated j t && (ltb 0 (times l (table_of j t).loops) && on (row_table (kind_of j l)) (λ u. true) false))
              (below_true (S l) _ (below_true L _ t₀.1.1.1.1.1.1.1.1.1.1.1.0 l (planned_in_lem l i P.planned)) i P.planned) t (ap repeat_table P.of_table)

          b : (repeated j t ≡ true) × (ltb 0 (times l (table_of j t).loops) && on (row_table (kind_of j l)) (λ u. true) false ≡ true)
          b = both _ _ passed

          c : (ltb 0 (times l (table_of j t).loops) ≡ true) × (on (row_table (kind_of j l)) (λ u. true) false ≡ true)
          c = both _ _ b.1

          r : (u : ℕ) × (kind_of j l ≡ rows u)
          r = has_row (kind_of j l) c.1

  pub passed_plan : Complete j → all_pass (plan_tests j) ≡ true
  unfolding plan_tests
  passed_plan C = all_tests (
      true_below (length j.tables) _ (λ t h. then_if (plain j t) _ (λ p. eq-eqb _ _ (one_many L (λ l. rows_of t (kind_of j l)) (one_row t p))))
      ⨾ true_below L _ (λ l h. is_there_lem (named (kind_of j l)) (plain j) (λ u e. name l u (names u (kind_of j l) e)))
      ⨾ eq-eqb _ _ C.plan_entries
      ⨾ eq-eqb _ _ C.order_entries
      ⨾ true_below L _ (λ l h. true_below L _ (λ k q. eq-eqb _ _ (C.order_loops l k)))
      ⨾ true_below L _ (λ l h. true_below (S l) _ (λ i q. eq-eqb _ _ (C.order_segments l i ∙ ap once (lt-ltb i (S l) q))))
      ⨾ true_below L _ (λ l h. true_of (item_segments (order_of j l)) _ (λ i q. once_true (ltb i (S l)) (omega (arith, C.order_segments l i))))
      ⨾ true_below L _ (λ l h. true_below (S l) _ (λ i q. lt-ltb _ _ (C.occurrences l i q)))
      ⨾ true_below (length j.tables) _ (λ t h. is_there_lem (table_parent j t) (plain j) (λ u e. C.parents_plain t u e))
      ⨾ true_below L _ (λ l h. is_there_lem (row_table (kind_of j l)) (fits j L l) (λ t e. three_fits j C l t (row_table_lem t (kind_of j l) e) h))
      ⨾ true_below (length j.tables) _ (λ t h. then_if (repeated j t) _ (λ p. true_of (table_of j t).loops _ (λ l q. is_there_lem (row_table (kind_of j l)) _ (λ u e. eq-eqb _ _ (one_many (S l) (λ i. is (repeat_table (segment_of j l i).source) t) (one_repeat l t (record { repeat_table = p; in_list = q; owner = u; owner_rows = row_table_lem u (kind_of j l) e })))))))
      ⨾ true_below L _ (λ l h. true_below (S l) _ (λ i q. is_there_lem (repeat_table (segment_of j l i).source) _ (λ t e. anchored l t (C.no_other_repeat l t i (record { planned = q; of_table = repeat_table_lem t (segment_of j l i).source e })))))
      ⨾ that_is_all)
    where
      one_row : (t : ℕ) → plain j t ≡ true → OneBelow L (λ l. rows_of t (kind_of j l))
      one_row t p =
          let E : ExactlyOne (λ l. kind_of j l ≡ rows t) = C.row_loop t p in
          record {
            the = E.the;
            small = omega (arith, planned_range j E.the t E.has, C.plan_entries);
            has = of_rows t (kind_of j E.the) E.has;
            only = λ k h e. E.only k (rows_of_lem t (kind_of j k) e);
          }

      name : (l u : ℕ) → (kind_of j l ≡ rows u) ⊎ (kind_of j l ≡ groups u) → plain j u ≡ true
      name l u (inl e) = C.rows_plain l u e
      name l u (inr e) = C.groups_plain l u e

      one_repeat : (l t : ℕ) → Anchors j l t → OneBelow (S l) (λ i. is (repeat_table (segment_of j l i).source) t)
      one_repeat l t A =
          let E : ExactlyOne (PlansRepeat j l t) = C.repeat_planned l t A in
          record {
            the = E.the;
            small = E.has.planned;
            has = is_repeat l t E.the E.has;
            only = λ i h e. E.only i (record { planned = h; of_table = repeat_table_lem t (segment_of j l i).source (is_some (repeat_table (segment_of j l i).source) t e) });
          }

      anchored : (l t : ℕ) → Anchors j l t → repeated j t && (ltb 0 (times l (table_of j t).loops) && on (row_table (kind_of j l)) (λ u. true) false) ≡ true
      anchored l t A = and_true _ _ A.repeat_table (and_true _ _ (lt-ltb 0 (times l (table_of j t).loops) A.in_list) (ap (λ k. on (row_table k) (λ u. true) false) A.owner_rows))

  -- the check says yes exactly when the plan is complete
  pub check_right : (complete_ok j ≡ true) ↔ Complete j
  unfolding complete_ok
  check_right =
      let tests : complete_ok j ≡ true → (all_pass (tree_tests j) ≡ true) × (all_pass (plan_tests j) ≡ true) = both (all_pass (tree_tests j)) (all_pass (plan_tests j)) in
      ((λ e. plan_passed (tree_passed (tests e).0) (tests e).1), (λ C. and_true _ _ (passed_tree C.tree) (passed_plan C)))
