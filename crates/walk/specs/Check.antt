-- Four conditions of a complete plan (row loops, orders, what stands above a row loop, repeat loops) as tests, as code would make them
-- (`proofs/CheckRight`: they pass exactly when the conditions hold).
use Rattle.std.specs.Prelude.{ℕ, zero, suc, ◌+◌, Bool, true, false, not, ◌&&◌, ◌||◌, List, [], ◌∷◌, length, eqb, ltb, leb, Option, None, Some}
use Rattle.nest.specs.Lists.{once, on, times, is}
use Rattle.nest.specs.Outline.{Outline, Kind, rows, absent, envelope, implied, inside, groups, row_table, Source, of_envelope, of_row, of_repeat, item_loops, item_segments, loop_of, plan_of, table_of, parent_of, kind_of, order_of, segment_of, table_parent, plain, repeated}
use Rattle.walk.specs.Complete.{climbs, is_root}

-- ---- tests over numbers and lists

abbrev pub each_below : ℕ → (ℕ → Bool) → Bool
each_below zero p = true
each_below (suc n) p = p n && each_below n p

abbrev pub how_many : ℕ → (ℕ → Bool) → ℕ
how_many zero p = 0
how_many (suc n) p = once (p n) + how_many n p

abbrev pub each_of : List ℕ → (ℕ → Bool) → Bool
each_of [] p = true
each_of (x ∷ xs) p = p x && each_of xs p

abbrev pub rows_of : ℕ → Kind → Bool
rows_of t k = is (row_table k) t

-- the table that a `Rows` or `Groups` loop names
abbrev pub named : Kind → Option ℕ
named absent = None
named envelope = None
named implied = None
named (rows u) = Some u
named (inside u) = None
named (groups u) = Some u

abbrev pub repeat_table : Source → Option ℕ
repeat_table of_envelope = None
repeat_table (of_row t) = None
repeat_table (of_repeat t) = Some t

-- how many segments a loop plans
abbrev pub planned : Outline → ℕ → ℕ
planned j l = length (plan_of j l).segments

-- a test on what is there
abbrev pub if_there : Option ℕ → (ℕ → Bool) → Bool
if_there x p = on x p true

abbrev pub all_pass : List Bool → Bool
all_pass [] = true
all_pass (b ∷ bs) = b && all_pass bs

-- ---- above a row loop: from it upwards, with the table whose row loop came last

abbrev pub past : Outline → (ℕ → Bool) → ℕ → Kind → Bool
past j on_up w absent = false
past j on_up w envelope = on_up w
past j on_up w implied = on_up w
past j on_up w (rows v) = is (table_parent j w) v && on_up v
past j on_up w (inside v) = false
past j on_up w (groups v) = eqb v w && on_up w

unfoldable pub fits : Outline → ℕ → ℕ → ℕ → Bool
fits j zero l w = false
fits j (suc h) l w = on (parent_of j l) (λ p. past j (fits j h p) w (kind_of j p)) (on (table_parent j w) (λ u. false) true)

-- ---- the tests

unfoldable pub tree_tests : Outline → List Bool
tree_tests j =
    each_below (length j.loops) (λ l. each_below (length j.loops) (λ k. eqb (times k (loop_of j l).children) (once (is (parent_of j k) l))))
    ∷ each_below (length j.loops) (λ l. each_of (loop_of j l).children (λ k. ltb k (length j.loops)))
    ∷ each_below (length j.loops) (λ l. if_there (parent_of j l) (λ p. ltb p (length j.loops)))
    ∷ each_below (length j.loops) (λ l. eqb (times l j.roots) (once (is_root j l)))
    ∷ each_of j.roots (λ l. ltb l (length j.loops))
    ∷ each_below (length j.loops) (climbs j (length j.loops))
    ∷ each_below (length j.order) (λ l. each_of (item_loops (order_of j l)) (λ k. leb (times k (item_loops (order_of j l))) (times k (loop_of j l).children)))
    ∷ each_below (length j.tables) (λ t. each_of (table_of j t).loops (λ l. ltb l (length j.loops)))
    ∷ []

unfoldable pub plan_tests : Outline → List Bool
plan_tests j =
    -- 1
    each_below (length j.tables) (λ t. not (plain j t) || eqb (how_many (length j.loops) (λ l. rows_of t (kind_of j l))) 1)
    ∷ each_below (length j.loops) (λ l. if_there (named (kind_of j l)) (plain j))
    -- 2
    ∷ eqb (length j.plan) (length j.loops)
    ∷ eqb (length j.order) (length j.loops)
    ∷ each_below (length j.loops) (λ l. each_below (length j.loops) (λ k. eqb (times k (item_loops (order_of j l))) (times k (loop_of j l).children)))
    ∷ each_below (length j.loops) (λ l. each_below (planned j l) (λ i. eqb (times i (item_segments (order_of j l))) 1))
    ∷ each_below (length j.loops) (λ l. each_of (item_segments (order_of j l)) (λ i. ltb i (planned j l)))
    ∷ each_below (length j.loops) (λ l. each_below (planned j l) (λ i. ltb (segment_of j l i).occurrence (loop_of j l).occurrences))
    ∷ each_below (length j.tables) (λ t. if_there (table_parent j t) (plain j))
    -- 3
    ∷ each_below (length j.loops) (λ l. if_there (row_table (kind_of j l)) (fits j (length j.loops) l))
    -- 4
    ∷ each_below (length j.tables) (λ t. not (repeated j t) || each_of (table_of j t).loops (λ l. if_there (row_table (kind_of j l)) (λ u. eqb (how_many (planned j l) (λ i. is (repeat_table (segment_of j l i).source) t)) 1)))
    ∷ each_below (length j.loops) (λ l. each_below (planned j l) (λ i. if_there (repeat_table (segment_of j l i).source) (λ t. repeated j t && (ltb 0 (times l (table_of j t).loops) && on (row_table (kind_of j l)) (λ u. true) false))))
    ∷ []

unfoldable pub complete_ok : Outline → Bool
unfolding tree_tests plan_tests
complete_ok j = all_pass (tree_tests j) && all_pass (plan_tests j)
