-- Not to be believed: words of inner contracts, on which no contract of what users call rests.
-- The tests of the plan check (`plan_tests` of walk), put together by condition as the code makes them: 1 "Row loops", 2 "Entries and orders",
-- 3 "Above a row loop", 4 "Repeat loops" (docs/RULES.md, "A complete plan").
use Rattle.std.specs.Prelude.{ℕ, ◌≡◌, ◌<◌, Bool, true, false, not, ◌&&◌, ◌||◌, List, length, get_or, eqb, ltb, Option, None, Some}
use Rattle.nest.specs.Lists.{once, on, sum, times, is}
use Rattle.nest.specs.Outline.{Outline, row_table, item_loops, item_segments, loop_of, table_of, kind_of, order_of, segment_of, table_parent, plain, repeated}
use Rattle.format.specs.Layout.{Item, segment_item, loop_item}
use Rattle.walk.specs.Check.{each_below, each_of, how_many, rows_of, named, repeat_table, planned, if_there, fits}

-- ---- items of an order

-- 1 where two items are the same
abbrev pub same_item : Item → Item → ℕ
same_item (segment_item i) (segment_item k) = once (eqb k i)
same_item (segment_item i) (loop_item l) = 0
same_item (loop_item l) (segment_item k) = 0
same_item (loop_item l) (loop_item k) = once (eqb k l)

-- two items are the same
abbrev pub same : Item → Item → Bool
same (segment_item i) (segment_item k) = eqb k i
same (segment_item i) (loop_item l) = false
same (loop_item l) (segment_item k) = false
same (loop_item l) (loop_item k) = eqb k l

-- the loop that an item names, and the planned segment
abbrev pub loop_named : Item → Option ℕ
loop_named (segment_item i) = None
loop_named (loop_item l) = Some l

abbrev pub segment_named : Item → Option ℕ
segment_named (segment_item i) = Some i
segment_named (loop_item l) = None

-- an item names no segment from n on
abbrev pub segment_below : ℕ → Item → Bool
segment_below n (segment_item i) = ltb i n
segment_below n (loop_item l) = true

-- how often each of the first 32 items of a kind, loops or planned segments, stands in an order
abbrev pub HowOften : (ℕ → Item) → List Item → List ℕ → Type 0
HowOften kind order times = (k : ℕ) → k < 32 → get_or times k 0 ≡ sum (same_item (kind k)) order

-- ---- how many

-- a search for numbers, told by what it may give, gives as p does at the numbers below n
abbrev pub GivesAs : (ℕ → Option ℕ → Type 0) → (ℕ → Option ℕ) → ℕ → Type 0
GivesAs post p n = (i : ℕ) (r : Option ℕ) → i < n → post i r → r ≡ p i

-- number k is given
abbrev pub gives_number : Option ℕ → ℕ → Bool
gives_number None k = false
gives_number (Some n) k = eqb n k

-- the row loops of a table
unfoldable pub row_loops : Outline → ℕ → ℕ
row_loops j t = how_many (length j.loops) (λ l. rows_of t (kind_of j l))

-- the repeat segments of a table that a loop plans
unfoldable pub repeats_in : Outline → ℕ → ℕ → ℕ
repeats_in j t l = how_many (planned j l) (λ i. is (repeat_table (segment_of j l i).source) t)

-- ---- every table, every loop

abbrev pub each_table : Outline → (ℕ → Bool) → Bool
each_table j p = each_below (length j.tables) p

abbrev pub each_loop : Outline → (ℕ → Bool) → Bool
each_loop j p = each_below (length j.loops) p

-- ---- 1

-- a table without repeat segment has one row loop
abbrev pub one_row_loop : Outline → ℕ → Bool
one_row_loop j t = not (plain j t) || eqb (row_loops j t) 1

-- a table that the loop names has no repeat segment
unfoldable pub names_plain : Outline → ℕ → Bool
names_plain j l = if_there (named (kind_of j l)) (plain j)

unfoldable pub condition1 : Outline → Bool
condition1 j = each_table j (one_row_loop j) && each_loop j (names_plain j)

-- ---- 2, but for the entries (`Entries`)

-- a table's parent has no repeat segment
abbrev pub parent_plain : Outline → ℕ → Bool
parent_plain j t = if_there (table_parent j t) (plain j)

-- the order of loop l names loop k as often as it is a child
unfoldable pub order_right : Outline → ℕ → ℕ → Bool
order_right j l k = eqb (times k (item_loops (order_of j l))) (times k (loop_of j l).children)

-- the order of loop l names only planned segments
unfoldable pub only_planned : Outline → ℕ → Bool
only_planned j l = each_of (item_segments (order_of j l)) (λ i. ltb i (planned j l))

-- planned segment i of loop l stands once in the order and has an occurrence
unfoldable pub segment_ordered : Outline → ℕ → ℕ → Bool
segment_ordered j l i = eqb (times i (item_segments (order_of j l))) 1 && ltb (segment_of j l i).occurrence (loop_of j l).occurrences

unfoldable pub loop_ordered : Outline → ℕ → Bool
loop_ordered j l = each_loop j (order_right j l) && (each_below (planned j l) (segment_ordered j l) && only_planned j l)

unfoldable pub condition2 : Outline → Bool
condition2 j = each_table j (parent_plain j) && each_loop j (loop_ordered j)

-- ---- 3

unfoldable pub row_fits : Outline → ℕ → Bool
row_fits j l = if_there (row_table (kind_of j l)) (fits j (length j.loops) l)

unfoldable pub condition3 : Outline → Bool
condition3 j = each_loop j (row_fits j)

-- ---- 4

-- loop l is a row loop and anchors the repeat table t
unfoldable pub anchors_in : Outline → ℕ → ℕ → Bool
anchors_in j l t = repeated j t && (ltb 0 (times l (table_of j t).loops) && on (row_table (kind_of j l)) (λ u. true) false)

-- a loop that anchors table t plans one repeat segment of it
unfoldable pub planned_once : Outline → ℕ → ℕ → Bool
planned_once j t l = if_there (row_table (kind_of j l)) (λ u. eqb (repeats_in j t l) 1)

-- so does each loop that a repeat table lists
abbrev pub repeat_planned : Outline → ℕ → Bool
repeat_planned j t = not (repeated j t) || each_of (table_of j t).loops (planned_once j t)

-- planned segment i of loop l repeats only what the loop anchors
abbrev pub segment_anchored : Outline → ℕ → ℕ → Bool
segment_anchored j l i = if_there (repeat_table (segment_of j l i).source) (anchors_in j l)

abbrev pub loop_anchored : Outline → ℕ → Bool
loop_anchored j l = each_below (planned j l) (segment_anchored j l)

unfoldable pub condition4 : Outline → Bool
condition4 j = each_table j (repeat_planned j) && each_loop j (loop_anchored j)
