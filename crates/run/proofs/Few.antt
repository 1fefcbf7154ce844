-- A loop has no more instances in a context than a table has rows, or one.
use Prim.Native.Nat.{ℕ, zero, suc, ◌*◌, ◌≤◌}
use mathlib.Core.Bool.{Bool, true, false, cond, not}
use mathlib.Core.List.{List, [], ◌∷◌}
use native.Mathlib.Omega.{arith}
use Rattle.std.specs.Prelude.{Option, None, Some}
use lib.ListN.{length, length-map}
use Rattle.nest.specs.Lists.{on, sum, some_of, is_empty_list}
use Rattle.nest.specs.Outline.{Outline, Kind, absent, envelope, implied, rows, inside, groups, Item, segment, loop, item_loops, loop_of, kind_of, order_of, row_count}
use Rattle.walk.specs.Instances.{Context, rows_in, pieces_of, in_row, in_piece, shown, by_kind, instances}
use Rattle.walk.specs.Tour.{children}
use Rattle.walk.proofs.RowLaws.{rows_in_few}
use Rattle.walk.proofs.Pieces.{pieces_no_more}

module _ (j : Outline) where
  module _ (R : ℕ) (some_row : 1 ≤ R) (few : (t : ℕ) → row_count j t ≤ R) where
    one_at_most : (b : Bool) (c : Context) → length (cond b (c ∷ []) []) ≤ R
    one_at_most true c = omega arith
    one_at_most false c = omega arith

    kind_few : (below : ℕ → Context → List Context) (l : ℕ) (c : Context) (k : Kind) → length (by_kind below j l c k) ≤ R
    unfolding by_kind
    kind_few below l c absent = omega arith
    kind_few below l c envelope = omega arith
    kind_few below l c (rows t) = omega (arith, length-map (rows_in j t c) (in_row t c), rows_in_few j t c, few t)
    kind_few below l c (groups t) = omega (arith, length-map (pieces_of (j.same_group l) (rows_in j t c)) (in_piece t c), pieces_no_more (j.same_group l) (rows_in j t c), rows_in_few j t c, few t)
    kind_few below l c (inside t) = go (c.row t)
      where
        go : (x : Option ℕ) → length (on x (λ r. cond (shown j l t r) (c ∷ []) []) []) ≤ R
        go None = omega arith
        go (Some r) = one_at_most (shown j l t r) c
    kind_few below l c implied = one_at_most (some_of (λ k. not (is_empty_list (below k c))) (loop_of j l).children) c

    pub instances_few : (h l : ℕ) (c : Context) → length (instances j h l c) ≤ R
    unfolding instances
    instances_few zero l c = omega arith
    instances_few (suc h) l c = kind_few (instances j h) l c (kind_of j l)

    children_in : (h : ℕ) (c : Context) (its : List Item) → sum (λ k. length (instances j h k c)) (item_loops its) ≤ length its * R
    children_in h c [] = omega arith
    children_in h c (segment i ∷ more) = omega (arith, children_in h c more)
    children_in h c (loop k ∷ more) = omega (arith, instances_few h k c, children_in h c more)

    pub children_few : (h l : ℕ) (c : Context) → children (instances j h) j l c ≤ length (order_of j l) * R
    unfolding children
    children_few h l c = children_in h c (order_of j l)
