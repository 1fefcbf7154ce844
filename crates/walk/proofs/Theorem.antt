-- Every row stops (docs/RULES.md, "Every row stops"): a complete plan gives each row its one stop, in its loop, and no other.
use Prim.Native.Nat.{ℕ, zero, suc, ◌<◌}
use mathlib.Core.Path.{◌≡◌, refl, ap, ◌∙◌}
use mathlib.Core.Logic.{◌⊎◌, inl, inr}
use mathlib.Core.Bool.{true}
use native.Mathlib.Omega.{arith}
use Rattle.std.specs.Prelude.{Option, None, Some}
use Rattle.std.specs.Option.{option_map}
use lib.ListN.{length}
use Rattle.nest.specs.Outline.{Outline, order_of, row_count, plain, repeated}
use Rattle.nest.specs.Nest.{Hook, hook, row_of, hangs, needs_parent, Adrift, it, above}
use Rattle.walk.specs.Instances.{Context, outside, instances}
use Rattle.walk.specs.Tour.{visits, tour_to, tour}
use Rattle.nest.specs.Outline.{item_loops}
use Rattle.walk.specs.Complete.{Complete}
use Rattle.walk.specs.Stops.{is_stop, stops_of, StopsRight}
use Rattle.nest.proofs.Sums.{sum_each, sum_zero}
use Rattle.nest.proofs.Hanging.{plain_or, adrift_up}
use Rattle.walk.proofs.Counting.{own, visits_sum}
use Rattle.walk.proofs.Climb.{once_or_adrift}
use Rattle.walk.proofs.Own.{stops_plain, stops_hooked, own_nowhere, hook_good}
use Rattle.walk.proofs.Right.{tour_right}

abbrev Decided : Outline → ℕ → ℕ → Type 0
Decided j t r = ((stops_of t r (tour j) ≡ 1) × (Adrift j t r → ⊥)) ⊎ ((stops_of t r (tour j) ≡ 0) × Adrift j t r)

nowhere : (j : Outline) (t r : ℕ) → ((l : ℕ) (c : Context) → own j t r l c ≡ 0) → (h l : ℕ) (c : Context) → stops_of t r (visits j h l c) ≡ 0
unfolding visits
nowhere j t r z zero l c = refl
nowhere j t r z (suc h) l c =
    visits_sum j t r h l c
    ∙ sum_zero _ (instances j (suc h) l c) (λ d. omega (arith, z l d, sum_zero (λ k. stops_of t r (visits j h k d)) (item_loops (order_of j l)) (λ k. nowhere j t r z h k d)))

nowhere_tour : (j : Outline) (t r : ℕ) → ((l : ℕ) (c : Context) → own j t r l c ≡ 0) → stops_of t r (tour j) ≡ 0
unfolding tour_to
nowhere_tour j t r z = sum_each (is_stop t r) (λ l. visits j (length j.loops) l outside) j.roots ∙ sum_zero _ j.roots (λ l. nowhere j t r z (length j.loops) l outside)

module _ (j : Outline) (C : Complete j) (t r : ℕ) (h : r < row_count j t) where
  decide_plain : plain j t ≡ true → Decided j t r
  decide_plain p = once_or_adrift j C t r (C.row_loop t p).the t r (stops_plain j C t r p h) h

  hangs_hook : repeated j t ≡ true → hangs j t r ≡ option_map (λ (k : Hook). row_of k.table k.row) (hook j t r)
  unfolding hangs
  hangs_hook p = rw p

  decide_repeat : repeated j t ≡ true → Decided j t r
  unfolding needs_parent
  decide_repeat p = go (hook j t r) refl
    where
      go : (x : Option Hook) → hook j t r ≡ x → Decided j t r
      go None e =
          let must : needs_parent j t ≡ true = rw p in
          inr (nowhere_tour j t r (own_nowhere j C t r p h e), it (record { needs = must; none_there = hangs_hook p ∙ ap (option_map (λ (k : Hook). row_of k.table k.row)) e }))
      go (Some k) e = turn (once_or_adrift j C t r k.loop k.table k.row (stops_hooked j C t r p h k e) (hook_good j t r k p e).exists)
        where
          hung : hangs j t r ≡ Some (row_of k.table k.row)
          hung = hangs_hook p ∙ ap (option_map (λ (k : Hook). row_of k.table k.row)) e

          turn : ((stops_of t r (tour j) ≡ 1) × (Adrift j k.table k.row → ⊥)) ⊎ ((stops_of t r (tour j) ≡ 0) × Adrift j k.table k.row) → Decided j t r
          turn (inl (c, d)) = inl (c, λ a. d (adrift_up j t r (row_of k.table k.row) hung a))
          turn (inr (c, d)) = inr (c, above hung d)

  decided : t < length j.tables → Decided j t r
  decided q = go (plain_or j t q)
    where
      go : (plain j t ≡ true) ⊎ (repeated j t ≡ true) → Decided j t r
      go (inl p) = decide_plain p
      go (inr p) = decide_repeat p

pub stops_right : (j : Outline) → Complete j → StopsRight j
stops_right j C = record { one = one; none_else = none_else; each_right = tour_right j C }
  where
    one : (t r : ℕ) → t < length j.tables → r < row_count j t → (Adrift j t r → ⊥) → stops_of t r (tour j) ≡ 1
    one t r q h d = go (decided j C t r h q)
      where
        go : Decided j t r → stops_of t r (tour j) ≡ 1
        go (inl (c, n)) = c
        go (inr (c, a)) = absurd (d a)

    none_else : (t r : ℕ) → t < length j.tables → r < row_count j t → Adrift j t r → stops_of t r (tour j) ≡ 0
    none_else t r q h d = go (decided j C t r h q)
      where
        go : Decided j t r → stops_of t r (tour j) ≡ 0
        go (inl (c, n)) = absurd (n d)
        go (inr (c, a)) = c
