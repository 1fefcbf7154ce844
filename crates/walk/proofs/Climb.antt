-- From the loop where a row stops up to the root.
use Prim.Native.Nat.{ℕ, zero, suc, ◌+◌, ◌<◌}
use mathlib.Core.Path.{◌≡◌, refl, sym, ap, ◌∙◌, subst}
use mathlib.Core.Logic.{◌⊎◌, inl, inr}
use mathlib.Core.Bool.{Bool, true, false, true≢false, false≢true}
use native.Mathlib.Omega.{arith}
use Rattle.std.specs.Prelude.{Option, None, Some}
use Rattle.std.specs.Option.{option_map}
use lib.ListN.{length}
use Rattle.nest.specs.Lists.{on, from}
use Rattle.nest.specs.Outline.{Outline, Kind, absent, envelope, implied, rows, inside, groups, parent_of, kind_of, table_parent, row_count, plain}
use Rattle.nest.specs.Nest.{referred, hangs, row_of, Adrift, above}
use Rattle.walk.specs.Instances.{outside, rows_in, held_in}
use Rattle.walk.specs.Tour.{visits, tour_to, tour}
use Rattle.walk.specs.Complete.{Above, TableAbove, climbs, Complete, ExactlyOne, GroupEnds, may_stand}
use Rattle.walk.specs.Stops.{is_stop, stops_of}
use Rattle.nest.proofs.Sums.{sum_each, sum_one, times_all}
use Rattle.walk.proofs.Paths.{above_trans, above_step, above_either, above_has_parent, no_self, none_or_some, same_some, rows_same, planned_range, root_once, root_parent, parent_range, above_child}
use Rattle.nest.proofs.Hanging.{referred_exists, hangs_parent, adrift_up, adrift_here, not_adrift}
use Rattle.walk.proofs.Counting.{StopsAt, OnWay, Counted, stands, off, start, by_envelope, by_implied, by_groups, by_rows}

abbrev pub NotRows : Outline → ℕ → Type 0
NotRows j l = (v : ℕ) → kind_of j l ≡ rows v → ⊥

abbrev pub is_rows : Kind → Bool
is_rows absent = false
is_rows envelope = false
is_rows implied = false
is_rows (rows v) = true
is_rows (inside v) = false
is_rows (groups v) = false

pub not_rows : (j : Outline) (l : ℕ) (k : Kind) → kind_of j l ≡ k → is_rows k ≡ false → NotRows j l
not_rows j l k e f v g = true≢false (ap is_rows (sym g ∙ e) ∙ f)

-- from a row loop up to l, with no row loop above the first
pub data Stretch (j : Outline) (b : ℕ) : ℕ → Type 0 where
  bottom : Stretch j b b
  onward : {l p : ℕ} → parent_of j l ≡ Some p → NotRows j p → Stretch j b l → Stretch j b p

module _ {j : Outline} where
  pub stretch_above : {b l p : ℕ} → Stretch j b l → parent_of j l ≡ Some p → Above j p b
  stretch_above bottom e = Above.next e
  stretch_above (onward f d s) e = above_trans (Above.next e) (stretch_above s f)

  -- what stands above the first stands in the stretch, and is no row loop, or above its end
  stretch_split : {b l m : ℕ} → Stretch j b l → Above j m b → NotRows j m ⊎ Above j m l
  stretch_split bottom a = inr a
  stretch_split {m = m} (onward {l = l} {p = p} f d s) a = go (stretch_split s a)
    where
      at_end : (m ≡ p) ⊎ Above j m p → NotRows j m ⊎ Above j m p
      at_end (inl z) = inl (subst (NotRows j) (sym z) d)
      at_end (inr q) = inr q

      go : NotRows j m ⊎ Above j m l → NotRows j m ⊎ Above j m p
      go (inl n) = inl n
      go (inr q) = at_end (above_step q f)

-- x is the row of w that row o of u is below, or is; or there is none
abbrev RowState : Outline → ℕ → ℕ → ℕ → Option ℕ → Type 0
RowState j u o w x =
    ((i : ℕ) × (x ≡ Some i) × (i < row_count j w) × (Adrift j u o → Adrift j w i) × (Adrift j w i → Adrift j u o)) ⊎ ((x ≡ None) × Adrift j u o)

record Reached (j : Outline) (t r a u o : ℕ) (l w : ℕ) (x : Option ℕ) (n : ℕ) : Type 0 where
  counted : Counted j t r l w x n
  way : OnWay j a l
  base : ℕ
  base_rows : kind_of j base ≡ rows w
  stretch : Stretch j base l
  row : RowState j u o w x

-- the root, where the climb ends
record Top (j : Outline) (t r a u o : ℕ) (bound : ℕ) : Type 0 where
  l : ℕ
  w : ℕ
  x : Option ℕ
  n : ℕ
  is_root : parent_of j l ≡ None
  reached : Reached j t r a u o l w x n
  no_parent : table_parent j w ≡ None
  small : n < bound

module _ (j : Outline) (C : Complete j) where
  -- the row loop of a table is one
  row_loop_same : {l m v : ℕ} → kind_of j l ≡ rows v → kind_of j m ≡ rows v → l ≡ m
  row_loop_same {l} {m} {v} p q = let e : ExactlyOne (λ l. kind_of j l ≡ rows v) = C.row_loop v (C.rows_plain l v p) in e.only l p ∙ sym (e.only m q)

  not_own_parent : (b w : ℕ) → kind_of j b ≡ rows w → table_parent j w ≡ Some w → ⊥
  not_own_parent b w e q = go (C.above_all b w w e (TableAbove.next q))
    where
      go : (m : ℕ) × (kind_of j m ≡ rows w) × Above j m b → ⊥
      go (m, f, a) = no_self C.tree (subst (λ i. Above j i b) (row_loop_same f e) a)

  -- the groups on the stretch are of its table
  pub groups_own : (b w l p v : ℕ) → kind_of j b ≡ rows w → Stretch j b l → parent_of j l ≡ Some p → kind_of j p ≡ groups v → v ≡ w
  groups_own b w l p v e s q f = which ends.on_path
    where
      ends : GroupEnds j p v b
      ends = C.groups_end b w p v e (stretch_above s q) f

      clash : {k : Kind} → k ≡ groups v → k ≡ rows v → ⊥
      clash y z = let n : ◌≡◌ {A = ℕ} 0 1 = cc in omega arith

      higher_up : (ends.m ≡ p) ⊎ Above j ends.m p → v ≡ w
      higher_up (inl z) = absurd (clash f (ap (kind_of j) (sym z) ∙ ends.row_loop))
      higher_up (inr z) = absurd (no_self C.tree (above_trans z ends.below))

      cases : NotRows j ends.m ⊎ Above j ends.m l → v ≡ w
      cases (inl d) = absurd (d v ends.row_loop)
      cases (inr z) = higher_up (above_step z q)

      which : (ends.m ≡ b) ⊎ Above j ends.m b → v ≡ w
      which (inl z) = rows_same (ap (kind_of j) (sym z) ∙ ends.row_loop) e
      which (inr z) = cases (stretch_split s z)

  -- the next row loop up is that of the table's parent
  pub rows_parent : (b w l p v : ℕ) → kind_of j b ≡ rows w → Stretch j b l → parent_of j l ≡ Some p → kind_of j p ≡ rows v → table_parent j w ≡ Some v
  rows_parent b w l p v e s q f = which (C.above_only b w p v e (stretch_above s q) f)
    where
      at_next : (u m : ℕ) → table_parent j w ≡ Some u → TableAbove j v u → kind_of j m ≡ rows u → (m ≡ p) ⊎ Above j m p → table_parent j w ≡ Some v
      at_next u m g z k (inl y) = g ∙ ap {B = Option ℕ} Some (rows_same (ap (kind_of j) (sym y) ∙ k) f)
      at_next u m g z k (inr y) = again (C.above_all m u v k z)
        where
          again : (i : ℕ) × (kind_of j i ≡ rows v) × Above j i m → table_parent j w ≡ Some v
          again (i, h, a) = absurd (no_self C.tree (above_trans (subst (λ y. Above j y m) (row_loop_same h f) a) y))

      cases : (u m : ℕ) → table_parent j w ≡ Some u → TableAbove j v u → kind_of j m ≡ rows u → NotRows j m ⊎ Above j m l → table_parent j w ≡ Some v
      cases u m g z k (inl d) = absurd (d u k)
      cases u m g z k (inr a) = at_next u m g z k (above_step a q)

      found : (u : ℕ) → table_parent j w ≡ Some u → TableAbove j v u → (m : ℕ) × (kind_of j m ≡ rows u) × Above j m b → table_parent j w ≡ Some v
      found u g z (m, k, a) = cases u m g z k (stretch_split s a)

      which : TableAbove j v w → table_parent j w ≡ Some v
      which (TableAbove.next g) = g
      which (TableAbove.higher {p = u} g z) = found u g z (C.above_all b w u e (TableAbove.next g))

  -- at the root no parent is left
  pub root_table : (b w l : ℕ) → kind_of j b ≡ rows w → Stretch j b l → parent_of j l ≡ None → table_parent j w ≡ None
  root_table b w l e s q = go (table_parent j w) refl
    where
      cases : (u m : ℕ) → kind_of j m ≡ rows u → NotRows j m ⊎ Above j m l → ⊥
      cases u m k (inl d) = d u k
      cases u m k (inr a) = none_or_some q (above_has_parent a).1

      found : (u : ℕ) → (m : ℕ) × (kind_of j m ≡ rows u) × Above j m b → ⊥
      found u (m, k, a) = cases u m k (stretch_split s a)

      go : (x : Option ℕ) → table_parent j w ≡ x → x ≡ None
      go None g = refl
      go (Some u) g = absurd (found u (C.above_all b w u e (TableAbove.next g)))

  module _ (t r a u o : ℕ) (S : StopsAt j t r a u o) where
    row_small : (w : ℕ) (x : Option ℕ) → RowState j u o w x → (i : ℕ) → x ≡ Some i → i < row_count j w
    row_small w x (inl (i, e, h, f, g)) k q = subst (λ y. y < row_count j w) (same_some e q) h
    row_small w x (inr (e, d)) k q = absurd (none_or_some e q)

    -- the row one table up
    row_up : (w v : ℕ) (x : Option ℕ) → plain j w ≡ true → table_parent j w ≡ Some v → RowState j u o w x → RowState j u o v (on x (λ i. referred j w i v) None)
    row_up w v x p q (inr (e, d)) = inr (rw e, d)
    row_up w v x p q (inl (i, e, h, f, g)) = rw e (go (referred j w i v) refl)
      where
        go : (y : Option ℕ) → referred j w i v ≡ y → RowState j u o v (referred j w i v)
        go None z = inr (z, g (adrift_here j w i v p q z))
        go (Some k) z =
            let hung : hangs j w i ≡ Some (row_of v k) = hangs_parent j w i v p q ∙ ap (option_map (row_of v)) z in
            inl (k, z, referred_exists j w i v k z, (λ d. adrift_up j w i (row_of v k) hung (f d)), (λ d. g (above hung d)))

    -- one loop up
    module _ (l w n p : ℕ) (x : Option ℕ) (R : Reached j t r a u o l w x n) (e : parent_of j l ≡ Some p) where
      way_on : OnWay j a p
      way_on = up R.way
        where
          up : OnWay j a l → OnWay j a p
          up (inl z) = inr (subst (λ i. Above j p i) z (Above.next e))
          up (inr z) = inr (above_trans (Above.next e) z)

      -- past a loop that is no row loop
      past : NotRows j p → Counted j t r p w x (suc n) → Reached j t r a u o p w x (suc n)
      past d c = record { counted = c; way = way_on; base = R.base; base_rows = R.base_rows; stretch = onward e d R.stretch; row = R.row }

      step : (k : Kind) → kind_of j p ≡ k → may_stand k ≡ true → (v : ℕ) × (y : Option ℕ) × Reached j t r a u o p v y (suc n)
      step absent q m = absurd (false≢true m)
      step (inside v) q m = absurd (false≢true m)
      step envelope q m = (w, x, past (not_rows j p envelope q refl) (by_envelope j C t r a u o S l p w n x e R.way R.counted q))
      step implied q m = (w, x, past (not_rows j p implied q refl) (by_implied j C t r a u o S l p w n x e R.way R.counted q))
      step (groups v) q m =
          let own : v ≡ w = groups_own R.base w l p v R.base_rows R.stretch e q in
          let q₂ : kind_of j p ≡ groups w = q ∙ ap groups own in
          (w, x, past (not_rows j p (groups v) q refl) (by_groups j C t r a u o S l p w n x e R.way R.counted q₂ (not_own_parent R.base w R.base_rows)))
      step (rows v) q m =
          let parent : table_parent j w ≡ Some v = rows_parent R.base w l p v R.base_rows R.stretch e q in
          let plain-w : plain j w ≡ true = C.rows_plain R.base w R.base_rows in (
            v,
            on x (λ i. referred j w i v) None,
            record {
              counted = by_rows j C t r a u o S l p w n x e R.way R.counted v q parent plain-w (row_small w x R.row);
              way = way_on;
              base = p;
              base_rows = q;
              stretch = bottom;
              row = row_up w v x plain-w parent R.row;
            },
          )

    climb : (h l w n : ℕ) (x : Option ℕ) → climbs j h l ≡ true → Reached j t r a u o l w x n → Top j t r a u o (n + h)
    unfolding climbs
    climb zero l w n x c R = absurd (false≢true c)
    climb (suc h) l w n x c R = go (parent_of j l) refl (climb h)
      where
        go : (y : Option ℕ) → parent_of j l ≡ y
            → ((l w n : ℕ) (x : Option ℕ) → climbs j h l ≡ true → Reached j t r a u o l w x n → Top j t r a u o (n + h)) → Top j t r a u o (n + suc h)
        go None e further = record {
          l = l;
          w = w;
          x = x;
          n = n;
          is_root = e;
          reached = R;
          no_parent = root_table R.base w l R.base_rows R.stretch e;
          small = omega arith;
        }
        go (Some p) e further = on_top (step l w n p x R e (kind_of j p) refl (C.above_kinds R.base w p R.base_rows (stretch_above R.stretch e)))
          where
            wider : Top j t r a u o (suc n + h) → Top j t r a u o (n + suc h)
            wider T = record {
              l = T.l;
              w = T.w;
              x = T.x;
              n = T.n;
              is_root = T.is_root;
              reached = T.reached;
              no_parent = T.no_parent;
              small = omega (arith, T.small);
            }

            on_top : (v : ℕ) × (y : Option ℕ) × Reached j t r a u o p v y (suc n) → Top j t r a u o (n + suc h)
            on_top (v, y, R₂) = wider (further p v (suc n) y (rw e at c) R₂)

    top : o < row_count j u → Top j t r a u o (1 + length j.loops)
    top h =
        climb (length j.loops) a u 1 (Some o) (C.tree.no_ring a (omega (arith, planned_range j a u S.is_rows, C.plan_entries))) (record {
          counted = start j C t r a u o S;
          way = inl refl;
          base = a;
          base_rows = S.is_rows;
          stretch = bottom;
          row = inl (o, refl, h, (λ d. d), (λ d. d));
        })

    -- ---- the whole walk

    rows_outside : (w : ℕ) → plain j w ≡ true → table_parent j w ≡ None → rows_in j w outside ≡ from 0 (row_count j w)
    unfolding rows_in held_in
    rows_outside w e q = rw (e, q)

    two_roots : (k l : ℕ) → parent_of j k ≡ None → parent_of j l ≡ None → OnWay j a k → OnWay j a l → k ≡ l
    two_roots k l e f (inl p) (inl q) = p ∙ sym q
    two_roots k l e f (inl p) (inr q) = absurd (none_or_some (ap (parent_of j) (sym p) ∙ e) (above_has_parent q).1)
    two_roots k l e f (inr p) (inl q) = absurd (none_or_some (ap (parent_of j) (sym q) ∙ f) (above_has_parent p).1)
    two_roots k l e f (inr p) (inr q) = go (above_either p q)
      where
        go : (k ≡ l) ⊎ (Above j k l ⊎ Above j l k) → k ≡ l
        go (inl z) = z
        go (inr (inl z)) = absurd (none_or_some f (above_has_parent z).1)
        go (inr (inr z)) = absurd (none_or_some e (above_has_parent z).1)

    whole : (T : Top j t r a u o (1 + length j.loops)) → T.l < length j.loops → stops_of t r (tour j) ≡ stands T.x (from 0 (row_count j T.w))
    unfolding tour_to
    whole T h =
        sum_each (is_stop t r) (λ l. visits j (length j.loops) l outside) j.roots
        ∙ sum_one (λ l. stops_of t r (visits j (length j.loops) l outside)) T.l j.roots (root_once C T.l h T.is_root)
        (λ k d q. off j C t r a u o S (length j.loops) k outside (λ on. d (two_roots k T.l (root_parent C k q) T.is_root on T.reached.way)))
        ∙ T.reached.counted (length j.loops) (omega (arith, T.small)) outside
        ∙ ap (stands T.x) (rows_outside T.w (C.rows_plain T.reached.base T.w T.reached.base_rows) T.no_parent)

    pub once_or_adrift : o < row_count j u → ((stops_of t r (tour j) ≡ 1) × (Adrift j u o → ⊥)) ⊎ ((stops_of t r (tour j) ≡ 0) × Adrift j u o)
    once_or_adrift h = go T.reached.row
      where
        T : Top j t r a u o (1 + length j.loops)
        T = top h

        there : OnWay j a T.l → T.l < length j.loops
        there (inl z) = omega (arith, z, planned_range j a u S.is_rows, C.plan_entries)
        there (inr z) = parent_range j C.tree (above_child z).0 T.l (above_child z).1

        count : stops_of t r (tour j) ≡ stands T.x (from 0 (row_count j T.w))
        count = whole T (there T.reached.way)

        go : RowState j u o T.w T.x → ((stops_of t r (tour j) ≡ 1) × (Adrift j u o → ⊥)) ⊎ ((stops_of t r (tour j) ≡ 0) × Adrift j u o)
        go (inl (i, e, k, f, g)) =
            inl (
              count ∙ ap (λ x. stands x (from 0 (row_count j T.w))) e ∙ times_all (row_count j T.w) 0 i (omega arith) (omega arith),
              (λ d. not_adrift j T.w i (C.rows_plain T.reached.base T.w T.reached.base_rows) T.no_parent (f d)),
            )
        go (inr (e, d)) = inr (count ∙ ap (λ x. stands x (from 0 (row_count j T.w))) e, d)
