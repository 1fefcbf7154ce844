-- A height of as many levels as there are loops is enough: one level more changes nothing.
use Prim.Native.Nat.{ℕ, zero, suc, ◌+◌, ◌≤◌, ◌<◌}
use mathlib.Core.Path.{◌≡◌, refl, ap, ap₂, ◌∙◌, subst}
use mathlib.Core.Bool.{Bool, true, false, cond, not, ◌||◌, ◌&&◌, false≢true}
use mathlib.Core.List.{List, [], ◌∷◌, ◌++◌}
use native.Mathlib.Omega.{arith}
use Rattle.std.specs.Prelude.{Option, None, Some}
use lib.ListN.{length}
use lib.Dec.{ltb}
use borrow.Author.Tests.{ltb-true}
use Rattle.nest.specs.Lists.{each, on, some_of, is_empty_list, sum, times, is}
use Rattle.nest.specs.Outline.{Outline, Kind, absent, envelope, implied, rows, inside, groups, Item, segment, loop, inside_table, loop_of, parent_of, kind_of, order_of}
use Rattle.walk.specs.Instances.{Context, outside, own_data, has_data, by_kind, instances}
use Rattle.walk.specs.Tour.{Step, enters, stop_at, own_row, segment_steps, item_steps, body_steps, close_steps, children, instance_steps, visits, tour_to, tour}
use Rattle.nest.specs.Outline.{item_loops}
use Rattle.walk.specs.Complete.{climbs, is_root, Tree}
use Rattle.nest.proofs.Sums.{once_same}
use Rattle.nest.proofs.Scan.{each_same}
use Rattle.walk.proofs.Paths.{is_some, once_true, same_some, none_or_some, in_range}

-- ---- how deep a loop stands: itself and the loops above it

data Deep (j : Outline) : ℕ → ℕ → Type 0 where
  top : {l : ℕ} → parent_of j l ≡ None → Deep j l 1
  under : {l p d : ℕ} → parent_of j l ≡ Some p → Deep j p d → Deep j l (suc d)

deep_same : {j : Outline} {l a b : ℕ} → Deep j l a → Deep j l b → a ≡ b
deep_same (top e) (top f) = refl
deep_same (top e) (under f d) = absurd (none_or_some e f)
deep_same (under e d) (top f) = absurd (none_or_some f e)
deep_same {j} (under e d) (under {d = n} f g) = ap suc (deep_same {b = n} d (subst (λ i. Deep j i n) (same_some f e) g))

climbed : (j : Outline) (h l : ℕ) → climbs j h l ≡ true → (d : ℕ) × Deep j l d × (d ≤ h)
unfolding climbs
climbed j zero l c = absurd (false≢true c)
climbed j (suc h) l c = go (parent_of j l) refl (climbed j h)
  where
    go : (x : Option ℕ) → parent_of j l ≡ x → ((p : ℕ) → climbs j h p ≡ true → (d : ℕ) × Deep j p d × (d ≤ h)) → (d : ℕ) × Deep j l d × (d ≤ suc h)
    go None e more = (1, top e, omega arith)
    go (Some p) e more = on_up (more p (rw e at c))
      where
        on_up : (d : ℕ) × Deep j p d × (d ≤ h) → (d : ℕ) × Deep j l d × (d ≤ suc h)
        on_up (d, q, k) = (suc d, under e q, omega arith)

positive : {j : Outline} {l d : ℕ} → Deep j l d → 0 < d
positive (top e) = omega arith
positive (under e D) = omega arith

module _ (j : Outline) (T : Tree j) where
  child_parent : (l k : ℕ) → 0 < times k (loop_of j l).children → parent_of j k ≡ Some l
  child_parent l k h = is_some (parent_of j k) l (once_true (is (parent_of j k) l) (omega (arith, T.children l k)))

  -- a child stands one deeper, and no deeper than there are loops
  child_deep : (l k d : ℕ) → Deep j l d → parent_of j k ≡ Some l → suc d ≤ length j.loops
  child_deep l k d D e = go (climbed j (length j.loops) k (T.no_ring k (in_range j k l e)))
    where
      go : (a : ℕ) × Deep j k a × (a ≤ length j.loops) → suc d ≤ length j.loops
      go (a, q, h) = omega (arith, deep_same q (under e D))

  -- ---- what only asks the level below at child loops

  some_same : (p q : ℕ → Bool) (ks : List ℕ) → ((k : ℕ) → 0 < times k ks → p k ≡ q k) → some_of p ks ≡ some_of q ks
  some_same p q [] e = refl
  some_same p q (k ∷ ks) e = ap₂ ◌||◌ (e k (omega (arith, once_same k))) (some_same p q ks (λ m h. e m (omega arith)))

  items_same : (f g : ℕ → Context → List Step) (l : ℕ) (c : Context) (its : List Item) → ((k : ℕ) → 0 < times k (item_loops its) → f k c ≡ g k c)
      → each (item_steps f j l c) its ≡ each (item_steps g j l c) its
  items_same f g l c [] e = refl
  items_same f g l c (segment i ∷ more) e = ap (λ r. segment_steps j l c i ++ r) (items_same f g l c more e)
  items_same f g l c (loop k ∷ more) e = ap₂ ◌++◌ (e k (omega (arith, once_same k))) (items_same f g l c more (λ m h. e m (omega arith)))

  sum_alike : (f g : ℕ → ℕ) (ks : List ℕ) → ((k : ℕ) → 0 < times k ks → f k ≡ g k) → sum f ks ≡ sum g ks
  sum_alike f g [] e = refl
  sum_alike f g (k ∷ ks) e = ap₂ ◌+◌ (e k (omega (arith, once_same k))) (sum_alike f g ks (λ m h. e m (omega arith)))

  instances_more : (h l d : ℕ) (c : Context) → Deep j l d → d ≤ length j.loops → length j.loops < d + h → instances j (suc h) l c ≡ instances j h l c
  unfolding instances by_kind
  instances_more zero l d c D s q = absurd (omega arith)
  instances_more (suc h) l d c D s q = go (kind_of j l) (instances_more h)
    where
      go : (k : Kind) → ((l d : ℕ) (c : Context) → Deep j l d → d ≤ length j.loops → length j.loops < d + h → instances j (suc h) l c ≡ instances j h l c)
          → by_kind (instances j (suc h)) j l c k ≡ by_kind (instances j h) j l c k
      go absent more = refl
      go envelope more = refl
      go (rows t) more = refl
      go (inside t) more = refl
      go (groups t) more = refl
      go implied more = ap (λ b. cond b (c ∷ []) []) (some_same _ _ (loop_of j l).children child)
        where
          child : (k : ℕ) → 0 < times k (loop_of j l).children → not (is_empty_list (instances j (suc h) k c)) ≡ not (is_empty_list (instances j h k c))
          child k z = let e : parent_of j k ≡ Some l = child_parent l k z in ap (λ cs. not (is_empty_list cs)) (more k (suc d) c (under e D) (child_deep l k d D e) (omega arith))

  visits_more : (h l d : ℕ) (c : Context) → Deep j l d → d ≤ length j.loops → length j.loops < d + h → visits j (suc h) l c ≡ visits j h l c
  unfolding visits instance_steps body_steps children
  visits_more zero l d c D s q = absurd (omega arith)
  visits_more (suc h) l d c D s q =
      ap (each (instance_steps (instances j (suc h)) (visits j (suc h)) j l)) (instances_more (suc h) l d c D s q)
      ∙ each_same _ _ (instances j (suc h) l c) (λ i. ap₂ (λ its n. enters l ∷ (stop_at l (own_row (kind_of j l) i) ++ its) ++ close_steps j l n (stop_at l (own_row (kind_of j l) i) ++ its)) (items_same (visits j (suc h)) (visits j h) l i (order_of j l) (child i (visits_more h))) (sum_alike _ _ (item_loops (order_of j l)) (counted i)))
    where
      counted : (i : Context) (k : ℕ) → 0 < times k (item_loops (order_of j l)) → length (instances j (suc h) k i) ≡ length (instances j h k i)
      counted i k z =
          let e : parent_of j k ≡ Some l = child_parent l k (omega (arith, T.order l k)) in
          ap length (instances_more h k (suc d) i (under e D) (child_deep l k d D e) (omega arith))

      child : (i : Context) → ((l d : ℕ) (c : Context) → Deep j l d → d ≤ length j.loops → length j.loops < d + h → visits j (suc h) l c ≡ visits j h l c)
          → (k : ℕ) → 0 < times k (item_loops (order_of j l)) → visits j (suc h) k i ≡ visits j h k i
      child i more k z =
          let e : parent_of j k ≡ Some l = child_parent l k (omega (arith, T.order l k)) in
          more k (suc d) i (under e D) (child_deep l k d D e) (omega arith)

  -- ---- data below a loop

  data-more : (t r h l d : ℕ) → Deep j l d → d ≤ length j.loops → length j.loops < d + h → has_data j (suc h) l t r ≡ has_data j h l t r
  unfolding has_data
  data-more t r zero l d D s q = absurd (omega arith)
  data-more t r (suc h) l d D s q = ap (λ b. own_data j l t r || b) (some_same _ _ (loop_of j l).children (child (data-more t r h)))
    where
      child : ((l d : ℕ) → Deep j l d → d ≤ length j.loops → length j.loops < d + h → has_data j (suc h) l t r ≡ has_data j h l t r)
          → (k : ℕ) → 0 < times k (loop_of j l).children → is (inside_table (kind_of j k)) t && has_data j (suc h) k t r ≡ is (inside_table (kind_of j k)) t && has_data j h k t r
      child more k z =
          let e : parent_of j k ≡ Some l = child_parent l k z in
          ap (λ b. is (inside_table (kind_of j k)) t && b) (more k (suc d) (under e D) (child_deep l k d D e) (omega arith))

  -- as many levels as there are loops, or more
  pub data-enough : (t r l n : ℕ) → l < length j.loops → has_data j (length j.loops + n) l t r ≡ has_data j (length j.loops) l t r
  data-enough t r l n h = go (climbed j (length j.loops) l (T.no_ring l h)) n
    where
      go : (d : ℕ) × Deep j l d × (d ≤ length j.loops) → (n : ℕ) → has_data j (length j.loops + n) l t r ≡ has_data j (length j.loops) l t r
      go D zero = let q : length j.loops + 0 ≡ length j.loops = omega arith in rw q
      go (d, D, s) (suc n) =
          let q : length j.loops + suc n ≡ suc (length j.loops + n) = omega arith in
          rw q (data-more t r (length j.loops + n) l d D s (omega (arith, positive D))) ∙ go (d, D, s) n

  root_deep : (l : ℕ) → 0 < times l j.roots → Deep j l 1 × (1 ≤ length j.loops)
  unfolding is_root
  root_deep l z = go (ltb l (length j.loops)) refl (parent_of j l) refl (once_true (is_root j l) (omega (arith, T.roots l)))
    where
      go : (b : Bool) → ltb l (length j.loops) ≡ b → (x : Option ℕ) → parent_of j l ≡ x → b && on x (λ p. false) true ≡ true → Deep j l 1 × (1 ≤ length j.loops)
      go true q None e r = (top e, omega (arith, ltb-true l (length j.loops) q))
      go true q (Some p) e r = absurd (false≢true r)
      go false q x e r = absurd (false≢true r)

  roots_same : (f g : ℕ → List Step) (ls : List ℕ) → ((l : ℕ) → 0 < times l ls → f l ≡ g l) → each f ls ≡ each g ls
  roots_same f g [] e = refl
  roots_same f g (l ∷ ls) e = ap₂ ◌++◌ (e l (omega (arith, once_same l))) (roots_same f g ls (λ m h. e m (omega arith)))

  -- as many levels as there are loops, or more
  pub height_enough : (n : ℕ) → tour_to j (length j.loops + n) ≡ tour j
  unfolding tour_to
  height_enough zero = let q : length j.loops + 0 ≡ length j.loops = omega arith in rw q
  height_enough (suc n) =
      let q : length j.loops + suc n ≡ suc (length j.loops + n) = omega arith in
      rw q (roots_same _ _ j.roots (λ l z. visits_more (length j.loops + n) l 1 outside (root_deep l z).0 (root_deep l z).1 (omega arith))) ∙ height_enough n
