-- The loops of a job that is not refused are a tree: what refusal 4 leaves.
use Prim.Native.Nat.{ℕ, zero, suc, ◌+◌, ◌≤◌, ◌<◌}
use mathlib.Core.Path.{◌≡◌, refl, sym, ap, ◌∙◌}
use mathlib.Core.Bool.{Bool, true, false, ◌&&◌, false≢true}
use mathlib.Core.List.{List, [], ◌∷◌, map}
use native.Mathlib.Omega.{arith}
use native.Mathlib.Nat.{zero-add}
use native.Mathlib.Decide.{dec_lt}
use Rattle.std.specs.Prelude.{Option, None, Some}
use lib.ListN.{length, get_or, get_or-eq_default}
use lib.Dec.{eqb, ltb}
use borrow.Author.Tests.{eqb-true, lt-ltb, le-ltb, leb-false}
use Rattle.codec.specs.Codec.{pick}
use Rattle.codec.specs.Limits.{any_of}
use Rattle.codec.proofs.Limits.{none_of, none_in}
use Rattle.format.specs.Words.{any_from, if_some, present, times_in, member_of, repeats}
use Rattle.format.proofs.Words.{none_from}
use Rattle.format.specs.Words as W
use Rattle.format.proofs.Words
use Rattle.format.specs.Spec.{Loop, no_loop, Table, no_table}
use Rattle.format.specs.Layout.{Item, segment_item, loop_item}
use Rattle.format.specs.Job.{Job}
use Rattle.format.specs.Ask as A
use Rattle.format.specs.Orders
use Rattle.format.specs.Sections.{job_of}
use Rattle.format.specs.Passed.{Passed}
use Rattle.format.specs.Refusal.{loop_at, loops_in, outside, outside_loop, outside_table, not_parent, not_child, disagrees, up, ringed, misrooted, misordered, tangled_loops, tangled}
use Rattle.nest.specs.Lists.{once, times, is, on}
use Rattle.nest.specs.Outline as O
use Rattle.nest.specs.Outline.{Outline, item_loops}
use Rattle.nest.specs.OfJob.{outline_of, item_in}
use Rattle.nest.proofs.NestLaws.{turn}
use Rattle.nest.proofs.Bridge.{parent_is, children_is, order_is, loops_is, loop_count_is}
use Rattle.walk.specs.Complete.{Tree, climbs, is_root}
use Rattle.walk.proofs.Paths.{is_some, in_range}
use Rattle.std.proofs.lemmas.Bool.{not-false}

-- ---- how often a number stands in a list

times_in_lem : (k : ℕ) (xs : List ℕ) → times k xs ≡ times_in k xs
unfolding times_in
times_in_lem k [] = refl
times_in_lem k (x ∷ xs) = rw (turn x k) (go (eqb k x) (times_in_lem k xs))
  where
    go : (b : Bool) → times k xs ≡ times_in k xs → once b + times k xs ≡ pick b (times_in k xs + 1) (times_in k xs)
    go true ih = omega (arith, ih)
    go false ih = omega (arith, ih)

times_out : (k : ℕ) (xs : List ℕ) → member_of k xs ≡ false → times k xs ≡ 0
unfolding member_of
times_out k [] h = refl
times_out k (x ∷ xs) h = rw (turn x k) (go (eqb k x) h (times_out k xs))
  where
    go : (b : Bool) → pick b true (member_of k xs) ≡ false → (member_of k xs ≡ false → times k xs ≡ 0) → once b + times k xs ≡ 0
    go true h ih = absurd (false≢true (sym h))
    go false h ih = omega (arith, ih h)

times_member : (k : ℕ) (xs : List ℕ) → member_of k xs ≡ true → 0 < times k xs
unfolding member_of
times_member k [] h = absurd (false≢true h)
times_member k (x ∷ xs) h = rw (turn x k) (go (eqb k x) h (times_member k xs))
  where
    go : (b : Bool) → pick b true (member_of k xs) ≡ true → (member_of k xs ≡ true → 0 < times k xs) → 0 < once b + times k xs
    go true h ih = omega arith
    go false h ih = omega (arith, ih h)

member_of_lem : (k : ℕ) (xs : List ℕ) → 0 < times k xs → member_of k xs ≡ true
member_of_lem k xs h = go (member_of k xs) refl
  where
    go : (b : Bool) → member_of k xs ≡ b → b ≡ true
    go true e = refl
    go false e = absurd (omega (arith, h, times_out k xs e))

-- a number that no other equals stands there once at most
times_once : (k : ℕ) (xs : List ℕ) → repeats xs ≡ false → times k xs ≡ once (member_of k xs)
unfolding repeats member_of
times_once k [] h = refl
times_once k (x ∷ xs) h = rw (turn x k) (split (member_of x xs) refl h (times_once k xs))
  where
    here : (b : Bool) → eqb k x ≡ b → member_of x xs ≡ false → times k xs ≡ once (member_of k xs) → once b + times k xs ≡ once (pick b true (member_of k xs))
    here true e m ih = let z : k ≡ x = eqb-true k x e in omega (arith, times_out k xs (ap (λ n. member_of n xs) z ∙ m))
    here false e m ih = omega (arith, ih)

    split : (b : Bool) → member_of x xs ≡ b → pick b true (repeats xs) ≡ false → (repeats xs ≡ false → times k xs ≡ once (member_of k xs))
        → once (eqb k x) + times k xs ≡ once (pick (eqb k x) true (member_of k xs))
    split true m h ih = absurd (false≢true (sym h))
    split false m h ih = here (eqb k x) refl m (ih h)

-- a member of a list in which none passes the test
none_member : (f : ℕ → Bool) (k : ℕ) (xs : List ℕ) → any_of f xs ≡ false → member_of k xs ≡ true → f k ≡ false
unfolding any_of member_of
none_member f k [] h m = absurd (false≢true m)
none_member f k (x ∷ xs) h m = go (f x) refl h (eqb k x) refl m (none_member f k xs)
  where
    go : (t : Bool) → f x ≡ t → pick t true (any_of f xs) ≡ false → (b : Bool) → eqb k x ≡ b → pick b true (member_of k xs) ≡ true → (any_of f xs ≡ false → member_of k xs ≡ true → f k ≡ false) → f k ≡ false
    go true e h b q m ih = absurd (false≢true (sym h))
    go false e h true q m ih = ap f (eqb-true k x q) ∙ e
    go false e h false q m ih = ih h m

if_some_true : (l : ℕ) (o : Option ℕ) → if_some (eqb l) o ≡ true → is o l ≡ true
unfolding if_some
if_some_true l None h = absurd (false≢true h)
if_some_true l (Some p) h = h

if_some_false : (f : ℕ → Bool) (o : Option ℕ) (p : ℕ) → if_some f o ≡ false → o ≡ Some p → f p ≡ false
if_some_false f o p h e = Words.none_some f o h p e

-- ---- the loops of a job

module _ (j : Job) (pass : tangled j ≡ false) where
  abbrev ls : List Loop
  ls = j.spec.loops

  abbrev n : ℕ
  n = length ls

  abbrev o : Outline
  o = outline_of j

  kids : ℕ → List ℕ
  kids l = (loop_at ls l).children

  unfoldable parts : (tangled_loops ls j.spec.roots ≡ false) × (any_of (outside_table n) j.spec.tables ≡ false) × (any_from (misordered ls) 0 j.layout.order ≡ false)
  unfolding tangled
  parts =
      let a = none_of _ _ pass in
      let b = none_of _ _ a.1 in
      let c = none_of _ _ b.1 in
      (a.0, b.0, (none_of _ _ c.1).0)

  loops : (any_of (outside_loop n) ls ≡ false) × (any_of (outside n) j.spec.roots ≡ false) × (any_from (disagrees ls) 0 ls ≡ false) × (any_from (ringed ls) 0 ls ≡ false) × (any_from (misrooted j.spec.roots) 0 ls ≡ false)
  unfolding tangled_loops
  loops =
      let a = none_of _ _ parts.0 in
      let b = none_of _ _ a.1 in
      let c = none_of _ _ b.1 in
      let d = none_of _ _ c.1 in
      (a.0, b.0, c.0, d.0, (none_of _ _ d.1).0)

  inside : (l : ℕ) → outside n l ≡ false → l < n
  unfolding outside
  inside l h = leb-false n l h

  -- loop l is not at odds with its parent and its children
  agrees : (l : ℕ) → l < n → (any_of (not_parent ls l) (kids l) ≡ false) × (if_some (not_child ls l) (loop_at ls l).parent ≡ false) × (repeats (kids l) ≡ false)
  unfolding disagrees kids
  agrees l h =
      let f = rw zero-add at (none_from (disagrees ls) 0 ls loops.2 l no_loop h) in
      let a = none_of _ _ f in
      let b = none_of _ _ a.1 in
      (a.0, b.0, (none_of _ _ b.1).0)

  parent_in : (l p : ℕ) → l < n → (loop_at ls l).parent ≡ Some p → p < n
  unfolding outside_loop
  parent_in l p h e =
      let f = none_in (outside_loop n) ls loops.0 l no_loop h in
      inside p (if_some_false (outside n) (loop_at ls l).parent p (none_of _ _ f).0 e)

  kids_are : (l : ℕ) → (O.loop_of o l).children ≡ kids l
  unfolding A.loop_of kids
  kids_are l = children_is j l

  parent_at : (l : ℕ) → O.parent_of o l ≡ (loop_at ls l).parent
  unfolding A.loop_of
  parent_at l = parent_is j l

  there : (k l : ℕ) → is (O.parent_of o k) l ≡ true → k < n
  there k l e = let q = in_range o k l (is_some (O.parent_of o k) l e) in omega (arith, q, loop_count_is j)

  -- a child's parent, and a parent's child
  kid_parent : (l k : ℕ) → l < n → member_of k (kids l) ≡ true → is (O.parent_of o k) l ≡ true
  unfolding not_parent
  kid_parent l k h m = ap (λ p. is p l) (parent_at k) ∙ if_some_true l (loop_at ls k).parent (not-false _ (none_member (not_parent ls l) k (kids l) (agrees l h).0 m))

  parent_kid : (l k : ℕ) → k < n → is (O.parent_of o k) l ≡ true → member_of k (kids l) ≡ true
  unfolding not_child kids
  parent_kid l k h e =
      let p : (loop_at ls k).parent ≡ Some l = is_some _ l (ap (λ p. is p l) (sym (parent_at k)) ∙ e) in
      not-false _ (if_some_false (not_child ls k) (loop_at ls k).parent l (agrees k h).1 p)

  agree : (l k : ℕ) → l < n → (b c : Bool) → is (O.parent_of o k) l ≡ b → member_of k (kids l) ≡ c → c ≡ b
  agree l k h b true q m = sym (kid_parent l k h m) ∙ q
  agree l k h true false q m = sym m ∙ parent_kid l k (there k l q) q
  agree l k h false false q m = refl

  past : (l k : ℕ) → n ≤ l → times k (kids l) ≡ 0
  unfolding kids
  past l k h = ap (λ (v : Loop). times k v.children) (get_or-eq_default ls no_loop {n = l} h)

  stranger : (l k : ℕ) → n ≤ l → (b : Bool) → is (O.parent_of o k) l ≡ b → once b ≡ 0
  stranger l k h true q = absurd (omega (arith, h, parent_in k l (there k l q) (sym (parent_at k) ∙ is_some (O.parent_of o k) l q)))
  stranger l k h false q = refl

  children : (l k : ℕ) → times k (O.loop_of o l).children ≡ once (is (O.parent_of o k) l)
  children l k = ap (times k) (kids_are l) ∙ go (dec_lt l n)
    where
      go : Dec (l < n) → times k (kids l) ≡ once (is (O.parent_of o k) l)
      go (yes h) = times_once k (kids l) (agrees l h).2 ∙ ap once (agree l k h (is (O.parent_of o k) l) (member_of k (kids l)) refl refl)
      go (no h) = past l k (omega arith) ∙ sym (stranger l k (omega arith) (is (O.parent_of o k) l) refl)

  climb : (h l : ℕ) → present (W.times h (up ls) (Some l)) ≡ false → climbs o h l ≡ true
  unfolding climbs W.times up present
  climb zero l e = absurd (false≢true (sym e))
  climb (suc h) l e = rw (parent_at l) (go (loop_at ls l).parent e (climb h))
    where
      go : (x : Option ℕ) → present (W.times h (up ls) x) ≡ false → ((p : ℕ) → present (W.times h (up ls) (Some p)) ≡ false → climbs o h p ≡ true) → on x (climbs o h) true ≡ true
      go None e ih = refl
      go (Some p) e ih = ih p e

  no_ring : (l : ℕ) → l < length o.loops → climbs o (length o.loops) l ≡ true
  unfolding ringed
  no_ring l h =
      let k : l < n = omega (arith, h, loop_count_is j) in
      rw (loop_count_is j) (climb n l (rw zero-add at (none_from (ringed ls) 0 ls loops.3 l no_loop k)))

  rooted : (l : ℕ) → l < n → times l j.spec.roots ≡ once (on (loop_at ls l).parent (λ p. false) true)
  unfolding misrooted present
  rooted l h =
      times_in_lem l j.spec.roots
      ∙ eqb-true _ _ (not-false _ (rw zero-add at (none_from (misrooted j.spec.roots) 0 ls loops.4 l no_loop h)))
      ∙ go (loop_at ls l).parent
    where
      go : (x : Option ℕ) → pick (present x) 0 1 ≡ once (on x (λ p. false) true)
      go None = refl
      go (Some p) = refl

  roots : (l : ℕ) → times l o.roots ≡ once (is_root o l)
  unfolding outline_of is_root
  roots l = go (dec_lt l n)
    where
      go : Dec (l < n) → times l j.spec.roots ≡ once (ltb l (length o.loops) && on (O.parent_of o l) (λ p. false) true)
      go (yes h) = rooted l h ∙ ap (λ x. once (on x (λ p. false) true)) (sym (parent_at l)) ∙ sym (ap (λ b. once (b && on (O.parent_of o l) (λ p. false) true)) (lt-ltb l (length o.loops) (omega (arith, h, loop_count_is j))))
      go (no h) = out (member_of l j.spec.roots) refl ∙ sym (ap (λ b. once (b && on (O.parent_of o l) (λ p. false) true)) (le-ltb l (length o.loops) (omega (arith, loop_count_is j))))
        where
          out : (b : Bool) → member_of l j.spec.roots ≡ b → times l j.spec.roots ≡ 0
          out true m = absurd (h (inside l (none_member (outside n) l j.spec.roots loops.1 m)))
          out false m = times_out l j.spec.roots m

  items_loops : (xs : List Item) → item_loops (map item_in xs) ≡ loops_in xs
  unfolding loops_in
  items_loops [] = refl
  items_loops (segment_item i ∷ xs) = items_loops xs
  items_loops (loop_item l ∷ xs) = ap (λ (ys : List ℕ). l ∷ ys) (items_loops xs)

  order_loops : (l : ℕ) → item_loops (O.order_of o l) ≡ loops_in (get_or j.layout.order l [])
  unfolding Orders.order_of
  order_loops l = ap item_loops (order_is j l) ∙ items_loops (get_or j.layout.order l [])

  order_of_lem : (l k : ℕ) → l < length j.layout.order → (b : Bool) → member_of k (loops_in (get_or j.layout.order l [])) ≡ b → times k (loops_in (get_or j.layout.order l [])) ≤ times k (kids l)
  unfolding misordered not_child kids
  order_of_lem l k h b m =
      let items = loops_in (get_or j.layout.order l []) in
      let f = none_of _ _ (rw zero-add at (none_from (misordered ls) 0 j.layout.order parts.2 l [] h)) in
      go b m (times_once k items (none_of _ _ f.1).0) f.0
    where
      go : (b : Bool) → member_of k (loops_in (get_or j.layout.order l [])) ≡ b → times k (loops_in (get_or j.layout.order l [])) ≡ once (member_of k (loops_in (get_or j.layout.order l [])))
          → any_of (λ i. not_child ls i l) (loops_in (get_or j.layout.order l [])) ≡ false → times k (loops_in (get_or j.layout.order l [])) ≤ times k (kids l)
      go true m e f = omega (arith, e, ap once m, times_member k (kids l) (not-false _ (none_member (λ i. not_child ls i l) k (loops_in (get_or j.layout.order l [])) f m)))
      go false m e f = omega (arith, e, ap once m)

  none_there : (l k : ℕ) → length j.layout.order ≤ l → times k (loops_in (get_or j.layout.order l [])) ≤ times k (kids l)
  unfolding loops_in
  none_there l k h = rw (get_or-eq_default j.layout.order [] {n = l} h) (omega arith)

  nowhere : (t l : ℕ) → length j.spec.tables ≤ t → member_of l (get_or j.spec.tables t no_table).loops ≡ true → ⊥
  unfolding member_of
  nowhere t l h m = false≢true (ap (λ (v : Table). member_of l v.loops) (sym (get_or-eq_default j.spec.tables no_table {n = t} h)) ∙ m)

  order : (l k : ℕ) → times k (item_loops (O.order_of o l)) ≤ times k (O.loop_of o l).children
  order l k = rw (order_loops l, kids_are l) (go (dec_lt l (length j.layout.order)))
    where
      ordered : l < length j.layout.order → (b : Bool) → member_of k (loops_in (get_or j.layout.order l [])) ≡ b → times k (loops_in (get_or j.layout.order l [])) ≤ times k (kids l)
      ordered h b m = order_of_lem l k h b m

      go : Dec (l < length j.layout.order) → times k (loops_in (get_or j.layout.order l [])) ≤ times k (kids l)
      go (yes h) = ordered h (member_of k (loops_in (get_or j.layout.order l []))) refl
      go (no h) = none_there l k (omega arith)

  table_loops : (t l : ℕ) → 0 < times l (O.table_of o t).loops → l < length o.loops
  unfolding A.table_of outside_table
  table_loops t l h = go (dec_lt t (length j.spec.tables)) (member_of_lem l _ (rw (loops_is j t) at h))
    where
      go : Dec (t < length j.spec.tables) → member_of l (get_or j.spec.tables t no_table).loops ≡ true → l < length o.loops
      go (yes q) m = omega (arith, loop_count_is j, inside l (none_member (outside n) l (get_or j.spec.tables t no_table).loops (none_in (outside_table n) j.spec.tables parts.1 t no_table q) m))
      go (no q) m = absurd (nowhere t l (omega arith) m)

  pub tree_of : Tree o
  tree_of = record { children = children; roots = roots; no_ring = no_ring; order = order; table_loops = table_loops }

pub passed_tree : (b : List ℕ) → Passed b → Tree (outline_of (job_of b))
passed_tree b p = tree_of (job_of b) p.forest
