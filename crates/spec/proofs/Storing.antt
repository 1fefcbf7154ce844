-- Storing the places of a list and of its items.
use Prim.Native.Nat.{ℕ, ◌+◌, ◌*◌, ◌≤◌, ◌<◌}
use mathlib.Core.Path.{◌≡◌, refl, sym, ◌∙◌}
use mathlib.Core.List.{List}
use mathlib.Core.Logic.{◌⊎◌, inl, inr}
use mathlib.Core.Bool.{Bool, true, false}
use native.Mathlib.Omega.{arith}
use lib.ListN.{length, get_or, set, length-set}
use lib.Seq.{get_or-set_same, get_or-set_other}
use lib.Dec.{ltb}
use borrow.Author.Tests.{lt-ltb, le-ltb, ltb-true, ltb-false}
use Rattle.codec.specs.Codec.{Codec, le_c, list_c}
use Rattle.codec.specs.Skip.{skip, steps, count_at, Is}
use Rattle.codec.proofs.Skip.{skip_le, skip_list, steps_last}
use Rattle.codec.proofs.Field.{ListIs, is_list, count_list}
use Rattle.codec.specs.Rows.{small}
use Rattle.codec.proofs.Rows.{is_small}
use Rattle.spec.specs.Kept.{Kept}
use Rattle.spec.proofs.Kept.{kept_same, kept_set, kept_then, kept_wide}
use Rattle.spec.specs.Region.{Stored, Listed, Lists, put_item}

-- ---- the items of a list, stored one after the other
pub put_item_in : (l : List ℕ) (k i p : ℕ) → i < 32 → put_item l k i p ≡ set l (k + 1 + i) (small p)
unfolding put_item
put_item_in l k i p h = simp (lt-ltb _ _ h)

pub put_item_out : (l : List ℕ) (k i p : ℕ) → 32 ≤ i → put_item l k i p ≡ l
unfolding put_item
put_item_out l k i p h = simp (le-ltb _ _ h)

-- i items were stored; the next stands at p
pub record Items {A : Type 0} (C : Codec A) (b : List ℕ) (e from k i p : ℕ) (old new : List ℕ) : Type 0 where
  pub place : p ≡ steps C b e i from
  pub kept : Kept (k + 1) (k + 33) old new
  pub item : (j : ℕ) → j < i → j < 32 → k + 1 + j < length old → get_or new (k + 1 + j) 0 ≡ small (steps C b e j from)

module _ {A : Type 0} (C : Codec A) (b : List ℕ) (e : ℕ) where
  pub items_none : (from k p : ℕ) (l : List ℕ) → p ≡ from → Items C b e from k 0 p l l
  unfolding steps
  items_none from k p l h = record { place = h; kept = kept_same _ _ l; item = λ j m. absurd (omega arith) }

  pub items_more : (from k i p q : ℕ) (old d new : List ℕ) → Items C b e from k i p old d → new ≡ put_item d k i p → q ≡ skip C b p e → Items C b e from k (i + 1) q old new
  items_more from k i p q old d new h w s = record { place = s ∙ rw h.place (sym (steps_last C b e i from)); kept = kept' (ltb i 32) refl; item = item' (ltb i 32) refl }
    where
      kept' : (t : Bool) → ltb i 32 ≡ t → Kept (k + 1) (k + 33) old new
      kept' true q = let r : i < 32 = ltb-true _ _ q in kept_set _ _ old d new (k + 1 + i) (small p) h.kept (w ∙ put_item_in d k i p r) (omega arith) (omega arith)
      kept' false q = rw (w ∙ put_item_out d k i p (ltb-false _ _ q)) h.kept

      item' : (t : Bool) → ltb i 32 ≡ t → (j : ℕ) → j < i + 1 → j < 32 → k + 1 + j < length old → get_or new (k + 1 + j) 0 ≡ small (steps C b e j from)
      item' false q j m n l = let r : 32 ≤ i = ltb-false _ _ q in rw (w ∙ put_item_out d k i p r) (h.item j (omega arith) n l)
      item' true q j m n l = rw (w ∙ put_item_in d k i p (ltb-true _ _ q)) (go (ltb j i) refl)
        where
          go : (u : Bool) → ltb j i ≡ u → get_or (set d (k + 1 + i) (small p)) (k + 1 + j) 0 ≡ small (steps C b e j from)
          go true r =
              let o : j < i = ltb-true _ _ r in
              get_or-set_other d (k + 1 + i) (k + 1 + j) (small p) 0 (omega arith) ∙ h.item j o n l
          go false r =
              let o : i ≤ j = ltb-false _ _ r in
              let x : j ≡ i = omega arith in
              let y : k + 1 + i < length d = omega (arith, h.kept.long) in
              rw x (get_or-set_same d (k + 1 + i) (small p) 0 y ∙ rw h.place)

  -- all n items, then the place of the list
  pub items_all : (k at n i from p : ℕ) (old d new : List ℕ) → n ≡ count_at b at e → from ≡ skip (le_c 4) b at e → i ≡ n → Items C b e from k i p old d → new ≡ set d k (small at) → (p ≡ skip (list_c C) b at e) × Kept k (k + 33) old new × Stored C b e at k new
  items_all k at n i from p old d new c f x h w =
      let m : Kept k (k + 33) old d = kept_wide (k + 1) (k + 33) k (k + 33) old d (omega arith) (omega arith) h.kept in
      let o : length new ≡ length old = rw w (length-set d k (small at)) ∙ m.long in (
        h.place ∙ rw (x, c, f) (sym (skip_list C b e at)),
        kept_set k (k + 33) old d new k (small at) m w (omega arith) (omega arith),
        record {
          list = λ r. rw w (get_or-set_same d k (small at) 0 (omega (arith, m.long)));
          item = λ j r s t. rw w (get_or-set_other d k (k + 1 + j) (small at) 0 (omega arith) ∙ h.item j (omega arith) s (omega arith) ∙ rw f);
        },
      )

  -- what was stored stays where nothing is stored over it
  pub stored_kept : (at k from to : ℕ) (idx new : List ℕ) → Stored C b e at k idx → Kept from to idx new → (k + 33 ≤ from) ⊎ (to ≤ k) → Stored C b e at k new
  stored_kept at k from to idx new h q (inl l) = record {
    list = λ r. q.below k (omega arith) ∙ h.list (omega (arith, q.long));
    item = λ j r s t. q.below (k + 1 + j) (omega arith) ∙ h.item j r s (omega (arith, q.long));
  }
  stored_kept at k from to idx new h q (inr l) = record {
    list = λ r. q.above k (omega arith) ∙ h.list (omega (arith, q.long));
    item = λ j r s t. q.above (k + 1 + j) (omega arith) ∙ h.item j r s (omega (arith, q.long));
  }

  -- where the list stands, the places are those of the list and its items
  pub listed : (at k : ℕ) (idx : List ℕ) (vs : List A) → e < 65536 → k + 33 ≤ length idx → Stored C b e at k idx → Is (list_c C) b e at vs → Listed C b e idx k vs
  listed at k idx vs m l h i =
      let z : ListIs C b e at vs = is_list C b e at vs i in
      let n : length vs ≡ count_at b at e = count_list C b e at vs z in
      let f : skip (le_c 4) b at e ≡ at + 4 = skip_le 4 b at e z.room in
      record {
        list = is_small (list_c C) b e at _ vs m (h.list (omega arith)) i;
        item = λ j d q r. is_small C b e (steps C b e j (at + 4)) _ _ m (rw f at (h.item j (omega arith) r (omega arith))) (z.item j d q);
      }

-- ---- lists within a list
module _ {A B : Type 0} (C : Codec A) (D : Codec B) (b : List ℕ) (e : ℕ) (at : ℕ → ℕ) (k from to start : ℕ) where
  pub lists_none : (p : ℕ) (idx : List ℕ) → p ≡ start → Lists C D b e at k from to start 0 p idx idx
  unfolding steps
  lists_none p idx h = record { place = h; kept = kept_same _ _ idx; item = λ j m. absurd (omega arith); inner = λ j m. absurd (omega arith) }

  -- one more item and its list
  pub lists_more : (n p q : ℕ) (old d mid new : List ℕ) → n < 32 → k + 33 ≤ from → from + n * 33 + 33 ≤ to → Lists C D b e at k from to start n p old d → mid ≡ set d (k + 1 + n) (small p) → Kept (from + n * 33) (from + n * 33 + 33) mid new → Stored D b e (at p) (from + n * 33) new → q ≡ skip C b p e → Lists C D b e at k from to start (n + 1) q old new
  lists_more n p q old d mid new m i t h w y s r = record {
    place = r ∙ rw h.place (sym (steps_last C b e n start));
    kept = kept_then (k + 1) to _ _ old mid new (kept_set (k + 1) to old d mid (k + 1 + n) (small p) h.kept w (omega arith) (omega arith)) y (omega arith) t;
    item = λ j u v l. y.below (k + 1 + j) (omega arith) ∙ rw w (item' j u v l (ltb j n) refl);
    inner = λ j u v. inner' j u v (ltb j n) refl;
  }
    where
      item' : (j : ℕ) → j < n + 1 → j < 32 → k + 1 + j < length old → (u : Bool) → ltb j n ≡ u → get_or (set d (k + 1 + n) (small p)) (k + 1 + j) 0 ≡ small (steps C b e j start)
      item' j u v l true z = let o : j < n = ltb-true _ _ z in get_or-set_other d (k + 1 + n) (k + 1 + j) (small p) 0 (omega arith) ∙ h.item j o v l
      item' j u v l false z =
          let o : n ≤ j = ltb-false _ _ z in
          let x : j ≡ n = omega arith in
          let g : k + 1 + n < length d = omega (arith, h.kept.long) in
          rw x (get_or-set_same d (k + 1 + n) (small p) 0 g ∙ rw h.place)

      one : Kept (k + 1 + n) (k + 1 + n + 1) d mid
      one = kept_set _ _ d d mid (k + 1 + n) (small p) (kept_same _ _ d) w (omega arith) (omega arith)

      inner' : (j : ℕ) → j < n + 1 → j < 32 → (u : Bool) → ltb j n ≡ u → Stored D b e (at (steps C b e j start)) (from + j * 33) new
      inner' j u v true z = let o : j < n = ltb-true _ _ z in stored_kept D b e _ (from + j * 33) _ _ mid new (stored_kept D b e _ (from + j * 33) _ _ d mid (h.inner j o v) one (inr (omega arith))) y (inl (omega arith))
      inner' j u v false z =
          let o : n ≤ j = ltb-false _ _ z in
          let x : j ≡ n = omega arith in
          rw (x, ← h.place) s

  -- an item past the first 32
  pub lists_past : (n p q : ℕ) (old d : List ℕ) → 32 ≤ n → Lists C D b e at k from to start n p old d → q ≡ skip C b p e → Lists C D b e at k from to start (n + 1) q old d
  lists_past n p q old d m h r = record {
    place = r ∙ rw h.place (sym (steps_last C b e n start));
    kept = h.kept;
    item = λ j u v. h.item j (omega arith) v;
    inner = λ j u v. h.inner j (omega arith) v;
  }

  -- all n items, then the place of the list
  pub lists_all : (i n p q : ℕ) (old d new : List ℕ) → n ≡ count_at b i e → start ≡ skip (le_c 4) b i e → q ≡ n → k + 1 ≤ from → k + 1 ≤ to → Lists C D b e at k from to start q p old d → new ≡ set d k (small i) → Kept k to old new × Stored C b e i k new × ((j : ℕ) → j < n → j < 32 → Stored D b e (at (steps C b e j (skip (le_c 4) b i e))) (from + j * 33) new)
  lists_all i n p q old d new c f x o t h w =
      let m : Kept k to old d = kept_wide (k + 1) to k to old d (omega arith) (omega arith) h.kept in
      let g : length new ≡ length old = rw w (length-set d k (small i)) ∙ m.long in
      let one : Kept k (k + 1) d new = kept_set k (k + 1) d d new k (small i) (kept_same _ _ d) w (omega arith) (omega arith) in (
        kept_set k to old d new k (small i) m w (omega arith) (omega arith),
        record {
          list = λ r. rw w (get_or-set_same d k (small i) 0 (omega (arith, m.long)));
          item = λ j r s y. rw w (get_or-set_other d k (k + 1 + j) (small i) 0 (omega arith) ∙ h.item j (omega arith) s (omega arith) ∙ rw f);
        },
        λ j r s. stored_kept D b e _ (from + j * 33) k (k + 1) d new (rw f at (h.inner j (omega arith) s)) one (inr (omega arith)),
      )
