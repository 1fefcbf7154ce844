-- A cursor that begins at the first row of the context's run has the same instances still to give.
use Prim.Native.Nat.{ℕ, zero, suc, ◌+◌, ◌-◌, ◌≤◌, ◌<◌, max}
use mathlib.Core.Path.{◌≡◌, refl, sym, ap, ap₂, ◌∙◌}
use mathlib.Core.Bool.{Bool, true, false, false≢true, cond, ◌||◌}
use mathlib.Core.List.{List, [], ◌∷◌, ◌++◌, map}
use native.Mathlib.Omega.{arith}
use lib.ListN.{length, take, drop}
use lib.Dec.{eqb}
use borrow.Author.Tests.{eq-eqb, ne_eqb, eqb-true}
use Rattle.spec.specs.declared.ids.RowId.{RowId}
use Rattle.nest.specs.Lists.{keep, from, on, is}
use Rattle.nest.specs.UpTo.{up_to}
use Rattle.std.specs.Prelude.{Option, Some, None}
use Rattle.nest.specs.Found.{found_by}
use Rattle.nest.specs.Outline.{Outline, table_parent, row_count}
use Rattle.nest.proofs.Reports.{found_row, found_none}
use Rattle.nest.proofs.Scan.{window, keep_alike, keep_length}
use Rattle.walk.specs.Instances.{Context, Run, offset, in_row, in_piece}
use Rattle.walk.specs.Bounds.{held_by}
use Rattle.walk.specs.Contexts.{context_by}
use Rattle.walk.proofs.ContextLaws.{stands_start}
use Rattle.instances.specs.declared.Cursor.{Cursor}
use Rattle.instances.specs.declared.Left.{Left}
use Rattle.instances.specs.declared.Left.TheVariants.{Nothing, Itself, Rows, Runs}
use Rattle.instances.specs.Cursor.{passes, start_of, end_of, left_at, left, pieces_at, coming_by, coming, Going, moved, from_run}
use Rattle.instances.proofs.Cursors.{going_moved}

-- ---- one law for each way that code takes

module _ (o : Outline) (cur : Cursor) where
  pub from_first : start_of cur ≡ 0 → cur ≡ from_run o cur
  unfolding from_run
  from_first e = rw (eq-eqb (start_of cur) 0 e)

  pub from_own : (b : Bool) → b ≡ is (table_parent o cur.table.0) cur.table.0 → b ≡ true → cur ≡ from_run o cur
  unfolding from_run
  from_own b e q = rw (sym e ∙ q) (go (eqb (start_of cur) 0))
    where
      go : (s : Bool) → cur ≡ cond (s || true) cur (on ((context_by cur.context).row cur.table.0) (moved cur (start_of cur)) cur)
      go true = refl
      go false = refl

  module _ (start : ℕ) (s : start ≡ start_of cur) (d : start ≡ 0 → ⊥) (b : Bool) (e : b ≡ is (table_parent o cur.table.0) cur.table.0) (q : b ≡ false) (f : Option RowId) (h : f ≡ found_by ((context_by cur.context).row cur.table.0)) where
    later : eqb (start_of cur) 0 ≡ false
    later = ne_eqb (start_of cur) 0 (λ z. d (s ∙ z))

    pub from_head : (r : RowId) → f ≡ Some r → moved cur start r.0 ≡ from_run o cur
    unfolding from_run
    from_head r z = rw (later, sym e ∙ q, found_row ((context_by cur.context).row cur.table.0) f r h z, s)

    pub from_nowhere : f ≡ None → cur ≡ from_run o cur
    unfolding from_run
    from_nowhere z = rw (later, sym e ∙ q, found_none ((context_by cur.context).row cur.table.0) f h z)

  -- what holds of the cursor wherever it stands still does
  pub from_run_keeps : (P : Cursor → Type 0) → P cur → ((seen k : ℕ) → P (moved cur seen k)) → P (from_run o cur)
  unfolding from_run
  from_run_keeps P p q = go (eqb (start_of cur) 0 || is (table_parent o cur.table.0) cur.table.0)
    where
      found : (x : Option ℕ) → P (on x (moved cur (start_of cur)) cur)
      found None = p
      found (Some r) = q (start_of cur) r

      go : (b : Bool) → P (cond b cur (on ((context_by cur.context).row cur.table.0) (moved cur (start_of cur)) cur))
      go true = p
      go false = found ((context_by cur.context).row cur.table.0)

-- ---- a part of those that pass, looked for from the row where it starts

keep_parts : (p : ℕ → Bool) (m n b : ℕ) → keep p (from b (n + m)) ≡ keep p (from b m) ++ keep p (from (b + m) n)
keep_parts p zero n b = let z : b ≡ b + 0 = omega arith in let y : n + 0 ≡ n = omega arith in ap₂ (λ x m. keep p (from x m)) z y
keep_parts p (suc m) n b =
    let q : suc b + m ≡ b + suc m = omega arith in
    let y : n + suc m ≡ suc (n + m) = omega arith in
    ap (λ k. keep p (from b k)) y ∙ step (p b) (keep_parts p m n (suc b) ∙ ap (λ a. keep p (from (suc b) m) ++ keep p (from a n)) q)
  where
    step : (s : Bool) → keep p (from (suc b) (n + m)) ≡ keep p (from (suc b) m) ++ keep p (from (b + suc m) n)
        → cond s (b ∷ keep p (from (suc b) (n + m))) (keep p (from (suc b) (n + m))) ≡ cond s (b ∷ keep p (from (suc b) m)) (keep p (from (suc b) m)) ++ keep p (from (b + suc m) n)
    step true more = ap (λ xs. b ∷ xs) more
    step false more = more

drop_front : (xs ys : List ℕ) → drop (length xs) (xs ++ ys) ≡ ys
drop_front [] ys = refl
drop_front (x ∷ xs) ys = drop_front xs ys

window_from_lem : (p : ℕ → Bool) (n a b k : ℕ) → k ≤ n → length (keep p (up_to 0 k)) ≡ a → window p n a b a k ≡ window p n a b 0 0
window_from_lem p n a b k h e =
    let none_left : a - a ≡ 0 = omega arith in
    let all_left : a - 0 ≡ length (keep p (up_to 0 k)) = omega (arith, e) in
    let high : max a a ≡ a = omega arith in
    let low : max a 0 ≡ a = omega arith in
    rw (none_left, high, low) (ap (take (b - a)) (sym (ap (λ m. drop m (keep p (up_to 0 n))) all_left ∙ ap (drop (length (keep p (up_to 0 k)))) parts ∙ drop_front (keep p (up_to 0 k)) (keep p (up_to k n)))))
  where
    parts : keep p (up_to 0 n) ≡ keep p (up_to 0 k) ++ keep p (up_to k n)
    parts =
        let q : n - 0 ≡ n - k + (k - 0) = omega (arith, h) in
        let z : 0 + (k - 0) ≡ k = omega arith in
        ap (λ m. keep p (from 0 m)) q ∙ keep_parts p (k - 0) (n - k) 0 ∙ ap (λ m. keep p (up_to 0 k) ++ keep p (from m (n - k))) z

-- ---- what is still to come

coming_moved : (o : Outline) (n : List ℕ) (cur : Cursor) (seen k : ℕ) → left_at n cur seen k ≡ left n cur → seen - start_of cur ≡ cur.seen - start_of cur → coming o n (moved cur seen k) ≡ coming o n cur
unfolding coming left_at
coming_moved o n cur seen k e q = go cur.kind
  where
    go : (x : Left) → coming_by o n (moved cur seen k) x ≡ coming_by o n cur x
    go Nothing = refl
    go Itself = refl
    go Rows = ap (map (in_row cur.table.0 (context_by cur.context))) e
    go Runs = ap₂ (λ at rows. map (in_piece cur.table.0 (context_by cur.context)) (pieces_at (o.same_group cur.l.0) at rows)) q e

module _ (o : Outline) (n : List ℕ) (cur : Cursor) (g : Going o n cur) (from_zero : (cur.seen ≡ 0) × (cur.next ≡ 0)) (all_rows : row_count o cur.table.0 ≤ cur.rows) where
  abbrev t : ℕ
  t = cur.table.0

  abbrev c : Context
  c = context_by cur.context

  abbrev passing : ℕ → Bool
  passing = passes n cur.base cur.above

  begun_at : (r : ℕ) → (start_of cur ≡ 0 → ⊥) → (table_parent o t ≡ Some t → ⊥) → c.row t ≡ Some r → length (keep (held_by o t c.row) (up_to 0 r)) ≡ start_of cur
  begun_at r d own z = of_run c.run refl ∙ stands_start cur.context t
    where
      of_run : (x : Option Run) → c.run ≡ x → length (keep (held_by o t c.row) (up_to 0 r)) ≡ offset t c.run
      of_run None e = absurd (d (sym (stands_start cur.context t) ∙ ap (offset t) e))
      of_run (Some p) e = of_table (eqb p.table t) refl
        where
          of_table : (b : Bool) → eqb p.table t ≡ b → length (keep (held_by o t c.row) (up_to 0 r)) ≡ offset t c.run
          of_table false q = absurd (d (sym (stands_start cur.context t) ∙ ap (offset t) e ∙ rw q))
          of_table true q =
              let y : p.table ≡ t = eqb-true p.table t q in
              ap (λ u. length (keep (held_by o u c.row) (up_to 0 r))) (sym y)
              ∙ g.sound.begun p r e (ap c.row y ∙ z) (λ w. own (sym (ap (table_parent o) y) ∙ w ∙ ap Some y))
              ∙ sym (ap (offset t) e ∙ rw q)

  at_head : (r : ℕ) → (start_of cur ≡ 0 → ⊥) → (table_parent o t ≡ Some t → ⊥) → c.row t ≡ Some r → (coming o n (moved cur (start_of cur) r) ≡ coming o n cur) × Going o n (moved cur (start_of cur) r)
  unfolding left_at
  at_head r d own z =
      let in_table : r < row_count o t = g.sound.there t r z in
      let short : r ≤ cur.rows = omega (arith, in_table, all_rows) in
      let same_list = keep_alike passing (held_by o t c.row) 0 r (λ i q. g.list i (omega (arith, q, short))) in
      let before : length (keep passing (up_to 0 r)) ≡ start_of cur = ap length same_list ∙ begun_at r d own z in
      let same_left : left_at n cur (start_of cur) r ≡ left n cur =
      window_from_lem passing cur.rows (start_of cur) (end_of cur) r short before ∙ ap₂ (λ x y. left_at n cur x y) (sym from_zero.0) (sym from_zero.1) in
      let no_more : start_of cur - start_of cur ≡ cur.seen - start_of cur = omega (arith, from_zero.0) in (
        coming_moved o n cur (start_of cur) r same_left no_more,
        going_moved o n cur (start_of cur) r g (record {
          room = g.inner.room;
          few = g.inner.few;
          small = g.inner.small;
          counted = before;
          behind = omega (arith, before, keep_length passing 0 (r - 0));
          within = short;
        }),
      )

  pub from_run_same : (coming o n (from_run o cur) ≡ coming o n cur) × Going o n (from_run o cur)
  unfolding from_run
  from_run_same = first (eqb (start_of cur) 0) refl
    where
      found : (x : Option ℕ) → c.row t ≡ x → (start_of cur ≡ 0 → ⊥) → (table_parent o t ≡ Some t → ⊥) → (coming o n (on x (moved cur (start_of cur)) cur) ≡ coming o n cur) × Going o n (on x (moved cur (start_of cur)) cur)
      found None z d own = (refl, g)
      found (Some r) z d own = at_head r d own z

      own_list : (b : Bool) → is (table_parent o t) t ≡ b → (start_of cur ≡ 0 → ⊥) → (coming o n (cond b cur (on (c.row t) (moved cur (start_of cur)) cur)) ≡ coming o n cur) × Going o n (cond b cur (on (c.row t) (moved cur (start_of cur)) cur))
      own_list true q d = (refl, g)
      own_list false q d = found (c.row t) refl d (λ w. false≢true (sym q ∙ ap (λ x. is x t) w ∙ eq-eqb t t refl))

      first : (b : Bool) → eqb (start_of cur) 0 ≡ b → (coming o n (cond (b || is (table_parent o t) t) cur (on (c.row t) (moved cur (start_of cur)) cur)) ≡ coming o n cur) × Going o n (cond (b || is (table_parent o t) t) cur (on (c.row t) (moved cur (start_of cur)) cur))
      first true q = (refl, g)
      first false q = own_list (is (table_parent o t) t) refl (λ w. false≢true (sym q ∙ eq-eqb (start_of cur) 0 w))
