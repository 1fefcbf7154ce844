-- The runs that a cursor has left, one law for each way that code takes.
use Prim.Native.Nat.{ℕ, ◌+◌, ◌-◌, ◌≤◌, ◌<◌}
use mathlib.Core.Path.{◌≡◌, refl, sym, ap, ◌∙◌, subst}
use mathlib.Core.Bool.{Bool, true, false}
use mathlib.Core.List.{List, [], ◌∷◌}
use native.Mathlib.Omega.{arith}
use Rattle.nest.specs.Outline.{Outline}
use Rattle.walk.specs.Instances.{pieces}
use Rattle.walk.proofs.RowLaws.{piece_on, piece_cut, piece_last}
use Rattle.instances.specs.declared.Cursor.{Cursor}
use Rattle.std.specs.Prelude.{Option, Some, None}
use Rattle.instances.specs.declared.rows.RowAhead.{RowAhead}
use Rattle.instances.specs.Cursor.{start_of, left_at, left, pieces_at, Inside, moved, Ahead, RunEnds}

-- a cursor further on has what is left from there
pub left_moved : (n : List ℕ) (cur : Cursor) (a b seen k : ℕ) → left_at n (moved cur a b) seen k ≡ left_at n cur seen k
unfolding left_at
left_moved n cur a b seen k = refl

-- ---- the run of `head` has come to row k, and `seen` stood before

pub record Running (o : Outline) (n : List ℕ) (cur : Cursor) (head seen k : ℕ) : Type 0 where
  pub run : (start : ℕ)
      → pieces (o.same_group cur.l.0) head start (cur.seen - start_of cur) (left n cur)
      ≡ pieces (o.same_group cur.l.0) head start (seen - start_of cur) (left_at n cur seen k)
  pub on : cur.seen ≤ seen
  pub inner : Inside n (moved cur seen k)

module _ (o : Outline) (n : List ℕ) (cur : Cursor) (head seen k : ℕ) (s : Running o n cur head seen k) (at : Cursor) (e : at ≡ moved cur seen k) (x : Option RowAhead) (ahead : Ahead n at x) where
  there : Ahead n (moved cur seen k) x
  there = subst (λ (c : Cursor). Ahead n c x) e ahead

  module _ (r : RowAhead) (m : x ≡ Some r) where
    next_left : left_at n cur seen k ≡ r.row.0 ∷ left_at n cur r.seen r.next
    next_left = sym (left_moved n cur seen k seen k) ∙ (there.row r m).rest ∙ ap (λ xs. r.row.0 ∷ xs) (left_moved n cur seen k r.seen r.next)

    place : start_of cur + (seen - start_of cur) + 1 ≡ r.seen
    place = (there.row r m).place

    pub run_on : (y : Bool) → y ≡ o.same_group cur.l.0 head r.row.0 → y ≡ true → Running o n cur head r.seen r.next
    run_on y g h =
        let p = place in
        let q : seen - start_of cur + 1 ≡ r.seen - start_of cur = omega (arith, p) in
        record {
          run = λ start. s.run start ∙ ap (pieces (o.same_group cur.l.0) head start (seen - start_of cur)) next_left ∙ piece_on (o.same_group cur.l.0) head start (seen - start_of cur) r.row.0 (left_at n cur r.seen r.next) (sym g ∙ h) ∙ ap (λ z. pieces (o.same_group cur.l.0) head start z (left_at n cur r.seen r.next)) q;
          on = omega (arith, p, s.on);
          inner = (there.row r m).inner;
        }

    pub run_less : cur.rows - r.next < cur.rows - k
    run_less = let h = there.row r m in omega (arith, h.later, h.inner.within)

    pub run_cut : (y : Bool) → y ≡ o.same_group cur.l.0 head r.row.0 → y ≡ false → RunEnds o n cur head (record { seen = seen; next = k })
    run_cut y g h = record {
      run = λ start. s.run start ∙ ap (pieces (o.same_group cur.l.0) head start (seen - start_of cur)) next_left ∙ piece_cut (o.same_group cur.l.0) head start (seen - start_of cur) r.row.0 (left_at n cur r.seen r.next) (sym g ∙ h)
          ∙ ap (λ xs. record { head = head; start = start; end = seen - start_of cur } ∷ pieces_at (o.same_group cur.l.0) (seen - start_of cur) xs) (sym next_left ∙ sym (left_moved n cur seen k seen k));
      on = s.on;
      inner = s.inner;
    }

  pub run_over : x ≡ None → RunEnds o n cur head (record { seen = seen; next = k })
  run_over m =
      let none_left : left_at n cur seen k ≡ [] = sym (left_moved n cur seen k seen k) ∙ there.over m in
      record {
        run = λ start. s.run start ∙ ap (pieces (o.same_group cur.l.0) head start (seen - start_of cur)) none_left ∙ piece_last (o.same_group cur.l.0) head start (seen - start_of cur)
            ∙ ap (λ xs. record { head = head; start = start; end = seen - start_of cur } ∷ pieces_at (o.same_group cur.l.0) (seen - start_of cur) xs) (sym none_left ∙ sym (left_moved n cur seen k seen k));
        on = s.on;
        inner = s.inner;
      }
