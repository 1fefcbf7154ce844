-- What a cursor has still to give, one law for each way that code takes.
use Prim.Native.Nat.{ℕ, ◌+◌, ◌-◌, ◌≤◌, ◌<◌}
use mathlib.Core.Path.{◌≡◌, refl, sym, ap, ap₂, ◌∙◌, subst}
use mathlib.Core.Logic.{◌⊎◌, inl, inr}
use mathlib.Core.Bool.{Bool, true, false}
use mathlib.Core.List.{List, [], ◌∷◌, map}
use native.Mathlib.Omega.{arith}
use Rattle.std.proofs.lemmas.Option.{same_Some, none-some}
use lib.ListN.{length}
use lib.Dec.{eqb}
use borrow.Author.Tests.{eq-eqb, eqb-true}
use Rattle.nest.specs.Lists.{keep}
use Rattle.nest.specs.UpTo.{up_to}
use Rattle.nest.specs.Outline.{Outline, table_parent, row_count}
use Rattle.nest.proofs.Scan.{keep_alike}
use Rattle.spec.specs.declared.ids.LoopId.{LoopId}
use Rattle.walk.specs.declared.Context.{Context as Kept}
use Rattle.walk.specs.Instances.{Context, Run, Piece, pieces, at, offset, in_row, in_piece}
use Rattle.walk.specs.Bounds.{held_by}
use Rattle.walk.specs.Contexts.{context_by, kept_row, kept_piece}
use Rattle.walk.specs.Nested.{Sound}
use Rattle.walk.proofs.ContextLaws.{stands_start, stands_in_row, stands_in_piece}
use Rattle.walk.proofs.RowLaws.{held_apart}
use Rattle.instances.specs.declared.Cursor.{Cursor}
use Rattle.instances.specs.declared.Left.{Left}
use Rattle.instances.specs.declared.Left.TheVariants.{Nothing, Itself, Rows, Runs}
use Rattle.instances.specs.declared.Next.{Next}
use Rattle.std.specs.Prelude.{Option, Some, None}
use Rattle.instances.specs.declared.rows.RowAhead.{RowAhead}
use Rattle.instances.specs.declared.pieces.RunEnd.{RunEnd}
use Rattle.instances.proofs.Options.{of_some, not_none}
use Rattle.instances.specs.Cursor.{passes, start_of, left, pieces_at, runs, coming_by, coming, Inside, Going, moved, rowless, Here, RunEnds, context_of, context_in, behind, Given, Came}
use Rattle.instances.proofs.Runs.{left_moved}

-- ---- by kind

pub coming_none : (o : Outline) (n : List ℕ) (cur : Cursor) → cur.kind ≡ Nothing → coming o n cur ≡ []
unfolding coming
coming_none o n cur e = ap (coming_by o n cur) e

pub coming_one : (o : Outline) (n : List ℕ) (cur : Cursor) → cur.kind ≡ Itself → coming o n cur ≡ context_by cur.context ∷ []
unfolding coming
coming_one o n cur e = ap (coming_by o n cur) e

pub coming_rows : (o : Outline) (n : List ℕ) (cur : Cursor) → cur.kind ≡ Rows → coming o n cur ≡ map (in_row cur.table.0 (context_by cur.context)) (left n cur)
unfolding coming
coming_rows o n cur e = ap (coming_by o n cur) e

pub coming_runs : (o : Outline) (n : List ℕ) (cur : Cursor) → cur.kind ≡ Runs → coming o n cur ≡ map (in_piece cur.table.0 (context_by cur.context)) (runs o n cur)
unfolding coming
coming_runs o n cur e = ap (coming_by o n cur) e

-- ---- the rows of an inner context are there

module _ (o : Outline) (c : Context) (t r : ℕ) (s : Sound o c) (h : r < row_count o t) where
  inner_row : (u p : ℕ) → at t r c.row u ≡ Some p → p < row_count o u
  inner_row u p e = go (eqb u t) refl
    where
      go : (b : Bool) → eqb u t ≡ b → p < row_count o u
      go true q =
          let x : r ≡ p = same_Some r p (rw q at e) in
          let y : row_count o u ≡ row_count o t = ap (row_count o) (eqb-true u t q) in
          omega (arith, x, y, h)
      go false q = s.there u p (rw q at e)

  pub sound_in_row : Sound o (in_row t c r)
  sound_in_row = record { there = inner_row; begun = λ p k e q d. absurd (none-some p e) }

  -- its run begins at its table's row
  run_begun : (start : ℕ) → length (keep (held_by o t c.row) (up_to 0 r)) ≡ start → (k : ℕ) → at t r c.row t ≡ Some k → (table_parent o t ≡ Some t → ⊥)
      → length (keep (held_by o t (at t r c.row)) (up_to 0 k)) ≡ start
  run_begun start e k z d =
      let y : r ≡ k = same_Some r k (rw (eq-eqb t t refl) at z) in
      rw (← y) (ap length (keep_alike (held_by o t (at t r c.row)) (held_by o t c.row) 0 r (λ i q. held_apart o t r c.row i d)) ∙ e)

  pub sound_in_piece : (start end : ℕ) → length (keep (held_by o t c.row) (up_to 0 r)) ≡ offset t c.run + start → Sound o (in_piece t c (record { head = r; start = start; end = end }))
  sound_in_piece start end e = record { there = inner_row; begun = λ p k q. subst (begun_at k) (same_Some it p q) (run_begun (offset t c.run + start) e k) }
    where
      it : Run
      it = record { table = t; start = offset t c.run + start; end = offset t c.run + end }

      begun_at : ℕ → Run → Type 0
      begun_at k p = at t r c.row p.table ≡ Some k → (table_parent o p.table ≡ Some p.table → ⊥) → length (keep (held_by o p.table (at t r c.row)) (up_to 0 k)) ≡ p.start

-- ---- the context that code makes for an instance

module _ (cur : Cursor) (r : Next) where
  pub made_one : cur.kind ≡ Itself → context_in cur r ≡ cur.context
  unfolding context_in
  made_one e = ap (context_of cur r) e

  pub made_row : cur.kind ≡ Rows → context_in cur r ≡ kept_row cur.context cur.table.0 r.row.0
  unfolding context_in
  made_row e = ap (context_of cur r) e

  pub made_run : (cur.kind ≡ Nothing) ⊎ (cur.kind ≡ Runs) → context_in cur r ≡ kept_piece cur.context cur.table.0 r.row.0 r.start r.seen
  unfolding context_in
  made_run (inl e) = ap (context_of cur r) e
  made_run (inr e) = ap (context_of cur r) e

  row_stands : cur.kind ≡ Rows → cur.table.0 < length cur.context.rows → context_by (context_in cur r) ≡ in_row cur.table.0 (context_by cur.context) r.row.0
  row_stands e w = ap context_by (made_row e) ∙ stands_in_row cur.context cur.table.0 r.row.0 w

  run_stands : cur.kind ≡ Runs → cur.table.0 < length cur.context.rows → (p : Piece) → p.head ≡ r.row.0 → r.start ≡ start_of cur + p.start → r.seen ≡ start_of cur + p.end
      → context_by (context_in cur r) ≡ in_piece cur.table.0 (context_by cur.context) p
  run_stands k w p e f g = ap context_by (made_run (inr k) ∙ rw (← e, f, g)) ∙ stands_in_piece cur.context cur.table.0 p w

-- ---- the next instance

over : (o : Outline) (n : List ℕ) (cur : Cursor) → coming o n cur ≡ [] → Came o n cur None
over o n cur e = record { ended = λ z. e; given = λ a z. absurd (none-some a z) }

one : (o : Outline) (n : List ℕ) (cur : Cursor) (r : Next) → Given o n cur r → Came o n cur (Some r)
one o n cur r g = record { ended = λ z. absurd (not_none r z); given = of_some (Given o n cur) r g }

module _ (o : Outline) (n : List ℕ) where
  pub going_rowless : (kind : Left) (l : LoopId) (c : Kept) → l.0 < 32 → Sound o (context_by c) → Going o n (rowless kind l c)
  going_rowless kind l c h s = record {
    inner = record { room = omega arith; few = omega arith; small = omega arith; counted = refl; behind = omega arith; within = omega arith };
    a_table = omega arith;
    a_loop = h;
    there = omega arith;
    list = λ r q. absurd (omega (arith, q));
    sound = s;
  }

  pub going_moved : (cur : Cursor) (seen k : ℕ) → Going o n cur → Inside n (moved cur seen k) → Going o n (moved cur seen k)
  going_moved cur seen k g i = record { inner = i; a_table = g.a_table; a_loop = g.a_loop; there = g.there; list = g.list; sound = g.sound }

  pub further : (cur : Cursor) (seen k : ℕ) (d : Cursor) → d ≡ moved cur seen k → Going o n cur → Inside n (moved cur seen k) → Inside n d × (d.l.0 < 32)
  further cur seen k d e g i = subst (λ (x : Cursor). Inside n x × (x.l.0 < 32)) (sym e) (i, g.a_loop)

  module _ (cur : Cursor) where
    pub came_none : cur.kind ≡ Nothing → Came o n cur None
    came_none e = over o n cur (coming_none o n cur e)

    pub came_one : cur.kind ≡ Itself → Going o n cur → Came o n cur (Some (record { kind = Nothing; row = record { 0 = 0 }; start = 0; seen = 0; next = 0 }))
    came_one e g =
        let r : Next = record { kind = Nothing; row = record { 0 = 0 }; start = 0; seen = 0; next = 0 } in
        one o n cur r (record {
          came = coming_one o n cur e ∙ ap₂ (λ x xs. x ∷ xs) (ap context_by (sym (made_one cur r e))) (sym (coming_none o n (behind cur r) refl));
          sound = subst (λ d. Sound o (context_by d)) (sym (made_one cur r e)) g.sound;
          still = record {
            inner = record { room = g.inner.room; few = g.inner.few; small = g.inner.small; counted = refl; behind = omega arith; within = omega arith };
            a_table = g.a_table;
            a_loop = g.a_loop;
            there = g.there;
            list = g.list;
            sound = g.sound;
          };
          small = omega arith;
        })

    -- a `Rows` loop
    pub rows_over : cur.kind ≡ Rows → left n cur ≡ [] → Came o n cur None
    rows_over e h = over o n cur (coming_rows o n cur e ∙ ap (map (in_row cur.table.0 (context_by cur.context))) h)

    pub came_rows : (a : RowAhead) → cur.kind ≡ Rows → cur.table.0 < length cur.context.rows → Going o n cur → Here n cur a
        → Came o n cur (Some (record { kind = cur.kind; row = a.row; start = 0; seen = a.seen; next = a.next }))
    came_rows a e w g ahead =
        let t : ℕ = cur.table.0 in
        let c : Context = context_by cur.context in
        let r : Next = record { kind = cur.kind; row = a.row; start = 0; seen = a.seen; next = a.next } in
        let stands : context_by (context_in cur r) ≡ in_row t c a.row.0 = row_stands cur r e w in
        one o n cur r (record {
          came = coming_rows o n cur e ∙ ap (map (in_row t c)) ahead.rest
              ∙ ap₂ (λ x xs. x ∷ xs) (sym stands) (ap (map (in_row t c)) (sym (left_moved n cur a.seen a.next a.seen a.next)) ∙ sym (coming_rows o n (moved cur a.seen a.next) e));
          sound = subst (Sound o) (sym stands) (sound_in_row o c t a.row.0 g.sound (omega (arith, ahead.exists, g.there)));
          still = going_moved cur a.seen a.next g ahead.inner;
          small = omega (arith, ahead.exists, g.inner.few);
        })

    -- a `Groups` loop
    pub runs_over : cur.kind ≡ Runs → left n cur ≡ [] → Came o n cur None
    runs_over e h = over o n cur (coming_runs o n cur e ∙ ap (λ xs. map (in_piece cur.table.0 (context_by cur.context)) (pieces_at (o.same_group cur.l.0) (cur.seen - start_of cur) xs)) h)

    pub came_run : (a : RowAhead) (e : RunEnd) (first : Cursor) → cur.kind ≡ Runs → cur.table.0 < length cur.context.rows → Going o n cur → Here n cur a → first ≡ moved cur a.seen a.next → RunEnds o n first a.row.0 e
        → Came o n cur (Some (record { kind = cur.kind; row = a.row; start = a.seen - 1; seen = e.seen; next = e.next }))
    came_run a e first k w g h f run₀ =
        let t : ℕ = cur.table.0 in
        let c : Context = context_by cur.context in
        let same : ℕ → ℕ → Bool = o.same_group cur.l.0 in
        let run : RunEnds o n (moved cur a.seen a.next) a.row.0 e = subst (λ (x : Cursor). RunEnds o n x a.row.0 e) f run₀ in
        let start : ℕ = cur.seen - start_of cur in
        let it : Piece = record { head = a.row.0; start = start; end = e.seen - start_of cur } in
        let r : Next = record { kind = cur.kind; row = a.row; start = a.seen - 1; seen = e.seen; next = e.next } in
        let on : a.seen ≤ e.seen = run.on in
        let from-here : a.seen - 1 ≡ start_of cur + start = omega (arith, h.place) in
        let to-there : e.seen ≡ start_of cur + (e.seen - start_of cur) = omega (arith, h.place, on) in
        let stands : context_by (context_in cur r) ≡ in_piece t c it = run_stands cur r k w it refl from-here to-there in
        let same_list = keep_alike (held_by o t c.row) (passes n cur.base cur.above) 0 a.row.0 (λ r x. sym (g.list r (omega (arith, x, h.exists)))) in
        let before : length (keep (held_by o t c.row) (up_to 0 a.row.0)) ≡ offset t c.run + start =
        ap length same_list ∙ omega (arith, h.before, from-here) ∙ ap (λ m. m + start) (sym (stands_start cur.context t)) in
        let place : start + 1 ≡ a.seen - start_of cur = omega (arith, h.place) in
        let all : runs o n cur ≡ it ∷ runs o n (moved cur e.seen e.next) =
        ap (pieces_at same start) h.rest
        ∙ ap₂ (λ x xs. pieces same a.row.0 start x xs) place (sym (left_moved n cur a.seen a.next a.seen a.next))
        ∙ run.run start in
        one o n cur r (record {
          came = coming_runs o n cur k ∙ ap (map (in_piece t c)) all
              ∙ ap₂ (λ x xs. x ∷ xs) (sym stands) (sym (coming_runs o n (moved cur e.seen e.next) k));
          sound = subst (Sound o) (sym stands) (sound_in_piece o c t a.row.0 g.sound (omega (arith, h.exists, g.there)) start (e.seen - start_of cur) before);
          still = going_moved cur e.seen e.next g run.inner;
          small = omega (arith, h.exists, g.inner.few);
        })

-- an instance in the context that was made for it
module _ {o : Outline} {n : List ℕ} {cur : Cursor} {x : Option Next} {r : Next} (w : Came o n cur x) (z : x ≡ Some r) {d : Kept} (e : d ≡ context_in cur r) where
  pub came_in : coming o n cur ≡ context_by d ∷ coming o n (behind cur r)
  came_in = (w.given r z).came ∙ ap (λ x. context_by x ∷ coming o n (behind cur r)) (sym e)

  pub sound_in : Sound o (context_by d)
  sound_in = subst (λ x. Sound o (context_by x)) (sym e) (w.given r z).sound
