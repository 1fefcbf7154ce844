-- The cursors that are made: what each has to give.
use Prim.Native.Nat.{ℕ, suc, ◌+◌, ◌-◌, ◌≤◌, ◌<◌, max}
use mathlib.Core.Path.{◌≡◌, refl, sym, ap, ap₂, ◌∙◌, subst}
use mathlib.Core.Bool.{Bool, true, false}
use mathlib.Core.List.{List, [], ◌∷◌, map}
use native.Mathlib.Omega.{arith}
use Rattle.std.proofs.lemmas.Option.{same_Some, none-some}
use lib.ListN.{take, drop}
use lib.Seq.{take-nil, drop-nil}
use Rattle.format.specs.Job.{Job}
use Rattle.format.specs.Sections.{job_of}
use Rattle.format.specs.Refusal.{rows_of_all}
use Rattle.format.proofs.Passed.{few}
use Rattle.format.specs.Ask as A
use Rattle.tables.specs.Parts as T
use Rattle.spec.specs.declared.ids.LoopId.{LoopId}
use Rattle.spec.specs.declared.ids.TableId.{TableId}
use Rattle.spec.specs.declared.ids.RowId.{RowId}
use Rattle.plan.specs.Answers.{instances_of}
use Rattle.plan.specs.declared.answers.Instances.{Instances}
use Rattle.nest.specs.Lists.{on, is, keep}
use Rattle.nest.specs.UpTo.{up_to}
use Rattle.std.specs.Prelude.{Option, Some, None}
use Rattle.nest.specs.Found.{found_by, held_at}
use Rattle.nest.specs.Outline.{Outline, absent, envelope, rows, inside, groups, kind_of, table_parent, row_count, plain}
use Rattle.nest.specs.Nest.{referred}
use Rattle.nest.specs.OfJob.{outline_of, kind_in}
use Rattle.nest.specs.OutlineAt.{outline_at}
use Rattle.nest.proofs.Bridge.{rows_is, table_count_is, table_parent_by, kind_is}
use Rattle.nest.proofs.Reports.{found_row, found_none}
use Rattle.nest.proofs.Placing.{rows_few, rows_room}
use Rattle.nest.proofs.NestLaws.{rows_before}
use Rattle.nest.proofs.Stored.{row_there, before_is}
use Rattle.nest.proofs.Hanging.{plain_in, plain_not}
use Rattle.nest.proofs.Scan.{window, keep_alike, keep_none}
use Rattle.walk.specs.declared.Context.{Context as Kept}
use Rattle.walk.specs.Instances.{Context, in_row, in_piece, pieces_of, rows_in, shown, instances}
use Rattle.walk.specs.Bounds.{held_by}
use Rattle.walk.specs.Contexts.{context_by, start_by, end_by}
use Rattle.walk.specs.Nested.{Nested, Sound}
use Rattle.walk.proofs.ContextLaws.{stands_start, stands_end}
use Rattle.walk.proofs.RowLaws.{held_top, held_outside, rows_window, rows_none}
use Rattle.walk.proofs.NestedLaws.{lent_held}
use Rattle.walk.proofs.TourLaws.{inst_absent, inst_envelope, inst_rows, inst_groups, inst_rowless, inst_shown, inst_hidden}
use Rattle.instances.specs.declared.Cursor.{Cursor}
use Rattle.instances.specs.declared.Left.{Left}
use Rattle.instances.specs.declared.Left.TheVariants.{Nothing, Itself, Rows, Runs}
use Rattle.instances.specs.Cursor.{passes, left_at, left, pieces_at, runs, coming, Going, rowless, rows_from, from_run, above_in, is_implied, shown_in, itself_if, Lists, OfLoop}
use Rattle.instances.proofs.RowsLeft.{passes_all, passes_held}
use Rattle.instances.proofs.Cursors.{coming_none, coming_one, coming_rows, coming_runs, going_rowless}
use Rattle.instances.specs.Stretch.{Same}
use Rattle.instances.proofs.FromRun.{from_run_same, from_run_keeps}

-- ---- the row of a table in a context

pub row_small : (j : Job) (c : Context) (u : ℕ) (f : Option RowId) (p : RowId) → rows_of_all j.tables ≤ 4096 → Sound (outline_of j) c → f ≡ found_by (c.row u) → f ≡ Some p → p.0 < 4096
row_small j c u f p h s e q = let x = s.there u p.0 (found_row (c.row u) f p e q) in let y = rows_few j u h in omega (arith, x, y)

-- ---- what the rows of a table hang on

module _ (j : Job) (t : ℕ) (c : Context) (x : Option ℕ) (e : x ≡ (A.table_of j t).parent) where
  pub above_top : x ≡ None → Some 0 ≡ above_in (outline_of j) t c
  unfolding above_in
  above_top q = rw (table_parent_by j t x e None q)

  pub above_row : (u : ℕ) (f : Option RowId) (p : RowId) → x ≡ Some u → f ≡ found_by (c.row u) → f ≡ Some p → Some (p.0 + 1) ≡ above_in (outline_of j) t c
  unfolding above_in
  above_row u f p q h z = rw (table_parent_by j t x e (Some u) q) (rw (found_row (c.row u) f p h z))

  pub above_lost : (u : ℕ) (f : Option RowId) → x ≡ Some u → f ≡ found_by (c.row u) → f ≡ None → None ≡ above_in (outline_of j) t c
  unfolding above_in
  above_lost u f q h z = rw (table_parent_by j t x e (Some u) q) (rw (found_none (c.row u) f h z))

-- ---- the rows of a plain table in a context

pub rows_made : (j : Job) (kind : Left) (l : LoopId) (t : TableId) (c : Kept) (base count above : ℕ) → base ≡ T.rows_before j.tables t.0 → count ≡ (A.data_of j t.0).rows
    → rows_from kind l t c base count above ≡ rows_from kind l t c (T.rows_before j.tables t.0) (row_count (outline_of j) t.0) above
rows_made j kind l t c base count above e q = ap₂ (λ x y. rows_from kind l t c x y above) e (q ∙ sym (rows_is j t.0))

held_is : (o : Outline) (t : ℕ) (row : ℕ → Option ℕ) (r u p : ℕ) → table_parent o t ≡ Some u → row u ≡ Some p → held_by o t row r ≡ is (referred o t r u) p
unfolding held_by
held_is o t row r u p e q = rw e (rw q)

held_never : (o : Outline) (t : ℕ) (c : Context) (r : ℕ) → None ≡ above_in o t c → held_by o t c.row r ≡ false
unfolding above_in
held_never o t c r e = up (table_parent o t) refl
  where
    in_row_lem : (u : ℕ) → table_parent o t ≡ Some u → (y : Option ℕ) → c.row u ≡ y → held_by o t c.row r ≡ false
    in_row_lem u q None z = held_outside o t c.row r u q z
    in_row_lem u q (Some p) z = absurd (none-some (p + 1) (rw z at (rw q at e)))

    up : (x : Option ℕ) → table_parent o t ≡ x → held_by o t c.row r ≡ false
    up None q = absurd (none-some 0 (rw q at e))
    up (Some u) q = in_row_lem u q (c.row u) refl

rows_lost : (o : Outline) (t : ℕ) (c : Context) → plain o t ≡ true → None ≡ above_in o t c → rows_in o t c ≡ []
rows_lost o t c f e = rows_window o t c f ∙ rw none_kept (simp (drop-nil, take-nil))
  where
    none_kept : keep (held_by o t c.row) (up_to 0 (row_count o t)) ≡ []
    none_kept = keep_alike (held_by o t c.row) (λ r. false) 0 (row_count o t) (λ r h. held_never o t c r e) ∙ keep_none (row_count o t - 0) 0

module _ {b idx n : List ℕ} (N : Nested b idx n) (kind : Left) (l : LoopId) (t : TableId) (c : Kept) where
  abbrev o : Outline
  o = outline_at b

  abbrev it : ℕ → Cursor
  it above = rows_from kind l t c (T.rows_before (job_of b).tables t.0) (row_count o t.0) above

  module _ (above : ℕ) (f : plain o t.0 ≡ true) (e : Some above ≡ above_in o t.0 (context_by c)) where
    passes_is : (r : ℕ) → r < row_count o t.0 → passes n (T.rows_before (job_of b).tables t.0) above r ≡ held_by o t.0 (context_by c).row r
    unfolding above_in
    passes_is r h = up (table_parent o t.0) refl
      where
        in_row_lem : (u : ℕ) → table_parent o t.0 ≡ Some u → (y : Option ℕ) → (context_by c).row u ≡ y
            → passes n (T.rows_before (job_of b).tables t.0) above r ≡ held_by o t.0 (context_by c).row r
        in_row_lem u q None z = absurd (none-some above (sym (rw z at (rw q at e))))
        in_row_lem u q (Some p) z =
            let a : above ≡ p + 1 = same_Some above (p + 1) (rw z at (rw q at e)) in
            let less : above - 1 ≡ p = omega (arith, a) in
            passes_held n _ above r (λ y. absurd (omega (arith, a, y)))
            ∙ ap₂ (λ x y. held_at n x y r) (before_is (job_of b) t.0) less
            ∙ lent_held N t.0 r u p (row_there o t.0 r h) h (plain_not o t.0 f) q
            ∙ sym (held_is o t.0 (context_by c).row r u p q z)

        up : (x : Option ℕ) → table_parent o t.0 ≡ x → passes n (T.rows_before (job_of b).tables t.0) above r ≡ held_by o t.0 (context_by c).row r
        up None q = passes_all n _ above r (same_Some above 0 (rw q at e)) ∙ sym (held_top o t.0 (context_by c).row r q)
        up (Some u) q = in_row_lem u q ((context_by c).row u) refl

    all_left : left n (it above) ≡ rows_in o t.0 (context_by c)
    unfolding left_at
    all_left =
        ap (λ xs. take (end_by c t.0 (row_count o t.0) - max (start_by c t.0) 0) (drop (start_by c t.0 - 0) xs))
        (keep_alike (passes n (T.rows_before (job_of b).tables t.0) above) (held_by o t.0 (context_by c).row) 0 (row_count o t.0) passes_is)
        ∙ ap₂ (λ x y. window (held_by o t.0 (context_by c).row) (row_count o t.0) x y 0 0) (sym (stands_start c t.0)) (sym (stands_end c t.0 (row_count o t.0)))
        ∙ sym (rows_window o t.0 (context_by c) f)

    above_small : Sound o (context_by c) → above ≤ 4096
    unfolding above_in
    above_small s = up (table_parent o t.0) refl
      where
        in_row_lem : (u : ℕ) → table_parent o t.0 ≡ Some u → (y : Option ℕ) → (context_by c).row u ≡ y → above ≤ 4096
        in_row_lem u q None z = absurd (none-some above (sym (rw z at (rw q at e))))
        in_row_lem u q (Some p) z =
            let a : above ≡ p + 1 = same_Some above (p + 1) (rw z at (rw q at e)) in
            omega (arith, a, s.there u p z, rows_few (job_of b) u N.ready.tables.few_rows)

        up : (x : Option ℕ) → table_parent o t.0 ≡ x → above ≤ 4096
        up None q = let a : above ≡ 0 = same_Some above 0 (rw q at e) in omega (arith, a)
        up (Some u) q = in_row_lem u q ((context_by c).row u) refl

    going_rows : Sound o (context_by c) → l.0 < 32 → Going o n (it above)
    unfolding A.data_of
    going_rows s h = record {
      inner = record {
        room = let d = rows_is (job_of b) t.0 in omega (arith, d, rows_room (job_of b).tables t.0, N.room);
        few = rows_few (job_of b) t.0 N.ready.tables.few_rows;
        small = above_small s;
        counted = refl;
        behind = omega arith;
        within = omega arith;
      };
      a_table = let d = plain_in o t.0 f in let k = (few (job_of b) N.ready.passed.limits).tables in let z = table_count_is (job_of b) in omega (arith, d, k, z);
      a_loop = h;
      there = omega arith;
      list = passes_is;
      sound = s;
    }

    pub lists_rows : (all r : Cursor) → Sound o (context_by c) → l.0 < 32 → all ≡ it above → r ≡ from_run o all → Lists o n kind l.0 t.0 (context_by c) r
    lists_rows all r s h q₀ q₁ =
        let q : r ≡ from_run o (it above) = q₁ ∙ ap (from_run o) q₀ in
        let same = from_run_same o n (it above) (going_rows s h) (refl, refl) (omega arith) in
        record {
          each_row = λ z. ap (coming o n) q ∙ same.0 ∙ coming_rows o n (it above) z ∙ ap (map (in_row t.0 (context_by c))) all_left;
          each_run = λ z. ap (coming o n) q ∙ same.0 ∙ coming_runs o n (it above) z ∙ ap (map (in_piece t.0 (context_by c))) runs_are;
          going = subst (Going o n) (sym q) same.1;
        }
      where
        from_start : (xs : List ℕ) → pieces_at (o.same_group l.0) (0 - start_by c t.0) xs ≡ pieces_of (o.same_group l.0) xs
        from_start xs = let z : 0 - start_by c t.0 ≡ 0 = omega arith in rw z (both xs)
          where
            both : (xs : List ℕ) → pieces_at (o.same_group l.0) 0 xs ≡ pieces_of (o.same_group l.0) xs
            both [] = refl
            both (x ∷ xs) = refl

        runs_are : runs o n (it above) ≡ pieces_of (o.same_group l.0) (rows_in o t.0 (context_by c))
        runs_are = ap (pieces_at (o.same_group l.0) (0 - start_by c t.0)) all_left ∙ from_start (rows_in o t.0 (context_by c))

  pub lists_same : (cur r : Cursor) → Lists o n kind l.0 t.0 (context_by c) cur → Same o n cur r → Lists o n kind l.0 t.0 (context_by c) r
  lists_same cur r w same = record { each_row = λ z. same.coming ∙ w.each_row z; each_run = λ z. same.coming ∙ w.each_run z; going = same.going }

  -- a cursor of the table's rows starts where they do
  pub rows_base : (above : ℕ) (all r : Cursor) → all ≡ it above → r ≡ from_run o all → r.base ≡ T.rows_before (job_of b).tables r.table.0
  rows_base above all r q₀ q₁ = subst starts (sym (q₁ ∙ ap (from_run o) q₀)) (from_run_keeps o (it above) starts refl (λ seen k. refl))
    where
      starts : Cursor → Type 0
      starts d = d.base ≡ T.rows_before (job_of b).tables d.table.0

  lists_empty : (r : Cursor) → Sound o (context_by c) → l.0 < 32 → r ≡ rowless Nothing l c → rows_in o t.0 (context_by c) ≡ [] → Lists o n kind l.0 t.0 (context_by c) r
  lists_empty r s h q e =
      let z : coming o n r ≡ [] = ap (coming o n) q ∙ coming_none o n (rowless Nothing l c) refl in
      record {
        each_row = λ k. z ∙ ap (map (in_row t.0 (context_by c))) (sym e);
        each_run = λ k. z ∙ ap (λ xs. map (in_piece t.0 (context_by c)) (pieces_of (o.same_group l.0) xs)) (sym e);
        going = subst (Going o n) (sym q) (going_rowless o n Nothing l c h s);
      }

  pub lists_none : (r : Cursor) → Sound o (context_by c) → l.0 < 32 → r ≡ rowless Nothing l c → plain o t.0 ≡ false → Lists o n kind l.0 t.0 (context_by c) r
  lists_none r s h q f = lists_empty r s h q (rows_none o t.0 (context_by c) f)

  pub lists_lost : (r : Cursor) → Sound o (context_by c) → l.0 < 32 → r ≡ rowless Nothing l c → plain o t.0 ≡ true → None ≡ above_in o t.0 (context_by c) → Lists o n kind l.0 t.0 (context_by c) r
  lists_lost r s h q f e = lists_empty r s h q (rows_lost o t.0 (context_by c) f e)

-- ---- an `Inside` loop

module _ (o : Outline) (l t : ℕ) (c : Context) where
  pub shown_row : (f : Option RowId) (r : RowId) (b : Bool) → f ≡ found_by (c.row t) → f ≡ Some r → b ≡ shown o l t r.0 → shown_in o l t c ≡ b
  unfolding shown_in
  shown_row f r b h z e = rw (found_row (c.row t) f r h z) (sym e)

  pub shown_none : (f : Option RowId) → f ≡ found_by (c.row t) → f ≡ None → shown_in o l t c ≡ false
  unfolding shown_in
  shown_none f h z = rw (found_none (c.row t) f h z)

pub inside_is : (r : Cursor) (b x : Bool) (l : LoopId) (c : Kept) → r ≡ rowless (itself_if b) l c → x ≡ b → r ≡ rowless (itself_if x) l c
inside_is r b x l c e q = e ∙ ap (λ v. rowless (itself_if v) l c) (sym q)

-- ---- by the kind of the loop

pub kind_of_lem : (j : Job) (l : ℕ) (k : Instances) → instances_of k ≡ (A.plan_of j l).instances → kind_of (outline_of j) l ≡ kind_in (instances_of k)
kind_of_lem j l k e = kind_is j l ∙ ap kind_in (sym e)

pub implied_of : (j : Job) (l : ℕ) (k : Instances) (x : Bool) → instances_of k ≡ (A.plan_of j l).instances → x ≡ is_implied (kind_in (instances_of k)) → x ≡ is_implied (kind_of (outline_of j) l)
implied_of j l k x e q = q ∙ ap is_implied (sym (kind_of_lem j l k e))

module _ (o : Outline) (n : List ℕ) (l : LoopId) (c : Kept) (s : Sound o (context_by c)) (small : l.0 < 32) (r : Cursor) where
  pub of_absent : kind_of o l.0 ≡ absent → r ≡ rowless Nothing l c → OfLoop o n l.0 (context_by c) r
  of_absent k q = record { all = λ h. ap (coming o n) q ∙ coming_none o n (rowless Nothing l c) refl ∙ sym (inst_absent o h l.0 (context_by c) k); going = subst (Going o n) (sym q) (going_rowless o n Nothing l c small s) }

  pub of_envelope_lem : kind_of o l.0 ≡ envelope → r ≡ rowless Itself l c → OfLoop o n l.0 (context_by c) r
  of_envelope_lem k q = record { all = λ h. ap (coming o n) q ∙ coming_one o n (rowless Itself l c) refl ∙ sym (inst_envelope o h l.0 (context_by c) k); going = subst (Going o n) (sym q) (going_rowless o n Itself l c small s) }

  pub of_rows : (t : ℕ) → kind_of o l.0 ≡ rows t → Lists o n Rows l.0 t (context_by c) r → OfLoop o n l.0 (context_by c) r
  of_rows t k q = record { all = λ h. q.each_row refl ∙ sym (inst_rows o h l.0 t (context_by c) k); going = q.going }

  pub of_groups : (t : ℕ) → kind_of o l.0 ≡ groups t → Lists o n Runs l.0 t (context_by c) r → OfLoop o n l.0 (context_by c) r
  of_groups t k q = record { all = λ h. q.each_run refl ∙ sym (inst_groups o h l.0 t (context_by c) k); going = q.going }

  pub of_inside : (t : ℕ) → kind_of o l.0 ≡ inside t → r ≡ rowless (itself_if (shown_in o l.0 t (context_by c))) l c → OfLoop o n l.0 (context_by c) r
  unfolding shown_in
  of_inside t k q = record { all = λ h. ap (coming o n) q ∙ in_row_lem h ((context_by c).row t) refl; going = subst (Going o n) (sym q) (going_rowless o n _ l c small s) }
    where
      chosen : (h p : ℕ) → (context_by c).row t ≡ Some p → (b : Bool) → shown o l.0 t p ≡ b → coming o n (rowless (itself_if b) l c) ≡ instances o (suc h) l.0 (context_by c)
      chosen h p z true y = coming_one o n (rowless Itself l c) refl ∙ sym (inst_shown o h l.0 t p (context_by c) k z y)
      chosen h p z false y = coming_none o n (rowless Nothing l c) refl ∙ sym (inst_hidden o h l.0 t p (context_by c) k z y)

      in_row_lem : (h : ℕ) (x : Option ℕ) → (context_by c).row t ≡ x → coming o n (rowless (itself_if (on ((context_by c).row t) (shown o l.0 t) false)) l c) ≡ instances o (suc h) l.0 (context_by c)
      in_row_lem h None z = rw z (coming_none o n (rowless Nothing l c) refl ∙ sym (inst_rowless o h l.0 t (context_by c) k z))
      in_row_lem h (Some p) z = rw z (chosen h p z (shown o l.0 t p) refl)
