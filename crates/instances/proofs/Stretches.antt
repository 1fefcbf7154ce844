-- A cursor over the stretch of its rows has the same instances still to give.
use Prim.Native.Nat.{ℕ, ◌+◌, ◌-◌, ◌≤◌, ◌<◌, max}
use mathlib.Core.Path.{◌≡◌, refl, sym, ap, ap₂, ◌∙◌, subst}
use mathlib.Core.Bool.{Bool, true, false}
use mathlib.Core.List.{List, map}
use native.Mathlib.Omega.{arith}
use lib.ListN.{length, take, drop}
use lib.Seq.{take_all}
use lib.Dec.{eqb}
use borrow.Author.Tests.{ne_eqb, eqb-true, eqb-false}
use Rattle.format.specs.Sections.{job_of}
use Rattle.tables.specs.Parts as T
use Rattle.nest.specs.Lists.{keep}
use Rattle.nest.specs.UpTo.{up_to}
use Rattle.nest.specs.Found.{nest_at}
use Rattle.nest.specs.Outline.{Outline}
use Rattle.nest.specs.OutlineAt.{outline_at}
use Rattle.nest.specs.Rising.{Climbs, Parted, rises}
use Rattle.nest.proofs.Scan.{keep_length, keep_skip, keep_cut}
use Rattle.nest.proofs.Stored.{before_is}
use Rattle.walk.specs.declared.Context.{Context as Kept}
use Rattle.std.specs.Prelude.{Option, Some, None}
use Rattle.walk.specs.declared.Run.{Run as KeptRun}
use Rattle.walk.specs.Instances.{in_row, in_piece}
use Rattle.walk.specs.Contexts.{context_by, start_by, end_by}
use Rattle.walk.specs.Nested.{Nested}
use Rattle.walk.proofs.ContextLaws.{start_other, start_free, end_run, end_other, end_free}
use Rattle.walk.proofs.NestedLaws.{lent_climbs}
use Rattle.instances.specs.declared.Cursor.{Cursor}
use Rattle.instances.specs.declared.Left.{Left}
use Rattle.instances.specs.declared.Left.TheVariants.{Nothing, Itself, Rows, Runs}
use Rattle.instances.specs.Cursor.{passes, start_of, left_at, left, pieces_at, coming_by, coming, Going}
use Rattle.instances.specs.Stretch.{Same, Reached}

-- ---- the rows of the context's run are the same where the list is

abbrev run_of : Kept → ℕ → ℕ → ℕ → List ℕ → List ℕ
run_of c t seen n xs = take (end_by c t n - max (start_by c t) seen) (drop (start_by c t - seen) xs)

run_same : (c : Kept) (t seen a b : ℕ) (xs : List ℕ) → length xs + seen ≤ a → length xs + seen ≤ b → run_of c t seen a xs ≡ run_of c t seen b xs
run_same c t seen a b xs h k = go c.run refl
  where
    free : 0 ≡ start_by c t → a ≡ end_by c t a → b ≡ end_by c t b → run_of c t seen a xs ≡ run_of c t seen b xs
    free s e f =
        let z : start_by c t - seen ≡ 0 = omega (arith, s) in
        rw z (take_all (end_by c t a - max (start_by c t) seen) xs (omega (arith, s, e, h)) ∙ sym (take_all (end_by c t b - max (start_by c t) seen) xs (omega (arith, s, f, k))))

    of_table : (r : KeptRun) (x : Bool) → eqb r.table.0 t ≡ x → c.run ≡ Some r → run_of c t seen a xs ≡ run_of c t seen b xs
    of_table r true q g =
        let y : r.table.0 ≡ t = eqb-true r.table.0 t q in
        ap (λ e. take (e - max (start_by c t) seen) (drop (start_by c t - seen) xs)) (sym (end_run c t r g a y) ∙ end_run c t r g b y)
    of_table r false q g = let d = eqb-false r.table.0 t q in free (start_other c t r g d) (end_other c t r g a d) (end_other c t r g b d)

    go : (x : Option KeptRun) → c.run ≡ x → run_of c t seen a xs ≡ run_of c t seen b xs
    go (Some r) g = of_table r (eqb r.table.0 t) refl g
    go None g = free (start_free c t g) (end_free c t a g) (end_free c t b g)

-- ---- the end of the stretch

module _ (n : List ℕ) (base from rows above : ℕ) where
  pub reached_at : Climbs n base rows → (at m : ℕ) → m ≡ nest_at n base at 0 → from ≤ at → at < rows → above ≤ m → Reached n base from rows above at
  reached_at u at m e f h q = record { after = f; within = omega arith; rest = λ r x y. omega (arith, e, u.climb at r x y) }

-- ---- the stretch

abbrev pub narrow : Cursor → ℕ → ℕ → Cursor
narrow cur low high = record { kind = cur.kind; l = cur.l; table = cur.table; context = cur.context; base = cur.base; rows = high; above = cur.above; seen = cur.seen; next = low }

coming_same : (o : Outline) (n : List ℕ) (cur : Cursor) (low high : ℕ) → left n (narrow cur low high) ≡ left n cur → coming o n (narrow cur low high) ≡ coming o n cur
unfolding coming
coming_same o n cur low high e = go cur.kind
  where
    go : (x : Left) → coming_by o n (narrow cur low high) x ≡ coming_by o n cur x
    go Nothing = refl
    go Itself = refl
    go Rows = ap (map (in_row cur.table.0 (context_by cur.context))) e
    go Runs = ap (λ xs. map (in_piece cur.table.0 (context_by cur.context)) (pieces_at (o.same_group cur.l.0) (cur.seen - start_of cur) xs)) e

module _ (o : Outline) (n : List ℕ) (cur : Cursor) (up : 0 < cur.above) (low high : ℕ) (first : Parted n cur.base cur.next cur.rows cur.above low) (second : Parted n cur.base low cur.rows (cur.above + 1) high) where
  abbrev passing : ℕ → Bool
  passing = passes n cur.base cur.above

  not_passing : (r : ℕ) → (nest_at n cur.base r 0 ≡ cur.above → ⊥) → passing r ≡ false
  unfolding passes
  not_passing r d = rw (ne_eqb cur.above 0 (λ z. absurd (omega (arith, z, up)))) (ne_eqb (nest_at n cur.base r 0) cur.above d)

  before : (r : ℕ) → cur.next ≤ r → r < low → passing r ≡ false
  before r p q = not_passing r (λ z. absurd (omega (arith, z, first.below r p q)))

  behind : (r : ℕ) → high ≤ r → r < cur.rows → passing r ≡ false
  behind r p q = not_passing r (λ z. absurd (omega (arith, z, second.rest r p q)))

  same_list : keep passing (up_to low high) ≡ keep passing (up_to cur.next cur.rows)
  same_list =
      let a : cur.next + (low - cur.next) ≡ low = omega (arith, first.after) in
      let b : high + (cur.rows - high) ≡ cur.rows = omega (arith, second.within) in
      let fewer : keep passing (up_to cur.next cur.rows) ≡ keep passing (up_to low high) =
      keep_skip passing cur.rows (low - cur.next) cur.next (omega (arith, a, first.within)) (λ r p q. before r p (omega (arith, a, q)))
      ∙ ap₂ (λ x y. keep passing (up_to x y)) a (sym b)
      ∙ keep_cut passing low high (cur.rows - high) second.after (λ r p q. behind r p (omega (arith, b, q))) in
      sym fewer

  pub same_stretch : Going o n cur → Same o n cur (narrow cur low high)
  unfolding left_at
  same_stretch g =
      let short : length (keep passing (up_to low high)) ≤ high - low = keep_length passing low (high - low) in
      let a : cur.next + (low - cur.next) ≡ low = omega (arith, first.after) in
      let lefts : left n (narrow cur low high) ≡ left n cur =
      run_same cur.context cur.table.0 cur.seen high cur.rows (keep passing (up_to low high))
      (omega (arith, short, first.after, second.after, g.inner.behind))
      (omega (arith, short, first.after, second.after, second.within, g.inner.behind))
      ∙ ap (run_of cur.context cur.table.0 cur.seen cur.rows) same_list in
      record {
        coming = coming_same o n cur low high lefts;
        going = record {
          inner = record {
            room = omega (arith, g.inner.room, second.within);
            few = omega (arith, g.inner.few, second.within);
            small = g.inner.small;
            counted = ap (λ k. length (keep passing (up_to 0 k))) (sym a) ∙ ap length (keep_cut passing 0 cur.next (low - cur.next) (omega arith) (λ r p q. before r p (omega (arith, a, q)))) ∙ g.inner.counted;
            behind = omega (arith, g.inner.behind, first.after);
            within = second.after;
          };
          a_table = g.a_table;
          a_loop = g.a_loop;
          there = omega (arith, g.there, second.within);
          list = λ r q. g.list r (omega (arith, q, second.within));
          sound = g.sound;
        };
      }

-- ---- where the flag says so

pub climbs : {b idx n : List ℕ} → Nested b idx n → (cur : Cursor) → Going (outline_at b) n cur → cur.base ≡ T.rows_before (job_of b).tables cur.table.0 → rises n cur.table.0 ≡ true → Climbs n cur.base cur.rows
climbs {b} {idx} {n} N cur g e f = subst (λ (x : ℕ). Climbs n x cur.rows) (sym (e ∙ before_is (job_of b) cur.table.0)) (lent_climbs N cur.table.0 cur.rows f g.there)
