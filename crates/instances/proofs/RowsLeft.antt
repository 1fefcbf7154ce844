-- The rows that a cursor has left, one law for each way that code takes.
use Prim.Native.Nat.{ℕ, ◌+◌, ◌-◌, ◌≤◌, ◌<◌}
use mathlib.Core.Path.{◌≡◌, refl, sym, ap, ◌∙◌}
use mathlib.Core.Bool.{Bool, true, false}
use mathlib.Core.List.{List, [], ◌∷◌}
use native.Mathlib.Omega.{arith}
use lib.ListN.{length, length-append}
use lib.Dec.{eqb}
use borrow.Author.Tests.{eq-eqb, ne_eqb}
use Rattle.nest.specs.Found.{nest_at, held_at}
use Rattle.nest.specs.Lists.{keep}
use Rattle.nest.specs.UpTo.{up_to}
use Rattle.nest.proofs.Scan.{keep_more, keep_same, window_no, window_skip, window_yes, window_past, window_end}
use Rattle.walk.specs.Contexts.{start_by}
use Rattle.instances.specs.declared.Cursor.{Cursor}
use Rattle.std.proofs.lemmas.Option.{none-some}
use Rattle.std.specs.Prelude.{Some, None}
use Rattle.instances.proofs.Options.{of_some, not_none}
use Rattle.instances.specs.Cursor.{passes, start_of, end_of, left_at, left, Inside, Here, Ahead}

-- ---- whether a row hangs where it is asked to

pub passes_all : (n : List ℕ) (base above r : ℕ) → above ≡ 0 → passes n base above r ≡ true
unfolding passes
passes_all n base above r e = rw (eq-eqb above 0 e)

pub passes_held : (n : List ℕ) (base above r : ℕ) → (above ≡ 0 → ⊥) → passes n base above r ≡ held_at n base (above - 1) r
unfolding passes held_at
passes_held n base above r d = rw (ne_eqb above 0 d) (ap (eqb (nest_at n base r 0)) (omega arith))

-- ---- the search for the next row: it has come to row k, and `seen` stood before

pub record Looking (n : List ℕ) (cur : Cursor) (seen k : ℕ) : Type 0 where
  pub rest : left n cur ≡ left_at n cur seen k
  pub counted : length (keep (passes n cur.base cur.above) (up_to 0 k)) ≡ seen
  pub behind : seen ≤ k
  pub within : k ≤ cur.rows
  pub later : cur.next ≤ k
  pub place : start_of cur + (cur.seen - start_of cur) ≡ start_of cur + (seen - start_of cur)

pub looking : (n : List ℕ) (cur : Cursor) → Inside n cur → Looking n cur cur.seen cur.next
looking n cur i = record { rest = refl; counted = i.counted; behind = i.behind; within = i.within; later = omega arith; place = refl }

module _ (n : List ℕ) (cur : Cursor) (seen k : ℕ) (s : Looking n cur seen k) where
  one_more : passes n cur.base cur.above k ≡ true → length (keep (passes n cur.base cur.above) (up_to 0 (k + 1))) ≡ seen + 1
  one_more e = ap length (keep_more _ 0 k (omega arith) e) ∙ length-append (keep (passes n cur.base cur.above) (up_to 0 k)) (k ∷ []) ∙ ap (λ m. m + 1) s.counted

  pub looking_no : (b : Bool) → k < cur.rows → b ≡ passes n cur.base cur.above k → b ≡ false → Looking n cur seen (k + 1)
  unfolding left_at
  looking_no b h e f = record {
    rest = s.rest ∙ window_no _ _ (start_of cur) (end_of cur) seen k h (sym e ∙ f);
    counted = ap length (keep_same _ 0 k (omega arith) (sym e ∙ f)) ∙ s.counted;
    behind = omega (arith, s.behind);
    within = omega arith;
    later = omega (arith, s.later);
    place = s.place;
  }

  pub looking_skip : (b : Bool) (start : ℕ) → k < cur.rows → b ≡ passes n cur.base cur.above k → b ≡ true → start ≡ start_of cur → seen < start → Looking n cur (seen + 1) (k + 1)
  unfolding left_at
  looking_skip b start h e f q p =
      let q₁ : start_by cur.context cur.table.0 ≡ start = sym q in
      record {
        rest = s.rest ∙ window_skip _ _ (start_of cur) (end_of cur) seen k h (sym e ∙ f) (omega (arith, q₁));
        counted = one_more (sym e ∙ f);
        behind = omega (arith, s.behind);
        within = omega arith;
        later = omega (arith, s.later);
        place = s.place ∙ omega (arith, q₁);
      }

  pub ahead_row : (b : Bool) (start end : ℕ) → Inside n cur → k < cur.rows → b ≡ passes n cur.base cur.above k → b ≡ true → start ≡ start_of cur → end ≡ end_of cur → start ≤ seen → seen < end
      → Ahead n cur (Some (record { row = record { 0 = k }; seen = seen + 1; next = k + 1 }))
  unfolding left_at
  ahead_row b start end i h e f q r x y = record { over = λ z. absurd (not_none _ z); row = of_some (Here n cur) _ here }
    where
      here : Here n cur (record { row = record { 0 = k }; seen = seen + 1; next = k + 1 })
      here = record {
        rest = s.rest ∙ window_yes _ _ (start_of cur) (end_of cur) seen k h (sym e ∙ f) (omega (arith, q)) (omega (arith, r));
        exists = h;
        later = omega (arith, s.later);
        inner = record { room = i.room; few = i.few; small = i.small; counted = one_more (sym e ∙ f); behind = omega (arith, s.behind); within = omega arith };
        place = omega (arith, s.place, q);
        before = ap (λ m. m + 1) s.counted;
      }

  none_ahead : left n cur ≡ [] → Ahead n cur None
  none_ahead e = record { over = λ z. e; row = λ a z. absurd (none-some a z) }

  pub ahead_past : (end : ℕ) → end ≡ end_of cur → end ≤ seen → Ahead n cur None
  unfolding left_at
  ahead_past end q h = none_ahead (s.rest ∙ window_past _ _ (start_of cur) (end_of cur) seen k (omega (arith, q)))

  pub ahead_end : cur.rows ≤ k → Ahead n cur None
  unfolding left_at
  ahead_end h = none_ahead (s.rest ∙ window_end _ _ (start_of cur) (end_of cur) seen k h)
