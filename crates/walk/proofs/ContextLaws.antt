-- Contexts as code keeps them, one law for each way, and what each of them stands for.
use Prim.Native.Nat.{ℕ, ◌+◌, ◌-◌, ◌≤◌, ◌<◌}
use mathlib.Core.Path.{◌≡◌, refl, sym, ap, ◌∙◌}
use native.Mathlib.Numerals.{add-one}
use lib.ListN.{length, get_or, get_or-eq_default}
use borrow.Author.Tests.{eq-eqb, ne_eqb}
use Rattle.nest.specs.Found.{found_by, row_place}
use Rattle.std.specs.Prelude.{Some, None}
use Rattle.nest.proofs.FoundLaws.{place_none, place_some}
use Rattle.walk.specs.declared.Context.{Context as Kept}
use Rattle.walk.specs.declared.Run.{Run as KeptRun}
use Rattle.walk.specs.Instances.{Piece, outside, offset, in_row, in_piece}
use Rattle.walk.specs.Bounds.{bound}
use Rattle.walk.specs.Contexts.{context, run_by, context_by, kept_outside, kept_row, kept_piece, row_by, start_by, end_by}
use Rattle.walk.proofs.Places.{context_outside, context_row, context_piece}

-- ---- a table's row and bounds

pub row_none : (c : Kept) (t : ℕ) → get_or c.rows t 0 ≡ 0 → row_by c t ≡ None
unfolding row_by
row_none c t e = place_none (get_or c.rows t 0) e

pub row_some : (c : Kept) (t : ℕ) → (get_or c.rows t 0 ≡ 0 → ⊥) → row_by c t ≡ Some (record { 0 = get_or c.rows t 0 - 1 })
unfolding row_by
row_some c t d = place_some (get_or c.rows t 0) d

module _ (c : Kept) (t : ℕ) (r : KeptRun) (e : c.run ≡ Some r) where
  pub start_run : r.table.0 ≡ t → r.start ≡ start_by c t
  unfolding start_by
  start_run q = rw e (rw (eq-eqb r.table.0 t q))

  pub start_other : (r.table.0 ≡ t → ⊥) → 0 ≡ start_by c t
  unfolding start_by
  start_other d = rw e (rw (ne_eqb r.table.0 t d))

  pub end_run : (n : ℕ) → r.table.0 ≡ t → r.end ≡ end_by c t n
  unfolding end_by
  end_run n q = rw e (rw (eq-eqb r.table.0 t q))

  pub end_other : (n : ℕ) → (r.table.0 ≡ t → ⊥) → n ≡ end_by c t n
  unfolding end_by
  end_other n d = rw e (rw (ne_eqb r.table.0 t d))

pub start_free : (c : Kept) (t : ℕ) → c.run ≡ None → 0 ≡ start_by c t
unfolding start_by
start_free c t e = rw e

pub end_free : (c : Kept) (t n : ℕ) → c.run ≡ None → n ≡ end_by c t n
unfolding end_by
end_free c t n e = rw e

-- ---- what they stand for

-- a place's number is the row plus one, or 0
pub stands_row : (c : Kept) (t : ℕ) → (context_by c).row t ≡ row_place (get_or c.rows t 0)
unfolding context_by context
stands_row c t = refl

pub row_kept : (c : Kept) (t : ℕ) → row_by c t ≡ found_by ((context_by c).row t)
unfolding row_by
row_kept c t = ap found_by (sym (stands_row c t))

pub row_past : (c : Kept) (t : ℕ) → length c.rows ≤ t → None ≡ found_by ((context_by c).row t)
row_past c t h = ap found_by (sym (stands_row c t ∙ ap row_place (get_or-eq_default c.rows 0 {n = t} h)))

pub stands_start : (c : Kept) (t : ℕ) → offset t (context_by c).run ≡ start_by c t
unfolding context_by context start_by
stands_start c t = refl

pub stands_end : (c : Kept) (t n : ℕ) → bound t (context_by c).run n ≡ end_by c t n
unfolding context_by context end_by
stands_end c t n = refl

pub stands_outside : context_by kept_outside ≡ outside
unfolding context_by
stands_outside = context_outside row_place 0 16 refl

pub stands_in_row : (c : Kept) (t r : ℕ) → t < length c.rows → context_by (kept_row c t r) ≡ in_row t (context_by c) r
unfolding context_by
stands_in_row c t r h = context_row row_place 0 c.rows (run_by c) t r (r + 1) h (ap row_place (add-one r))

pub stands_in_piece : (c : Kept) (t : ℕ) (p : Piece) → t < length c.rows → context_by (kept_piece c t p.head (start_by c t + p.start) (start_by c t + p.end)) ≡ in_piece t (context_by c) p
unfolding context_by start_by
stands_in_piece c t p h = context_piece row_place 0 c.rows (run_by c) t p (p.head + 1) h (ap row_place (add-one p.head))
