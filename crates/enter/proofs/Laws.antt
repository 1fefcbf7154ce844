-- The table above a row, by nest's numbers; the findings on a row's order, one law for each way.
use Prim.Native.Nat.{ℕ, zero, suc, ◌+◌, ◌*◌, ◌≤◌, ◌<◌}
use mathlib.Core.Path.{◌≡◌, refl, sym, ◌∙◌}
use mathlib.Core.Bool.{Bool, true, false}
use mathlib.Core.List.{List, [], ◌∷◌}
use native.Mathlib.Omega.{arith}
use Rattle.std.specs.Prelude.{Option, None, Some, unwrap_or}
use lib.ListN.{length, get_or}
use borrow.Author.Tests.{lt-ltb, le-ltb}
use Rattle.format.specs.Job.{Job}
use Rattle.format.specs.Sections.{job_of}
use Rattle.format.specs.Ask.{data_of, table_of}
use Rattle.column.specs.Cell.{reference_of}
use Rattle.tables.specs.Parts as T
use Rattle.nest.specs.Lists.{on}
use Rattle.nest.specs.Outline.{Outline, row_count, repeated, table_parent}
use Rattle.nest.specs.Nest.{Hook, hook, hook_record, loose_record, nest_record}
use Rattle.nest.specs.Finding.{out_of_order}
use Rattle.nest.specs.Found.{nest_at}
use Rattle.nest.specs.OutlineAt.{outline_at}
use Rattle.nest.specs.OfJob.{outline_of}
use Rattle.nest.proofs.Bridge.{rows_is, reference_is, table_parent_is}
use Rattle.nest.proofs.Placing.{repeats_is, room_for}
use Rattle.nest.proofs.Stored.{before_is}
use Rattle.walk.specs.Nested.{Nested}
use Rattle.walk.proofs.NestedLaws.{lent_number}
use Rattle.spec.specs.declared.ids.RowId.{RowId}
use Rattle.emit.specs.Fold.{above, order_findings}
use Rattle.emit.specs.Did.{Mark, mark_of}
use Rattle.enter.specs.Placed.{placed, placed_at}

-- ---- the table above

module _ (o : Outline) (t r : ℕ) where
  above_record : repeated o t ≡ true → placed (get_or (nest_record o t r) 0 0) (get_or (nest_record o t r) 2 0) ≡ above o t r
  unfolding nest_record above
  above_record e = rw e (go (hook o t r))
    where
      go : (h : Option Hook) → placed (get_or (on h hook_record loose_record) 0 0) (get_or (on h hook_record loose_record) 2 0) ≡ on h (λ (k : Hook). Some k.table) None
      go None = refl
      go (Some k) = refl

  above_plain : repeated o t ≡ false → table_parent o t ≡ above o t r
  unfolding above
  above_plain e = rw e

module _ (n : List ℕ) (base r : ℕ) where
  pub placed_none : nest_at n base r 0 ≡ 0 → None ≡ placed_at n base r
  unfolding placed_at
  placed_none e = rw e

  pub placed_some : (nest_at n base r 0 ≡ 0 → ⊥) → Some (nest_at n base r 2) ≡ placed_at n base r
  unfolding placed_at
  placed_some e = go (nest_at n base r 0) e
    where
      go : (p : ℕ) → (p ≡ 0 → ⊥) → Some (nest_at n base r 2) ≡ placed p (nest_at n base r 2)
      go zero k = absurd (k refl)
      go (suc p) k = refl

module _ {b idx n : List ℕ} (N : Nested b idx n) (t r : ℕ) (h : r < row_count (outline_at b) t) where
  -- a row's numbers stand in the array that is lent
  pub numbers_within : (base : ℕ) → base ≡ T.rows_before (job_of b).tables t → (base + r) * 3 + 2 < length n
  numbers_within base e =
      let k : r < (data_of (job_of b) t).rows = rw (← rows_is (job_of b) t) h in
      omega (arith, room_for (job_of b) t r _ base e refl k, N.room)

  pub above_repeat : (again : Bool) (base : ℕ) → again ≡ (table_of (job_of b) t).segment → again ≡ true → base ≡ T.rows_before (job_of b).tables t → placed_at n base r ≡ above (outline_at b) t r
  unfolding placed_at
  above_repeat again base e f q =
      rw (q ∙ before_is (job_of b) t, lent_number N t r 0 h (omega arith), lent_number N t r 2 h (omega arith)) (above_record (outline_at b) t r (sym (repeats_is (job_of b) t again e) ∙ f))

pub above_parent : (j : Job) (t r : ℕ) (again : Bool) (x : Option ℕ) → again ≡ (table_of j t).segment → again ≡ false → x ≡ (table_of j t).parent → x ≡ above (outline_of j) t r
above_parent j t r again x e f q = q ∙ sym (table_parent_is j t) ∙ above_plain (outline_of j) t r (sym (repeats_is j t again e) ∙ f)

-- ---- the reference

pub reference_or : (j : Job) (t u r : ℕ) {x : Option ℕ} → x ≡ reference_of (data_of j t) u r → unwrap_or x 0 ≡ on ((outline_of j).reference t u r) (λ v. v) 0
reference_or j t u r {x} e = rw (reference_is j t u r, ← e) (go x)
  where
    go : (y : Option ℕ) → unwrap_or y 0 ≡ on y (λ v. v) 0
    go None = refl
    go (Some v) = refl

-- ---- the findings on a row's order

module _ (o : Outline) (t r : ℕ) (m : Mark) where
  pub order_unseen : m ≡ None → order_findings o t r (mark_of m) ≡ []
  order_unseen h = rw h

  pub order_not_lower : (highest : RowId) → m ≡ Some highest → highest.0 ≤ r → order_findings o t r (mark_of m) ≡ []
  order_not_lower highest h k = rw (h, le-ltb r highest.0 k)
