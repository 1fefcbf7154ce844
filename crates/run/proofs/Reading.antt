-- What the accessors of a job say, in terms of its outline.
use Prim.Native.Nat.{ℕ, ◌≤◌, ◌<◌}
use mathlib.Core.Path.{◌≡◌, refl, sym, ◌∙◌}
use mathlib.Core.List.{List}
use native.Mathlib.Omega.{arith}
use Rattle.std.specs.Prelude.{Option, Some, None, is_some}
use Rattle.format.specs.Job.{Job}
use Rattle.format.specs.Sections.{job_of}
use Rattle.format.specs.Passed.{Passed}
use Rattle.format.proofs.Passed.{few}
use Rattle.format.specs.Ask as A
use Rattle.spec.specs.Answers.{control_of, text_of, HoldsText}
use Rattle.spec.specs.declared.ids.ControlRule.{ControlRule}
use Rattle.spec.specs.declared.ids.Stretch.{Stretch}
use Rattle.nest.specs.Outline.{loop_of, row_count}
use Rattle.nest.specs.OfJob.{outline_of, is_there}
use Rattle.nest.specs.OutlineAt.{outline_at}
use Rattle.nest.proofs.Bridge.{controlled_is, ends_is, data-count-is}
use Rattle.nest.proofs.Sizes.{rows_past}
use Rattle.nest.proofs.Stored.{row_there}

module _ (j : Job) where
  pub controlled_by : (l : ℕ) (k : Option ControlRule) → control_of k ≡ (A.loop_of j l).control → is_some k ≡ (loop_of (outline_of j) l).controlled
  controlled_by l k e = sym (controlled_is j l ∙ rw (← e) (go k))
    where
      go : (x : Option ControlRule) → is_there (control_of x) ≡ is_some x
      go None = refl
      go (Some r) = refl

  pub ends_by : (b : List ℕ) (l : ℕ) (k : Option Stretch) → HoldsText b k (A.loop_of j l).end → is_some k ≡ (loop_of (outline_of j) l).ends
  ends_by b l k h = sym (ends_is j l ∙ rw (← h.bytes) (go k))
    where
      go : (x : Option Stretch) → is_there (text_of b x) ≡ is_some x
      go None = refl
      go (Some s) = refl

module _ (b : List ℕ) (w : Passed b) where
  abbrev J : Job
  J = job_of b

  -- a table with a number from 16 on has no rows
  pub rows_none : (t : ℕ) → 16 ≤ t → row_count (outline_at b) t ≡ 0
  rows_none t h = rows_past (outline_at b) t (omega (arith, data-count-is J, (few J w.limits).filled))

  pub table_small : (t r : ℕ) → r < row_count (outline_at b) t → t < 16
  table_small t r h = omega (arith, row_there (outline_at b) t r h, data-count-is J, (few J w.limits).filled)
