-- A closer tells the number that its loop's last opener took (docs/RULES.md, "Closers"). `closer_due` writes the number before the loop's next one; of
-- the counters behind an opener's step that is the number that the opener took, and no other step changes it.
use Rattle.std.specs.Prelude.{ℕ, ◌<◌, ◌^◌, ◌≡◌, ◌≢◌, List, length, get_or, Some}
use Rattle.format.specs.Spec.{Control}
use Rattle.format.specs.Job.{Job}
use Rattle.format.specs.Ask.{loop_of}
use Rattle.walk.specs.Tour.{Step, opener}
use Rattle.emit.specs.Fold.{previous}
use Rattle.lossless.specs.Due.{step_counters}

pub record ClosersNumber : Type 0 where
  -- behind an opener of loop l the number before the loop's next one is the number that the opener took
  pub taken : (j : Job) (l : ℕ) (c : Control) (cs : List ℕ) → (loop_of j l).control ≡ Some c → l < length cs → get_or cs l 0 < 2 ^ 64
      → previous (get_or (step_counters j (opener l) cs) l 0) ≡ get_or cs l 0
  -- a step that is no opener of loop l leaves that loop's next number as it is
  pub kept : (j : Job) (l : ℕ) (x : Step) (cs : List ℕ) → x ≢ opener l → get_or (step_counters j x cs) l 0 ≡ get_or cs l 0
