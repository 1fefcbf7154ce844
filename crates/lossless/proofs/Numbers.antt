-- A closer tells the number that its loop's last opener took: `previous` of the next one.
use Prim.Native.Nat.{ℕ, ◌<◌, ◌^◌}
use mathlib.Core.Path.{◌≡◌, refl, sym, ap}
use mathlib.Core.List.{List}
use native.Mathlib.Omega.{arith}
use Rattle.std.specs.Prelude.{Option, None, Some, ◌≢◌}
use lib.ListN.{length, get_or, set}
use lib.Seq.{get_or-set_same, get_or-set_other}
use Rattle.format.specs.Spec.{Control}
use Rattle.format.specs.Job.{Job}
use Rattle.format.specs.Ask.{loop_of}
use Rattle.nest.specs.Lists.{on}
use Rattle.walk.specs.Tour.{Step, enters, stop, opener, row_segment, fill, chunk, closer}
use Rattle.emit.specs.Fold.{next, previous}
use Rattle.lossless.specs.Due.{step_counters}

before_next : (n : ℕ) → n < 2 ^ 64 → previous (next n) ≡ n
before_next n h = omega (arith, h)

-- of the counters behind an opener's step
pub taken_again : (j : Job) (l : ℕ) (c : Control) (cs : List ℕ) → (loop_of j l).control ≡ Some c → l < length cs → get_or cs l 0 < 2 ^ 64
    → previous (get_or (step_counters j (opener l) cs) l 0) ≡ get_or cs l 0
unfolding step_counters
taken_again j l c cs e h k = rw (e, get_or-set_same cs l (next (get_or cs l 0)) 0 h) (before_next (get_or cs l 0) k)

other_opener : (l k : ℕ) (x : Option Control) (cs : List ℕ) → l ≢ k → get_or (on x (λ c. set cs k (next (get_or cs k 0))) cs) l 0 ≡ get_or cs l 0
other_opener l k None cs h = refl
other_opener l k (Some c) cs h = get_or-set_other cs k l (next (get_or cs k 0)) 0 h

pub kept_else : (j : Job) (l : ℕ) (x : Step) (cs : List ℕ) → x ≢ opener l → get_or (step_counters j x cs) l 0 ≡ get_or cs l 0
unfolding step_counters
kept_else j l (enters k) cs h = refl
kept_else j l (stop k t r) cs h = refl
kept_else j l (opener k) cs h = other_opener l k (loop_of j k).control cs (λ e. h (ap opener (sym e)))
kept_else j l (row_segment k i t r) cs h = refl
kept_else j l (fill k i t n r) cs h = refl
kept_else j l (chunk k i t rs) cs h = refl
kept_else j l (closer k o n m) cs h = refl
