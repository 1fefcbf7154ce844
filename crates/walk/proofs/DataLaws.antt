-- Whether there is data below an `Inside` loop, one law for each way that code takes.
use Prim.Native.Nat.{ℕ, suc, ◌+◌, ◌≤◌, ◌<◌}
use mathlib.Core.Path.{◌≡◌, refl}
use mathlib.Core.Bool.{Bool, true, false, ◌&&◌}
use lib.ListN.{length, drop, get_or}
use Rattle.nest.specs.Lists.{some_of, is}
use Rattle.nest.specs.UpTo.{up_to}
use Rattle.nest.specs.Outline.{Outline, inside_table, source_table, loop_of, kind_of, segment_of, planned}
use Rattle.nest.proofs.Scan.{up_to_all, some_at, some_not_at, some_past}
use Rattle.walk.specs.Instances.{own_data, has_data, shown}

-- ---- the loop's own segments from i on (then `some_yes`, `some_no`, `some_end`)

pub own_all : (j : Outline) (l t r : ℕ) → own_data j l t r ≡ some_of (λ i. is (source_table (segment_of j l i).source) t && j.filled l i t r) (up_to 0 (planned j l))
unfolding own_data
own_all j l t r = rw (up_to_all (planned j l))

-- ---- its children from place i on

abbrev pub data_in : Outline → ℕ → ℕ → ℕ → ℕ → Bool
data_in j h t r k = is (inside_table (kind_of j k)) t && has_data j h k t r

abbrev pub data_from : Outline → ℕ → ℕ → ℕ → ℕ → ℕ → Bool
data_from j h l t r i = some_of (data_in j h t r) (drop i (loop_of j l).children)

pub data-deep : (j : Outline) (l t r : ℕ) → has_data j 0 l t r ≡ false
unfolding has_data
data-deep j l t r = refl

pub data-own : (j : Outline) (h l t r : ℕ) → own_data j l t r ≡ true → has_data j (suc h) l t r ≡ true
unfolding has_data
data-own j h l t r e = rw e

pub data-below : (j : Outline) (h l t r : ℕ) → own_data j l t r ≡ false → has_data j (suc h) l t r ≡ data_from j h l t r 0
unfolding has_data
data-below j h l t r e = rw e

pub data-found : (j : Outline) (h l t r i : ℕ) → i < length (loop_of j l).children → data_in j h t r (get_or (loop_of j l).children i 0) ≡ true → data_from j h l t r i ≡ true
data-found j h l t r i b e = some_at (data_in j h t r) (loop_of j l).children i 0 b e

pub data-next : (j : Outline) (h l t r i : ℕ) → i < length (loop_of j l).children → data_in j h t r (get_or (loop_of j l).children i 0) ≡ false → data_from j h l t r i ≡ data_from j h l t r (i + 1)
data-next j h l t r i b e = some_not_at (data_in j h t r) (loop_of j l).children i 0 b e

pub data-end : (j : Outline) (h l t r i : ℕ) → length (loop_of j l).children ≤ i → data_from j h l t r i ≡ false
data-end j h l t r i b = some_past (data_in j h t r) (loop_of j l).children i b

-- ---- whether an `Inside` loop is shown

pub shown_required : (j : Outline) (l t r : ℕ) → (loop_of j l).required ≡ true → shown j l t r ≡ true
shown_required j l t r e = rw e

pub shown_data : (j : Outline) (l t r : ℕ) → (loop_of j l).required ≡ false → shown j l t r ≡ has_data j (length j.loops) l t r
shown_data j l t r e = rw e
