-- Every loop's next control number stays within 64 bits.
use Prim.Native.Nat.{ℕ, zero, suc, ◌+◌, ◌^◌, ◌<◌}
use mathlib.Core.List.{List, [], ◌∷◌}
use native.Mathlib.Nat.{mod-lt}
use Rattle.std.specs.Prelude.{Option, None, Some}
use lib.Dec.{lit<}
use lib.ListN.{get_or, set, replicate}
use Rattle.format.specs.Spec.{Control}
use Rattle.format.specs.Job.{Job}
use Rattle.format.specs.Ask.{loop_of}
use Rattle.segment.specs.Parts.{pick}
use Rattle.nest.specs.Lists.{on}
use Rattle.walk.specs.Tour.{Step, enters, stop, opener, row_segment, fill, chunk, closer}
use Rattle.emit.specs.Envelope.{opener_put, closer_put, control_in}
use Rattle.emit.specs.Fold as F
use Rattle.emit.specs.Fold.{stop_out, row_out, fill_out, chunk_out, opener_out, closer_out, step_out}

abbrev pub Counting : List ℕ → Type 0
Counting xs = (l : ℕ) → get_or xs l 0 < 2 ^ 64

set_counting : (xs : List ℕ) (i v : ℕ) → v < 2 ^ 64 → Counting xs → Counting (set xs i v)
set_counting [] i v h k l = k l
set_counting (x ∷ xs) zero v h k zero = h
set_counting (x ∷ xs) zero v h k (suc l) = k (suc l)
set_counting (x ∷ xs) (suc i) v h k zero = k zero
set_counting (x ∷ xs) (suc i) v h k (suc l) = set_counting xs i v h (λ m. k (suc m)) l

next_small : (n : ℕ) → F.next n < 2 ^ 64
next_small n = mod-lt (n + 1) (lit< tt)

pub step_counting : (j : Job) (x : Step) (s : F.State) → Counting s.counter → Counting (step_out j x s).state.counter
unfolding step_out stop_out row_out fill_out chunk_out opener_out closer_out
step_counting j (enters l) s h = h
step_counting j (stop l t r) s h = h
step_counting j (opener l) s h = go (loop_of j l).control
  where
    go : (x : Option Control) → Counting (on x (λ c.
        let p = opener_put j l c (get_or s.counter l 0) in
        F.segment_out j (loop_of j l).trigger p.parts p.findings p.entries None (F.counter_up l s)) (F.quiet s)).state.counter
    go None = h
    go (Some c) = set_counting s.counter l (F.next (get_or s.counter l 0)) (next_small (get_or s.counter l 0)) h
step_counting j (row_segment l i t r) s h = h
step_counting j (fill l i t k r) s h = h
step_counting j (chunk l i t rs) s h = h
step_counting j (closer l b n m) s h = go (loop_of j l).control (loop_of j l).end
  where
    go : (x : Option Control) (y : Option (List ℕ)) → Counting (on x (λ (c : Control). on y (λ id.
        let p = closer_put c (pick b (control_in j l c (F.taken l s)) []) (F.count_of c.counted n m) in
        F.segment_out j id p.parts p.findings p.entries None s) (F.quiet s)) (F.quiet s)).state.counter
    go None y = h
    go (Some c) None = h
    go (Some c) (Some id) = h

pub start_counting : (n k : ℕ) → n < 2 ^ 64 → Counting (replicate k n)
start_counting n zero h l = lit< tt
start_counting n (suc k) h zero = h
start_counting n (suc k) h (suc l) = start_counting n k h l
