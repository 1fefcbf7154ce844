-- What the step of an opener or a closer gives: a segment, or nothing where the loop has none.
use Prim.Native.Nat.{ℕ}
use mathlib.Core.Bool.{Bool}
use mathlib.Core.List.{List, []}
use Rattle.std.specs.Prelude.{Option, None, Some}
use lib.ListN.{get_or}
use Rattle.format.specs.Spec.{Control}
use Rattle.format.specs.Job.{Job}
use Rattle.format.specs.Ask.{loop_of}
use Rattle.segment.specs.Parts.{pick}
use Rattle.nest.specs.Lists.{on}
use Rattle.emit.specs.Puts.{Put}
use Rattle.emit.specs.Envelope.{opener_put, closer_put, control_in}
use Rattle.emit.specs.Fold as F
use Rattle.emit.specs.Fold.{opener_out, closer_out}

-- P holds of it where it holds of nothing and of each segment whose parts, findings and entries are so (Q)
module _ (j : Job) (l : ℕ) (s : F.State) (P : F.Out → Type 0) (Q : Put → Type 0)
    (segment : (id : List ℕ) (p : Put) (t : F.State) → Q p → P (F.segment_out j id p.parts p.findings p.entries None t)) (nothing : P (F.quiet s)) where
  pub opener_is : ((c : Control) → Q (opener_put j l c (get_or s.counter l 0))) → P (opener_out j l s)
  unfolding opener_out
  opener_is h = go (loop_of j l).control
    where
      go : (x : Option Control) → P (on x (λ c.
          let p = opener_put j l c (get_or s.counter l 0) in
          F.segment_out j (loop_of j l).trigger p.parts p.findings p.entries None (F.counter_up l s)) (F.quiet s))
      go None = nothing
      go (Some c) = segment _ (opener_put j l c (get_or s.counter l 0)) _ (h c)

  pub closer_is : (opened : Bool) (children segments : ℕ) → ((c : Control) (control : List ℕ) (count : ℕ) → Q (closer_put c control count)) → P (closer_out j l opened children segments s)
  unfolding closer_out
  closer_is opened children segments h = go (loop_of j l).control (loop_of j l).end
    where
      go : (x : Option Control) (y : Option (List ℕ)) → P (on x (λ (c : Control). on y (λ id.
          let p = closer_put c (pick opened (control_in j l c (F.taken l s)) []) (F.count_of c.counted children segments) in
          F.segment_out j id p.parts p.findings p.entries None s) (F.quiet s)) (F.quiet s))
      go None y = nothing
      go (Some c) None = nothing
      go (Some c) (Some id) = segment id _ s (h c (pick opened (control_in j l c (F.taken l s)) []) (F.count_of c.counted children segments))
