-- How long the identifier of a trigger is; what an opener comes to.
use Prim.Native.Nat.{ℕ, ◌≤◌}
use mathlib.Core.Path.{◌≡◌, refl, sym}
use mathlib.Core.List.{List}
use native.Mathlib.Omega.{arith}
use Rattle.std.specs.Prelude.{None, Some}
use lib.ListN.{get_or, set}
use Rattle.format.specs.Spec.{Control}
use Rattle.format.specs.Job.{Job}
use Rattle.format.specs.Sections.{job_of}
use Rattle.format.specs.Passed.{Passed}
use Rattle.format.specs.Ask.{loop_of}
use Rattle.lent.specs.Fit.{more}
use Rattle.spec.specs.declared.ids.Stretch.{Stretch}
use Rattle.spec.specs.Answers.{Holds}
use Rattle.emit.specs.declared.state.Counts.{Counts}
use Rattle.emit.specs.declared.state.State.{State}
use Rattle.emit.specs.declared.state.From.TheVariants.{Envelope}
use Rattle.emit.specs.Envelope.{opener_put}
use Rattle.emit.specs.Fold as F
use Rattle.emit.specs.Fold.{quiet, counter_up, segment_out, opener_out, next}
use Rattle.emit.specs.Did.{Mark, state_of, state_with, Did, DidNumber, Within, Finished}
use Rattle.emit.proofs.NameLaws.{trigger_short, holds_length}
use Rattle.emit.proofs.StateLaws.{number_in, number_up}
use Rattle.emit.proofs.StepLaws.{did_segment}
use Rattle.trigger.specs.declared.opener.Put as answer
use Rattle.trigger.specs.Drawn.{Opened}

-- the triggers of a job that passed have three bytes at most (refusal 5)
pub trigger_long : (b : List ℕ) → Passed b → (l : ℕ) (s : Stretch) → Holds b s (loop_of (job_of b) l).trigger → s.len ≤ 3
trigger_long b w l s h = omega (arith, holds_length b s _ h, trigger_short b w l)

-- ---- the opener

module _ (j : Job) (l : ℕ) (s : F.State) where
  pub open_uncontrolled : (loop_of j l).control ≡ None → opener_out j l s ≡ quiet s
  unfolding opener_out
  open_uncontrolled e = rw e

  open_is : (k : Control) (number : ℕ) → (loop_of j l).control ≡ Some k → number ≡ get_or s.counter l 0
      → opener_out j l s ≡ segment_out j (loop_of j l).trigger (opener_put j l k number).parts (opener_put j l k number).findings (opener_put j l k number).entries None (counter_up l s)
  unfolding opener_out
  open_is k number e f = rw (e, f)

-- the same counts, under other arrays
did_from : {o : F.Out} {s : Counts} {n : State} {h h' : List Mark} {c c' d d' g g' x x' p p' : List ℕ} → Did o (state_with h c s) n d d' g g' x x' p p' → Did o (state_with h' c' s) n d d' g g' x x' p p'
did_from y = record { state = y.state; document = y.document; segments = y.segments; findings = y.findings; stops = y.stops }

pub did_opener : {s n : Counts} {put : answer.Put} {d d' g g' f f' : List ℕ} (j : Job) (l : ℕ) (k : Control) (number : ℕ) (p : List ℕ) → (loop_of j l).control ≡ Some k → Within s
    → Opened j (loop_of j l).trigger (opener_put j l k number) s.bytes s.findings put d d' f f'
    → Finished Envelope put.entries put.bytes put.findings s n g g' → DidNumber l (opener_out j l) number (next number) s n d d' g g' f f' p p
did_opener {s} {n} {put} {d} {d'} {g} {g'} {f} {f'} j l k number p e h O z high counter b =
    let P = opener_put j l k number in
    let v : State = state_with high (set counter l number) s in
    let u : State = state_with high (set counter l (next number)) s in
    let X : Did (segment_out j (loop_of j l).trigger P.parts P.findings put.entries None (state_of u)) u (state_with high (set counter l (next number)) n) d d' g g' f f' p p =
    did_segment j (loop_of j l).trigger P.parts P.findings put.entries Envelope h O.bytes O.findings z high (set counter l (next number)) in
    let c : more (state_of v).entries put.entries ≡ more (state_of v).entries P.entries = sums (state_of v).entries put.entries P.entries O.entries in
    rw (open_is j l (state_of v) k number e (sym (number_in high counter l number s b)), ← c) (did_from (rw (number_up high counter l number s b (next number) refl) at X))
  where
    sums : (a n m : ℕ) → n ≡ more 0 m → more a n ≡ more a m
    sums a n m e = omega arith
