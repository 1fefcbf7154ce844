-- The closer, one law for each way.
use Prim.Native.Nat.{ℕ}
use mathlib.Core.Path.{◌≡◌, sym, ◌∙◌}
use mathlib.Core.Bool.{Bool}
use mathlib.Core.List.{List, []}
use Rattle.std.specs.Prelude.{Option, None, Some}
use lib.ListN.{get_or}
use Rattle.format.specs.Spec.{Control}
use Rattle.format.specs.Job.{Job}
use Rattle.format.specs.Ask.{loop_of, min_of}
use Rattle.spec.specs.declared.ids.Stretch.{Stretch}
use Rattle.spec.specs.declared.ids.ControlRule.{ControlRule}
use Rattle.spec.specs.Answers.{stretch_of, text_of, rule_of, control_of}
use Rattle.segment.specs.Parts.{pick}
use Rattle.texts.specs.Pad.{control_text}
use Rattle.emit.specs.Envelope.{closer_put, control_in}
use Rattle.emit.specs.Fold as F
use Rattle.emit.specs.Fold.{Out, quiet, segment_out, closer_out, opener_out, previous, count_of}

pub control_is : (j : Job) (l opener number : ℕ) (trigger text : List ℕ) (min : Option ℕ) → trigger ≡ (loop_of j l).trigger → min ≡ min_of j trigger opener → text ≡ control_text number min
    → (k : Control) → k.opener ≡ opener → text ≡ control_in j l k number
unfolding control_in
control_is j l opener number trigger text min e f g k h = g ∙ rw (f, e, h)

module _ (j : Job) (l : ℕ) (opened : Bool) (children count : ℕ) (s : F.State) where
  pub close_uncontrolled : (loop_of j l).control ≡ None → closer_out j l opened children count s ≡ quiet s
  unfolding closer_out
  close_uncontrolled e = rw e

  pub close_endless : (c : Control) → (loop_of j l).control ≡ Some c → (loop_of j l).end ≡ None → closer_out j l opened children count s ≡ quiet s
  unfolding closer_out
  close_endless c e f = rw (e, f)

  pub close_is : (c : Control) (id control : List ℕ) (number n : ℕ) → (loop_of j l).control ≡ Some c → (loop_of j l).end ≡ Some id → get_or s.counter l 0 ≡ number → control ≡ pick opened (control_in j l c (previous number)) [] → n ≡ count_of c.counted children count
      → closer_out j l opened children count s ≡ segment_out j id (closer_put c control n).parts (closer_put c control n).findings (closer_put c control n).entries None s
  unfolding closer_out
  close_is c id control number n e f q g h = rw (e, f, q, g, h)

-- ---- what an answer says, by its case

module _ (b : List ℕ) (x : Option Stretch) (v : Option (List ℕ)) (e : text_of b x ≡ v) where
  pub text_gone : x ≡ None → v ≡ None
  text_gone q = sym e ∙ rw q

  pub text_there : (s : Stretch) → x ≡ Some s → v ≡ Some (stretch_of b s)
  text_there s q = sym e ∙ rw q

module _ (x : Option ControlRule) (v : Option Control) (e : control_of x ≡ v) where
  pub control_gone : x ≡ None → v ≡ None
  control_gone q = sym e ∙ rw q

  pub control_there : (c : ControlRule) → x ≡ Some c → v ≡ Some (rule_of c)
  control_there c q = sym e ∙ rw q
