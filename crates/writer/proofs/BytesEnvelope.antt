-- How many bytes the trigger of an envelope loop and its closer have at most.
use Prim.Native.Nat.{ℕ, ◌+◌, ◌-◌, ◌^◌, ◌≤◌, ◌<◌}
use mathlib.Core.Path.{◌≡◌, refl}
use mathlib.Core.Bool.{Bool, true, false}
use mathlib.Core.List.{List, [], ◌∷◌}
use native.Mathlib.Omega.{arith}
use native.Mathlib.Nat.{mod-lt}
use Rattle.std.specs.Prelude.{Option, None, Some}
use lib.Dec.{leb, lit<}
use lib.ListN.{length, get_or}
use Rattle.format.specs.Spec.{Control, ElementDef, count_segments, count_children, Counted}
use Rattle.format.specs.Job.{Job}
use Rattle.format.specs.Refusal.{over}
use Rattle.format.specs.Ask.{loop_of, segment_def, depth_of, min_of}
use Rattle.texts.specs.Number.{count_text}
use Rattle.texts.specs.Pad.{control_text}
use Rattle.texts.proofs.Sizes.{count_length}
use Rattle.segment.specs.Parts.{pick}
use Rattle.nest.specs.Lists.{on, sum, All}
use Rattle.emit.specs.Puts.{Put, put_all}
use Rattle.emit.specs.Envelope.{put_element, control_in, opener_put, counted, closer_put}
use Rattle.emit.specs.Fold as F
use Rattle.emit.specs.Fold.{opener_out, closer_out}
use Rattle.writer.proofs.BytesSums.{sum_each_time}
use Rattle.writer.proofs.BytesSections.{spec_bytes, trigger_within, end_within}
use Rattle.writer.proofs.BytesSegments.{Bounded, text_bounded, all_bounded, segment_bytes_lem}
use Rattle.writer.proofs.BytesDefined.{Defined, defined, min_small, Controlled, control_small}
use Rattle.writer.proofs.BytesGiven.{zero_length, envelope_bytes, element_bounded}

module _ (j : Job) (fits : over j ≡ false) where
  control_length : (l : ℕ) (c : Control) (number : ℕ) → number < 2 ^ 64 → length (control_in j l c number) ≤ 275
  unfolding control_in control_text
  control_length l c number h =
      omega (arith, zero_length (min_of j (loop_of j l).trigger c.opener) (count_text number) (min_small j fits (loop_of j l).trigger c.opener), count_length number 20 (omega arith) (omega (arith, h)))

  pub opener_bytes : (l : ℕ) (s : F.State) → get_or s.counter l 0 < 2 ^ 64 → spec_bytes j ≤ 65512 → envelope_bytes j ≤ 65512 → length (on (segment_def j (loop_of j l).trigger) (λ d. d) []) ≤ 5461
      → length (opener_out j l s).bytes ≤ 432000000
  unfolding opener_out opener_put
  opener_bytes l s h spec env few = go (loop_of j l).control
    where
      ds : List (ℕ × ElementDef)
      ds = on (segment_def j (loop_of j l).trigger) (λ d. d) []

      go : (x : Option Control) → length (on x (λ c.
          let p = opener_put j l c (get_or s.counter l 0) in
          F.segment_out j (loop_of j l).trigger p.parts p.findings p.entries None (F.counter_up l s)) (F.quiet s)).bytes ≤ 432000000
      go None = omega arith
      go (Some c) =
          let control : List ℕ = control_in j l c (get_or s.counter l 0) in
          let trigger : List ℕ = (loop_of j l).trigger in
          let f : ℕ × ElementDef → Put = put_element j trigger (depth_of j l) c.opener control in
          let b = all_bounded (Defined (spec_bytes j)) f (λ x. 65512 + 510) 255 (element_bounded j 65512 trigger (depth_of j l) c.opener control (omega arith) env spec (omega (arith, control_length l c (get_or s.counter l 0) h))) ds (defined j fits trigger) in
          omega (arith, segment_bytes_lem j trigger (put_all f ds) (sum (λ x. 65512 + 510) ds) 255 b, sum_each_time (65512 + 510) ds, few, trigger_within j l)

  counts_bounded : (c : Control) (control : List ℕ) (n : ℕ) → Controlled c → Bounded (closer_put c control n) (length control + length (count_text n) + 510) 255
  unfolding closer_put
  counts_bounded c control n h = go (leb c.count c.closer)
    where
      P : ℕ × List ℕ → Type 0
      P p = p.0 ≤ 255

      one : (p : ℕ × List ℕ) → P p → Bounded (counted c.closer p.0 p.1) (length p.1 + 255) 255
      one p q = let b = text_bounded p.0 255 None p.1 (omega arith) q in record { costs = b.costs; reaches = b.reaches }

      all : (ps : List (ℕ × List ℕ)) → All P ps → Bounded (put_all (λ (p : ℕ × List ℕ). counted c.closer p.0 p.1) ps) (sum (λ (p : ℕ × List ℕ). length p.1 + 255) ps) 255
      all ps g = all_bounded P (λ (p : ℕ × List ℕ). counted c.closer p.0 p.1) (λ (p : ℕ × List ℕ). length p.1 + 255) 255 one ps g

      go : (b : Bool) → Bounded (pick b (put_all (λ (p : ℕ × List ℕ). counted c.closer p.0 p.1) ((c.count, count_text n) ∷ (c.closer, control) ∷ [])) (put_all (λ (p : ℕ × List ℕ). counted c.closer p.0 p.1) ((c.closer, control) ∷ (c.count, count_text n) ∷ []))) (length control + length (count_text n) + 510) 255
      go true = let b = all ((c.count, count_text n) ∷ (c.closer, control) ∷ []) (h.count, (h.closer, tt)) in record { costs = omega (arith, b.costs); reaches = b.reaches }
      go false = let b = all ((c.closer, control) ∷ (c.count, count_text n) ∷ []) (h.closer, (h.count, tt)) in record { costs = omega (arith, b.costs); reaches = b.reaches }

  taken_small : (l : ℕ) (s : F.State) → F.taken l s < 2 ^ 64
  taken_small l s = mod-lt (get_or s.counter l 0 + (2 ^ 64 - 1)) (lit< tt)

  pub closer_bytes : (l : ℕ) (b : Bool) (n m : ℕ) (s : F.State) → n < 10 ^ 20 → m < 10 ^ 20 → spec_bytes j ≤ 65512 → length (closer_out j l b n m s).bytes ≤ 432000000
  unfolding closer_out
  closer_bytes l b n m s hn hm spec = go (loop_of j l).control refl (loop_of j l).end refl
    where
      picked : (c : Control) (b : Bool) → length (pick b (control_in j l c (F.taken l s)) []) ≤ 275
      picked c true = control_length l c (F.taken l s) (taken_small l s)
      picked c false = omega arith

      count : (k : Counted) → length (count_text (F.count_of k n m)) ≤ 20
      count count_segments = count_length m 20 (omega arith) hm
      count count_children = count_length n 20 (omega arith) hn

      go : (x : Option Control) → (loop_of j l).control ≡ x → (y : Option (List ℕ)) → (loop_of j l).end ≡ y → length (on x (λ (c : Control). on y (λ id.
          let p = closer_put c (pick b (control_in j l c (F.taken l s)) []) (F.count_of c.counted n m) in
          F.segment_out j id p.parts p.findings p.entries None s) (F.quiet s)) (F.quiet s)).bytes ≤ 432000000
      go None e y q = omega arith
      go (Some c) e None q = omega arith
      go (Some c) e (Some id) q =
          let control : List ℕ = pick b (control_in j l c (F.taken l s)) [] in
          let k : ℕ = F.count_of c.counted n m in
          let ends : length id ≤ spec_bytes j = rw q at (end_within j l) in
          omega (arith, segment_bytes_lem j id (closer_put c control k) (length control + length (count_text k) + 510) 255 (counts_bounded c control k (control_small j fits l c e)), picked c b, count c.counted, ends)
