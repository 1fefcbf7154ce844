-- From the first state to the lists that hold the result, and from there to the answer.
use Prim.Native.Nat.{ℕ, ◌*◌, ◌-◌, ◌/◌, ◌≤◌}
use mathlib.Core.Path.{◌≡◌, refl, ap, ◌∙◌}
use mathlib.Core.Bool.{◌||◌}
use mathlib.Core.List.{List, [], ◌∷◌, ◌++◌}
use native.Mathlib.Omega.{arith}
use Rattle.std.specs.Prelude.{Option, None, Some}
use lib.ListN.{length, take, drop}
use lib.Seq.{sets}
use lib.Dec.{ltb}
use Rattle.codec.specs.Codec.{Bytes, pick}
use Rattle.lent.specs.Fit.{cap, placed}
use Rattle.lent.specs.Window.{base, Noted}
use Rattle.lent.proofs.Fit.{wide}
use Rattle.format.specs.Job.{Job}
use Rattle.format.specs.Sections.{job_of}
use Rattle.format.specs.Passed.{Passed}
use Rattle.nest.specs.Lists.{each}
use Rattle.nest.specs.Finding.{record_of}
use Rattle.nest.specs.NestFindings.{nest_findings}
use Rattle.nest.specs.OfJob.{outline_of}
use Rattle.nest.specs.Ready.{words}
use Rattle.nest.proofs.Findings.{record-length}
use Rattle.walk.specs.Tour.{Stop, tour, census}
use Rattle.emit.specs.declared.state.State.{State}
use Rattle.emit.specs.Fold as F
use Rattle.emit.specs.Written.{words_of}
use Rattle.emit.specs.Did.{state_of, traced_words, stop_words, Did, Small}
use Rattle.emit.specs.Words.{row_words, traced_word, stop_word}
use Rattle.emit.proofs.FindingLaws.{stored_findings}
use Rattle.lossless.specs.Due.{trace_list}
use Rattle.lossless.specs.NothingLost.{walked_out}
use Rattle.writer.specs.Answer.{Answered, number_of, values_of}
use Rattle.writer.specs.Result.{Result, result_of}
use Rattle.writer.specs.Numbers.{threes}
use Rattle.writer.specs.Wrote.{tens, WroteFrom}
use Rattle.writer.specs.Filled.{first_state, start_of, Filled}
use Rattle.writer.proofs.FrontLaws.{bytes_front, each_length, items_front, windowed, all_counted, all_noted}
use Rattle.writer.proofs.AnswerLaws.{refused_none, passed_refusal, wrote_all}
use Rattle.writer.proofs.Sizes as Z

-- ---- the first state

first_is : (j : Job) (n : ℕ) → state_of (first_state j.envelope.control_number n) ≡ F.start j
unfolding state_of
first_is j n = refl

pub first_small : (control n : ℕ) (s : State) → s ≡ first_state control n → n ≤ cap → Small s
first_small control n s e h = rw e (record { bytes = omega arith; segments = omega arith; findings = h; stops = omega arith })

-- nest's findings, and then the walk from the first state on, whose trace list is the one that counts by the sum
pub filled_by : {s r : State} {start : ℕ} {d d₁ g g₁ f f₁ f₂ p p₁ : List ℕ} (j : Job) (n : ℕ) → (walked_out j).segments ≡ trace_list j → length f ≤ wide → s ≡ first_state j.envelope.control_number n
    → Noted f start (words (nest_findings (outline_of j))) n f₁ → Did (F.steps_out j (tour (outline_of j)) (state_of s)) s r d d₁ g g₁ f₁ f₂ p p₁
    → Filled (result_of j) r start d d₁ g g₁ f f₂ p p₁
unfolding result_of words_of
filled_by j n exact h e nest did =
    let x = rw (e, first_is j n) at did in
    record { document = x.document; segments = rw exact at x.segments; findings = stored_findings (nest_findings (outline_of j)) _ h nest x.findings; stops = x.stops }

-- ---- the answer

traced_wide : (x : F.Traced) → length (traced_word x) ≡ 3
traced_wide x = go x.row
  where
    go : (r : Option (ℕ × ℕ)) → length (x.entry ∷ row_words r) ≡ 3
    go None = refl
    go (Some y) = refl

stop_wide : (x : Stop) → length (stop_word x) ≡ 3
stop_wide x = refl

third : (n m : ℕ) → n ≡ m * 3 → n / 3 ≡ m
third n m e = omega arith

tenth : (n m : ℕ) → n ≡ m * 10 → n / 10 ≡ m
tenth n m e = omega arith

-- the walk's count goes on from where it started
pub started : {r : Result} {s : State} {start : ℕ} {d d₁ g g₁ f f₁ p p₁ : List ℕ} (from : ℕ) → start ≡ start_of from → Filled r s start d d₁ g g₁ f f₁ p p₁ → start ≤ s.counts.findings
started from e w = omega (arith, w.findings.counted)

-- only the whole places were lent; the rest of each list comes behind them
pub wrote_filled : {b d d' g g₁ f f₁ p p₁ : List ℕ} {s : State} {start room : ℕ} (from : ℕ) (a : Answered) → Bytes b → Passed b → census (outline_of (job_of b)) ≤ 65536 → start ≡ start_of from
    → Filled (result_of (job_of b)) s start d d' (take (threes g * 3) g) g₁ (take (tens f * 10) f) f₁ (take (threes p * 3) p) p₁
    → (number_of a ≡ pick (ltb (length d) s.counts.bytes || (ltb (threes g) (s.counts.segments / 3) || (ltb room ((s.counts.findings - start) / 10) || ltb (threes p) (s.counts.stops / 3)))) 7 0)
    × (values_of a ≡ s.counts.bytes ∷ s.counts.segments / 3 ∷ (s.counts.findings - start) / 10 ∷ s.counts.stops / 3 ∷ [])
    → WroteFrom b d d' g (g₁ ++ drop (threes g * 3) g) f (f₁ ++ drop (tens f * 10) f) p (p₁ ++ drop (threes p * 3) p) from room a
unfolding traced_words words_of stop_words
wrote_filled {b} {d} {g = g} {f = f} {f₁ = f₁} {p = p} {s = s} {start = start} from a bs ok few e w ans =
    let r : Result = result_of (job_of b) in
    let z : Z.Small (job_of b) = Z.small b bs ok few in
    let lg : length (each traced_word r.segments) ≡ length r.segments * 3 = each_length traced_word 3 traced_wide r.segments in
    let lf : length (each record_of r.findings) ≡ length r.findings * 10 = each_length record_of 10 record-length r.findings in
    let lp : length (each stop_word r.stops) ≡ length r.stops * 3 = each_length stop_word 3 stop_wide r.stops in
    let low : start ≤ base = rw e (omega arith) in
    let cd : s.counts.bytes ≡ length r.bytes = all_counted z.bytes w.document in
    let cg : s.counts.segments / 3 ≡ length r.segments = third _ _ (all_counted (rw lg z.segments) w.segments ∙ lg) in
    let cf : (s.counts.findings - start) / 10 ≡ length r.findings = tenth _ _ (all_noted low (rw lf z.findings) w.findings ∙ lf) in
    let cp : s.counts.stops / 3 ≡ length r.stops = third _ _ (all_counted (rw lp z.stops) w.stops ∙ lp) in
    let in_window : f₁ ≡ placed base (take (tens f * 10) f) start (each record_of r.findings) = w.findings.stored in
    let wf : f₁ ≡ sets (take (tens f * 10) f) 0 (each record_of (drop from r.findings)) =
    in_window ∙ ap (λ (n : ℕ). placed base (take (tens f * 10) f) n (each record_of r.findings)) e ∙ windowed record_of record-length (take (tens f * 10) f) from r.findings z.findings in
    wrote_all a (refused_none b (passed_refusal b ok) few)
    (rw (cd, cg, cf, cp) at ans.0)
    (rw (cd, cg, cf, cp) at ans.1)
    (w.document.stored ∙ bytes_front d r.bytes)
    (rw w.segments.stored (items_front traced_word 3 traced_wide g (threes g) r.segments (omega arith)))
    (rw wf (items_front record_of 10 record-length f (tens f) (drop from r.findings) (omega arith)))
    (rw w.stops.stored (items_front stop_word 3 stop_wide p (threes p) r.stops (omega arith)))
