-- The answer and the lists, a law for each way through the code.
use Prim.Native.Nat.{ℕ, zero, suc, ◌≤◌, ◌<◌}
use mathlib.Core.Path.{◌≡◌, refl, sym}
use mathlib.Core.Bool.{Bool, true, false}
use mathlib.Core.List.{List, []}
use native.Mathlib.Omega.{arith}
use lib.ListN.{length, take, drop}
use borrow.Author.Tests.{lt-ltb, le-ltb}
use Rattle.codec.specs.Codec.{pick}
use Rattle.format.specs.Sections.{spoilt, decode, job_of}
use Rattle.format.proofs.Decoding.{decode_read}
use Rattle.format.specs.Refusal.{refusal_of}
use Rattle.format.specs.Passed.{Passed}
use Rattle.format.proofs.Passed.{passed, refused_not}
use Rattle.nest.specs.OfJob.{outline_of}
use Rattle.nest.specs.Finding.{record_of}
use Rattle.walk.specs.Tour.{census}
use Rattle.emit.specs.Words.{traced_word, stop_word}
use Rattle.lossless.proofs.Theorem.{nothing_lost}
use Rattle.std.specs.Prelude.{Some, Err}
use Rattle.std.proofs.lemmas.Option.{none-some}
use Rattle.refusal.specs.declared.Refusal.{Refusal}
use Rattle.refusal.specs.declared.Refusal.TheVariants as refusal
use Rattle.refusal.specs.Answer.{number}
use Rattle.writer.specs.declared.Refused.TheVariants.{Job}
use Rattle.writer.specs.Answer.{Answered, number_of, values_of}
use Rattle.writer.specs.Result.{result_of, ResultKept, counts_of}
use Rattle.writer.specs.Refused.{first_of, crowded, refusal}
use Rattle.writer.specs.Lists.{in_front, holding}
use Rattle.writer.specs.Numbers.{threes, short, number_for, values_for}
use Rattle.writer.specs.Wrote.{tens, window_from, WroteFrom}

-- ---- the refusal

pub refused_low : (b : List ℕ) (k : ℕ) → refusal_of b ≡ suc k → refusal b ≡ suc k
unfolding refusal
refused_low b k h = rw h

pub refused_6 : (b : List ℕ) → refusal_of b ≡ 0 → 65536 < census (outline_of (job_of b)) → refusal b ≡ 6
unfolding refusal crowded
refused_6 b h i = rw (h, lt-ltb _ _ i)

pub refused_none : (b : List ℕ) → refusal_of b ≡ 0 → census (outline_of (job_of b)) ≤ 65536 → refusal b ≡ 0
unfolding refusal crowded
refused_none b h i = rw (h, le-ltb _ _ i)

-- a job that passed has none from 1 to 5
pub passed_refusal : (b : List ℕ) → Passed b → refusal_of b ≡ 0
unfolding decode
passed_refusal b p = refused_not b p.read.sound unspoilt p.limits p.forest p.fit
  where
    go : (x : Bool) → spoilt b ≡ x → decode b ≡ Some (job_of b) → x ≡ false
    go false q e = refl
    go true q e = absurd (none-some _ (rw (p.read.sound, q) at e))

    unspoilt : spoilt b ≡ false
    unspoilt = go (spoilt b) refl (decode_read b (job_of b) p.read)

-- ---- nothing is lost

kept : (b : List ℕ) → refusal b ≡ 0 → ResultKept (job_of b) (result_of (job_of b))
unfolding refusal result_of
kept b h = nothing_lost b (passed b (go (refusal_of b) refl h))
  where
    go : (n : ℕ) → refusal_of b ≡ n → first_of n (pick (crowded (job_of b)) 6 0) ≡ 0 → refusal_of b ≡ 0
    go zero e h = e
    go (suc k) e h = let z : ⊥ = omega (arith, h) in absurd z

-- ---- a refused job

pub wrote_refused : {b d g w p : List ℕ} {from room : ℕ} (k : ℕ) (a : Answered) → refusal b ≡ suc k → number_of a ≡ suc k → values_of a ≡ [] → WroteFrom b d d g g w w p p from room a
unfolding number_for values_for window_from
wrote_refused {b} k a h n v = record { number = rw h n; values = rw h v; document = rw h; segments = rw h; findings = rw h; stops = rw h; nothing_lost = kept b }

-- one that is refused for itself
pub wrote_not : {b d g w p : List ℕ} {from room : ℕ} (r : Refusal) → number r ≡ refusal_of b → WroteFrom b d d g g w w p p from room (Err (Job r))
wrote_not refusal.Size h = wrote_refused 0 _ (refused_low _ 0 (sym h)) refl refl
wrote_not refusal.Structure h = wrote_refused 1 _ (refused_low _ 1 (sym h)) refl refl
wrote_not refusal.Limit h = wrote_refused 2 _ (refused_low _ 2 (sym h)) refl refl
wrote_not refusal.Loops h = wrote_refused 3 _ (refused_low _ 3 (sym h)) refl refl
wrote_not refusal.Text h = wrote_refused 4 _ (refused_low _ 4 (sym h)) refl refl

-- ---- a job that passes

pub wrote_all : {b d d' g g' w w' p p' : List ℕ} {from room : ℕ} (a : Answered) → refusal b ≡ 0
    → number_of a ≡ pick (short (result_of (job_of b)) (length d) (threes g) room (threes p)) 7 0 → values_of a ≡ counts_of (result_of (job_of b))
    → d' ≡ in_front (take (length d) (result_of (job_of b)).bytes) d
    → g' ≡ holding (threes g) traced_word (result_of (job_of b)).segments g
    → w' ≡ holding (tens w) record_of (drop from (result_of (job_of b)).findings) w
    → p' ≡ holding (threes p) stop_word (result_of (job_of b)).stops p
    → WroteFrom b d d' g g' w w' p p' from room a
unfolding number_for values_for window_from
wrote_all {b} a h n v d g w p = record { number = rw h n; values = rw h v; document = rw h d; segments = rw h g; findings = rw h w; stops = rw h p; nothing_lost = kept b }
