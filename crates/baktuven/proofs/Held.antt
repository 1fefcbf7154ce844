-- Where every list is long enough, what a caller reads from them is what the job comes to.
use Prim.Native.Nat.{ℕ, zero, suc, ◌≤◌}
use mathlib.Core.Path.{◌≡◌, refl, sym, ap, ap₂, ◌∙◌}
use mathlib.Core.Bool.{Bool, true, false, ◌||◌, true≢false}
use mathlib.Core.List.{List, [], ◌∷◌, ◌++◌, map, append_assoc}
use native.Mathlib.Omega.{arith}
use Rattle.std.specs.Prelude.{Option, None, Some}
use lib.ListN.{length, get_or, take, drop, length-map}
use lib.Dec.{ltb}
use lib.Seq.{take_at}
use borrow.Author.Tests.{ltb-false}
use Rattle.std.proofs.lemmas.Grind.{common_steps}
use Rattle.finding.specs.declared.Finding.{Finding}
use Rattle.codec.specs.Codec.{pick}
use Rattle.format.specs.Sections.{job_of}
use Rattle.nest.specs.Lists.{each}
use Rattle.nest.specs.Finding as N
use Rattle.nest.specs.Finding.{record_of}
use Rattle.walk.specs.Tour.{Stop}
use Rattle.emit.specs.Fold.{Traced}
use Rattle.emit.specs.Words.{row_words, traced_word, stop_word}
use Rattle.lossless.specs.Separators.{kinds_of}
use Rattle.writer.specs.Result.{Result, result_of, counts_of, ResultKept}
use Rattle.writer.specs.Refused.{first_of, refusal}
use Rattle.writer.specs.Lists.{in_front, holding, unless_refused}
use Rattle.writer.specs.Numbers.{threes, short, number_for, values_for}
use Rattle.baktuven.specs.Held.{source_from, segments_from, stops_from, NothingLostIn}
use Rattle.baktuven.specs.Wrote.{finding_of, in_places}

-- ---- one list

take_whole : {A : Type 0} (n : ℕ) (xs : List A) → length xs ≤ n → take n xs ≡ xs
take_whole n xs h = grind (arith, common_steps)

-- a document that fits
document_read : (xs d : List ℕ) → length xs ≤ length d → take (length xs) (in_front (take (length d) xs) d) ≡ xs
unfolding in_front
document_read xs d h = rw (take_whole (length d) xs h) (take_at xs (drop (length xs) d) (length xs) refl)

row_read : (e : ℕ) (r : Option (ℕ × ℕ)) (rest : List ℕ) → source_from (get_or ((e ∷ row_words r) ++ rest) 1 0) (get_or ((e ∷ row_words r) ++ rest) 2 0) ≡ r
row_read e None rest = refl
row_read e (Some x) rest = refl

row_behind : (e : ℕ) (r : Option (ℕ × ℕ)) (rest : List ℕ) → drop 3 ((e ∷ row_words r) ++ rest) ≡ rest
row_behind e None rest = refl
row_behind e (Some x) rest = refl

segments_read : (n : ℕ) (xs : List Traced) (rest : List ℕ) → n ≡ length xs → segments_from n (each traced_word xs ++ rest) ≡ xs
unfolding segments_from
segments_read zero [] rest e = refl
segments_read zero (x ∷ xs) rest e = let z : ⊥ = omega (arith, e) in absurd z
segments_read (suc n) [] rest e = let z : ⊥ = omega (arith, e) in absurd z
segments_read (suc n) (x ∷ xs) rest e =
    let behind : List ℕ = each traced_word xs ++ rest in
    rw (append_assoc (traced_word x) (each traced_word xs) rest)
    (ap₂ (λ (r : Option (ℕ × ℕ)) (w : List ℕ). record { entry = x.entry; row = r } ∷ segments_from n w) (row_read x.entry x.row behind) (row_behind x.entry x.row behind)
    ∙ ap (λ (l : List Traced). x ∷ l) (segments_read n xs rest (omega (arith, e))))

stops_read : (n : ℕ) (xs : List Stop) (rest : List ℕ) → n ≡ length xs → stops_from n (each stop_word xs ++ rest) ≡ xs
unfolding stops_from
stops_read zero [] rest e = refl
stops_read zero (x ∷ xs) rest e = let z : ⊥ = omega (arith, e) in absurd z
stops_read (suc n) [] rest e = let z : ⊥ = omega (arith, e) in absurd z
stops_read (suc n) (x ∷ xs) rest e = ap (λ (l : List Stop). x ∷ l) (stops_read n xs rest (omega (arith, e)))

segments_held : (xs : List Traced) (room : ℕ) (g : List ℕ) → length xs ≤ room → segments_from (length xs) (holding room traced_word xs g) ≡ xs
unfolding holding in_front
segments_held xs room g h = rw (take_whole room xs h) (segments_read (length xs) xs _ refl)

stops_held : (xs : List Stop) (room : ℕ) (p : List ℕ) → length xs ≤ room → stops_from (length xs) (holding room stop_word xs p) ≡ xs
unfolding holding in_front
stops_held xs room p h = rw (take_whole room xs h) (stops_read (length xs) xs _ refl)

kinds_read : (xs : List N.Finding) → map (λ (x : Finding). x.kind) (map finding_of xs) ≡ kinds_of xs
kinds_read [] = refl
kinds_read (x ∷ xs) = ap (λ (l : List ℕ). get_or (record_of x) 0 0 ∷ l) (kinds_read xs)

kinds_held : (xs : List N.Finding) (f : List Finding) → length xs ≤ length f → map (λ (x : Finding). x.kind) (take (length xs) (in_places (map finding_of xs) f)) ≡ kinds_of xs
kinds_held xs f h =
    let l : length (map finding_of xs) ≡ length xs = length-map xs finding_of in
    rw (take_whole (length f) (map finding_of xs) (omega (arith, l)), take_at (map finding_of xs) (drop (length (map finding_of xs)) f) (length xs) l) (kinds_read xs)

-- ---- the four

record Fits (r : Result) (d g f p : ℕ) : Type 0 where
  bytes : length r.bytes ≤ d
  segments : length r.segments ≤ g
  findings : length r.findings ≤ f
  stops : length r.stops ≤ p

neither : (x y : Bool) → x || y ≡ false → (x ≡ false) × (y ≡ false)
neither true y e = absurd (true≢false e)
neither false y e = (refl, e)

not_short : (r : Result) (d g f p : ℕ) → short r d g f p ≡ false → Fits r d g f p
not_short r d g f p e =
    let a = neither _ _ e in
    let b = neither _ _ a.1 in
    let c = neither _ _ b.1 in
    record { bytes = ltb-false _ _ a.0; segments = ltb-false _ _ b.0; findings = ltb-false _ _ c.0; stops = ltb-false _ _ c.1 }

-- an answer 0: not refused, and every list is long enough
finished : (n : ℕ) (x : Bool) → first_of n (pick x 7 0) ≡ 0 → (n ≡ 0) × (x ≡ false)
finished zero true e = let z : ⊥ = omega (arith, e) in absurd z
finished zero false e = (refl, refl)
finished (suc k) x e = let z : ⊥ = omega (arith, e) in absurd z

pub lists_keep : (b d d' g g' p p' : List ℕ) (f f' : List Finding) → number_for b (length d) (threes g) (length f) (threes p) ≡ 0
    → d' ≡ unless_refused (refusal b) d (in_front (take (length d) (result_of (job_of b)).bytes) d)
    → g' ≡ unless_refused (refusal b) g (holding (threes g) traced_word (result_of (job_of b)).segments g)
    → f' ≡ unless_refused (refusal b) f (in_places (map finding_of (result_of (job_of b)).findings) f)
    → p' ≡ unless_refused (refusal b) p (holding (threes p) stop_word (result_of (job_of b)).stops p)
    → (refusal b ≡ 0 → ResultKept (job_of b) (result_of (job_of b)))
    → NothingLostIn (job_of b) (values_for b) d' g' f' p'
unfolding number_for values_for
lists_keep b d d' g g' p p' f f' n ed eg ef ep kept =
    let r : Result = result_of (job_of b) in
    let k = finished (refusal b) (short r (length d) (threes g) (length f) (threes p)) n in
    let fits = not_short r (length d) (threes g) (length f) (threes p) k.1 in
    rw (ed, eg, ef, ep, k.0, document_read r.bytes d fits.bytes, segments_held r.segments (threes g) g fits.segments, kinds_held r.findings f fits.findings, stops_held r.stops (threes p) p fits.stops)
    (kept k.0)
