-- How windows of 64 records make up the list of a job's findings.
use Prim.Native.Nat.{ℕ, zero, suc, ◌+◌, ◌-◌, ◌≤◌, ◌<◌, min}
use mathlib.Core.Path.{◌≡◌, refl, sym, ap, ◌∙◌}
use mathlib.Core.List.{List, [], ◌∷◌, ◌++◌, map, append_assoc}
use native.Mathlib.Omega.{arith}
use native.Mathlib.Nat.{add-zero, sub-zero, zero-sub, suc-sub-suc, not-suc-le-zero}
use lib.ListN.{length, get_or, set, take, drop, length-take, length-drop, length-map}
use lib.Seq.{sets, length-sets, sets-eq, take-nil, take-take, drop-drop}
use Rattle.std.proofs.lemmas.List.{take-map, drop-map, take_min, drop_min, drop-take}
use Rattle.std.proofs.lemmas.Grind.{common_steps}
use Rattle.finding.specs.declared.Finding.{Finding}
use Rattle.finding.specs.Records.{findings_in}
use Rattle.lent.proofs.Laws.{drop_take, sets_fits}
use Rattle.finding.proofs.Records.{records_in, no_records}
use Rattle.format.specs.Sections.{job_of}
use Rattle.nest.specs.Finding as N
use Rattle.nest.specs.Finding.{record_of}
use Rattle.nest.specs.Lists.{each}
use Rattle.nest.proofs.Findings.{record-length}
use Rattle.writer.specs.Result.{result_of}
use Rattle.writer.specs.Refused.{refusal}
use Rattle.writer.specs.Lists.{in_front, holding, unless_refused}
use Rattle.writer.specs.Answer.{Answered, values_of}
use Rattle.writer.specs.Numbers.{values_for}
use Rattle.writer.specs.Wrote.{window_from, WroteFrom}
use Rattle.baktuven.specs.Wrote.{finding_of, in_places, Wrote}
use Rattle.baktuven.specs.Windows.{blank, records_of, behind}
use Rattle.baktuven.proofs.Held.{lists_keep}

-- ---- lists

drop_all : {A : Type 0} (m n : ℕ) (xs : List A) → n ≤ m → drop m (take n xs) ≡ []
drop_all m n xs h = grind (arith, common_steps)

-- a list stored in two parts
in_parts : (f : List Finding) (p m : ℕ) (xs : List Finding) → sets (sets f p (take m xs)) (p + m) (drop m xs) ≡ sets f p xs
in_parts f p zero xs = rw add-zero
in_parts f p (suc m) [] = refl
in_parts f p (suc m) (x ∷ xs) = let e : p + suc m ≡ suc p + m = omega arith in rw e (in_parts (set f p x) (suc p) m xs)

-- ---- one window

-- numbers that begin with the records of xs
records_of_lem : (xs : List N.Finding) (r : List ℕ) (n : ℕ) → n ≤ length xs → findings_in (each record_of xs ++ r) 0 n ≡ map finding_of (take n xs)
records_of_lem xs r zero h = no_records _ 0
records_of_lem [] r (suc n) h = absurd (not-suc-le-zero h)
records_of_lem (x ∷ xs) r (suc n) h = rw (append_assoc (record_of x) (each record_of xs) r) (records_in (record_of x) (each record_of xs ++ r) n (record-length x) ∙ ap (λ (l : List Finding). finding_of x ∷ l) (records_of_lem xs r n (omega arith)))

window_at : (k room : ℕ) (w : List ℕ) (xs : List N.Finding) (from n : ℕ) → n ≤ room → from + n ≤ length (unless_refused k [] (map finding_of xs))
    → findings_in (unless_refused k w (holding room record_of (drop from xs) w)) 0 n ≡ take n (drop from (unless_refused k [] (map finding_of xs)))
unfolding holding in_front
window_at zero room w xs from n h q =
    let l = length-map xs finding_of in
    let d = length-drop from xs in
    let t = length-take room (drop from xs) in
    records_of_lem (take room (drop from xs)) _ n (omega (arith, l, d, t)) ∙ rw (take-take n room (drop from xs) h, drop-map finding_of from xs) (sym (take-map finding_of n (drop from xs)))
window_at (suc k) room w xs from zero h q = no_records w 0
window_at (suc k) room w xs from (suc n) h q = let z : suc n ≤ 0 = omega arith in absurd (not-suc-le-zero z)

-- the window from number `from` on holds the records from there on
pub window_records : (b : List ℕ) (from n : ℕ) → n ≤ 64 → from + n ≤ length (records_of b) → findings_in (window_from b from blank) 0 n ≡ take n (drop from (records_of b))
unfolding window_from records_of
window_records b from n h q = window_at (refusal b) 64 blank (result_of (job_of b)).findings from n h q

-- ---- how many there are

found_at : (k : ℕ) (xs : List N.Finding) (a c d : ℕ) → get_or (unless_refused k [] (a ∷ c ∷ length xs ∷ d ∷ [])) 2 0 ≡ length (unless_refused k [] (map finding_of xs))
found_at zero xs a c d = sym (length-map xs finding_of)
found_at (suc k) xs a c d = refl

pub found_all : (b : List ℕ) → get_or (values_for b) 2 0 ≡ length (records_of b)
unfolding values_for records_of
found_all b = found_at (refusal b) (result_of (job_of b)).findings _ _ _

-- ---- the windows behind the first

-- the part of a list from place p on, up to a later place, and n more
next_part : (f xs : List Finding) (p m n : ℕ) → sets (sets f p (behind p (p + m) xs)) (p + m) (take n (drop (p + m) xs)) ≡ sets f p (behind p (p + m + n) xs)
next_part f xs p m n =
    let t = take-take (p + m) (p + m + n) xs (omega arith) in
    let e = in_parts f p m (behind p (p + m + n) xs) in
    grind (arith, drop-take, drop-drop, t, e)

-- one window more is stored
pub next_window : (f xs : List Finding) (from n : ℕ) → 64 ≤ from → sets (sets f 64 (behind 64 from xs)) from (take n (drop from xs)) ≡ sets f 64 (behind 64 (from + n) xs)
next_window f xs from n h = let e : 64 + (from - 64) ≡ from = omega arith in rw e at (next_part f xs 64 (from - 64) n)

-- ---- the whole list

all_behind : (f xs : List Finding) (end : ℕ) → end ≡ min (length xs) (length f) → sets f 64 (behind 64 end xs) ≡ sets f 64 (drop 64 xs)
all_behind f xs end e =
    let q : end ≡ min (length f) (length xs) = omega arith in
    rw (q, take_min (length f) xs, drop_take 64 (length f) xs) (sets_fits f 64 (drop 64 xs) (length f - 64) (omega arith))

all_stored : (f xs : List Finding) (n : ℕ) → n ≡ min (length xs) 64 → sets (sets f 0 (take n xs)) 64 (drop 64 xs) ≡ sets f 0 xs
all_stored f xs n e = let q : n ≡ min 64 (length xs) = omega arith in rw (q, take_min 64 xs) (in_parts f 0 64 xs)

sets_front : (f xs : List Finding) → sets f 0 xs ≡ in_places xs f
sets_front f xs =
    let l = length-take (length f) xs in
    let m : 0 + length (take (length f) xs) ≡ min (length xs) (length f) = omega (arith, l) in
    rw (← sets_fits f 0 xs (length f) (omega arith), sets-eq (take (length f) xs) f 0 (omega (arith, l)), m, drop_min)

pub whole : (f xs : List Finding) (n end : ℕ) → n ≡ min (length xs) 64 → end ≡ min (length xs) (length f) → sets (sets f 0 (take n xs)) 64 (behind 64 end xs) ≡ in_places xs f
whole f xs n end e e' = rw (all_behind (sets f 0 (take n xs)) xs end (rw length-sets e'), all_stored f xs n e, sets_front f xs)

-- ---- by the refusal

in_places_at : (k : ℕ) (xs f : List Finding) → in_places (unless_refused k [] xs) f ≡ unless_refused k f (in_places xs f)
in_places_at zero xs f = refl
in_places_at (suc k) xs f = rw (take-nil (length f)) refl

pub in_places_lem : (b : List ℕ) (f : List Finding) → in_places (records_of b) f ≡ unless_refused (refusal b) f (in_places (map finding_of (result_of (job_of b)).findings) f)
unfolding records_of
in_places_lem b f = in_places_at (refusal b) _ f

-- ---- the loop over the windows behind the first

-- nothing yet
pub none_stored : (ys xs : List Finding) (end : ℕ) → ys ≡ sets ys 64 (behind 64 (min 64 end) xs)
none_stored ys xs end = rw (drop_all 64 (min 64 end) xs (omega arith))

-- one turn
pub turn_stored : (b ws : List ℕ) (ys zs zs' : List Finding) (from end r : ℕ) → 64 ≤ from → from < end → end ≤ length (records_of b)
    → ws ≡ window_from b from blank → r ≡ min (end - from) 64 → zs' ≡ sets zs from (findings_in ws 0 r) → zs ≡ sets ys 64 (behind 64 (min from end) (records_of b))
    → zs' ≡ sets ys 64 (behind 64 (min (from + 64) end) (records_of b))
turn_stored b ws ys zs zs' from end r h small q e₁ e₂ e₃ e₄ =
    let reached : min from end ≡ from = omega arith in
    let next : min (from + 64) end ≡ from + r = omega arith in
    rw (e₃, e₁, window_records b from r (omega arith) (omega arith), next, e₄, reached) (next_window ys (records_of b) from r h)

-- all of them
pub last_stored : (ys zs xs : List Finding) (from end : ℕ) → end ≤ from → zs ≡ sets ys 64 (behind 64 (min from end) xs) → zs ≡ sets ys 64 (behind 64 end xs)
last_stored ys zs xs from end h e = let m : min from end ≡ end = omega arith in rw m at e

-- the first window, and the windows behind it
pub all_in_places : (b ws : List ℕ) (ys zs us : List Finding) (n r end : ℕ) → n ≡ length (records_of b) → ws ≡ window_from b 0 blank → r ≡ min n 64 → end ≡ min n (length ys)
    → zs ≡ sets ys 0 (findings_in ws 0 r) → us ≡ sets zs 64 (behind 64 end (records_of b)) → us ≡ in_places (records_of b) ys
all_in_places b ws ys zs us n r end e₁ e₂ e₃ e₄ e₅ e₆ =
    rw (e₆, e₅, e₂, window_records b 0 r (omega arith) (omega arith)) (whole ys (records_of b) r end (omega arith) (omega arith))

-- ---- what is promised

-- the count that the answer tells is that of the records
pub found_of : (b : List ℕ) (a : Answered) (n : ℕ) → values_of a ≡ values_for b → n ≡ get_or (values_of a) 2 0 → n ≡ length (records_of b)
found_of b a n e e' = rw (e', e) (found_all b)

-- with the findings in their places the promise is whole
pub wrote : (b d d' g g' w w' p p' : List ℕ) (f f' : List Finding) (a : Answered) → WroteFrom b d d' g g' w w' p p' 0 (length f) a → f' ≡ in_places (records_of b) f → Wrote b d d' g g' f f' p p' a
wrote b d d' g g' w w' p p' f f' a h e = record {
  number = h.number;
  values = h.values;
  document = h.document;
  segments = h.segments;
  findings = e ∙ in_places_lem b f;
  stops = h.stops;
  nothing_lost = h.nothing_lost;
  nothing_lost_in = λ z. rw h.values (lists_keep b d d' g g' p p' f f' (sym h.number ∙ z) h.document h.segments (e ∙ in_places_lem b f) h.stops h.nothing_lost);
}
