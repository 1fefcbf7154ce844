-- Laws of reading by place: one for each way through the code.
use Prim.Native.Nat.{ℕ, zero, suc, ◌+◌, ◌-◌, ◌≤◌, ◌<◌}
use mathlib.Core.Path.{◌≡◌, refl, sym, ap, ◌∙◌}
use mathlib.Core.Logic.{◌≢◌}
use mathlib.Core.Bool.{Bool, true, false}
use mathlib.Core.List.{List, [], ◌∷◌}
use native.Mathlib.Omega.{arith}
use native.Mathlib.Numerals.{add-one, sub-one}
use Rattle.std.specs.Prelude.{None, Some}
use lib.ListN.{length, get_or, take, drop, drop_of_length-le, length-drop}
use lib.Seq.{drop-cons, drop-drop, length-take-le}
use lib.Dec.{eqb}
use borrow.Author.Tests.{eq-eqb, ne_eqb}
use Rattle.segment.specs.declared.Separators.{Separators}
use Rattle.segment.specs.declared.read.SegmentAt.TheVariants.{Whole, Nameless, NoTerminator, NoLineFeed, End}
use Rattle.segment.specs.Joining.{line_feed}
use Rattle.segment.specs.Reading.{cut, ahead, ahead_at, feed, front, front_of, fronted, by_name}
use Rattle.segment.specs.Reader.{run, run_at}
use Rattle.segment.specs.Reading.Front.{unended}
use Rattle.segment.specs.ByPlace.{ending_of, starts_feed, named, placed, segment_at}
use Rattle.segment.proofs.Cuts.{cut_hit, cut_miss}
use Rattle.segment.proofs.OneReading.{front_ahead}

-- ---- the first place of a byte

-- what is left from a place within the document
left_from : (doc : List ℕ) (i : ℕ) → i < length doc → drop i doc ≡ get_or doc i 0 ∷ drop (i + 1) doc
left_from doc i h = drop-cons doc i 0 h ∙ ap (λ n. get_or doc i 0 ∷ drop n doc) (sym (add-one i))

run_here : (b : ℕ) (doc : List ℕ) (i : ℕ) → i < length doc → get_or doc i 0 ≡ b → run b (drop i doc) ≡ 0
unfolding run
run_here b doc i h e = rw (left_from doc i h, eq-eqb _ _ e)

run_next : (b : ℕ) (doc : List ℕ) (i : ℕ) → i < length doc → get_or doc i 0 ≢ b → run b (drop i doc) ≡ suc (run b (drop (i + 1) doc))
unfolding run
run_next b doc i h d = rw (left_from doc i h, ne_eqb _ _ d)

run_end : (b : ℕ) (doc : List ℕ) (i : ℕ) → length doc ≤ i → run b (drop i doc) ≡ 0
unfolding run
run_end b doc i h = ap (run b) (drop_of_length-le doc h)

-- what is left from i gives the same place as what is left from `at`
module _ (b : ℕ) (doc : List ℕ) (at i : ℕ) (same : at + run b (drop at doc) ≡ i + run b (drop i doc)) where
  pub found_here : i < length doc → get_or doc i 0 ≡ b → i ≡ at + run b (drop at doc)
  found_here h e = omega (arith, run_here b doc i h e)

  pub found_next : i < length doc → get_or doc i 0 ≢ b → at + run b (drop at doc) ≡ i + 1 + run b (drop (i + 1) doc)
  found_next h d = omega (arith, run_next b doc i h d)

  pub found_end : length doc ≤ i → i ≡ at + run b (drop at doc)
  found_end h = omega (arith, run_end b doc i h)

-- ---- the line feed

pub feed_end : (doc : List ℕ) (i : ℕ) → length doc ≤ i → starts_feed (drop i doc) ≡ false
unfolding starts_feed
feed_end doc i h = ap starts_feed (drop_of_length-le doc h)

pub feed_here : (doc : List ℕ) (i : ℕ) → i < length doc → starts_feed (drop i doc) ≡ eqb (get_or doc i 0) 10
unfolding starts_feed
feed_here doc i h = ap starts_feed (left_from doc i h)

-- ---- the identifier

module _ (b : ℕ) (doc : List ℕ) (at end next : ℕ) where
  pub name_nothing : at ≡ end → named (cut b (take (end - at) (drop at doc))).first end next ≡ Nameless end next
  unfolding cut
  name_nothing e = let z : end - at ≡ 0 = omega arith in rw z

  first_byte : at ≤ end → at ≢ end → end < length doc → take (end - at) (drop at doc) ≡ get_or doc at 0 ∷ take (end - at - 1) (drop (at + 1) doc)
  first_byte h d k = ap (take (end - at)) (left_from doc at (omega arith)) ∙ go (end - at) (omega arith)
    where
      go : (n : ℕ) → 0 < n → take n (get_or doc at 0 ∷ drop (at + 1) doc) ≡ get_or doc at 0 ∷ take (n - 1) (drop (at + 1) doc)
      go zero h = absurd (omega arith)
      go (suc n) h = rw sub-one

  pub name_none : at ≤ end → at ≢ end → end < length doc → get_or doc at 0 ≡ b → named (cut b (take (end - at) (drop at doc))).first end next ≡ Nameless end next
  name_none h d k e = rw (first_byte h d k, cut_hit b (get_or doc at 0) (take (end - at - 1) (drop (at + 1) doc)) e)

  pub name_some : at ≤ end → at ≢ end → end < length doc → get_or doc at 0 ≢ b → named (cut b (take (end - at) (drop at doc))).first end next ≡ Whole end next
  name_some h d k e = rw (first_byte h d k, cut_miss b (get_or doc at 0) (take (end - at - 1) (drop (at + 1) doc)) e)

-- ---- the segment

-- the first byte is at the place that `run` counts
ahead_some : (b : ℕ) (text : List ℕ) → run b text < length text → ahead b text ≡ Some (take (run b text) text, drop (suc (run b text)) text)
unfolding ahead run
ahead_some b [] h = absurd (omega arith)
ahead_some b (x ∷ xs) h = go (eqb x b) h (ahead_some b xs)
  where
    go : (t : Bool) → run_at t (run b xs) < suc (length xs) → (run b xs < length xs → ahead b xs ≡ Some (take (run b xs) xs, drop (suc (run b xs)) xs))
        → ahead_at t x xs (ahead b xs) ≡ Some (take (run_at t (run b xs)) (x ∷ xs), drop (suc (run_at t (run b xs))) (x ∷ xs))
    go true k ih = refl
    go false k ih = ap (ahead_at false x xs) (ih (omega arith))

ahead_none : (b : ℕ) (text : List ℕ) → length text ≤ run b text → ahead b text ≡ None
unfolding ahead run
ahead_none b [] h = refl
ahead_none b (x ∷ xs) h = go (eqb x b) h (ahead_none b xs)
  where
    go : (t : Bool) → suc (length xs) ≤ run_at t (run b xs) → (length xs ≤ run b xs → ahead b xs ≡ None) → ahead_at t x xs (ahead b xs) ≡ None
    go true k ih = absurd (omega arith)
    go false k ih = ap (ahead_at false x xs) (ih (omega arith))

front_unended : (s : Separators) (text : List ℕ) → 0 < length text → ahead s.segment text ≡ None → front s text ≡ unended
unfolding front
front_unended s [] h e = absurd (omega arith)
front_unended s (x ∷ xs) h e = ap (front_of s) e

feed_starts : (text : List ℕ) → starts_feed text ≡ true → feed true text ≡ Some (drop 1 text)
unfolding feed starts_feed
feed_starts [] e = let z : ◌≡◌ {A = Bool} false true = e in cc
feed_starts (x ∷ text) e = rw e

feed_lacks : (text : List ℕ) → starts_feed text ≡ false → feed true text ≡ None
unfolding feed starts_feed
feed_lacks [] e = refl
feed_lacks (x ∷ text) e = rw e

placed_name : (s : Separators) (at : ℕ) (id body rest : List ℕ)
    → placed s at (by_name id body rest) ≡ named id (at + length body) (at + length body + ending_of s)
placed_name s at [] body rest = refl
placed_name s at (x ∷ id) body rest = refl

module _ (s : Separators) (doc : List ℕ) (at : ℕ) where
  pub at_end : length doc ≤ at → segment_at s doc at ≡ End
  unfolding segment_at front
  at_end h = ap (λ t. placed s at (front s t)) (drop_of_length-le doc h)

  module _ (end : ℕ) (within : at < length doc) (found : end ≡ at + run s.segment (drop at doc)) where
    pub at_unended : length doc ≤ end → segment_at s doc at ≡ NoTerminator
    unfolding segment_at
    at_unended h =
        ap (placed s at)
        (front_unended s (drop at doc) (omega (arith, length-drop at doc)) (ahead_none s.segment (drop at doc) (omega (arith, length-drop at doc))))

    body_length : end < length doc → at + length (take (end - at) (drop at doc)) ≡ end
    body_length h = rw (length-take-le (end - at) (drop at doc) (omega (arith, length-drop at doc))) (omega arith)

    at_front : end < length doc → front s (drop at doc) ≡ fronted s (take (end - at) (drop at doc)) (feed s.line_break (drop (end + 1) doc))
    at_front h =
        let r : run s.segment (drop at doc) ≡ end - at = omega arith in
        let q : at + suc (run s.segment (drop at doc)) ≡ end + 1 = omega arith in
        let p : drop (suc (run s.segment (drop at doc))) (drop at doc) ≡ drop (end + 1) doc = drop-drop _ at doc ∙ ap (λ n. drop n doc) q in
        front_ahead s (drop at doc) _ (ahead_some s.segment (drop at doc) (omega (arith, length-drop at doc)))
        ∙ ap (λ n. fronted s (take n (drop at doc)) (feed s.line_break (drop (suc (run s.segment (drop at doc))) (drop at doc)))) r
        ∙ ap (λ t. fronted s (take (end - at) (drop at doc)) (feed s.line_break t)) p

    at_fed : (rest : List ℕ) → end < length doc → feed s.line_break (drop (end + 1) doc) ≡ Some rest
        → segment_at s doc at ≡ named (cut s.element (take (end - at) (drop at doc))).first end (end + ending_of s)
    unfolding segment_at
    at_fed rest h f =
        ap (placed s at) (at_front h ∙ ap (fronted s (take (end - at) (drop at doc))) f)
        ∙ placed_name s at (cut s.element (take (end - at) (drop at doc))).first (take (end - at) (drop at doc)) rest
        ∙ ap (λ n. named (cut s.element (take (end - at) (drop at doc))).first n (n + ending_of s)) (body_length h)

    pub at_plain : end < length doc → s.line_break ≡ false
        → segment_at s doc at ≡ named (cut s.element (take (end - at) (drop at doc))).first end (end + 1)
    unfolding feed ending_of line_feed
    at_plain h e =
        at_fed (drop (end + 1) doc) h (ap (λ t. feed t (drop (end + 1) doc)) e)
        ∙ ap (λ t. named (cut s.element (take (end - at) (drop at doc))).first end (end + length (s.segment ∷ line_feed t))) e

    pub at_line_feed : end < length doc → s.line_break ≡ true → starts_feed (drop (end + 1) doc) ≡ true
        → segment_at s doc at ≡ named (cut s.element (take (end - at) (drop at doc))).first end (end + 2)
    unfolding ending_of line_feed
    at_line_feed h e f =
        at_fed (drop 1 (drop (end + 1) doc)) h (ap (λ t. feed t (drop (end + 1) doc)) e ∙ feed_starts (drop (end + 1) doc) f)
        ∙ ap (λ t. named (cut s.element (take (end - at) (drop at doc))).first end (end + length (s.segment ∷ line_feed t))) e

    pub at_unfed : end < length doc → s.line_break ≡ true → starts_feed (drop (end + 1) doc) ≡ false → segment_at s doc at ≡ NoLineFeed
    unfolding segment_at
    at_unfed h e f =
        ap (placed s at)
        (at_front h ∙ ap (λ t. fronted s (take (end - at) (drop at doc)) (feed t (drop (end + 1) doc))) e
        ∙ ap (fronted s (take (end - at) (drop at doc))) (feed_lacks (drop (end + 1) doc) f))
