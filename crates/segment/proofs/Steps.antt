-- Each answer of `read_segment` is a step of the reading: a whole segment is the next one, the end is the reading's end, and where the answer is
-- neither there is no reading.
use Prim.Native.Nat.{ℕ, ◌+◌, ◌-◌}
use mathlib.Core.Path.{◌≡◌, refl, sym, ap, ◌∙◌}
use mathlib.Core.Logic.{◌≢◌}
use mathlib.Core.List.{List, [], ◌∷◌, ◌++◌, append_assoc}
use native.Mathlib.Omega.{arith}
use lib.ListN.{length, take, drop, length-append}
use lib.Seq.{drop-drop, take_at, drop_at}
use Rattle.segment.specs.declared.Separators.{Separators}
use Rattle.segment.specs.declared.read.SegmentAt.{SegmentAt}
use Rattle.segment.specs.declared.read.SegmentAt.TheVariants.{Whole, Nameless, NoTerminator, NoLineFeed, End}
use Rattle.segment.specs.Joining.{line_feed, segment_bytes}
use Rattle.segment.specs.Grammar.{Segment, All, Grammatical, Reads, document_bytes}
use Rattle.segment.specs.Reading.{Front, front, segment_of}
use Rattle.segment.specs.Reading.Front.{done, whole, nameless, unended, unfed}
use Rattle.segment.specs.ByPlace.{ending_of, placed, segment_at}
use Rattle.segment.proofs.OneReading.{body_of, front_segment, segment_again, front_begins, front_done, begins_bytes, begins_grammatical}

-- ---- by the front of what is left

-- what is left has the segment `body` in front: its reading is that segment and the reading of the rest
pub record Next (s : Separators) (body rest : List ℕ) (xs : List Segment) : Type 0 where
  pub others : List Segment
  pub split : xs ≡ segment_of s body ∷ others
  pub reads : Reads s rest others

module _ (s : Separators) (doc body rest : List ℕ) (f : front s doc ≡ whole body rest) where
  pub front_reads : (xs : List Segment) → Reads s rest xs → Reads s doc (segment_of s body ∷ xs)
  unfolding document_bytes
  front_reads xs r =
      let b = front_begins s doc body rest f in
      record {
        bytes = begins_bytes s doc body rest b ∙ ap (λ d. segment_bytes s (segment_of s body).id (segment_of s body).elements ++ d) r.bytes;
        each = (begins_grammatical s doc body rest b, r.each);
      }

  pub front_next : s.element ≢ s.segment → (xs : List Segment) → Reads s doc xs → Next s body rest xs
  unfolding document_bytes front
  front_next d [] r =
      let e : done ≡ whole body rest = sym (ap (front s) r.bytes) ∙ f in
      let z : ◌≡◌ {A = ℕ} 0 1 = cc in
      absurd (omega arith)
  front_next d (x ∷ xs) r =
      let e : whole (body_of s x) (document_bytes s xs) ≡ whole body rest =
      sym (front_segment s d x r.each.0 (document_bytes s xs)) ∙ sym (ap (front s) r.bytes) ∙ f in
      let a : body_of s x ≡ body = cc in
      let b : document_bytes s xs ≡ rest = cc in
      record {
        others = xs;
        split = ap (λ y. y ∷ xs) (sym (segment_again s d x r.each.0) ∙ ap (segment_of s) a);
        reads = record { bytes = sym b; each = r.each.1 };
      }

-- a document with a reading in front of another: the reading of both is that one, and then the other's
pub record Rest (s : Separators) (b : List ℕ) (xs zs : List Segment) : Type 0 where
  pub others : List Segment
  pub split : zs ≡ xs ++ others
  pub reads : Reads s b others

pub reads_split : (s : Separators) → s.element ≢ s.segment → (xs : List Segment) → All (Grammatical s) xs → (b : List ℕ) (zs : List Segment)
    → Reads s (document_bytes s xs ++ b) zs → Rest s b xs zs
unfolding document_bytes
reads_split s d [] g b zs r = record { others = zs; split = refl; reads = r }
reads_split s d (x ∷ xs) g b zs r =
    let e : segment_bytes s x.id x.elements ++ document_bytes s xs ++ b ≡ segment_bytes s x.id x.elements ++ (document_bytes s xs ++ b) =
    append_assoc (segment_bytes s x.id x.elements) _ _ in
    let n = front_next s _ _ _ (ap (front s) e ∙ front_segment s d x g.0 (document_bytes s xs ++ b)) d zs r in
    let m = reads_split s d xs g.1 b n.others n.reads in
    record {
      others = m.others;
      split = n.split ∙ ap (λ y. y ∷ n.others) (segment_again s d x g.0) ∙ ap (λ ys. x ∷ ys) m.split;
      reads = m.reads;
    }

-- a front that is no segment and no end: there is no reading
abbrev Goes : Front → Type 0
Goes done = Unit {0}
Goes (whole body rest) = Unit {0}
Goes (nameless body rest) = ⊥
Goes unended = ⊥
Goes unfed = ⊥

pub front_goes : (s : Separators) → s.element ≢ s.segment → (doc : List ℕ) (xs : List Segment) → Reads s doc xs → Goes (front s doc)
unfolding document_bytes front
front_goes s d doc [] r = rw r.bytes tt
front_goes s d doc (x ∷ xs) r = rw (r.bytes, front_segment s d x r.each.0 (document_bytes s xs)) tt

-- ---- by the answer

-- neither a whole segment nor the end
abbrev pub Stuck : SegmentAt → Type 0
Stuck (Whole e n) = ⊥
Stuck (Nameless e n) = Unit {0}
Stuck NoTerminator = Unit {0}
Stuck NoLineFeed = Unit {0}
Stuck End = ⊥

module _ (s : Separators) (doc : List ℕ) (at : ℕ) where
  -- a segment's bytes ahead of its terminator, and what is left behind it
  whole_front : (e n : ℕ) → segment_at s doc at ≡ Whole e n → front s (drop at doc) ≡ whole (take (e - at) (drop at doc)) (drop n doc)
  unfolding segment_at ending_of
  whole_front e n q = go (front s (drop at doc)) refl q
    where
      go : (f : Front) → front s (drop at doc) ≡ f → placed s at f ≡ Whole e n → f ≡ whole (take (e - at) (drop at doc)) (drop n doc)
      go done h p = cc
      go (whole body rest) h p =
          let b = front_begins s (drop at doc) body rest h in
          let ending : List ℕ = s.segment ∷ line_feed s.line_break in
          let end : at + length body ≡ e = cc in
          let next : at + length body + ending_of s ≡ n = cc in
          let l : length body ≡ e - at = omega arith in
          let first : take (e - at) (drop at doc) ≡ body = ap (take (e - at)) b.bytes ∙ take_at body (ending ++ rest) (e - at) l in
          let gone : drop (length body + ending_of s) (drop at doc) ≡ rest =
          ap (drop (length body + ending_of s)) (b.bytes ∙ sym (append_assoc body ending rest))
          ∙ drop_at (body ++ ending) rest (length body + ending_of s) (length-append body ending) in
          let place : n ≡ at + (length body + ending_of s) = omega arith in
          let left : drop n doc ≡ rest = ap (λ m. drop m doc) place ∙ sym (drop-drop (length body + ending_of s) at doc) ∙ gone in
          ap (λ t. whole t rest) (sym first) ∙ ap (whole (take (e - at) (drop at doc))) (sym left)
      go (nameless body rest) h p = cc
      go unended h p = cc
      go unfed h p = cc

  -- the segment from `at` to its terminator
  abbrev pub segment_to : ℕ → Segment
  segment_to e = segment_of s (take (e - at) (drop at doc))

  -- the end: nothing is read, and nothing else is a reading
  pub reads_end : segment_at s doc at ≡ End → Reads s (drop at doc) []
  unfolding segment_at document_bytes
  reads_end q = record { bytes = front_done s (drop at doc) (go (front s (drop at doc)) q); each = tt }
    where
      go : (f : Front) → placed s at f ≡ End → f ≡ done
      go done p = refl
      go (whole body rest) p = cc
      go (nameless body rest) p = cc
      go unended p = cc
      go unfed p = cc

  -- a whole segment: the reading is that segment, and then the reading of what is left behind it
  pub reads_whole : (e n : ℕ) → segment_at s doc at ≡ Whole e n → (xs : List Segment) → Reads s (drop n doc) xs → Reads s (drop at doc) (segment_to e ∷ xs)
  reads_whole e n q = front_reads s (drop at doc) (take (e - at) (drop at doc)) (drop n doc) (whole_front e n q)

  pub reads_next : (e n : ℕ) → segment_at s doc at ≡ Whole e n → s.element ≢ s.segment → (xs : List Segment) → Reads s (drop at doc) xs
      → Next s (take (e - at) (drop at doc)) (drop n doc) xs
  reads_next e n q = front_next s (drop at doc) (take (e - at) (drop at doc)) (drop n doc) (whole_front e n q)

  -- anything else: there is no reading
  pub reads_not : Stuck (segment_at s doc at) → s.element ≢ s.segment → (xs : List Segment) → Reads s (drop at doc) xs → ⊥
  unfolding segment_at
  reads_not k d xs r = go (front s (drop at doc)) k (front_goes s d (drop at doc) xs r)
    where
      go : (f : Front) → Stuck (placed s at f) → Goes f → ⊥
      go done a b = a
      go (whole body rest) a b = a
      go (nameless body rest) a b = b
      go unended a b = b
      go unfed a b = b
