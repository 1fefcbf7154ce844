-- A document has at most one reading, and `read_document` finds it.
use Prim.Native.Nat.{ℕ, zero, suc, ◌≤◌, ◌<◌}
use mathlib.Core.Path.{◌≡◌, refl, sym, ap, ◌∙◌, subst}
use mathlib.Core.Logic.{◌≢◌, ◌↔◌}
use mathlib.Core.Bool.{Bool, true, false}
use mathlib.Core.List.{List, [], ◌∷◌, ◌++◌, append_assoc, cons-ne-nil}
use native.Mathlib.Omega.{arith}
use Rattle.std.specs.Prelude.{Option, None, Some}
use Rattle.std.proofs.lemmas.Option.{same_Some, none-some}
use lib.ListN.{length, length-append}
use lib.Dec.{eqb}
use borrow.Author.Tests.{eqb-true}
use Rattle.segment.specs.declared.Separators.{Separators}
use Rattle.segment.specs.Joining.{behind, line_feed, segment_bytes}
use Rattle.segment.specs.Grammar.{Segment, All, Without, Plain, Grammatical, Reads, document_bytes}
use Rattle.segment.specs.Reading.{Parts, Front, cut, ahead, feed, feed_at, front, front_of, fronted, by_name, segment_of, onto, read_on, read_up_to, read_document}
use Rattle.segment.specs.Reading.Front.{done, whole, nameless, unended, unfed}
use Rattle.segment.proofs.Cuts.{all_append, all_map, behind_without, cut_joined, joined_cut, cut_without, cut_keeps, ahead_there, ahead_back}

-- ---- the front of a document that begins with a segment

-- a segment's bytes ahead of its terminator
abbrev pub body_of : Separators → Segment → List ℕ
body_of s x = x.id ++ behind s.element x.elements

pub segment_bytes_lem : (s : Separators) (x : Segment) (rest : List ℕ)
    → segment_bytes s x.id x.elements ++ rest ≡ body_of s x ++ s.segment ∷ (line_feed s.line_break ++ rest)
unfolding segment_bytes
segment_bytes_lem s x rest = append_assoc (body_of s x) (s.segment ∷ line_feed s.line_break) rest

feed_there : (t : Bool) (rest : List ℕ) → feed t (line_feed t ++ rest) ≡ Some rest
unfolding feed line_feed
feed_there true rest = refl
feed_there false rest = refl

feed_back : (t : Bool) (text rest : List ℕ) → feed t text ≡ Some rest → text ≡ line_feed t ++ rest
unfolding feed line_feed
feed_back false text rest e = same_Some _ _ e
feed_back true [] rest e = absurd (none-some _ e)
feed_back true (x ∷ text) rest e = go (eqb x 10) refl e
  where
    go : (t : Bool) → eqb x 10 ≡ t → feed_at t text ≡ Some rest → x ∷ text ≡ 10 ∷ rest
    go true q f = ap (λ y. y ∷ text) (eqb-true x 10 q) ∙ ap (λ r. 10 ∷ r) (same_Some _ _ f)
    go false q f = absurd (none-some _ f)

by_name_lem : (id body rest : List ℕ) → id ≢ [] → by_name id body rest ≡ whole body rest
by_name_lem [] body rest d = absurd (d refl)
by_name_lem (x ∷ id) body rest d = refl

pub front_ahead : (s : Separators) (doc : List ℕ) (p : List ℕ × List ℕ) → ahead s.segment doc ≡ Some p → front s doc ≡ front_of s (Some p)
unfolding front ahead
front_ahead s [] p e = absurd (none-some _ e)
front_ahead s (x ∷ xs) p e = ap (front_of s) e

module _ (s : Separators) (apart : s.element ≢ s.segment) (x : Segment) (g : Grammatical s x) where
  body_without : Without s.segment (body_of s x)
  body_without =
      all_append _ x.id _ g.id_plain.no_segment
      (behind_without s.segment s.element apart x.elements (all_map _ _ (λ t p. p.no_segment) x.elements g.elements_plain))

  body_cut : cut s.element (body_of s x) ≡ record { first = x.id; more = x.elements }
  body_cut =
      cut_joined s.element x.id x.elements g.id_plain.no_element
      (all_map _ _ (λ t p. p.no_element) x.elements g.elements_plain)

  -- the terminator that comes first is the segment's own
  pub front_segment : (rest : List ℕ) → front s (segment_bytes s x.id x.elements ++ rest) ≡ whole (body_of s x) rest
  front_segment rest =
      ap (front s) (segment_bytes_lem s x rest)
      ∙ front_ahead s _ _ (ahead_there s.segment (body_of s x) _ body_without)
      ∙ ap (fronted s (body_of s x)) (feed_there s.line_break rest)
      ∙ by_name_lem _ (body_of s x) rest (λ e. g.named (sym (ap (λ p. p.first) body_cut) ∙ e))

  pub segment_again : segment_of s (body_of s x) ≡ x
  segment_again = ap (λ (p : Parts). record { id = p.first; elements = p.more }) body_cut

-- ---- what a whole front says of the document

abbrev IsWhole : Front → Type 0
IsWhole done = ⊥
IsWhole (whole body rest) = Unit {0}
IsWhole (nameless body rest) = ⊥
IsWhole unended = ⊥
IsWhole unfed = ⊥

is_whole : (f : Front) (body rest : List ℕ) → f ≡ whole body rest → IsWhole f
is_whole f body rest e = subst IsWhole (sym e) tt

pub record Begins (s : Separators) (doc body rest : List ℕ) : Type 0 where
  pub bytes : doc ≡ body ++ s.segment ∷ (line_feed s.line_break ++ rest)
  pub clear : Without s.segment body
  pub named : (cut s.element body).first ≢ []

named_whole : (id body body' rest rest' : List ℕ) → by_name id body' rest' ≡ whole body rest → (body' ≡ body) × (rest' ≡ rest) × (id ≢ [])
named_whole [] body body' rest rest' e = absurd (is_whole _ _ _ e)
named_whole (x ∷ id) body body' rest rest' e = (cc, cc, cons-ne-nil x id)

fed_whole : (s : Separators) (body body' rest : List ℕ) (o : Option (List ℕ)) → fronted s body' o ≡ whole body rest
    → (o ≡ Some rest) × (body' ≡ body) × ((cut s.element body').first ≢ [])
fed_whole s body body' rest None e = absurd (is_whole _ _ _ e)
fed_whole s body body' rest (Some rest') e =
    let n = named_whole (cut s.element body').first body body' rest rest' e in
    (ap Some n.1, n.0, n.2)

pub front_begins : (s : Separators) (doc body rest : List ℕ) → front s doc ≡ whole body rest → Begins s doc body rest
unfolding front
front_begins s [] body rest e = absurd (is_whole _ _ _ e)
front_begins s (x ∷ xs) body rest e = go (ahead s.segment (x ∷ xs)) refl e
  where
    go : (o : Option (List ℕ × List ℕ)) → ahead s.segment (x ∷ xs) ≡ o → front_of s o ≡ whole body rest → Begins s (x ∷ xs) body rest
    go None h f = absurd (is_whole _ _ _ f)
    go (Some p) h f =
        let w = fed_whole s body p.0 rest (feed s.line_break p.1) f in
        let a = ahead_back s.segment (x ∷ xs) p h in
        let b : p.1 ≡ line_feed s.line_break ++ rest = feed_back s.line_break p.1 rest w.0 in
        subst (λ y. Begins s (x ∷ xs) y rest) w.1
        (record { bytes = a.0 ∙ ap (λ r. p.0 ++ s.segment ∷ r) b; clear = a.1; named = w.2 })

-- a whole front is a segment of the grammar
module _ (s : Separators) (doc body rest : List ℕ) (b : Begins s doc body rest) where
  pub begins_bytes : doc ≡ segment_bytes s (segment_of s body).id (segment_of s body).elements ++ rest
  begins_bytes =
      b.bytes
      ∙ ap (λ r. r ++ s.segment ∷ (line_feed s.line_break ++ rest)) (sym (joined_cut s.element body))
      ∙ sym (segment_bytes_lem s (segment_of s body) rest)

  pub begins_grammatical : Grammatical s (segment_of s body)
  begins_grammatical =
      let e = cut_without s.element body in
      let t = cut_keeps s.segment s.element body b.clear in
      record { named = b.named; id_plain = record { no_element = e.0; no_segment = t.0 }; elements_plain = both (segment_of s body).elements e.1 t.1 }
    where
      both : (texts : List (List ℕ)) → All (Without s.element) texts → All (Without s.segment) texts → All (Plain s) texts
      both [] h k = tt
      both (text ∷ texts) h k = (record { no_element = h.0; no_segment = k.0 }, both texts h.1 k.1)

abbrev IsDone : Front → Type 0
IsDone done = Unit {0}
IsDone (whole body rest) = ⊥
IsDone (nameless body rest) = ⊥
IsDone unended = ⊥
IsDone unfed = ⊥

named_done : (id body rest : List ℕ) → IsDone (by_name id body rest) → ⊥
named_done [] body rest h = h
named_done (x ∷ id) body rest h = h

fed_done : (s : Separators) (body : List ℕ) (o : Option (List ℕ)) → IsDone (fronted s body o) → ⊥
fed_done s body None h = h
fed_done s body (Some rest) h = named_done (cut s.element body).first body rest h

ahead_done : (s : Separators) (o : Option (List ℕ × List ℕ)) → IsDone (front_of s o) → ⊥
ahead_done s None h = h
ahead_done s (Some p) h = fed_done s p.0 (feed s.line_break p.1) h

pub front_done : (s : Separators) (doc : List ℕ) → front s doc ≡ done → doc ≡ []
unfolding front
front_done s [] e = refl
front_done s (x ∷ xs) e = absurd (ahead_done s (ahead s.segment (x ∷ xs)) (subst IsDone (sym e) tt))

-- ---- the whole document

read_up : (s : Separators) → s.element ≢ s.segment → (n : ℕ) (xs : List Segment) → All (Grammatical s) xs → length xs < n
    → read_up_to s n (document_bytes s xs) ≡ Some xs
unfolding read_up_to document_bytes front
read_up s d zero xs g h = absurd (omega arith)
read_up s d (suc n) [] g h = refl
read_up s d (suc n) (x ∷ xs) g h =
    ap (read_on s (read_up_to s n)) (front_segment s d x g.0 (document_bytes s xs))
    ∙ ap (onto _) (read_up s d n xs g.1 (omega arith))
    ∙ ap (λ y. Some (y ∷ xs)) (segment_again s d x g.0)

read_back : (s : Separators) (n : ℕ) (doc : List ℕ) (xs : List Segment) → read_up_to s n doc ≡ Some xs → Reads s doc xs
unfolding read_up_to document_bytes
read_back s zero doc xs e = absurd (none-some _ e)
read_back s (suc n) doc xs e = go (front s doc) refl e (read_back s n)
  where
    next : (body rest : List ℕ) (o : Option (List Segment)) → Begins s doc body rest → ((ys : List Segment) → o ≡ Some ys → Reads s rest ys)
        → onto (segment_of s body) o ≡ Some xs → Reads s doc xs
    next body rest None b r f = absurd (none-some _ f)
    next body rest (Some ys) b r f =
        subst (Reads s doc) (same_Some _ _ f)
        (record {
          bytes = begins_bytes s doc body rest b ∙ ap (λ d. segment_bytes s (segment_of s body).id (segment_of s body).elements ++ d) (r ys refl).bytes;
          each = (begins_grammatical s doc body rest b, (r ys refl).each);
        })

    go : (f : Front) → front s doc ≡ f → read_on s (read_up_to s n) f ≡ Some xs
        → ((rest : List ℕ) (ys : List Segment) → read_up_to s n rest ≡ Some ys → Reads s rest ys) → Reads s doc xs
    go done h f ih = subst (Reads s doc) (same_Some _ _ f) (record { bytes = front_done s doc h; each = tt })
    go (whole body rest) h f ih = next body rest (read_up_to s n rest) (front_begins s doc body rest h) (ih rest) f
    go (nameless body rest) h f ih = absurd (none-some _ f)
    go unended h f ih = absurd (none-some _ f)
    go unfed h f ih = absurd (none-some _ f)

-- each segment takes a byte at least
segments_fit : (s : Separators) (xs : List Segment) → length xs ≤ length (document_bytes s xs)
unfolding document_bytes segment_bytes
segments_fit s [] = omega arith
segments_fit s (x ∷ xs) =
    let l = length-append (segment_bytes s x.id x.elements) (document_bytes s xs) in
    let k = length-append (body_of s x) (s.segment ∷ line_feed s.line_break) in
    omega (arith, segments_fit s xs, l, k)

-- `read_document` finds a reading exactly where there is one
pub reads_found : {s : Separators} {doc : List ℕ} {xs : List Segment} → s.element ≢ s.segment → Reads s doc xs → read_document s doc ≡ Some xs
unfolding read_document
reads_found {s} {doc} {xs} d r =
    ap (read_document s) r.bytes ∙ read_up s d _ xs r.each (omega (arith, segments_fit s xs))

pub found_reads : {s : Separators} {doc : List ℕ} {xs : List Segment} → read_document s doc ≡ Some xs → Reads s doc xs
unfolding read_document
found_reads {s} {doc} {xs} e = read_back s (suc (length doc)) doc xs e

pub reads_exactly : (s : Separators) → s.element ≢ s.segment → (doc : List ℕ) (xs : List Segment) → (read_document s doc ≡ Some xs) ↔ Reads s doc xs
reads_exactly s d doc xs = (found_reads, reads_found d)

pub reads_none : (s : Separators) → s.element ≢ s.segment → (doc : List ℕ) → (read_document s doc ≡ None) ↔ ((xs : List Segment) → Reads s doc xs → ⊥)
reads_none s d doc = (λ e xs r. none-some xs (sym e ∙ reads_found d r), λ f. go f (read_document s doc) refl)
  where
    go : ((xs : List Segment) → Reads s doc xs → ⊥) → (o : Option (List Segment)) → read_document s doc ≡ o → o ≡ None
    go f None e = refl
    go f (Some xs) e = absurd (f xs (found_reads e))

-- a document has at most one reading
pub one_reading : {s : Separators} {doc : List ℕ} {xs ys : List Segment} → s.element ≢ s.segment → Reads s doc xs → Reads s doc ys → xs ≡ ys
one_reading d r q = same_Some _ _ (sym (reads_found d r) ∙ reads_found d q)

-- segments of the grammar, written one after the other, read as these segments and as nothing else
pub written_reads : (s : Separators) (xs : List Segment) → All (Grammatical s) xs → Reads s (document_bytes s xs) xs
written_reads s xs g = record { bytes = refl; each = g }

pub written_once : {s : Separators} {xs ys : List Segment} → s.element ≢ s.segment → All (Grammatical s) xs → Reads s (document_bytes s xs) ys → ys ≡ xs
written_once {s} {xs} d g r = one_reading d r (written_reads s xs g)

-- the readings of two documents, one after the other, are the reading of both
pub document_append : (s : Separators) (xs ys : List Segment) → document_bytes s (xs ++ ys) ≡ document_bytes s xs ++ document_bytes s ys
unfolding document_bytes
document_append s [] ys = refl
document_append s (x ∷ xs) ys =
    ap (λ d. segment_bytes s x.id x.elements ++ d) (document_append s xs ys) ∙ sym (append_assoc (segment_bytes s x.id x.elements) _ _)

pub reads_append : {s : Separators} {a b : List ℕ} {xs ys : List Segment} → Reads s a xs → Reads s b ys → Reads s (a ++ b) (xs ++ ys)
reads_append {s} {a} {b} {xs} {ys} r q =
    record { bytes = ap (λ d. d ++ b) r.bytes ∙ ap (λ d. document_bytes s xs ++ d) q.bytes ∙ sym (document_append s xs ys); each = all_append _ xs ys r.each q.each }
