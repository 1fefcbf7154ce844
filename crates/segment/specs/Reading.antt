-- The grammar as functions on bytes: the reading of a document, if it has one (docs/RULES.md, "Grammar").
use Rattle.std.specs.Prelude.{ℕ, zero, suc, Bool, true, false, List, [], ◌∷◌, length, eqb, Option, None, Some}
use Rattle.segment.specs.declared.Separators.{Separators}
use Rattle.segment.specs.Grammar.{Segment}

-- ---- cutting a text

pub record Parts : Type 0 where
  pub first : List ℕ
  pub more : List (List ℕ)

abbrev pub cut_at : Bool → ℕ → Parts → Parts
cut_at true x p = record { first = []; more = p.first ∷ p.more }
cut_at false x p = record { first = x ∷ p.first; more = p.more }

-- a text cut at each b: what stands before the first one, and what stands behind each
unfoldable pub cut : ℕ → List ℕ → Parts
cut b [] = record { first = []; more = [] }
cut b (x ∷ xs) = cut_at (eqb x b) x (cut b xs)

abbrev pub ahead_at : Bool → ℕ → List ℕ → Option (List ℕ × List ℕ) → Option (List ℕ × List ℕ)
ahead_at true x xs o = Some ([], xs)
ahead_at false x xs None = None
ahead_at false x xs (Some p) = Some (x ∷ p.0, p.1)

-- what stands ahead of the first b, and what stands behind it
unfoldable pub ahead : ℕ → List ℕ → Option (List ℕ × List ℕ)
ahead b [] = None
ahead b (x ∷ xs) = ahead_at (eqb x b) x xs (ahead b xs)

-- ---- the front of a document

pub data Front : Type 0 where
  done : Front
  whole : List ℕ → List ℕ → Front
  nameless : List ℕ → List ℕ → Front
  unended : Front
  unfed : Front

abbrev pub feed_at : Bool → List ℕ → Option (List ℕ)
feed_at true rest = Some rest
feed_at false rest = None

-- what stands behind the line feed, if one is due
unfoldable pub feed : Bool → List ℕ → Option (List ℕ)
feed false rest = Some rest
feed true [] = None
feed true (x ∷ rest) = feed_at (eqb x 10) rest

abbrev pub by_name : List ℕ → List ℕ → List ℕ → Front
by_name [] body rest = nameless body rest
by_name (x ∷ id) body rest = whole body rest

abbrev pub fronted : Separators → List ℕ → Option (List ℕ) → Front
fronted s body None = unfed
fronted s body (Some rest) = by_name (cut s.element body).first body rest

abbrev pub front_of : Separators → Option (List ℕ × List ℕ) → Front
front_of s None = unended
front_of s (Some p) = fronted s p.0 (feed s.line_break p.1)

-- a segment's bytes ahead of its terminator, and the document behind it
unfoldable pub front : Separators → List ℕ → Front
front s [] = done
front s (x ∷ xs) = front_of s (ahead s.segment (x ∷ xs))

-- ---- the whole document

-- a segment's bytes ahead of its terminator, read at the element separator
abbrev pub segment_of : Separators → List ℕ → Segment
segment_of s body = record { id = (cut s.element body).first; elements = (cut s.element body).more }

abbrev pub onto : Segment → Option (List Segment) → Option (List Segment)
onto x None = None
onto x (Some xs) = Some (x ∷ xs)

abbrev pub read_on : Separators → (List ℕ → Option (List Segment)) → Front → Option (List Segment)
read_on s on done = Some []
read_on s on (whole body rest) = onto (segment_of s body) (on rest)
read_on s on (nameless body rest) = None
read_on s on unended = None
read_on s on unfed = None

-- at most n segments
unfoldable pub read_up_to : Separators → ℕ → List ℕ → Option (List Segment)
read_up_to s zero doc = None
read_up_to s (suc n) doc = read_on s (read_up_to s n) (front s doc)

-- the reading: a segment takes a byte at least, so there are no more of them than bytes
unfoldable pub read_document : Separators → List ℕ → Option (List Segment)
read_document s doc = read_up_to s (suc (length doc)) doc
