-- Laws of the grammar: a document has at most one reading, and segments that are joined read back (docs/RULES.md, "Grammar").
use Rattle.std.specs.Prelude.{ℕ, ◌≡◌, ◌≢◌, ◌↔◌, List, Some, None}
use Rattle.segment.specs.declared.Separators.{Separators}
use Rattle.segment.specs.Grammar.{Segment, All, Apart, Grammatical, Reads, document_bytes}
use Rattle.segment.specs.Reading.{read_document}
use Rattle.segment.specs.Places.{Match}
use Rattle.segment.specs.ReadParts.{Due, joined_all, Free, ReadAs}

-- Where the element separator is not the terminator a document has at most one reading.
pub record OneReading : Type 0 where
  -- the function finds exactly the readings that the grammar admits
  pub found : (s : Separators) → s.element ≢ s.segment → (doc : List ℕ) (xs : List Segment) → (read_document s doc ≡ Some xs) ↔ Reads s doc xs
  -- and none exactly where there are none
  pub none_found : (s : Separators) → s.element ≢ s.segment → (doc : List ℕ) → (read_document s doc ≡ None) ↔ ((xs : List Segment) → Reads s doc xs → ⊥)
  -- two readings of one document are the same
  pub only : (s : Separators) → s.element ≢ s.segment → (doc : List ℕ) (xs ys : List Segment) → Reads s doc xs → Reads s doc ys → xs ≡ ys
  -- segments of the grammar, written one after the other, read as these segments
  pub written : (s : Separators) (xs : List Segment) → All (Grammatical s) xs → Reads s (document_bytes s xs) xs

-- a document with two readings
pub record TwoReadings (s : Separators) : Type 0 where
  pub document : List ℕ
  pub first : List Segment
  pub second : List Segment
  pub reads_first : Reads s document first
  pub reads_second : Reads s document second
  pub differ : first ≢ second

-- Where the two are one byte some document has two readings, so that nothing less will do.
abbrev pub Ambiguous : Type 0
Ambiguous = (s : Separators) → s.element ≡ s.segment → TwoReadings s

-- What is joined of parts reads as these parts, where places rise and no text holds a separator.
pub record JoinedReadsBack : Type 0 where
  -- due segments, joined one after the other, are a document
  pub has_reading : (s : Separators) → Apart s → (ds : List Due) → All (Free s) ds → (xs : List Segment) × Reads s (joined_all s ds) xs
  -- and what is read are these segments in order, each with the text of each place, and nothing at any other
  pub as_due : (s : Separators) → Apart s → (ds : List Due) → All (Free s) ds → (xs : List Segment) → Reads s (joined_all s ds) xs → Match (ReadAs s) ds xs
