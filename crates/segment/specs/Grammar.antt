-- The grammar of a document (X12.6; docs/RULES.md, "Grammar"): a document is segments, their list its reading; a segment is an identifier, not
-- empty, elements each behind an element separator, the terminator (neither byte inside identifier or element), then one line feed if line
-- breaks are on. An element planned with components is read at the component separator. A place past the end reads as empty.
use Rattle.std.specs.Prelude.{ℕ, ◌≡◌, ◌≢◌, List, [], ◌∷◌, ◌++◌}
use Rattle.segment.specs.declared.Separators.{Separators}
use Rattle.segment.specs.Joining.{segment_bytes}

pub record Segment : Type 0 where
  pub id : List ℕ
  pub elements : List (List ℕ)

-- ---- the bytes

-- segments, one after the other
unfoldable pub document_bytes : Separators → List Segment → List ℕ
document_bytes s [] = []
document_bytes s (x ∷ xs) = segment_bytes s x.id x.elements ++ document_bytes s xs

-- ---- the reading

-- every member is so
abbrev pub All : {A : Type 0} → (A → Type 0) → List A → Type 0
All P [] = Unit {0}
All P (x ∷ xs) = P x × All P xs

-- a text without that byte
abbrev pub Without : ℕ → List ℕ → Type 0
Without b = All (λ x. x ≢ b)

-- neither the element separator nor the terminator is inside
pub record Plain (s : Separators) (text : List ℕ) : Type 0 where
  pub no_element : Without s.element text
  pub no_segment : Without s.segment text

-- the separators differ; a job in which two are equal is refused (docs/RULES.md, "Answer 5")
pub record Apart (s : Separators) : Type 0 where
  pub element_segment : s.element ≢ s.segment
  pub element_component : s.element ≢ s.component
  pub component_segment : s.component ≢ s.segment

-- what may stand between two places where segments start
pub record Grammatical (s : Separators) (x : Segment) : Type 0 where
  pub named : x.id ≢ []
  pub id_plain : Plain s x.id
  pub elements_plain : All (Plain s) x.elements

-- the document is these segments, one after the other
pub record Reads (s : Separators) (doc : List ℕ) (segments : List Segment) : Type 0 where
  pub bytes : doc ≡ document_bytes s segments
  pub each : All (Grammatical s) segments
