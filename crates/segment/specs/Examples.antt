-- Segments that are written out and documents that are read, by computation (docs/RULES.md, "Joining" and "Grammar").
use Rattle.std.specs.Prelude.{ℕ, ◌≡◌, Bool, true, false, List, [], ◌∷◌, map, codes, None, Some}
use Prim.Native.String.{String}
use Rattle.segment.specs.declared.Separators.{Separators}
use Rattle.segment.specs.Joining.{component_bytes, trimmed}
use Rattle.segment.specs.Parts.{Part, joined, sorted}
use Rattle.segment.specs.Grammar.{Segment, document_bytes}
use Rattle.segment.specs.Reading.{read_document}
use Rattle.segment.specs.Places.{place, component}

-- separators `*` `:` `~`, with or without line breaks
abbrev pub marks : Bool → Separators
marks breaks = record { element = 42; component = 58; segment = 126; line_break = breaks }

-- ---- writing

abbrev pub plain : ℕ → String → Part
plain e text = record { element = e; component = None; text = codes text }

abbrev pub comp : ℕ → ℕ → String → Part
comp e c text = record { element = e; component = Some c; text = codes text }

-- the bytes of an SVC of these parts
abbrev pub svc : List Part → List ℕ
svc parts = joined (marks false) (codes "SVC") parts

pub record SegmentsWritten : Type 0 where
  -- components HC, empty, X
  pub composite : svc (comp 1 1 "HC" ∷ comp 1 2 "" ∷ comp 1 3 "X" ∷ []) ≡ codes "SVC*HC::X~"
  -- all parts empty, and no parts
  pub all_empty : svc (comp 1 1 "" ∷ comp 1 2 "" ∷ plain 2 "" ∷ []) ≡ codes "SVC~"
  pub no_parts : svc [] ≡ codes "SVC~"
  -- a line feed behind the terminator
  pub line_break : joined (marks true) (codes "SVC") (plain 1 "X" ∷ []) ≡ codes "SVC*X~\n"
  -- a part whose place falls is passed over, and so is what stands at place 0 and all behind it
  pub falling : svc (plain 2 "X" ∷ plain 1 "Y" ∷ []) ≡ codes "SVC**X~"
  pub at_zero : svc (plain 0 "X" ∷ plain 1 "Y" ∷ []) ≡ codes "SVC*~"
  -- of two parts at one place the first stands, even where it is empty
  pub hidden : svc (plain 1 "" ∷ plain 1 "X" ∷ []) ≡ codes "SVC*~"
  pub first_stands : svc (plain 1 "X" ∷ plain 1 "Y" ∷ []) ≡ codes "SVC*X~"
  pub hidden_component : svc (comp 1 1 "X" ∷ comp 1 2 "" ∷ comp 1 2 "Y" ∷ []) ≡ codes "SVC*X:~"
  -- a plain part counts as component 1
  pub plain_beside_component : svc (plain 1 "X" ∷ comp 1 2 "Y" ∷ []) ≡ codes "SVC*X:Y~"
  -- component 0 alone has no place
  pub component_zero : svc (comp 1 0 "X" ∷ []) ≡ codes "SVC*~"
  -- a repeat segment's parts are sorted, equal places in the order in which they came
  pub sorting : svc (sorted (comp 3 2 "E" ∷ plain 2 "B" ∷ comp 1 1 "Z" ∷ plain 1 "A" ∷ comp 3 1 "D" ∷ plain 2 "C" ∷ [])) ≡ codes "SVC*A*B*D:E~"

-- ---- reading

abbrev pub segment : String → List String → Segment
segment id elements = record { id = codes id; elements = map (λ t. codes t) elements }

-- the terminator is itself a line feed, and line breaks are on
abbrev pub feeds : Separators
feeds = record { element = 42; component = 58; segment = 10; line_break = true }

-- two claims, the first with a service line
abbrev pub three : List Segment
three = segment "CLP" ("A1" ∷ []) ∷ segment "SVC" ("HC" ∷ "100" ∷ []) ∷ segment "CLP" ("B2" ∷ []) ∷ []

pub record DocumentsRead : Type 0 where
  -- three segments, read and written
  pub read : read_document (marks false) (codes "CLP*A1~SVC*HC*100~CLP*B2~") ≡ Some three
  pub written : document_bytes (marks false) three ≡ codes "CLP*A1~SVC*HC*100~CLP*B2~"
  -- with line breaks, and where the terminator is a line feed too
  pub lines_read : read_document (marks true) (codes "CLP*A1~\nSVC*HC*100~\nCLP*B2~\n") ≡ Some three
  pub feeds_read : read_document feeds (codes "CLP*A1\n\nSVC*HC*100\n\nCLP*B2\n\n") ≡ Some three
  -- a document of no bytes has no segments
  pub nothing_read : read_document (marks false) [] ≡ Some []
  -- no reading: no terminator, no line feed, no identifier, a terminator too many
  pub unended : read_document (marks false) (codes "CLP*A1~SVC*HC") ≡ None
  pub unfed : read_document (marks true) (codes "CLP*A1~\nSVC*HC~") ≡ None
  pub nameless : read_document (marks false) (codes "CLP*A1~*HC~") ≡ None
  pub stray : read_document (marks false) (codes "CLP*A1~~") ≡ None
  -- components HC, empty, X: written, read, and the text of each component and of one more
  pub composite : component_bytes (marks false) (trimmed (codes "HC" ∷ [] ∷ codes "X" ∷ [] ∷ [])) ≡ codes "HC::X"
  pub composite_read : read_document (marks false) (codes "SVC*HC::X~") ≡ Some (segment "SVC" ("HC::X" ∷ []) ∷ [])
  pub components : map (component (marks false) (segment "SVC" ("HC::X" ∷ [])) 1) (1 ∷ 2 ∷ 3 ∷ 4 ∷ []) ≡ codes "HC" ∷ [] ∷ codes "X" ∷ [] ∷ []
  -- a segment without elements: its places are empty
  pub all_empty : trimmed ([] ∷ [] ∷ []) ≡ []
  pub all_empty_read : read_document (marks false) (codes "SVC~") ≡ Some (segment "SVC" [] ∷ [])
  pub all_empty_component : component (marks false) (segment "SVC" []) 1 1 ≡ []
  -- trailing empty elements read as empty places, as those past the end do
  pub trailing_read : read_document (marks false) (codes "SVC*HC**~") ≡ Some (segment "SVC" ("HC" ∷ "" ∷ "" ∷ []) ∷ [])
  pub trailing_places : map (place (segment "SVC" ("HC" ∷ "" ∷ "" ∷ []))) (1 ∷ 2 ∷ 3 ∷ 4 ∷ []) ≡ codes "HC" ∷ [] ∷ [] ∷ [] ∷ []
