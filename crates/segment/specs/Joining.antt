-- A segment's bytes (X12.6; docs/RULES.md, "Joining"): the identifier, each element behind an element separator, the terminator, then one line
-- feed if line breaks are on. A composite element is its components with the component separator between them.
use Rattle.std.specs.Prelude.{ℕ, Bool, true, false, List, [], ◌∷◌, ◌++◌}
use Rattle.segment.specs.declared.Separators.{Separators}

-- texts, each behind a separator
unfoldable pub behind : ℕ → List (List ℕ) → List ℕ
behind b [] = []
behind b (text ∷ texts) = b ∷ (text ++ behind b texts)

-- components, the component separator between them
unfoldable pub component_bytes : Separators → List (List ℕ) → List ℕ
component_bytes s [] = []
component_bytes s (c ∷ cs) = c ++ behind s.component cs

-- one line feed if line breaks are on
unfoldable pub line_feed : Bool → List ℕ
line_feed true = 10 ∷ []
line_feed false = []

unfoldable pub segment_bytes : Separators → List ℕ → List (List ℕ) → List ℕ
segment_bytes s id elements = id ++ behind s.element elements ++ s.segment ∷ line_feed s.line_break

abbrev pub kept_on : List ℕ → List (List ℕ) → List (List ℕ)
kept_on [] [] = []
kept_on [] (text ∷ texts) = [] ∷ text ∷ texts
kept_on (x ∷ text) texts = (x ∷ text) ∷ texts

-- trailing empty texts dropped
unfoldable pub trimmed : List (List ℕ) → List (List ℕ)
trimmed [] = []
trimmed (text ∷ texts) = kept_on text (trimmed texts)
