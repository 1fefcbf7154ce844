-- A small job's outline, where its rows hang and what nest reports, by computation (docs/RULES.md, "Nesting" and "Nest's findings").
use Rattle.std.specs.Prelude.{ℕ, ◌≡◌, List, [], ◌∷◌, true, false, map, get_or, None, Some}
use Rattle.nest.specs.Outline.{Outline, rows, of_row, segment, loop}
use Rattle.nest.specs.Nest.{nest_array}
use Rattle.nest.specs.Finding.{duplicate, missing, record_of}
use Rattle.nest.specs.NestFindings.{nest_findings}

-- a value for each loop (or table) and each row; the last argument where there is none
abbrev pub cells : {A : Type 0} → List (List A) → A → ℕ → ℕ → A
cells xs d a b = get_or (get_or xs a []) b d

-- two claims, the second with the key of the first, and three service lines, of which one finds no claim
abbrev pub listing : Outline
listing = record {
  loops = record { parent = None; children = 1 ∷ []; occurrences = 1; required = false; ends = false; controlled = false }
      ∷ record { parent = Some 0; children = []; occurrences = 1; required = false; ends = false; controlled = false } ∷ [];
  roots = 0 ∷ [];
  tables = record { loops = 0 ∷ []; repeats = false; parent = None; ancestors = [] } ∷ record { loops = 1 ∷ []; repeats = false; parent = Some 0; ancestors = 0 ∷ [] } ∷ [];
  plan = record { instances = rows 0; segments = record { occurrence = 0; source = of_row 0 } ∷ [] } ∷ record { instances = rows 1; segments = record { occurrence = 0; source = of_row 1 } ∷ [] } ∷ [];
  order = (segment 0 ∷ loop 1 ∷ []) ∷ (segment 0 ∷ []) ∷ [];
  row_counts = 2 ∷ 3 ∷ [];
  key = cells ((7 ∷ 7 ∷ []) ∷ (0 ∷ 1 ∷ 2 ∷ []) ∷ []) 0;
  reference = λ t u r. cells (cells ([] ∷ ((Some 7 ∷ Some 9 ∷ Some 7 ∷ []) ∷ []) ∷ []) [] t u ∷ []) None 0 r;
  same_group = λ l a b. true;
  same_chunk = λ l i a b. true;
  capacity = λ t. 1;
  forced = λ l i. false;
  filled = λ l i t r. cells ((true ∷ true ∷ []) ∷ (true ∷ true ∷ false ∷ []) ∷ []) false t r;
}

pub record ExampleNested : Type 0 where
  -- row 1 of table 0 has the key of row 0, and row 1 of table 1 refers to a key that no row has
  pub findings : nest_findings listing ≡ duplicate 0 1 7 0 ∷ missing 1 1 0 (Some 9) ∷ []
  -- the same as numbers
  pub records : map record_of (nest_findings listing) ≡ (0 ∷ 0 ∷ 1 ∷ 7 ∷ 0 ∷ 0 ∷ 0 ∷ 0 ∷ 0 ∷ 0 ∷ []) ∷ (1 ∷ 1 ∷ 1 ∷ 0 ∷ 1 ∷ 9 ∷ 0 ∷ 0 ∷ 0 ∷ 0 ∷ []) ∷ []
  -- rows 0 and 2 of table 1 hang on the first row with their key, row 1 on none
  pub places : nest_array listing ≡ 0 ∷ 0 ∷ 0 ∷ 0 ∷ 0 ∷ 0 ∷ 1 ∷ 0 ∷ 0 ∷ 0 ∷ 0 ∷ 0 ∷ 1 ∷ 0 ∷ 0 ∷ []
