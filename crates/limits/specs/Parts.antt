-- Not to be believed: words of inner contracts, on which no contract of what users call rests.
-- Parts of the limits of a job that have no name of their own (docs/RULES.md, "Limits").
use Rattle.std.specs.Prelude.{ℕ, ◌≡◌, List, [], ◌∷◌, Bool, true, false, ltb, Option, Some, None}
use Rattle.limits.specs.declared.Parts.{Parts as Kept}
use Rattle.codec.specs.Codec.{pick}
use Rattle.codec.specs.Forms.{num_c}
use Rattle.codec.specs.Skip.{skip}
use Rattle.codec.specs.Limits.{any, any_of}
use Rattle.format.specs.Words.{if_some}
use Rattle.format.specs.Fields.{element_components, element_min}
use Rattle.format.specs.Layout.{Layout}
use Rattle.format.specs.Data.{TableData}
use Rattle.format.specs.Refusal.{large, over_table_data, rows_of_all}

abbrev pub over_layout : Layout → Bool
over_layout l = any_of large l.capacity

-- a number, and what is least
abbrev pub over_sized : ℕ → Option ℕ → Bool
over_sized n m = pick (large n) true (if_some large m)

-- where the least of a numbered component or element stands, and what is behind kind, min and max
abbrev pub sizes_min : List ℕ → ℕ → ℕ → ℕ
sizes_min b e at = element_min b e (skip num_c b at e)

abbrev pub sizes_behind : List ℕ → ℕ → ℕ → ℕ
sizes_behind b e at = element_components b e (skip num_c b at e)

abbrev pub over_tables : List TableData → Bool
over_tables d = any (ltb 4096 (rows_of_all d) ∷ any_of over_table_data d ∷ [])

-- where nothing is over, the places of roots and tables
abbrev pub ClearParts : Option Kept → Bool → ℕ → ℕ → Type 0
ClearParts None t r s = t ≡ true
ClearParts (Some p) t r s = (t ≡ false) × (p.roots ≡ r) × (p.tables ≡ s)
