-- Laws of the definitions of specs/Rows, and words that only proofs use.
use Rattle.std.specs.Prelude.{ℕ, List, [], ◌∷◌}
use Rattle.codec.specs.Rows.{small}
use Rattle.format.specs.Sections.{plan_start}
use Rattle.format.specs.Fields.{spec_roots, spec_tables}
use Rattle.format.proofs.Fields.{spec_version}

-- the lists of loops, roots and tables, and the version
unfoldable pub head_row : List ℕ → List ℕ
head_row b = small 0 ∷ small (spec_roots b (plan_start b) 0) ∷ small (spec_tables b (plan_start b) 0) ∷ small (spec_version b (plan_start b) 0) ∷ []
