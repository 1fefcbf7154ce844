-- Not to be believed: words of inner contracts, on which no contract of what users call rests.
-- Where a planned element of a repeat segment puts its text for a row, and which text (emit's `chunk_value`, taken apart).
use Rattle.std.specs.Prelude.{ℕ, zero, suc, ◌+◌, ◌*◌, ◌<◌, ◌≡◌, List, [], ◌∷◌, ◌++◌, Bool, true, false, eqb, ltb, get_or, Option, None, Some}
use Rattle.format.specs.Plan.{Value, from_column, from_group, from_code, ElementPlan}
use Rattle.format.specs.Job.{Job}
use Rattle.format.specs.Sections.{job_of}
use Rattle.texts.specs.Reason.{Outcome, gives}
use Rattle.segment.specs.Parts.{Part, pick, rank}
use Rattle.segment.specs.Calls.{component_in}
use Rattle.plan.specs.declared.answers.ElementPlan.{ElementPlan as Element}
use Rattle.plan.specs.Answers.{element_of}
use Rattle.plan.specs.declared.answers.ValueSource.{ValueSource}
use Rattle.plan.specs.declared.answers.ValueSource.TheVariants.{Column, Group, Code}
use Rattle.emit.specs.Puts.{cell_outcome, chunk_value, chunk_put, Put}
use Rattle.repeat_segment.specs.declared.planned.Planned.{Planned}
use Rattle.repeat_segment.specs.declared.places.Source.{Source}
use Rattle.repeat_segment.specs.declared.places.Source.TheVariants.{Cell, Code as OfCode}
use Rattle.repeat_segment.specs.declared.scan.First.{First}
use Rattle.repeat_segment.specs.Planned.{plans_of, id_of}

-- the place for row number k: columns and codes have one for the first row only
abbrev pub place_by : ℕ → ℕ → ℕ → Value → Option ℕ
place_by step k e (from_column c) = pick (eqb k 0) (Some e) None
place_by step k e (from_group c) = Some (e + k * step)
place_by step k e (from_code text) = pick (eqb k 0) (Some e) None

unfoldable pub place_in : ℕ → ℕ → ElementPlan → Option ℕ
place_in step k x = place_by step k x.element x.value

-- the text for row r at element e
abbrev pub text_by : Job → List ℕ → ℕ → ℕ → Option ℕ → ℕ → Value → Outcome
text_by j id t e c r (from_column n) = cell_outcome j id t r e c n
text_by j id t e c r (from_group n) = cell_outcome j id t r e c n
text_by j id t e c r (from_code code) = gives code

unfoldable pub text_in : List ℕ → Planned → ℕ → ℕ → ElementPlan → Outcome
text_in b s e r x = text_by (job_of b) (id_of b s) s.table.0 e x.component r x.value

-- ---- what is put

-- where the text comes from: columns of both kinds have cells
abbrev pub source_in : ValueSource → Source
source_in (Column n) = Cell n
source_in (Group n) = Cell n
source_in (Code c) = OfCode c

-- what row number k puts, and one element of it
unfoldable pub element_put : List ℕ → Planned → ℕ → ℕ → ElementPlan → Put
element_put b s k r x = chunk_value (job_of b) (id_of b s) s.table.0 s.step k r x x.value

unfoldable pub row_puts : List ℕ → Planned → ℕ → ℕ → List ElementPlan → Put
row_puts b s k r xs = chunk_put (job_of b) (id_of b s) s.table.0 s.step k r xs

-- the parts of n rows from number k on
unfoldable pub parts_from : List ℕ → Planned → List ℕ → ℕ → ℕ → List ElementPlan → List Part
parts_from b s rows k zero xs = []
parts_from b s rows k (suc n) xs = (row_puts b s k (get_or rows k 0) xs).parts ++ parts_from b s rows (k + 1) n xs

-- all parts of a chunk
abbrev pub parts_of : List ℕ → Planned → List ℕ → ℕ → List Part
parts_of b s rows count = parts_from b s rows 0 count (plans_of b s)

-- r is the lowest row number below 256 for which the element stands at p; 256 and more: none
pub record Lowest (step p r : ℕ) (x : ElementPlan) : Type 0 where
  pub stands : r < 256 → place_in step r x ≡ Some p
  pub below : (m : ℕ) → m < r → m < 256 → place_in step m x ≡ Some p → ⊥

-- ---- the first part at a place

abbrev pub rank_of : Option ℕ → ℕ
rank_of c = rank c

-- a planned element is tried: it is taken where it stands for a lower row number, else what was found stays
pub data Earlier (step p r : ℕ) (b : List ℕ) (f : First) (e : Element) : First → Type 0 where
  taken : (k : ℕ) → k < f.row → rank_of e.component ≡ r → Lowest step p k (element_of b e) → Earlier step p r b f e (record { row = k; plan = e })
  kept : ((m : ℕ) → m < f.row → m < 256 → place_in step m (element_of b e) ≡ Some p → rank_of e.component ≡ r → ⊥) → Earlier step p r b f e f

-- the text of the first part at element p with rank r in a chunk of so many rows; a row number past them: there is none
abbrev pub found_text : List ℕ → Planned → List ℕ → ℕ → ℕ → First → Option (List ℕ)
found_text b s rows count p f = pick (ltb f.row count) (Some (text_in b s p (get_or rows f.row 0) (element_of b f.plan)).text) None

-- ---- the highest number of a filled part: by element, or by component at one element

abbrev pub number_by : Option ℕ → Part → ℕ
number_by None = λ x. x.element
number_by (Some p) = component_in p

-- every planned element is at 1 or behind
unfoldable pub all_above : List ElementPlan → Bool
all_above [] = true
all_above (x ∷ xs) = pick (ltb 0 x.element) (all_above xs) false
