-- What a planned place puts into its segment: a part, the findings on its text, and its trace entry (write/cells.rs, write/trace.rs;
-- docs/RULES.md, "Row segments", "Repeat segments" and "Traced segments").
use Rattle.std.specs.Prelude.{ℕ, zero, suc, ◌+◌, ◌*◌, List, [], ◌∷◌, ◌++◌, eqb, Option}
use Rattle.format.specs.Words.{member_of}
use Rattle.format.specs.Plan.{Value, from_column, from_group, from_code, ElementPlan}
use Rattle.format.specs.Job.{Job}
use Rattle.format.specs.Refusal.{separators}
use Rattle.column.specs.Cell.{Cell, null, binary, int64, decimal, date32, time32, cell_of}
use Rattle.texts.specs.Number.{int_text, decimal_text}
use Rattle.texts.specs.Wide.{signed64, signed128}
use Rattle.texts.specs.Floor.{signed32}
use Rattle.texts.specs.Reason.{Width, Outcome, gives}
use Rattle.texts.specs.DateText.{date_text}
use Rattle.texts.specs.Clock.{time_text}
use Rattle.segment.specs.Parts.{Part, pick}
use Rattle.nest.specs.Finding.{Finding, Origin, cell, Place, delimiter, not_writable}
use Rattle.format.specs.Ask.{max_of, data_of}

-- ---- texts

-- a cell's text for an element with that max, or the reason why it has none; a null writes an empty place
unfoldable pub cell_text : Cell → Width → Outcome
cell_text null max = gives []
cell_text (binary bytes) max = gives bytes
cell_text (int64 x) max = gives (int_text (signed64 x))
cell_text (decimal x scale) max = gives (decimal_text (signed128 x) scale)
cell_text (date32 x) max = date_text (signed32 x) max
cell_text (time32 x) max = time_text (signed32 x) max

-- row r of table t, at element e and component c of the segment id
abbrev pub cell_outcome : Job → List ℕ → ℕ → ℕ → ℕ → Option ℕ → ℕ → Outcome
cell_outcome j id t r e c column = cell_text (cell_of (data_of j t) column r) (max_of j id e c)

-- ---- findings on a text

abbrev pub place_of : List ℕ → ℕ → Option ℕ → Place
place_of id e c = record { identifier = id; element = e; component = c }

-- a finding for each of these separators that the text holds; their roles count from `role`
unfoldable pub held_in : Origin → Place → List ℕ → ℕ → List ℕ → List Finding
held_in o p text role [] = []
held_in o p text role (b ∷ bs) = pick (member_of b text) (delimiter o p b role ∷ []) [] ++ held_in o p text (role + 1) bs

-- separators are tried as element, component, segment, then repetition if present
unfoldable pub delimited : Job → Origin → Place → List ℕ → List Finding
delimited j o p text = held_in o p text 0 (separators j.envelope)

-- a reason other than 0 is a finding
unfoldable pub unwritten : Origin → Place → ℕ → List Finding
unwritten o p zero = []
unwritten o p (suc n) = not_writable o p (suc n) ∷ []

-- ---- a place

pub record Put : Type 0 where
  pub parts : List Part
  pub findings : List Finding
  pub entries : ℕ

abbrev pub nothing : Put
nothing = record { parts = []; findings = []; entries = 0 }

abbrev pub and_put : Put → Put → Put
and_put a b = record { parts = a.parts ++ b.parts; findings = a.findings ++ b.findings; entries = a.entries + b.entries }

abbrev pub put_all : {A : Type 0} → (A → Put) → List A → Put
put_all f [] = nothing
put_all f (x ∷ xs) = and_put (f x) (put_all f xs)

abbrev pub part_at : ℕ → Option ℕ → List ℕ → Part
part_at e c text = record { element = e; component = c; text = text }

-- a text that is not tried for separators and has no trace entry
abbrev pub put_text : ℕ → Option ℕ → List ℕ → Put
put_text e c text = record { parts = part_at e c text ∷ []; findings = []; entries = 0 }

-- a cell, of an absent column too
unfoldable pub put_cell : Job → List ℕ → ℕ → Option ℕ → ℕ → ℕ → ℕ → Put
put_cell j id e c t column r =
    let o = cell_outcome j id t r e c column in
    let from = cell t r column in
    let p = place_of id e c in
    record { parts = part_at e c o.text ∷ []; findings = unwritten from p o.reason ++ delimited j from p o.text; entries = 1 }

-- ---- a planned element

-- in a row segment; a `Group` value writes none
abbrev pub row_value : Job → List ℕ → ℕ → ℕ → ElementPlan → Value → Put
row_value j id t r p (from_column c) = put_cell j id p.element p.component t c r
row_value j id t r p (from_group c) = nothing
row_value j id t r p (from_code code) = put_text p.element p.component code

-- in a repeat segment, for its row number k: columns and codes come from the first, a `Group` value stands k steps behind
abbrev pub chunk_value : Job → List ℕ → ℕ → ℕ → ℕ → ℕ → ElementPlan → Value → Put
chunk_value j id t step k r p (from_column c) = pick (eqb k 0) (put_cell j id p.element p.component t c r) nothing
chunk_value j id t step k r p (from_group c) = put_cell j id (p.element + k * step) p.component t c r
chunk_value j id t step k r p (from_code code) = pick (eqb k 0) (put_text p.element p.component code) nothing

unfoldable pub row_put : Job → List ℕ → ℕ → ℕ → List ElementPlan → Put
row_put j id t r = put_all (λ (p : ElementPlan). row_value j id t r p p.value)

unfoldable pub chunk_put : Job → List ℕ → ℕ → ℕ → ℕ → ℕ → List ElementPlan → Put
chunk_put j id t step k r = put_all (λ (p : ElementPlan). chunk_value j id t step k r p p.value)

-- all rows of a chunk, counted from k
unfoldable pub chunk_puts : Job → List ℕ → ℕ → ℕ → ℕ → List ElementPlan → List ℕ → Put
chunk_puts j id t step k plans [] = nothing
chunk_puts j id t step k plans (r ∷ rs) = and_put (chunk_put j id t step k r plans) (chunk_puts j id t step (k + 1) plans rs)
