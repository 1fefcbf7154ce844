-- Not to be believed: words of inner contracts, on which no contract of what users call rests.
-- The elements of a trigger as code draws them.
use Rattle.std.specs.Prelude.{ℕ, ◌≤◌, ◌<◌, max, ◌≡◌, Bool, true, false, List, [], ◌∷◌, length, get_or, Option, None}
use Rattle.lent.specs.Fit.{more, Stored}
use Rattle.lent.specs.Window.{Noted}
use Rattle.codec.specs.Maps.{rises_from}
use Rattle.format.specs.Spec.{ElementDef, SegmentDef}
use Rattle.format.specs.Job.{Job}
use Rattle.nest.specs.Job.{job_by}
use Rattle.format.specs.Ask.{loop_of, min_of, depth_of}
use Rattle.spec.specs.declared.ids.Element.{Element}
use Rattle.spec.specs.declared.ids.Elements.{Elements}
use Rattle.spec.specs.Answers.{rule_of}
use Rattle.spec.specs.Cursor.{Entries, ElementSays}
use Rattle.segment.specs.declared.Separators.{Separators}
use Rattle.segment.specs.declared.Pen.{Pen}
use Rattle.segment.specs.Parts.{Part, last_element, last_component, component_text, joined}
use Rattle.segment.specs.Values.{closing}
use Rattle.segment.specs.Group.{Group}
use Rattle.segment.specs.Calls.{Row}
use Rattle.nest.specs.Lists.{on}
use Rattle.emit.specs.Puts.{Put, part_at}
use Rattle.emit.specs.Written.{words_of}
use Rattle.emit.specs.Envelope.{field_findings, control_in, put_element}
use Rattle.emit.specs.Fold.{separators_of}
use Rattle.trigger.specs.declared.frame.Frame.{Frame}
use Rattle.trigger.specs.declared.opener.Drawn.{Drawn}
use Rattle.trigger.specs.declared.opener.Put as answer

-- the trigger's identifier
abbrev pub trigger_of : Frame → List ℕ
trigger_of w = (loop_of (job_by w.job) w.l.0).trigger

-- what an element of a trigger puts
abbrev pub element_put : Frame → ℕ × ElementDef → Put
element_put w = put_element (job_by w.job) (trigger_of w) (depth_of (job_by w.job) w.l.0) w.rule.opener (control_in (job_by w.job) w.l.0 (rule_of w.rule) w.number)

-- a text at an element: a part, the findings on it and a trace entry if it comes from a field
abbrev pub put_by : Job → List ℕ → ℕ → Option ℕ → ℕ → Bool → List ℕ → Put
put_by j trigger p field reason checked text = record {
  parts = part_at p None text ∷ [];
  findings = on field (λ f. field_findings j trigger p f (record { text = text; reason = reason; checked = checked }) text) [];
  entries = on field (λ f. 1) 0;
}

-- calls that draw the parts of one element, or leave them where a part at element 0 stays for good; whether one does, before and after
pub data Draws (s : Separators) : Bool → List Part → Pen → List ℕ → Bool → Pen → List ℕ → Type 0 where
  left : {parts : List Part} {pen : Pen} {d : List ℕ} → Draws s true parts pen d true pen d
  nothing : {pen : Pen} {d : List ℕ} → Draws s false [] pen d false pen d
  sticks : {x : Part} {pen : Pen} {d : List ℕ} → x.element < 1 → Draws s false (x ∷ []) pen d true pen d
  one : {x : Part} {pen r : Pen} {d d₁ : List ℕ} → 1 ≤ x.element → Group s (last_component (x ∷ [])) (component_text (x ∷ [])) x.element 1 pen d r d₁ → Draws s false (x ∷ []) pen d false r d₁

-- what an element puts is added to what was drawn
pub record Adds (s : Separators) (p : Put) (at r : Drawn) (d d₁ f f₁ : List ℕ) : Type 0 where
  pub drawn : Draws s at.stuck p.parts at.pen d r.stuck r.pen d₁
  pub findings : Noted f at.findings (words_of p.findings) r.findings f₁
  pub entries : r.entries ≡ more at.entries p.entries
  pub last : r.last ≡ max at.last (last_element p.parts)

-- an element that a definition has
pub record Known (b : List ℕ) (x : Element) : Type 0 where
  pub def : ℕ × ElementDef
  pub says : ElementSays b x def

-- a trigger's elements, from where the cursor is
pub record Opening (w : Frame) (c : Elements) : Type 0 where
  pub elements : SegmentDef
  pub entries : Entries w.job.at.bytes.now c elements
  pub rises : rises_from 0 elements ≡ true
  pub mins : (y : ℕ × ElementDef) (i : ℕ) → i < length elements → min_of (job_by w.job) (trigger_of w) (get_or elements i y).0 ≡ (get_or elements i y).1.min

-- all of a trigger's elements were drawn, and closing its segment joins their parts
pub record Drew (s : Separators) (p : Put) (pen : Pen) (at : ℕ) (r : Drawn) (d d₁ f f₁ : List ℕ) : Type 0 where
  pub findings : Noted f at (words_of p.findings) r.findings f₁
  pub entries : r.entries ≡ more 0 p.entries
  pub last : r.last ≡ last_element p.parts
  pub closes : (e : ℕ) (d₂ : List ℕ) → Stored d₁ r.pen.at (closing s r.pen r.last) e d₂ → Row s r.last 1 p.parts pen d e d₂

-- a trigger that puts p was written
pub record Opened (j : Job) (trigger : List ℕ) (p : Put) (at noted : ℕ) (r : answer.Put) (d d₁ f f₁ : List ℕ) : Type 0 where
  pub bytes : Stored d at (joined (separators_of j) trigger p.parts) r.bytes d₁
  pub findings : Noted f noted (words_of p.findings) r.findings f₁
  pub entries : r.entries ≡ more 0 p.entries
