-- Not to be believed: words of inner contracts, on which no contract of what users call rests.
-- What the answers of the accessors stand for.
use Rattle.std.specs.Prelude.{ℕ, ◌+◌, ◌≤◌, ◌≡◌, List, length}
use Rattle.codec.specs.Skip.{skip}
use Rattle.spec.specs.Answers.{stretch_of}
use Rattle.format.specs.Plan.{Instances as InstancesIn, absent, enveloped, rows_of, inside, groups_of, implied, Source as SourceIn, from_envelope, from_row, from_repeat, Value as ValueIn, from_column, from_group, from_code, value_c, ElementPlan as ElementPlanIn, element_plan_c}
use Rattle.format.specs.Layout.{Item as ItemIn, segment_item, loop_item}
use Rattle.plan.specs.declared.answers.Instances.{Instances}
use Rattle.plan.specs.declared.answers.Instances.TheVariants.{Absent, Envelope, Rows, Inside, Groups, Implied}
use Rattle.plan.specs.declared.answers.Source.{Source}
use Rattle.plan.specs.declared.answers.Source.TheVariants.{Envelope as EnvelopeSource, Row, Repeat}
use Rattle.plan.specs.declared.answers.ValueSource.{ValueSource}
use Rattle.plan.specs.declared.answers.ValueSource.TheVariants.{Column, Group, Code}
use Rattle.plan.specs.declared.answers.ElementPlan.{ElementPlan}
use Rattle.plan.specs.declared.answers.Item.{Item}
use Rattle.plan.specs.declared.answers.Item.TheVariants.{Segment, Loop}

abbrev pub instances_of : Instances → InstancesIn
instances_of Absent = absent
instances_of Envelope = enveloped
instances_of (Rows t) = rows_of t.0
instances_of (Inside t) = inside t.0
instances_of (Groups t) = groups_of t.0
instances_of Implied = implied

abbrev pub source_of : Source → SourceIn
source_of EnvelopeSource = from_envelope
source_of (Row t) = from_row t.0
source_of (Repeat t) = from_repeat t.0

-- how many bytes a source has
abbrev pub source_len : SourceIn → ℕ
source_len from_envelope = 1
source_len (from_row t) = 5
source_len (from_repeat t) = 5

-- a code is a stretch of the job b
abbrev pub value_of : List ℕ → ValueSource → ValueIn
value_of b (Column n) = from_column n
value_of b (Group n) = from_group n
value_of b (Code s) = from_code (stretch_of b s)

-- where a code ends
abbrev pub code_end : ValueSource → ℕ
code_end (Column n) = 0
code_end (Group n) = 0
code_end (Code s) = s.start + s.len

abbrev pub element_of : List ℕ → ElementPlan → ElementPlanIn
element_of b r = record { element = r.element; component = r.component; value = value_of b r.value }

abbrev pub item_of : Item → ItemIn
item_of (Segment i) = segment_item i
item_of (Loop l) = loop_item l.0

-- what stands for an item that is not there
abbrev pub no_item : ItemIn
no_item = segment_item 0

-- ---- what was read of the structure that stands at a place
pub record ValueRead (b : List ℕ) (e at : ℕ) (v : ValueIn) (r : ElementPlan) : Type 0 where
  pub value : value_of b r.value ≡ v
  pub next : r.next ≡ skip value_c b at e
  pub within : code_end r.value ≤ length b

pub record ElementRead (b : List ℕ) (e at : ℕ) (v : ElementPlanIn) (r : ElementPlan) : Type 0 where
  pub plan : element_of b r ≡ v
  pub next : r.next ≡ skip element_plan_c b at e
  pub within : code_end r.value ≤ length b
