-- A job that is not refused and whose plan is complete, with all that the places of a complete plan speak of: a trigger that gives separators, a
-- closer, a row segment, and a repeat segment of two rows a chunk (docs/RULES.md, "A complete plan").
use Rattle.std.specs.Prelude.{ℕ, true, false, List, [], ◌∷◌, codes, None, Some}
use Rattle.format.specs.Spec.{required, situational, count_children, kind_an, ElementDef, Spec}
use Rattle.format.specs.Plan.{enveloped, rows_of, from_envelope, from_row, from_repeat, from_column, from_group, Value, ElementPlan, SegmentPlan, Plan}
use Rattle.format.specs.Layout.{segment_item, loop_item}
use Rattle.format.specs.Data.{TableData}
use Rattle.format.specs.Job.{Job}

abbrev pub ISA : List ℕ
ISA = codes "ISA"

abbrev pub IEA : List ℕ
IEA = codes "IEA"

abbrev pub CLP : List ℕ
CLP = codes "CLP"

abbrev pub CAS : List ℕ
CAS = codes "CAS"

abbrev pub element : ElementDef
element = record { kind = kind_an; min = Some 1; max = Some 38; components = []; codes = [] }

abbrev pub spec : Spec
spec = record {
  loops =
      record { parent = None; trigger = ISA; occurrences = ISA ∷ []; usage = required; end = Some IEA; control = Some (record { opener = 13; closer = 2; count = 1; counted = count_children }); children = 1 ∷ [] }
      ∷ record { parent = Some 0; trigger = CLP; occurrences = CLP ∷ CAS ∷ []; usage = situational; end = None; control = None; children = [] } ∷ [];
  roots = 0 ∷ [];
  segments = (CLP, (1, element) ∷ []) ∷ (ISA, (11, element) ∷ (13, element) ∷ (16, element) ∷ []) ∷ [];
  tables =
      record { loops = 1 ∷ []; segment = false; repeat = None; columns = 1; parent = None; ancestors = [] }
      ∷ record { loops = 1 ∷ []; segment = true; repeat = Some (record { from = 2; step = 3 }); columns = 3; parent = Some 0; ancestors = 0 ∷ [] } ∷ [];
  version = None;
}

abbrev pub placed : ℕ → Value → ElementPlan
placed e v = record { element = e; component = None; value = v }

abbrev pub claim : SegmentPlan
claim = record { occurrence = 0; source = from_row 0; elements = placed 1 (from_column 0) ∷ [] }

-- a qualifier, and for each row a reason and an amount
abbrev pub adjustments : SegmentPlan
adjustments = record { occurrence = 1; source = from_repeat 1; elements = placed 1 (from_column 0) ∷ placed 2 (from_group 1) ∷ placed 3 (from_group 2) ∷ [] }

abbrev pub plan : Plan
plan =
    record { instances = enveloped; segments = record { occurrence = 0; source = from_envelope; elements = [] } ∷ [] }
    ∷ record { instances = rows_of 0; segments = claim ∷ adjustments ∷ [] } ∷ []

abbrev pub empty : TableData
empty = record { rows = 0; row = None; segment = None; refs = []; columns = [] }

abbrev pub job : Job
job = record {
  spec = spec;
  plan = plan;
  layout = record {
    order = (segment_item 0 ∷ loop_item 1 ∷ []) ∷ (segment_item 0 ∷ segment_item 1 ∷ []) ∷ [];
    forced = (false ∷ []) ∷ (false ∷ false ∷ []) ∷ [];
    group_columns = [] ∷ [] ∷ [];
    depth = Some 0 ∷ None ∷ [];
    capacity = 1 ∷ 2 ∷ [];
  };
  envelope = record {
    sender_qualifier = [];
    sender_id = [];
    receiver_qualifier = [];
    receiver_id = [];
    application_sender = None;
    application_receiver = None;
    date = 0;
    time = 0;
    usage_indicator = [];
    control_number = 1;
    element = 42;
    component = 58;
    segment = 126;
    repetition = Some 94;
    line_break = false;
  };
  tables = empty ∷ empty ∷ [];
}
