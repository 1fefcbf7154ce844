-- The refusals 1 to 5 (docs/RULES.md, "Answers" and "Limits"): the lowest that applies, each judged over the whole job.
use Rattle.std.specs.Prelude.{ℕ, ◌+◌, List, [], ◌∷◌, Bool, false, not, length, get_or, leb, ltb, eqb, Option, None, Some}
use Rattle.codec.specs.Codec.{pick}
use Rattle.codec.specs.Limits.{any, any_of}
use Rattle.format.specs.Words.{any_from, all_of, if_some, present, times_in, member_of, repeats, times, between}
use Rattle.format.specs.Spec.{Control, Loop, no_loop, ComponentDef, ElementDef, SegmentDef, Repeat, Table, Version, Spec}
use Rattle.format.specs.Plan.{ElementPlan, SegmentPlan, LoopPlan}
use Rattle.format.specs.Layout.{Item, segment_item, loop_item}
use Rattle.format.specs.Envelope.{Envelope}
use Rattle.format.specs.Data.{Values, binary, int64, decimal, date32, time32, Column, TableData}
use Rattle.format.specs.Job.{Job}
use Rattle.format.specs.Sections.{broken, spoilt, job_of}

-- ---- 3: a limit is passed
-- element, component, step, capacity and min are 255 at most
unfoldable pub large : ℕ → Bool
large n = ltb 255 n

unfoldable pub over_control : Control → Bool
over_control c = any (large c.opener ∷ large c.closer ∷ large c.count ∷ [])

unfoldable pub over_loop : Loop → Bool
over_loop l = any (ltb 32 (length l.occurrences) ∷ if_some over_control l.control ∷ [])

-- a component and its number
unfoldable pub over_component : ℕ × ComponentDef → Bool
over_component c = any (large c.0 ∷ if_some large c.1.min ∷ [])

-- an element and its number
unfoldable pub over_element : ℕ × ElementDef → Bool
over_element e = any (large e.0 ∷ if_some large e.1.min ∷ any_of over_component e.1.components ∷ [])

unfoldable pub over_segment : List ℕ × SegmentDef → Bool
over_segment s = any_of over_element s.1

unfoldable pub over_step : Repeat → Bool
over_step r = large r.step

unfoldable pub over_table : Table → Bool
over_table t = any (ltb 32 t.columns ∷ if_some over_step t.repeat ∷ [])

unfoldable pub over_version : Version → Bool
over_version v = large v.element

unfoldable pub over_element_plan : ElementPlan → Bool
over_element_plan e = any (large e.element ∷ if_some large e.component ∷ [])

unfoldable pub over_segment_plan : SegmentPlan → Bool
over_segment_plan s = any_of over_element_plan s.elements

unfoldable pub over_loop_plan : LoopPlan → Bool
over_loop_plan l = any (ltb 32 (length l.segments) ∷ any_of over_segment_plan l.segments ∷ [])

unfoldable pub over_table_data : TableData → Bool
over_table_data t = ltb 32 (length t.columns)

-- the rows of all tables together
unfoldable pub rows_of_all : List TableData → ℕ
rows_of_all [] = 0
rows_of_all (t ∷ ts) = t.rows + rows_of_all ts

unfoldable pub over_spec : Spec → Bool
over_spec s = any
    (ltb 32 (length s.loops)
    ∷ ltb 16 (length s.tables)
    ∷ any_of over_loop s.loops
    ∷ any_of over_segment s.segments
    ∷ any_of over_table s.tables
    ∷ if_some over_version s.version
    ∷ [])

unfoldable pub over_data : List TableData → Bool
over_data d = any (ltb 16 (length d) ∷ ltb 4096 (rows_of_all d) ∷ any_of over_table_data d ∷ [])

unfoldable pub over : Job → Bool
over j = any (over_spec j.spec ∷ any_of over_loop_plan j.plan ∷ any_of large j.layout.capacity ∷ over_data j.tables ∷ [])

-- ---- 4: the loops are no forest that roots, tables and orders fit
-- the loop of a number
abbrev pub loop_at : List Loop → ℕ → Loop
loop_at ls i = get_or ls i no_loop

-- the loops that an order names
unfoldable pub loops_in : List Item → List ℕ
loops_in [] = []
loops_in (segment_item k ∷ is) = loops_in is
loops_in (loop_item l ∷ is) = l ∷ loops_in is

-- a number that is no loop's, of n loops
unfoldable pub outside : ℕ → ℕ → Bool
outside n l = leb n l

unfoldable pub outside_loop : ℕ → Loop → Bool
outside_loop n v = any (if_some (outside n) v.parent ∷ any_of (outside n) v.children ∷ [])

unfoldable pub outside_table : ℕ → Table → Bool
outside_table n t = any_of (outside n) t.loops

unfoldable pub outside_order : ℕ → List Item → Bool
outside_order n o = any_of (outside n) (loops_in o)

-- the loop c has another parent than i, or none
unfoldable pub not_parent : List Loop → ℕ → ℕ → Bool
not_parent ls i c = not (if_some (eqb i) (loop_at ls c).parent)

-- the loop i is no child of p
unfoldable pub not_child : List Loop → ℕ → ℕ → Bool
not_child ls i p = not (member_of i (loop_at ls p).children)

-- the loop i and its children or its parent disagree, or a child repeats
unfoldable pub disagrees : List Loop → ℕ → Loop → Bool
disagrees ls i v = any (any_of (not_parent ls i) v.children ∷ if_some (not_child ls i) v.parent ∷ repeats v.children ∷ [])

-- one step up
unfoldable pub up : List Loop → Option ℕ → Option ℕ
up ls None = None
up ls (Some l) = (loop_at ls l).parent

-- as many steps up as there are loops come past no root: the loop is on a ring or below one
unfoldable pub ringed : List Loop → ℕ → Loop → Bool
ringed ls i v = present (times (length ls) (up ls) (Some i))

-- a loop without parent is exactly once in roots, another not at all
unfoldable pub misrooted : List ℕ → ℕ → Loop → Bool
misrooted roots i v = not (eqb (times_in i roots) (pick (present v.parent) 0 1))

-- the order of the loop k names a loop that is not its child, or one twice
unfoldable pub misordered : List Loop → ℕ → List Item → Bool
misordered ls k o = any (any_of (λ l. not_child ls l k) (loops_in o) ∷ repeats (loops_in o) ∷ [])

unfoldable pub tangled_loops : List Loop → List ℕ → Bool
tangled_loops ls roots = any
    (any_of (outside_loop (length ls)) ls
    ∷ any_of (outside (length ls)) roots
    ∷ any_from (disagrees ls) 0 ls
    ∷ any_from (ringed ls) 0 ls
    ∷ any_from (misrooted roots) 0 ls
    ∷ [])

unfoldable pub tangled : Job → Bool
tangled j = any
    (tangled_loops j.spec.loops j.spec.roots
    ∷ any_of (outside_table (length j.spec.loops)) j.spec.tables
    ∷ any_of (outside_order (length j.spec.loops)) j.layout.order
    ∷ any_from (misordered j.spec.loops) 0 j.layout.order
    ∷ [])

-- ---- 5: separators, identifiers, scales and texts
unfoldable pub upper : ℕ → Bool
upper c = between 65 90 c

unfoldable pub digit : ℕ → Bool
digit c = between 48 57 c

-- a letter, a digit, space, minus or point
unfoldable pub textual : ℕ → Bool
textual c = any (upper c ∷ between 97 122 c ∷ digit c ∷ eqb c 32 ∷ eqb c 45 ∷ eqb c 46 ∷ [])

unfoldable pub separators : Envelope → List ℕ
separators e = e.element ∷ e.component ∷ e.segment ∷ optional e.repetition
  where
    optional : Option ℕ → List ℕ
    optional None = []
    optional (Some c) = c ∷ []

-- 2 or 3 bytes of A to Z, 0 to 9
unfoldable pub identifier : List ℕ → Bool
identifier s = pick (between 2 3 (length s)) (all_of (λ c. any (upper c ∷ digit c ∷ [])) s) false

unfoldable pub unnamed : List ℕ → Bool
unnamed s = not (identifier s)

unfoldable pub foreign : List ℕ → Bool
foreign s = any_of (λ c. ltb 127 c) s

unfoldable pub unfit_loop : Loop → Bool
unfit_loop v = any (unnamed v.trigger ∷ any_of unnamed v.occurrences ∷ if_some unnamed v.end ∷ [])

unfoldable pub unfit_component : ℕ × ComponentDef → Bool
unfit_component c = any_of foreign c.1.codes

unfoldable pub unfit_element : ℕ × ElementDef → Bool
unfit_element e = any (any_of unfit_component e.1.components ∷ any_of foreign e.1.codes ∷ [])

unfoldable pub unfit_segment : List ℕ × SegmentDef → Bool
unfit_segment s = any (unnamed s.0 ∷ any_of unfit_element s.1 ∷ [])

unfoldable pub unfit_version : Version → Bool
unfit_version v = any (unnamed v.segment ∷ foreign v.first ∷ [])

unfoldable pub unfit_spec : Spec → Bool
unfit_spec s = any (any_of unfit_loop s.loops ∷ any_of unfit_segment s.segments ∷ if_some unfit_version s.version ∷ [])

unfoldable pub unfit_envelope : Envelope → Bool
unfit_envelope e = any
    (repeats (separators e)
    ∷ any_of textual (separators e)
    ∷ foreign e.sender_qualifier
    ∷ foreign e.sender_id
    ∷ foreign e.receiver_qualifier
    ∷ foreign e.receiver_id
    ∷ if_some foreign e.application_sender
    ∷ if_some foreign e.application_receiver
    ∷ foreign e.usage_indicator
    ∷ [])

unfoldable pub scale : Values → ℕ
scale (binary offsets bytes) = 0
scale (int64 xs s) = s
scale (decimal xs s) = s
scale (date32 xs) = 0
scale (time32 xs) = 0

unfoldable pub unfit_column : Column → Bool
unfit_column c = ltb 38 (scale c.values)

unfoldable pub unfit_reference : ℕ × Option Column → Bool
unfit_reference r = if_some unfit_column r.1

unfoldable pub unfit_table_data : TableData → Bool
unfit_table_data t = any (if_some unfit_column t.row ∷ if_some unfit_column t.segment ∷ any_of unfit_reference t.refs ∷ any_of (if_some unfit_column) t.columns ∷ [])

unfoldable pub unfit : Job → Bool
unfit j = any (unfit_spec j.spec ∷ unfit_envelope j.envelope ∷ any_of unfit_table_data j.tables ∷ [])

-- ---- the lowest that applies; 0 where none does
unfoldable pub refusal_in : Job → ℕ
refusal_in j = pick (over j) 3 (pick (tangled j) 4 (pick (unfit j) 5 0))

unfoldable pub refusal_of : List ℕ → ℕ
refusal_of b = pick (broken b) 1 (pick (spoilt b) 2 (refusal_in (job_of b)))
