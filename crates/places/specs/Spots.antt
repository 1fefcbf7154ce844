-- Not to be believed: words of inner contracts, on which no contract of what users call rests.
-- The places of a planned segment, as tests (docs/RULES.md, "Places"). Collisions in a full chunk are found by arithmetic on element, step and reach, and
-- not by listing places.
use Rattle.std.specs.Prelude.{ℕ, ◌-◌, ◌/◌, ◌%◌, max, List, [], ◌∷◌, Bool, true, false, not, leb, ltb, eqb}
use Rattle.codec.specs.Codec.{pick}
use Rattle.codec.specs.Limits.{any, any_of}
use Rattle.format.specs.Plan.{Source, from_envelope, from_row, from_repeat, Value, from_column, from_group, from_code, ElementPlan, SegmentPlan, LoopPlan}
use Rattle.format.specs.Job.{Job}
use Rattle.format.specs.Ask.{capacity_of, step_of}
use Rattle.segment.specs.Parts.{rank}
use Rattle.complete.specs.Complete.{step_in}
use Rattle.codes.specs.Rules.{low}
use Rattle.places.specs.declared.spots.Spot.{Spot}
use Rattle.places.specs.declared.spots.Filled.{Filled}
use Rattle.places.specs.declared.spots.Filled.TheVariants.{Envelope, Row, Repeat}

-- how many rows of a chunk of `room` rows fill a planned element
abbrev pub reach_of : ℕ → Value → ℕ
reach_of room (from_column c) = 1
reach_of room (from_group c) = room
reach_of room (from_code t) = 1

-- a planned element's first place, and how many rows fill it
abbrev pub spot_of : ℕ → ElementPlan → Spot
spot_of room e = record { element = e.element; component = e.component; reach = reach_of room e.value }

-- ---- two planned elements of one segment

-- y is among the first r of x, x + step, x + 2 step, .., where x is not above y
unfoldable pub hits : ℕ → ℕ → ℕ → ℕ → Bool
hits step r x y = pick (eqb step 0) (eqb x y) (pick (eqb ((y - x) % step) 0) (ltb ((y - x) / step) r) false)

-- some row of the one stands at the element of some row of the other
unfoldable pub meet : ℕ → Spot → Spot → Bool
meet step x y = pick (leb x.element y.element) (hits step x.reach x.element y.element) (hits step y.reach y.element x.element)

-- one is plain and the other a component
unfoldable pub mixed : Spot → Spot → Bool
mixed x y = pick (eqb (rank x.component) 0) (not (eqb (rank y.component) 0)) (eqb (rank y.component) 0)

-- the place of x is in front of that of y
unfoldable pub front : Spot → Spot → Bool
front x y = pick (ltb x.element y.element) true (pick (eqb x.element y.element) (ltb (rank x.component) (rank y.component)) false)

-- by what fills the segment: an envelope 0, a row 1, repeat rows 2
abbrev pub kind_of : Source → ℕ
kind_of from_envelope = 0
kind_of (from_row t) = 1
kind_of (from_repeat t) = 2

-- row segments' places rise, a repeat segment's don't collide; m says whether they meet
unfoldable pub misplaced : ℕ → Bool → Spot → Spot → Bool
misplaced kind m x y = pick (eqb kind 1) (not (front x y)) (pick (eqb kind 2) (pick m (eqb (rank x.component) (rank y.component)) false) false)

unfoldable pub clash : ℕ → ℕ → Spot → Spot → Bool
clash kind step x y = any (misplaced kind (meet step x y) x y ∷ pick (meet step x y) (mixed x y) false ∷ [])

-- ---- one: places start at 1, and its rows' places differ
unfoldable pub wrong_spot : ℕ → Spot → Bool
wrong_spot step x = any (low x.element ∷ eqb (rank x.component) 1 ∷ pick (eqb step 0) (ltb 1 x.reach) false ∷ [])

-- ---- the elements of a segment

-- some item fails by itself or with one behind it
unfoldable pub pairs : {A : Type 0} → (A → Bool) → (A → A → Bool) → List A → Bool
pairs u f [] = false
pairs u f (x ∷ xs) = pick (pick (u x) true (any_of (f x) xs)) true (pairs u f xs)

abbrev pub wrong_spot_of : ℕ → ℕ → ElementPlan → Bool
wrong_spot_of step room e = wrong_spot step (spot_of room e)

abbrev pub clash_of : ℕ → ℕ → ℕ → ElementPlan → ElementPlan → Bool
clash_of kind step room a b = clash kind step (spot_of room a) (spot_of room b)

-- an element fails by itself or with one of those behind it
abbrev pub fails : ℕ → ℕ → ℕ → List ElementPlan → ElementPlan → Bool
fails kind step room ys y = pick (wrong_spot_of step room y) true (any_of (clash_of kind step room y) ys)

unfoldable pub wrong_spots : ℕ → ℕ → ℕ → List ElementPlan → Bool
wrong_spots kind step room es = pairs (wrong_spot_of step room) (clash_of kind step room) es

-- how many rows a full chunk has
abbrev pub room_in : Job → Source → ℕ
room_in j from_envelope = 1
room_in j (from_row t) = 1
room_in j (from_repeat t) = max 1 (capacity_of j t)

-- what fills a segment, as code keeps it, and its three numbers
abbrev pub filled_of : Job → Source → Filled
filled_of j from_envelope = Envelope
filled_of j (from_row t) = Row
filled_of j (from_repeat t) = Repeat (step_of j t) (max 1 (capacity_of j t))

abbrev pub kind_by : Filled → ℕ
kind_by Envelope = 0
kind_by Row = 1
kind_by (Repeat step room) = 2

abbrev pub step_by : Filled → ℕ
step_by Envelope = 0
step_by Row = 0
step_by (Repeat step room) = step

abbrev pub room_by : Filled → ℕ
room_by Envelope = 1
room_by Row = 1
room_by (Repeat step room) = room

unfoldable pub wrong_segment : Job → SegmentPlan → Bool
wrong_segment j p = wrong_spots (kind_of p.source) (step_in j p.source) (room_in j p.source) p.elements

unfoldable pub wrong_plan : Job → LoopPlan → Bool
wrong_plan j p = any_of (wrong_segment j) p.segments
