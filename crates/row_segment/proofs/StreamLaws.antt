-- The parts of a line, one look after the other.
use Prim.Native.Nat.{ℕ, ◌+◌, ◌≤◌, ◌<◌}
use mathlib.Core.Path.{◌≡◌, refl, sym, ap, ◌∙◌}
use Rattle.std.specs.Prelude.{Some, None}
use Rattle.std.specs.declared.option.Option.{Option}
use mathlib.Core.List.{List, [], ◌∷◌, ◌++◌}
use native.Mathlib.Nat.{zero-add}
use native.Mathlib.Omega.{arith}
use lib.ListN.{length, get_or}
use Rattle.codec.specs.Skip.{Is}
use Rattle.codec.specs.Field.{Stands as StandsIn}
use Rattle.format.specs.Plan.{ElementPlan as ElementPlanIn, element_plan_c}
use Rattle.format.specs.NoElement.{no_element_plan}
use Rattle.format.specs.Passed.{Passed}
use Rattle.format.specs.Sections.{job_of}
use Rattle.format.specs.Ask.{loop_of, planned_of, identifier_of}
use Rattle.emit.proofs.NameLaws.{name_short, holds_length}
use Rattle.spec.specs.Answers.{Holds}
use Rattle.plan.specs.declared.answers.ElementPlan.{ElementPlan}
use Rattle.plan.specs.Answers.{element_of, ElementRead}
use Rattle.plan.specs.Index.{PlanIndexed}
use Rattle.plan.specs.Elements.{Elements, ElementStep}
use Rattle.plan.proofs.Elements.{element_stands, element_step}
use Rattle.segment.specs.Parts.{Part}
use Rattle.emit.specs.Puts.{Put, nothing, and_put, part_at, put_cell, row_put}
use Rattle.emit.proofs.PutLaws.{put_next, put_end}
use Rattle.row_segment.specs.declared.parts.Line.{Line}
use Rattle.row_segment.specs.declared.parts.Planned.{Planned}
use Rattle.row_segment.specs.declared.parts.Source.{Source}
use Rattle.row_segment.specs.declared.parts.Source.TheVariants.{Cell, Code}
use Rattle.row_segment.specs.declared.parts.Look.{Look}
use Rattle.row_segment.specs.Stream.{id_of, plans, Lined, element_put, puts, part_put, outcome_of, Stands, look_put, ahead, Sees, Looks, left}

-- ---- a line

pub lined : (b : List ℕ) (x : Line) → Passed b → x.l.0 < 32 → x.count ≡ length (plans b x) → Elements b x.first (plans b x) → {k : ℕ} → k ≡ (planned_of (job_of b) x.l.0 x.i).occurrence
    → Holds b x.id (get_or (loop_of (job_of b) x.l.0).occurrences k []) → Lined b x
unfolding identifier_of
lined b x w m n p {k} e h =
    let h' : Holds b x.id (id_of b x) = rw (← e) h in
    record { low = m; count = n; first = p; id = h'; named = let a = holds_length b x.id _ h in let c = name_short b w x.l.0 k in omega (arith, a, c) }

-- ---- planned element by planned element

puts_next : (b : List ℕ) (x : Line) (k : ℕ) → k < length (plans b x) → puts b x k ≡ and_put (element_put b x (get_or (plans b x) k no_element_plan)) (puts b x (k + 1))
unfolding puts row_put
puts_next b x k h = put_next (element_put b x) (plans b x) k no_element_plan h

pub puts_end : (b : List ℕ) (x : Line) (k : ℕ) → length (plans b x) ≤ k → puts b x k ≡ nothing
unfolding puts row_put
puts_end b x k h = put_end (element_put b x) (plans b x) k h

pub nothing_then : (p : Put) → and_put nothing p ≡ p
nothing_then p = rw (zero-add p.entries)

-- from number k on the elements up to i put nothing
pub record Through (b : List ℕ) (x : Line) (k i p : ℕ) : Type 0 where
  pub whole : puts b x k ≡ puts b x i
  pub stands : Stands b x i p
  pub behind : k ≤ i

pub through_start : (b : List ℕ) (x : Line) (k p : ℕ) → Stands b x k p → Through b x k k p
through_start b x k p h = record { whole = refl; stands = h; behind = omega arith }

module _ {b idx : List ℕ} (r : PlanIndexed b idx) (x : Line) (w : Lined b x) (k i p : ℕ) (q : Through b x k i p) where
  inside : i < x.count → i < length (plans b x)
  inside h = omega (arith, w.count)

  pub through_stands : i < x.count → StandsIn element_plan_c b p
  through_stands h = element_stands b idx r p i (plans b x) (inside h) q.stands.place

  module _ (h : i < x.count) (e : ElementPlan) (f : (n : ℕ) (v : ElementPlanIn) → n ≤ length b → Is element_plan_c b n p v → ElementRead b n p v e)
      (o : Option Planned) (s : (b : List ℕ) (x : Line) → look_put b x o ≡ element_put b x (element_of b e)) where
    read : ElementStep b i (plans b x) e
    read = element_step b idx r p i (plans b x) (inside h) q.stands.place e f

    pub looked : puts b x k ≡ and_put (look_put b x o) (puts b x (i + 1))
    looked = q.whole ∙ puts_next b x i (inside h)
        ∙ ap (λ (y : ElementPlanIn). and_put (element_put b x y) (puts b x (i + 1))) (sym read.plan)
        ∙ ap (λ (y : Put). and_put y (puts b x (i + 1))) (sym (s b x))

    pub stood : Stands b x (i + 1) e.next
    stood = record { place = read.rest; within = let m = inside h in omega (arith, m) }

    pub looks_found : {y : Planned} → o ≡ Some y → Looks b x k (record { part = Some y; k = i + 1; at = e.next })
    unfolding ahead
    looks_found {y} m = record {
      sees = record { stands = stood; ended = λ z. absurd (let y : ◌≡◌ {A = ℕ} 0 1 = cc in omega arith) };
      whole = sym (rw m at looked);
      later = λ u z. omega (arith, q.behind);
    }

    pub through_next : o ≡ None → Through b x k (i + 1) e.next
    through_next m = record { whole = looked ∙ rw m (nothing_then (puts b x (i + 1))); stands = stood; behind = omega (arith, q.behind) }

  pub through_end : x.count ≤ i → x.count ≡ i
  through_end h = omega (arith, h, w.count, q.stands.within)

  pub looks_ended : (m : ℕ) → m ≡ i → x.count ≤ i → Looks b x k (record { part = None; k = m; at = p })
  unfolding ahead
  looks_ended m e h = record {
    sees = record { stands = rw e q.stands; ended = λ z. omega (arith, w.count, e, h) };
    whole = rw e (nothing_then (puts b x i) ∙ sym q.whole);
    later = λ u z. absurd (let y : ◌≡◌ {A = ℕ} 0 1 = cc in omega arith);
  }

-- ---- look by look

-- the part that a planned element gives
abbrev pub part_by : List ℕ → Line → Planned → Part
part_by b x p = part_at p.element p.component (outcome_of b x p).text

pub part_is : (b : List ℕ) (x : Line) (p : Planned) → (part_put b x p).parts ≡ part_by b x p ∷ []
unfolding part_put outcome_of put_cell
part_is b x p = go p.source refl
  where
    go : (s : Source) → p.source ≡ s → (part_put b x p).parts ≡ part_by b x p ∷ []
    go (Cell n) e = rw e
    go (Code s) e = rw e

-- a part, and what the planned elements behind it put
pub parts_here : (b : List ℕ) (x : Line) (n : Look) {y : Planned} → n.part ≡ Some y → (ahead b x n).parts ≡ part_by b x y ∷ (puts b x n.k).parts
unfolding ahead
parts_here b x n {y} e = rw e (ap (λ (ps : List Part). ps ++ (puts b x n.k).parts) (part_is b x y))

module _ {b : List ℕ} {x : Line} (n m : Look) where
  -- a part, and what the next look tells of
  pub ahead_more : {y : Planned} → n.part ≡ Some y → Looks b x n.k m → ahead b x n ≡ and_put (part_put b x y) (ahead b x m)
  unfolding ahead
  ahead_more e l = rw (e, ← l.whole)

  pub parts_more : {y : Planned} → n.part ≡ Some y → Looks b x n.k m → (ahead b x n).parts ≡ part_by b x y ∷ (ahead b x m).parts
  parts_more {y} e l = parts_here b x n e ∙ ap (λ (p : Put). part_by b x y ∷ p.parts) (sym l.whole)

  pub left_less : Lined b x → {y : Planned} → n.part ≡ Some y → Looks b x n.k m → left x.count m < left x.count n
  left_less w e l = go m.part refl
    where
      go : (t : Option Planned) → m.part ≡ t → left x.count m < left x.count n
      go (Some z) q = rw (e, q) (let a = l.later z q in let c = l.sees.stands.within in omega (arith, a, c, w.count))
      go None q = rw (e, q) (omega arith)

-- no part is left
pub ahead_none : (b : List ℕ) (x : Line) (n : Look) → n.part ≡ None → Sees b x n → ahead b x n ≡ nothing
unfolding ahead
ahead_none b x n e s = rw (e, puts_end b x n.k (s.ended e))
