-- Parts that come in the order of their places, planned element by planned element.
use Prim.Native.Nat.{ℕ, ◌+◌, ◌≤◌, ◌<◌}
use mathlib.Core.Path.{◌≡◌, refl, ap, ◌∙◌}
use Rattle.std.specs.Prelude.{Some, None}
use Rattle.std.specs.declared.option.Option.{Option}
use mathlib.Core.List.{List, [], ◌∷◌, ◌++◌}
use native.Mathlib.Omega.{arith}
use lib.ListN.{length}
use Rattle.lent.specs.Window.{base, stretch}
use Rattle.lent.specs.Fit.{cap, more, Stored, StoredAt}
use Rattle.lent.proofs.Fit.{wide}
use Rattle.lent.proofs.Laws.{stored_none, stored_append, stored_length, stored_small}
use Rattle.codec.specs.Skip.{Is}
use Rattle.codec.specs.Field.{Stands as StandsIn}
use Rattle.format.specs.Plan.{ElementPlan as ElementPlanIn, element_plan_c}
use Rattle.format.specs.Sections.{job_of}
use Rattle.spec.specs.Answers.{stretch_of}
use Rattle.plan.specs.declared.answers.ElementPlan.{ElementPlan}
use Rattle.plan.specs.Index.{PlanIndexed}
use Rattle.plan.specs.Answers.{element_of, ElementRead}
use Rattle.segment.specs.declared.Separators.{Separators}
use Rattle.segment.specs.declared.Pen.{Pen}
use Rattle.segment.specs.Parts.{Part, component_of, joined}
use Rattle.segment.specs.Values.{opened, closing}
use Rattle.segment.specs.Pen.{Penned}
use Rattle.segment.specs.Calls.{Behind, Rises, Fed, done, part}
use Rattle.segment.proofs.Fed.{fed_stored}
use Rattle.emit.specs.Fold.{separators_of}
use Rattle.emit.specs.Puts.{Put, nothing, and_put}
use Rattle.emit.specs.Written.{words_of}
use Rattle.emit.proofs.FindingLaws.{stored_findings, none_stored}
use Rattle.row_segment.specs.declared.parts.Line.{Line}
use Rattle.row_segment.specs.declared.parts.Planned.{Planned}
use Rattle.row_segment.specs.declared.feed.Behind.{Behind as Put-behind}
use Rattle.row_segment.specs.Stream.{id_of, Lined, element_put, puts, part_put, Stands, look_put}
use Rattle.row_segment.specs.Notes.{Totals}
use Rattle.row_segment.specs.Feed.{Stood, AllStood}
use Rattle.row_segment.proofs.StreamLaws.{puts_end, nothing_then, through_start, through_stands, looked, stood, part_by, part_is}
use Rattle.row_segment.proofs.NoteLaws.{puts_few}

-- ---- one planned element

pub stands_first : (b : List ℕ) (x : Line) → Lined b x → Stands b x 0 x.first
stands_first b x w = record { place = w.first; within = omega arith }

module _ {b idx : List ℕ} (r : PlanIndexed b idx) (x : Line) (w : Lined b x) (k p : ℕ) (q : Stands b x k p) (h : k < x.count) where
  pub stands_here : StandsIn element_plan_c b p
  stands_here = through_stands r x w k k p (through_start b x k p q) h

  module _ (e : ElementPlan) (f : (n : ℕ) (v : ElementPlanIn) → n ≤ length b → Is element_plan_c b n p v → ElementRead b n p v e)
      (o : Option Planned) (s : (b : List ℕ) (x : Line) → look_put b x o ≡ element_put b x (element_of b e)) where
    pub stands_next : Stands b x (k + 1) e.next
    stands_next = stood r x w k k p (through_start b x k p q) h e f o s

    puts_look : puts b x k ≡ and_put (look_put b x o) (puts b x (k + 1))
    puts_look = looked r x w k k p (through_start b x k p q) h e f o s

    pub puts_some : {y : Planned} → o ≡ Some y → puts b x k ≡ and_put (part_put b x y) (puts b x (k + 1))
    puts_some m = rw m at puts_look

    pub puts_none : o ≡ None → puts b x k ≡ puts b x (k + 1)
    puts_none m = (rw m at puts_look) ∙ nothing_then (puts b x (k + 1))

-- a part, and those behind it
parts_some : (b : List ℕ) (x : Line) (k : ℕ) (y : Planned) → puts b x k ≡ and_put (part_put b x y) (puts b x (k + 1)) → (puts b x k).parts ≡ part_by b x y ∷ (puts b x (k + 1)).parts
parts_some b x k y e = ap (λ (z : Put). z.parts) e ∙ ap (λ (ps : List Part). ps ++ (puts b x (k + 1)).parts) (part_is b x y)

-- ---- their order

-- if the parts from number k on rise from component `from` of element `at` on, all do
pub record Ordering (b : List ℕ) (x : Line) (k p at from : ℕ) : Type 0 where
  pub stands : Stands b x k p
  pub rest : Rises at from (puts b x k).parts → Rises 1 1 (puts b x 0).parts

pub ordering_start : (b : List ℕ) (x : Line) → Lined b x → Ordering b x 0 x.first 1 1
ordering_start b x w = record { stands = stands_first b x w; rest = λ z. z }

module _ {b : List ℕ} {x : Line} {k p at from : ℕ} (i : Ordering b x k p at from) {p' : ℕ} (q : Stands b x (k + 1) p') where
  pub ordering_part : {at' from' : ℕ} (y : Planned) → puts b x k ≡ and_put (part_put b x y) (puts b x (k + 1)) → at' ≡ y.element → from' ≡ component_of (part_by b x y) + 1
      → Behind at from (part_by b x y) → Ordering b x (k + 1) p' at' from'
  ordering_part y e f g h = record { stands = q; rest = λ z. i.rest (rw (parts_some b x k y e) (h, rw (f, g) at z)) }

  pub ordering_none : puts b x k ≡ puts b x (k + 1) → Ordering b x (k + 1) p' at from
  ordering_none e = record { stands = q; rest = λ z. i.rest (rw e z) }

pub ordering_end : {b : List ℕ} {x : Line} {k p at from : ℕ} → Lined b x → Ordering b x k p at from → x.count ≤ k → Rises 1 1 (puts b x 0).parts
ordering_end {b} {x} {k} w i h = i.rest (rw (puts_end b x k (omega (arith, w.count))) tt)

-- ---- their calls

-- calls for the parts from number k on complete those for all: the pen and the findings as they stand, n trace entries so far
pub record Feeding (s : Separators) (b : List ℕ) (x : Line) (pen : Pen) (from : ℕ) (d₀ f₀ : List ℕ) (k p : ℕ) (q : Pen) (m n : ℕ) (d f : List ℕ) : Type 0 where
  pub stands : Stands b x k p
  pub fed : (t : Pen) (d₂ : List ℕ) → Fed s (puts b x k).parts q d t d₂ → Fed s (puts b x 0).parts pen d₀ t d₂
  pub found : (e : ℕ) (g : List ℕ) → StoredAt base f m (words_of (puts b x k).findings) e g → StoredAt base f₀ from (words_of (puts b x 0).findings) e g
  pub entries : n + (puts b x k).entries ≡ (puts b x 0).entries
  pub small : m ≤ cap
  pub doc_long : length d ≡ length d₀
  pub findings_long : length f ≡ length f₀

pub feeding_start : (s : Separators) (b : List ℕ) (x : Line) (pen : Pen) (from : ℕ) (d f : List ℕ) → Lined b x → from ≤ cap → Feeding s b x pen from d f 0 x.first pen from 0 d f
feeding_start s b x pen from d f w h = record {
  stands = stands_first b x w;
  fed = λ t d₂ z. z;
  found = λ e g z. z;
  entries = omega arith;
  small = h;
  doc_long = refl;
  findings_long = refl;
}

module _ {s : Separators} {b : List ℕ} {x : Line} {pen : Pen} {from : ℕ} {d₀ f₀ : List ℕ} {k p : ℕ} {q : Pen} {m n : ℕ} {d f : List ℕ} (i : Feeding s b x pen from d₀ f₀ k p q m n d f) where
  pub feeding_few : Lined b x → x.count < 4294967296 → n < 4294967296
  feeding_few w h = omega (arith, i.entries, puts_few b x, w.count)

  pub feeding_part : (y : Planned) (g : Put-behind) {p' : ℕ} {d' f' : List ℕ} → Stands b x (k + 1) p' → length f₀ ≤ wide → puts b x k ≡ and_put (part_put b x y) (puts b x (k + 1))
      → Stood s b x y q m n d f g d' f' → Feeding s b x pen from d₀ f₀ (k + 1) p' g.pen g.findings g.entries d' f'
  feeding_part y g {p'} {d'} {f'} a h e c = record {
    stands = a;
    fed = λ t d₂ z. i.fed t d₂ (rw (parts_some b x k y e) (part c.penned z));
    found = λ u v z. i.found u v (rw e (stored_findings (part_put b x y).findings (puts b x (k + 1)).findings (rw i.findings_long h) c.findings z));
    entries = rw c.entries (let j = rw e at i.entries in omega (arith, j));
    small = stored_small _ c.findings;
    doc_long = stored_length _ c.penned.stored ∙ i.doc_long;
    findings_long = stored_length _ c.findings ∙ i.findings_long;
  }

  pub feeding_none : {p' : ℕ} → Stands b x (k + 1) p' → puts b x k ≡ puts b x (k + 1) → Feeding s b x pen from d₀ f₀ (k + 1) p' q m n d f
  feeding_none a e = record {
    stands = a;
    fed = λ t d₂ z. i.fed t d₂ (rw e z);
    found = λ u v z. i.found u v (rw e z);
    entries = rw e at i.entries;
    small = i.small;
    doc_long = i.doc_long;
    findings_long = i.findings_long;
  }

  pub feeding_end : Lined b x → x.count ≤ k → AllStood s b x pen from d₀ f₀ (record { pen = q; findings = m; entries = n }) d f
  feeding_end w h =
      let e : puts b x k ≡ nothing = puts_end b x k (omega (arith, w.count)) in
      let y : m ≡ more m 0 = omega (arith, i.small) in
      record { fed = i.fed q d (rw e done); findings = i.found m f (rw e (none_stored y)); entries = let j = rw e at i.entries in omega (arith, j) }

-- ---- the whole segment

pub line_ordered : {d d₁ d₂ d₃ f f' : List ℕ} {at from from' bytes : ℕ} {pen : Pen} {s : Separators} (b : List ℕ) (x : Line) (g : Put-behind) → Lined b x → Rises 1 1 (puts b x 0).parts
    → length d ≤ cap → length f ≤ wide → s ≡ separators_of (job_of b) → Penned (opened (stretch b x.id.start x.id.len)) at pen d d₁ → from' ≡ more from 0
    → AllStood s b x pen from' d₁ f g d₂ f' → Stored d₂ g.pen.at (closing s g.pen g.pen.elements) bytes d₃
    → Stored d at (joined (separators_of (job_of b)) (id_of b x) (puts b x 0).parts) bytes d₃ × Totals b x from g.findings g.entries f f'
unfolding stretch_of
line_ordered {f = f} {from = from} b x g w r h k q v e z c = (
  rw (← q) (fed_stored _ (id_of b x) (puts b x 0).parts h r (rw w.id.bytes at v) z.fed c),
  record { findings = stored_append [] (words_of (puts b x 0).findings) k (stored_none f from) (rw e at z.findings); entries = z.entries },
)
