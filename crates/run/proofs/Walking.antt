-- Instances, their items and their closers, one law for each way that code takes.
use Prim.Native.Nat.{ℕ, zero, suc, ◌+◌, ◌-◌, ◌*◌, ◌≤◌, ◌<◌}
use mathlib.Core.Path.{◌≡◌, refl, sym, ap, ◌∙◌}
use mathlib.Core.List.{List, [], ◌∷◌, ◌++◌}
use native.Mathlib.Omega.{arith}
use native.Mathlib.Numerals.{sub-one}
use Rattle.std.specs.Prelude.{Option, None, Some}
use lib.ListN.{length, get_or, drop}
use Rattle.format.specs.Layout as L
use Rattle.format.specs.Job.{Job}
use Rattle.format.specs.Sections.{job_of}
use Rattle.format.specs.Ask as A
use Rattle.format.specs.Orders
use Rattle.format.specs.Passed.{Passed}
use Rattle.format.proofs.Passed.{few}
use Rattle.lent.specs.Fit.{cap}
use Rattle.spec.specs.declared.ids.LoopId.{LoopId}
use Rattle.plan.specs.Answers.{item_of}
use Rattle.plan.specs.declared.answers.Item as asked
use Rattle.plan.specs.declared.answers.Item.TheVariants as item
use Rattle.nest.specs.Lists.{each}
use Rattle.nest.specs.Outline.{Outline, Item, segment, loop, kind_of, order_of, row_count}
use Rattle.nest.specs.Nest.{Row}
use Rattle.nest.specs.OfJob.{outline_of, item_in}
use Rattle.nest.specs.OutlineAt.{outline_at}
use Rattle.nest.proofs.Scan.{each_at, each_past}
use Rattle.nest.proofs.Placing.{rows_few}
use Rattle.walk.specs.Instances.{Context, instances}
use Rattle.walk.specs.Tour.{Step, enters, segments_in, own_row, stop_at, segment_steps, item_steps, body_steps, children, close_steps, instance_steps, visits}
use Rattle.walk.proofs.TourLaws.{steps_of, instance_steps_lem, no_item, children_from, children_all, children_segment, children_loop, children_end, visits_deep, inst_deep}
use Rattle.walk.proofs.Counts.{enters_count, segments_append}
use Rattle.emit.specs.declared.state.State.{State}
use Rattle.emit.specs.declared.state.Taken.{Taken}
use Rattle.emit.specs.Fold as F
use Rattle.emit.specs.Fold.{step_out, steps_out}
use Rattle.emit.specs.Did.{state_of, Did, Small, Took}
use Rattle.emit.proofs.Did.{Fit}
use Rattle.emit.proofs.TookLaws.{did_steps, took_none}
use Rattle.run.specs.declared.Visited.{Visited}
use Rattle.run.specs.Went.{Went}
use Rattle.run.proofs.Went.{item_count}
use Rattle.nest.proofs.Bridge.{order_length, order_item}
use Rattle.run.proofs.Few.{instances_few, children_few}
use Rattle.run.proofs.Along.{Along, along_none, along_next, along_end, along_room}

-- a count that is that of some steps
pub within : {w : ℕ} (xs : List Step) → w ≡ segments_in xs → segments_in xs < cap → w < cap
within xs e h = omega arith

-- ---- one instance

enters_first : (j : Job) (l : ℕ) (xs : List Step) (s : F.State) → steps_out j (enters l ∷ xs) s ≡ steps_out j xs s
unfolding steps_out step_out
enters_first j l xs s = refl

stop_count : (l : ℕ) (own : Option Row) → segments_in (stop_at l own) ≡ 0
unfolding segments_in
stop_count l None = refl
stop_count l (Some p) = refl

module _ (j : Job) (h l : ℕ) (c : Context) where
  abbrev its : List Step
  its = each (item_steps (visits (outline_of j) h) (outline_of j) l c) (order_of (outline_of j) l)

  abbrev body : List Step
  body = body_steps (visits (outline_of j) h) (outline_of j) l c

  abbrev closing : List Step
  closing = close_steps (outline_of j) l (children (instances (outline_of j) h) (outline_of j) l c) body

  abbrev whole : List Step
  whole = instance_steps (instances (outline_of j) h) (visits (outline_of j) h) (outline_of j) l c

  body_is : body ≡ stop_at l (own_row (kind_of (outline_of j) l) c) ++ its
  unfolding body_steps
  body_is = refl

  body_count : segments_in body ≡ segments_in its
  body_count = ap segments_in body_is ∙ segments_append (stop_at l (own_row (kind_of (outline_of j) l) c)) its ∙ omega (arith, stop_count l (own_row (kind_of (outline_of j) l) c))

  whole_is : whole ≡ enters l ∷ body ++ closing
  whole_is = instance_steps_lem (instances (outline_of j) h) (visits (outline_of j) h) (outline_of j) l c

  whole_count : segments_in whole ≡ segments_in its + segments_in closing
  whole_count = ap segments_in whole_is ∙ enters_count l (body ++ closing) ∙ segments_append body closing ∙ omega (arith, body_count)

  pub items_within : segments_in whole < cap → segments_in its < cap
  items_within r = omega (arith, whole_count)

  module _ {b t : State} {v : Visited} {last : Taken} {d d₁ d₂ g g₁ g₂ f₁ f₂ p₁ p₂ : List ℕ}
      (w : Went j its (children (instances (outline_of j) h) (outline_of j) l c) b t v d d₁ g g₁ f₁ f₂ p₁ p₂)
      (x : (xs : List Step) (f p : List ℕ) → v.written ≡ segments_in xs → Took j (close_steps (outline_of j) l v.instances xs) t last d₁ d₂ g₁ g₂ f f p p) where
    closed : Took j closing t last d₁ d₂ g₁ g₂ f₂ f₂ p₂ p₂
    closed = rw w.instances at (x body f₂ p₂ (w.took.written ∙ sym body_count))

    pub instance_within : segments_in whole < cap → v.written + last.written < cap
    instance_within r = omega (arith, whole_count, w.took.written, closed.written)

    pub instance_took : {s : State} {f p : List ℕ} → Fit d g f p → Did (steps_out j (stop_at l (own_row (kind_of (outline_of j) l) c)) (state_of s)) s b d d g g f f₁ p p₁
        → Took j whole s (record { state = last.state; written = v.written + last.written }) d d₂ g g₂ f f₂ p p₂
    instance_took {s} {f} {p} fit e =
        let y : Did (steps_out j body (state_of s)) s t d d₁ g g₁ f f₂ p p₂ = rw body_is (did_steps j (stop_at l (own_row (kind_of (outline_of j) l) c)) its fit e w.took.did) in
        let z : Did (steps_out j (body ++ closing) (state_of s)) s last.state d d₂ g g₂ f f₂ p p₂ = did_steps j body closing fit y closed.did in
        record { did = rw (whole_is, enters_first j l (body ++ closing) (state_of s)) z; written = omega (arith, whole_count, w.took.written, closed.written) }

-- ---- one item

module _ (o : Outline) (h l : ℕ) (c : Context) (x : asked.Item) where
  abbrev steps : List Step
  steps = item_steps (visits o h) o l c (item_in (item_of x))

  module _ {j : Job} {s : State} {d d₁ g g₁ f f₁ p p₁ : List ℕ} where
    segment_went : {r : Taken} (i : ℕ) → x ≡ item.Segment i → Took j (segment_steps o l c i) s r d d₁ g g₁ f f₁ p p₁
        → Went j steps (item_count (instances o h) c (item_in (item_of x))) s r.state (record { written = r.written; instances = 0 }) d d₁ g g₁ f f₁ p p₁
    segment_went i e t = rw e (record { took = t; instances = refl })

    loop_went : {t : State} {r : Visited} (k : LoopId) → x ≡ item.Loop k → Went j (visits o h k.0 c) (length (instances o h k.0 c)) s t r d d₁ g g₁ f f₁ p p₁
        → Went j steps (item_count (instances o h) c (item_in (item_of x))) s t r d d₁ g g₁ f f₁ p p₁
    loop_went k e t = rw e t

-- ---- the items of an order, from place k on

children_item : (inner : ℕ → Context → List Context) (o : Outline) (l : ℕ) (c : Context) (k : ℕ) (x : Item) → k < length (order_of o l) → get_or (order_of o l) k no_item ≡ x
    → children_from inner o l c k ≡ item_count inner c x + children_from inner o l c (k + 1)
children_item inner o l c k (segment i) h e = omega (arith, children_segment inner o l c k i h e)
children_item inner o l c k (loop m) h e = children_loop inner o l c k m h e

module _ (j : Job) (h l : ℕ) (c : Context) where
  abbrev one : Item → List Step
  one = item_steps (visits (outline_of j) h) (outline_of j) l c

  abbrev inner : ℕ → Context → List Context
  inner = instances (outline_of j) h

  -- places below k are done
  abbrev pub ItemsTo : ℕ → (s t : State) (w n : ℕ) (d d₁ g g₁ f f₁ p p₁ : List ℕ) → Type 0
  ItemsTo k = Along j (each one (order_of (outline_of j) l)) (children inner (outline_of j) l c) (each one (drop k (order_of (outline_of j) l))) (children_from inner (outline_of j) l c k)

  pub items_none : {s : State} {d g f p : List ℕ} → Small s → ItemsTo 0 s s 0 0 d d g g f f p p
  items_none {s = s} q = rw (← children_all inner (outline_of j) l c) (along_none j (each one (order_of (outline_of j) l)) (children inner (outline_of j) l c) s q)

  module _ {s t : State} {w n : ℕ} {d d₁ g g₁ f f₁ p p₁ : List ℕ} (count k : ℕ) (e : count ≡ length (Orders.order_of j l)) (a : ItemsTo k s t w n d d₁ g g₁ f f₁ p p₁) where
    pub items_end : count ≤ k
        → Went j (each one (order_of (outline_of j) l)) (children inner (outline_of j) l c) s t (record { written = w; instances = n }) d d₁ g g₁ f f₁ p p₁
    items_end b =
        let q : length (order_of (outline_of j) l) ≤ k = omega (arith, order_length j l, e) in
        along_end (rw (each_past one (order_of (outline_of j) l) k q, children_end inner (outline_of j) l c k q) at a)

    module _ (x : asked.Item) (b : k < count) (y : item_of x ≡ get_or (Orders.order_of j l) k (L.segment_item 0)) where
      split : Along j (each one (order_of (outline_of j) l)) (children inner (outline_of j) l c) (one (item_in (item_of x)) ++ each one (drop (k + 1) (order_of (outline_of j) l)))
          (item_count inner c (item_in (item_of x)) + children_from inner (outline_of j) l c (k + 1)) s t w n d d₁ g g₁ f f₁ p p₁
      split =
          let q : k < length (order_of (outline_of j) l) = omega (arith, order_length j l, e, b) in
          let z : get_or (order_of (outline_of j) l) k no_item ≡ item_in (item_of x) = order_item j l k ∙ ap item_in (sym y) in
          rw (each_at one (order_of (outline_of j) l) k no_item q, z, children_item inner (outline_of j) l c k (item_in (item_of x)) q z) at a

      item_within : segments_in (each one (order_of (outline_of j) l)) < cap → segments_in (one (item_in (item_of x))) < cap
      item_within r = omega (arith, along_room (one (item_in (item_of x))) _ _ split r)

      module _ {z : State} {v : Visited} {d₂ g₂ f₂ p₂ : List ℕ} (u : Went j (one (item_in (item_of x))) (item_count inner c (item_in (item_of x))) t z v d₁ d₂ g₁ g₂ f₁ f₂ p₁ p₂) where
        written_within : segments_in (each one (order_of (outline_of j) l)) < cap → w + v.written < cap
        written_within r = omega (arith, along_room (one (item_in (item_of x))) _ _ split r, u.took.written)

        items_next : Fit d g f p → ItemsTo (k + 1) s z (w + v.written) (n + v.instances) d d₂ g g₂ f f₂ p p₂
        items_next fit = rw u.instances (along_next (one (item_in (item_of x))) _ (item_count inner c (item_in (item_of x))) _ fit split u.took)

      -- a planned segment
      module _ (i : ℕ) (z : x ≡ item.Segment i) where
        pub segment_within : segments_in (each one (order_of (outline_of j) l)) < cap → segments_in (segment_steps (outline_of j) l c i) < cap
        segment_within r = rw z at (item_within r)

        module _ {r : Taken} {d₂ g₂ f₂ p₂ : List ℕ} (u : Took j (segment_steps (outline_of j) l c i) t r d₁ d₂ g₁ g₂ f₁ f₂ p₁ p₂) where
          pub segment_written : segments_in (each one (order_of (outline_of j) l)) < cap → w + r.written < cap
          segment_written = written_within (segment_went (outline_of j) h l c x i z u)

          pub segment_next : Fit d g f p → ItemsTo (k + 1) s r.state (w + r.written) n d d₂ g g₂ f f₂ p p₂
          segment_next fit = let q : n + 0 ≡ n = omega arith in rw q at (items_next (segment_went (outline_of j) h l c x i z u) fit)

      -- a child loop
      module _ (m : LoopId) (z : x ≡ item.Loop m) where
        pub loop_within : segments_in (each one (order_of (outline_of j) l)) < cap → segments_in (visits (outline_of j) h m.0 c) < cap
        loop_within r = rw z at (item_within r)

        module _ {a₂ : State} {v : Visited} {d₂ g₂ f₂ p₂ : List ℕ} (u : Went j (visits (outline_of j) h m.0 c) (length (inner m.0 c)) t a₂ v d₁ d₂ g₁ g₂ f₁ f₂ p₁ p₂) where
          pub loop_written : segments_in (each one (order_of (outline_of j) l)) < cap → w + v.written < cap
          loop_written = written_within (loop_went (outline_of j) h l c x m z u)

          pub loop_count : n + v.instances ≤ children inner (outline_of j) l c
          loop_count = omega (arith, split.instances, (loop_went (outline_of j) h l c x m z u).instances)

          pub loop_next : Fit d g f p → ItemsTo (k + 1) s a₂ (w + v.written) (n + v.instances) d d₂ g g₂ f f₂ p p₂
          loop_next = items_next (loop_went (outline_of j) h l c x m z u)

-- ---- the instances of a loop

visits_each : (o : Outline) (h l : ℕ) (c : Context) → (h ≡ 0 → ⊥) → visits o h l c ≡ each (steps_of o (h - 1) l) (instances o h l c)
unfolding visits
visits_each o zero l c q = absurd (q refl)
visits_each o (suc h) l c q = rw sub-one

module _ (j : Job) (h l : ℕ) where
  abbrev each_of : List Context → List Step
  each_of = each (steps_of (outline_of j) (h - 1) l)

  -- of the instances cs those of `left` are still to come
  abbrev pub VisitsTo : (cs left : List Context) (s t : State) (w n : ℕ) (d d₁ g g₁ f f₁ p p₁ : List ℕ) → Type 0
  VisitsTo cs left = Along j (each_of cs) (length cs) (each_of left) (length left)

  pub visits_low : {s : State} {d g f p : List ℕ} (c : Context) → h ≡ 0 → Small s
      → Went j (visits (outline_of j) h l c) (length (instances (outline_of j) h l c)) s s (record { written = 0; instances = 0 }) d d g g f f p p
  visits_low {s = s} c z q = rw z (rw (visits_deep (outline_of j) l c, inst_deep (outline_of j) l c) (record { took = took_none j s q; instances = refl }))

module _ (j : Job) (h l : ℕ) (c : Context) (cs : List Context) (e : cs ≡ instances (outline_of j) h l c) where
  pub visits_none : {s : State} {d g f p : List ℕ} → Small s → VisitsTo j h l cs cs s s 0 0 d d g g f f p p
  visits_none {s = s} q = along_none j (each_of j h l cs) (length cs) s q

  module _ (z : h ≡ 0 → ⊥) where
    visits_are : visits (outline_of j) h l c ≡ each_of j h l cs
    visits_are = visits_each (outline_of j) h l c z ∙ ap (each_of j h l) (sym e)

    pub visits_within : segments_in (visits (outline_of j) h l c) < cap → segments_in (each_of j h l cs) < cap
    visits_within r = rw visits_are at r

    pub visits_end : {s t : State} {w n : ℕ} {d d₁ g g₁ f f₁ p p₁ : List ℕ} (left : List Context) → left ≡ [] → VisitsTo j h l cs left s t w n d d₁ g g₁ f f₁ p p₁
        → Went j (visits (outline_of j) h l c) (length (instances (outline_of j) h l c)) s t (record { written = w; instances = n }) d d₁ g g₁ f f₁ p p₁
    visits_end left y a = rw (visits_are, ← e) (along_end (rw y at a))

  module _ {s t : State} {w n : ℕ} {d d₁ g g₁ f f₁ p p₁ : List ℕ} (left rest : List Context) (x : Context) (y : left ≡ x ∷ rest) (a : VisitsTo j h l cs left s t w n d d₁ g g₁ f f₁ p p₁) where
    ahead : Along j (each_of j h l cs) (length cs) (steps_of (outline_of j) (h - 1) l x ++ each_of j h l rest) (1 + length rest) s t w n d d₁ g g₁ f f₁ p p₁
    ahead = let q : suc (length rest) ≡ 1 + length rest = omega arith in rw q at (rw y at a)

    pub instance_fits : segments_in (each_of j h l cs) < cap → segments_in (steps_of (outline_of j) (h - 1) l x) < cap
    instance_fits r = omega (arith, along_room (steps_of (outline_of j) (h - 1) l x) _ _ ahead r)

    pub fewer : n + 1 ≤ length cs
    fewer = omega (arith, ahead.instances)

    module _ {r : Taken} {d₂ g₂ f₂ p₂ : List ℕ} (u : Took j (steps_of (outline_of j) (h - 1) l x) t r d₁ d₂ g₁ g₂ f₁ f₂ p₁ p₂) where
      pub sum_fits : segments_in (each_of j h l cs) < cap → w + r.written < cap
      sum_fits b = omega (arith, along_room (steps_of (outline_of j) (h - 1) l x) _ _ ahead b, u.written)

      pub visits_next : Fit d g f p → VisitsTo j h l cs rest s r.state (w + r.written) (n + 1) d d₂ g g₂ f f₂ p p₂
      visits_next fit = along_next (steps_of (outline_of j) (h - 1) l x) _ 1 _ fit ahead u

-- ---- few instances

module _ {b : List ℕ} (w : Passed b) (h l : ℕ) (c : Context) where
  rows_in_lem : (t : ℕ) → row_count (outline_at b) t ≤ 4096
  rows_in_lem t = rows_few (job_of b) t (few (job_of b) w.limits).rows

  pub few_instances : length (instances (outline_at b) h l c) ≤ 4096
  few_instances = instances_few (outline_at b) 4096 (omega arith) rows_in_lem h l c

  pub few_children : children (instances (outline_at b) h) (outline_at b) l c ≤ length (Orders.order_of (job_of b) l) * 4096
  few_children = omega (arith, children_few (outline_at b) 4096 (omega arith) rows_in_lem h l c, ap (λ k. k * 4096) (order_length (job_of b) l))
