-- Stepping through the planned elements, and what they put one after the other.
use Prim.Native.Nat.{ℕ, ◌+◌, ◌≤◌, ◌<◌}
use mathlib.Core.Path.{◌≡◌, refl, sym, ap, ◌∙◌}
use mathlib.Core.List.{List, [], ◌∷◌, ◌++◌, append_assoc, append-nil}
use native.Mathlib.Omega.{arith}
use native.Mathlib.Numerals.{add-one}
use lib.ListN.{length, get_or, take}
use lib.Seq.{take-suc, take_all}
use Rattle.codec.specs.Skip.{Is}
use Rattle.codec.specs.Field.{Stands}
use Rattle.format.specs.Plan.{ElementPlan, element_plan_c}
use Rattle.format.specs.NoElement.{no_element_plan}
use Rattle.format.specs.Sections.{layout_start}
use Rattle.plan.specs.declared.answers.ElementPlan.{ElementPlan as Element}
use Rattle.plan.specs.Answers.{element_of, ElementRead}
use Rattle.plan.proofs.Elements.{run_here, run_next, run_stands}
use Rattle.segment.specs.Parts.{Part}
use Rattle.nest.specs.Finding.{Finding}
use Rattle.emit.specs.Puts.{Put, nothing, and_put, put_all, chunk_put}
use Rattle.repeat_segment.specs.declared.planned.Planned.{Planned}
use Rattle.repeat_segment.specs.Planned.{plans_of, Of}
use Rattle.repeat_segment.proofs.PlannedLaws.{Along, Read}
use Rattle.repeat_segment.specs.Places.{element_put, row_puts}

module _ (b : List ℕ) (s : Planned) (o : Of b s) where
  pub along_first : Along b s s.first 0
  along_first = record { elements = o.elements }

  module _ (at i : ℕ) (a : Along b s at i) (h : i < s.count) where
    there : i < length (plans_of b s)
    there = rw (← o.counted) h

    pub stands_here : Stands element_plan_c b at
    stands_here = run_stands element_plan_c b (layout_start b) o.plan_end at i (plans_of b s) no_element_plan there a.elements

    pub read_step : (r : Element) → ((e : ℕ) (v : ElementPlan) → e ≤ length b → Is element_plan_c b e at v → ElementRead b e at v r) → Read b s i r
    read_step r f =
        let g : ElementRead b (layout_start b) at (get_or (plans_of b s) i no_element_plan) r = f (layout_start b) _ o.plan_end (run_here element_plan_c b (layout_start b) at i (plans_of b s) no_element_plan there a.elements) in
        let q : r.element ≡ (get_or (plans_of b s) i no_element_plan).element = ap (λ (x : ElementPlan). x.element) g.plan in
        record {
          plan = g.plan;
          low = rw q (o.low i there);
          along = record { elements = run_next element_plan_c b (layout_start b) at i r.next (plans_of b s) no_element_plan there g.next a.elements };
        }

    -- element i comes behind those before it
    pub take_next : (r : Element) → Read b s i r → take (i + 1) (plans_of b s) ≡ take i (plans_of b s) ++ (element_of b r ∷ [])
    take_next r q = rw (add-one, take-suc (plans_of b s) i no_element_plan there, q.plan)

  -- past the last
  pub take_end : (i : ℕ) → s.count ≤ i → take i (plans_of b s) ≡ plans_of b s
  take_end i h = take_all i (plans_of b s) (rw (← o.counted) h)

-- ---- what elements put

put_same : {a a' : List Part} {f f' : List Finding} {n n' : ℕ} → a ≡ a' → f ≡ f' → n ≡ n'
    → ◌≡◌ {A = Put} (record { parts = a; findings = f; entries = n }) (record { parts = a'; findings = f'; entries = n' })
put_same x y z = rw (x, y, z) refl

put_snoc : {A : Type 0} (f : A → Put) (xs : List A) (x : A) → put_all f (xs ++ (x ∷ [])) ≡ and_put (put_all f xs) (f x)
put_snoc f [] x = put_same (append-nil (f x).parts) (append-nil (f x).findings) (omega arith)
put_snoc f (y ∷ xs) x =
    let p = put_all f xs in
    ap (λ (q : Put). and_put (f y) q) (put_snoc f xs x)
    ∙ put_same (sym (append_assoc (f y).parts p.parts (f x).parts)) (sym (append_assoc (f y).findings p.findings (f x).findings)) (omega arith)

module _ (b : List ℕ) (s : Planned) (k r : ℕ) where
  pub row_none : row_puts b s k r [] ≡ nothing
  unfolding row_puts chunk_put
  row_none = refl

  pub row_snoc : (xs : List ElementPlan) (x : ElementPlan) → row_puts b s k r (xs ++ (x ∷ [])) ≡ and_put (row_puts b s k r xs) (element_put b s k r x)
  unfolding row_puts chunk_put element_put
  row_snoc xs x = put_snoc _ xs x

  pub row_cons : (x : ElementPlan) (xs : List ElementPlan) → (row_puts b s k r (x ∷ xs)).parts ≡ (element_put b s k r x).parts ++ (row_puts b s k r xs).parts
  unfolding row_puts chunk_put element_put
  row_cons x xs = refl
