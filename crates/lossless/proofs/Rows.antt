-- A due row segment of a complete plan is read in full.
use Prim.Native.Nat.{ℕ, ◌≤◌}
use mathlib.Core.Path.{◌≡◌, refl, sym, ap, ◌∙◌}
use mathlib.Core.Logic.{◌≢◌, inl, inr}
use mathlib.Core.Bool.{false}
use mathlib.Core.List.{List, [], ◌∷◌, ◌++◌}
use native.Mathlib.Omega.{arith}
use Rattle.format.specs.Plan.{from_row, Value, from_column, from_group, from_code, ElementPlan}
use Rattle.format.specs.Job.{Job}
use Rattle.segment.specs.Parts.{Part, rank}
use Rattle.segment.specs.ReadParts.{RisesFrom}
use Rattle.nest.specs.Lists.{All, some_of}
use Rattle.nest.proofs.Alls.{all_weaker}
use Rattle.emit.specs.Puts.{part_at, put_all, put_cell, row_value, row_put}
use Rattle.emit.specs.Fold.{separators_of}
use Rattle.complete.specs.Complete.{Pairs, Each2, PlanStarts, InFront, Unmixed, Clear, CodeClear}
use Rattle.lossless.specs.Due.{text_of_cell, row_cell, row_cells}
use Rattle.lossless.specs.Separators.{holds_separator}
use Rattle.lossless.proofs.Words.{none_all, none_append}
use Rattle.lossless.proofs.Marks.{held_not}
use Rattle.lossless.proofs.Fine.{NotAt, SameKind, Starts, own_text, kinds, Fine, clear_free}

-- a part stands where an element is planned
pub record StandsAt (e : ElementPlan) (y : Part) : Type 0 where
  pub element : y.element ≡ e.element
  pub component : y.component ≡ e.component

module _ (j : Job) (id : List ℕ) (t r : ℕ) where
  abbrev parts_of : List ElementPlan → List Part
  parts_of es = (put_all (λ (p : ElementPlan). row_value j id t r p p.value) es).parts

  -- what is so of every part at a planned place is so of the segment's
  row_all : (Q : Part → Type 0) (es : List ElementPlan) → All (λ e. (y : Part) → StandsAt e y → Q y) es → All Q (parts_of es)
  unfolding put_cell
  row_all Q [] h = tt
  row_all Q (e ∷ es) h = go e.value h.0 (row_all Q es h.1)
    where
      go : (v : Value) → ((y : Part) → StandsAt e y → Q y) → All Q (parts_of es) → All Q ((row_value j id t r e v).parts ++ parts_of es)
      go (from_column c) f ih = (f _ (record { element = refl; component = refl }), ih)
      go (from_group c) f ih = ih
      go (from_code code) f ih = (f _ (record { element = refl; component = refl }), ih)

  row_starts : (es : List ElementPlan) → All PlanStarts es → All Starts (parts_of es)
  row_starts es h = row_all Starts es (all_weaker _ _ es (λ e s y p. (rw p.element s.element, rw p.component s.component)) h)

  front_other : (a b : ElementPlan) → InFront a b → (x y : Part) → StandsAt a x → StandsAt b y → NotAt x y
  front_other a b (inl k) x y p q e z = omega (arith, k, p.element, q.element, e)
  front_other a b (inr k) x y p q e z = omega (arith, k.1, ap rank (sym p.component ∙ z ∙ q.component))

  row_apart : (es : List ElementPlan) → Pairs InFront es → Pairs NotAt (parts_of es)
  unfolding put_cell
  row_apart [] h = tt
  row_apart (e ∷ es) h = go e.value (row_apart es h.1)
    where
      behind : (text : List ℕ) → All (NotAt (part_at e.element e.component text)) (parts_of es)
      behind text =
          let x = part_at e.element e.component text in
          row_all (NotAt x) es (all_weaker _ _ es (λ b k y q. front_other e b k x y (record { element = refl; component = refl }) q) h.0)

      go : (v : Value) → Pairs NotAt (parts_of es) → Pairs NotAt ((row_value j id t r e v).parts ++ parts_of es)
      go (from_column c) ih = (behind (text_of_cell j id e.element e.component t c r), ih)
      go (from_group c) ih = ih
      go (from_code code) ih = (behind code, ih)

  row_rises : (p : ℕ) (es : List ElementPlan) → All (λ (e : ElementPlan). p ≤ e.element) es → Pairs InFront es → RisesFrom p (parts_of es)
  unfolding put_cell
  row_rises p [] h k = tt
  row_rises p (e ∷ es) h k = go e.value (row_rises p es h.1 k.1) (row_rises e.element es (all_weaker _ _ es not_below k.0) k.1)
    where
      not_below : (b : ElementPlan) → InFront e b → e.element ≤ b.element
      not_below b (inl q) = omega arith
      not_below b (inr q) = omega (arith, q.0)

      go : (v : Value) → RisesFrom p (parts_of es) → RisesFrom e.element (parts_of es) → RisesFrom p ((row_value j id t r e v).parts ++ parts_of es)
      go (from_column c) a b = (h.0, b)
      go (from_group c) a b = a
      go (from_code code) a b = (h.0, b)

  row_kinds : (es : List ElementPlan) → Each2 (Unmixed j (from_row t)) es → Each2 SameKind (parts_of es)
  row_kinds es h = row_all (λ x. All (SameKind x) (parts_of es)) es (all_weaker _ _ es (λ a k x p. row_all (SameKind x) es (all_weaker _ _ es (λ b u y q. same a b u x y p q) k)) h)
    where
      same : (a b : ElementPlan) → Unmixed j (from_row t) a b → (x y : Part) → StandsAt a x → StandsAt b y → SameKind x y
      same a b u x y p q e z = q.component ∙ u 0 0 (omega arith) (omega arith) (omega (arith, e, p.element, q.element)) (sym p.component ∙ z)

  row_clear : (es : List ElementPlan) → All (λ (e : ElementPlan). CodeClear j e.value) es → some_of (holds_separator j) (row_cells j id t r es) ≡ false
      → All (λ (y : Part). Clear j y.text) (parts_of es)
  unfolding put_cell
  row_clear [] c h = tt
  row_clear (e ∷ es) c h =
      let k = none_append (holds_separator j) (row_cell j id t r e e.value) (row_cells j id t r es) h in
      go e.value c.0 k.0 (row_clear es c.1 k.1)
    where
      go : (v : Value) → CodeClear j v → some_of (holds_separator j) (row_cell j id t r e v) ≡ false → All (λ (y : Part). Clear j y.text) (parts_of es)
          → All (λ (y : Part). Clear j y.text) ((row_value j id t r e v).parts ++ parts_of es)
      go (from_column i) c q ih = (held_not j _ (none_all (holds_separator j) (row_cell j id t r e (from_column i)) q).0, ih)
      go (from_group i) c q ih = ih
      go (from_code code) c q ih = (c, ih)

-- identifier and parts of a row segment
pub row_fine : (j : Job) (id : List ℕ) (t r : ℕ) (es : List ElementPlan) → (id ≢ []) × Clear j id → All PlanStarts es → Pairs InFront es → Each2 (Unmixed j (from_row t)) es
    → All (λ (e : ElementPlan). CodeClear j e.value) es → some_of (holds_separator j) (row_cells j id t r es) ≡ false
    → Fine (separators_of j) (record { id = id; parts = (row_put j id t r es).parts })
unfolding row_put
row_fine j id t r es n starts rising unmixed codes h =
    let parts = parts_of j id t r es in
    let clear = row_clear j id t r es codes h in
    record {
      free = clear_free j id parts n (row_rises j id t r 1 es (all_weaker _ _ es (λ e s. s.element) starts) rising) clear;
      one_kind = kinds parts (row_kinds j id t r es unmixed);
      own = own_text parts (row_apart j id t r es rising);
      starts = row_starts j id t r es starts;
    }
