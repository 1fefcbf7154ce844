-- The ways through the search for a repeat row's anchor.
use Prim.Native.Nat.{ℕ, zero, suc, ◌+◌, ◌-◌, ◌≤◌, ◌<◌}
use mathlib.Core.Path.{◌≡◌, refl, sym, ap, ◌∙◌}
use mathlib.Core.Bool.{Bool, true, false, cond}
use mathlib.Core.List.{List, [], ◌∷◌}
use native.Mathlib.Decide.{dec_lt}
use native.Mathlib.Omega.{arith}
use lib.ListN.{length, get_or, replicate, get_or-eq_default}
use lib.Dec.{eqb, ltb}
use borrow.Author.Count.{below_more}
use borrow.Author.Tests.{eq-eqb, eqb-true, eqb-false, ltb-true, ltb-false, leb-false}
use Rattle.codec.proofs.Limits.{none_of, none_in}
use Rattle.format.specs.Spec as S
use Rattle.format.specs.Plan as P
use Rattle.format.specs.Job.{Job}
use Rattle.format.specs.Sections.{job_of}
use Rattle.format.specs.Refusal.{tangled, outside_table, outside}
use Rattle.format.specs.Passed.{Passed}
use Rattle.format.proofs.Passed.{few}
use Rattle.format.specs.Ask as A
use Rattle.std.specs.Prelude.{Ok, Err, Option, None, Some}
use Rattle.nest.specs.Outline.{Outline, row_table, kind_of, table_of}
use Rattle.nest.specs.Nest.{Anchor, depth_of, anchors, claim_in}
use Rattle.nest.specs.Lists.{All}
use Rattle.nest.specs.NestFindings.{last_table}
use Rattle.nest.specs.Claims.{claim_by, anchor_table}
use Rattle.nest.specs.Keys.{Deep, Within}
use Rattle.nest.specs.OfJob.{outline_of, kind_in}
use Rattle.nest.proofs.Anchors.{depth_small, depth_nowhere, left, left_all, left_other, left_no_rows, left_anchor, shallower, left_start, left_down, left_end, claim_here, claim_next, claim_none}
use Rattle.nest.proofs.Bridge.{kind_is, loops_is, loop_count_is}

abbrev mark : Option ℕ → ℕ
mark None = 0
mark (Some u) = 1

-- ---- the loops of a table have numbers below 32
pub loop_small : (b : List ℕ) → Passed b → (t k n l : ℕ) → n ≡ length (A.table_of (job_of b) t).loops → k < n → l ≡ get_or (A.table_of (job_of b) t).loops k 0 → l < 32
unfolding A.table_of tangled outside_table outside
loop_small b w t k n l c h e = go (ltb t (length (job_of b).spec.tables)) refl
  where
    c' : n ≡ length (get_or (job_of b).spec.tables t S.no_table).loops
    c' = c

    e' : l ≡ get_or (get_or (job_of b).spec.tables t S.no_table).loops k 0
    e' = e

    go : (u : Bool) → ltb t (length (job_of b).spec.tables) ≡ u → l < 32
    go true q =
        let x = none_in (outside_table (length (job_of b).spec.loops)) (job_of b).spec.tables (none_of _ _ (none_of _ _ w.forest).1).0 t S.no_table (ltb-true _ _ q) in
        let y : get_or (get_or (job_of b).spec.tables t S.no_table).loops k 0 < length (job_of b).spec.loops = leb-false _ _ (none_in (outside (length (job_of b).spec.loops)) _ x k 0 (rw (← c') h)) in
        let z = (few (job_of b) w.limits).loops in
        omega (arith, y, z, e')
    go false q =
        let z : length (get_or (job_of b).spec.tables t S.no_table).loops ≡ 0 = ap (λ (s : S.Table). length s.loops) (get_or-eq_default (job_of b).spec.tables S.no_table {n = t} (ltb-false _ _ q)) in
        absurd (omega (arith, z, c'))

-- ---- the depths of all loops: those of the first n, and 0 for the others
pub record Sounded (j : Outline) (n : ℕ) (ds : List ℕ) : Type 0 where
  pub done : (p : ℕ) → p < n → get_or ds p 0 ≡ depth_of j p
  pub rest : (p : ℕ) → n ≤ p → get_or ds p 0 ≡ 0
  pub size : length ds ≡ 32

zeros : (n p : ℕ) → get_or (replicate {A = ℕ} n 0) p 0 ≡ 0
zeros zero p = refl
zeros (suc n) zero = refl
zeros (suc n) (suc p) = zeros n p

pub sounded_zeros : (j : Outline) → Sounded j 0 (replicate 32 0)
sounded_zeros j = record { done = λ p h. absurd (omega (arith, h)); rest = λ p h. zeros 32 p; size = refl }

-- past the spec's loops 0 is the depth
pub sounded_all : (j : Job) (n m : ℕ) (ds : List ℕ) → Sounded (outline_of j) n ds → m ≡ length j.spec.loops → m ≤ n → Deep (outline_of j) ds
sounded_all j n m ds s h q = record { of = λ l k. go l (dec_lt l n) }
  where
    go : (l : ℕ) → Dec (l < n) → get_or ds l 0 ≡ depth_of (outline_of j) l
    go l (yes i) = s.done l i
    go l (no i) = s.rest l (omega (arith, i)) ∙ sym (depth_nowhere (outline_of j) _ l (omega (arith, i, loop_count_is j, h, q)))

-- a depth is small
pub depth_fits : (j : Job) (l d : ℕ) → length j.spec.loops ≤ 32 → d ≡ depth_of (outline_of j) l → d ≤ 32
depth_fits j l d h e = omega (arith, depth_small (outline_of j) (length (outline_of j).loops) l, loop_count_is j, h, e)

-- ---- how deep the loops of a table stand: the first n

all_at : (P : ℕ → Type 0) (xs : List ℕ) → ((k : ℕ) → k < length xs → P (get_or xs k 0)) → All P xs
all_at P [] h = tt
all_at P (x ∷ xs) h = (h 0 (omega arith), all_at P xs (λ k l. h (suc k) (omega arith)))

pub within_next : (j : Job) (t k l n d e : ℕ) → Within (outline_of j) t k d → l ≡ get_or (A.table_of j t).loops k 0 → n ≡ depth_of (outline_of j) l → d ≤ e → n ≤ e → Within (outline_of j) t (k + 1) e
within_next j t k l n d e w q z h g = record { of = below_more (λ p. depth_of (outline_of j) (get_or (table_of (outline_of j) t).loops p 0) ≤ e) k (λ p m. omega (arith, w.of p m, h)) (rw (loops_is j t, ← q, ← z) g) }

pub within_all : (j : Job) (t k n d : ℕ) → Within (outline_of j) t k d → n ≡ length (A.table_of j t).loops → n ≤ k → Within (outline_of j) t (length (table_of (outline_of j) t).loops) d
within_all j t k n d w c h = record { of = λ p m. let g : p < length (A.table_of j t).loops = rw (← loops_is j t) m in w.of p (omega (arith, g, c, h)) }

-- ---- an anchor
module _ (j : Job) (l d n : ℕ) (e : n ≡ depth_of (outline_of j) l) where
  pub anchor_here : (x : Option ℕ) (k : P.Instances) → n ≡ d → k ≡ (A.plan_of j l).instances → x ≡ row_table (kind_in k) → x ≡ anchor_table (outline_of j) l d
  anchor_here x k h q i = i ∙ rw (q, ← kind_is j l) (sym (rw (eq-eqb (depth_of (outline_of j) l) d (sym e ∙ h)) refl))

-- ---- what is left of the anchors from depth d and place i on

module _ (j : Job) (t : ℕ) where
  pub all_left : (d : ℕ) → Within (outline_of j) t (length (table_of (outline_of j) t).loops) d → anchors (outline_of j) t ≡ shallower (outline_of j) (table_of (outline_of j) t).loops (d + 1 - 0)
  all_left d w = let z : d + 1 - 0 ≡ suc d = omega arith in rw (z, left_start) (left_all (outline_of j) t d (all_at (λ l. depth_of (outline_of j) l < suc d) (table_of (outline_of j) t).loops (λ k h. omega (arith, w.of k h))))

  module _ (d i n l : ℕ) (c : n ≡ length (A.table_of j t).loops) (h : i < n) (e : l ≡ get_or (A.table_of j t).loops i 0) where
    here : i < length (table_of (outline_of j) t).loops
    here = rw (loops_is j t) (omega arith)

    it : l ≡ get_or (table_of (outline_of j) t).loops i 0
    it = rw (loops_is j t) e

    module _ (u : ℕ) (a : anchor_table (outline_of j) l d ≡ Some u) where
      at_depth : depth_of (outline_of j) l ≡ d
      at_depth = go (eqb (depth_of (outline_of j) l) d) refl a
        where
          go : (b : Bool) → eqb (depth_of (outline_of j) l) d ≡ b → cond {A = Option ℕ} b (row_table (kind_of (outline_of j) l)) None ≡ Some u → depth_of (outline_of j) l ≡ d
          go true q x = eqb-true _ _ q
          go false q x = let z : ◌≡◌ {A = ℕ} 0 1 = ap mark x in absurd (omega arith)

      with_rows : row_table (kind_of (outline_of j) l) ≡ Some u
      with_rows = sym (rw (eq-eqb (depth_of (outline_of j) l) d at_depth) refl) ∙ a

      pub left_here : left (outline_of j) (table_of (outline_of j) t).loops d i ≡ record { loop = l; table = u } ∷ left (outline_of j) (table_of (outline_of j) t).loops d (i + 1)
      left_here = rw it (left_anchor (outline_of j) (table_of (outline_of j) t).loops d i u here (rw (← it) at_depth) (rw (← it) with_rows))

    pub left_passed : anchor_table (outline_of j) l d ≡ None → left (outline_of j) (table_of (outline_of j) t).loops d i ≡ left (outline_of j) (table_of (outline_of j) t).loops d (i + 1)
    left_passed a = go (eqb (depth_of (outline_of j) l) d) refl a
      where
        go : (b : Bool) → eqb (depth_of (outline_of j) l) d ≡ b → cond {A = Option ℕ} b (row_table (kind_of (outline_of j) l)) None ≡ None
            → left (outline_of j) (table_of (outline_of j) t).loops d i ≡ left (outline_of j) (table_of (outline_of j) t).loops d (i + 1)
        go true q x = left_no_rows (outline_of j) (table_of (outline_of j) t).loops d i here (rw (← it) x)
        go false q x = left_other (outline_of j) (table_of (outline_of j) t).loops d i here (λ y. eqb-false (depth_of (outline_of j) l) d q (ap (depth_of (outline_of j)) it ∙ y))

  -- the depths from the greatest down: `up` above the depth that is tried
  pub left_first : (top up : ℕ) → up ≤ top → shallower (outline_of j) (table_of (outline_of j) t).loops (top + 1 - up) ≡ left (outline_of j) (table_of (outline_of j) t).loops (top - up) 0
  left_first top up h = let z : top + 1 - up ≡ suc (top - up) = omega arith in rw z (left_start (outline_of j) _ (top - up))

  pub left_lower : (top up i n : ℕ) → n ≡ length (A.table_of j t).loops → n ≤ i
      → left (outline_of j) (table_of (outline_of j) t).loops (top - up) i ≡ shallower (outline_of j) (table_of (outline_of j) t).loops (top + 1 - (up + 1))
  left_lower top up i n c h = let z : top + 1 - (up + 1) ≡ top - up = omega arith in rw z (left_down (outline_of j) (table_of (outline_of j) t).loops (top - up) i (rw (loops_is j t) (omega arith)))

  pub left_over : (top up : ℕ) → top + 1 ≤ up → shallower (outline_of j) (table_of (outline_of j) t).loops (top + 1 - up) ≡ []
  left_over top up h = let z : top + 1 - up ≡ 0 = omega arith in rw z (left_end (outline_of j) _)

-- ---- what is left to try; last is the table of the last anchor tried
pub record Tried (j : Job) (t r last : ℕ) (more : List Anchor) : Type 0 where
  pub claims : claim_in (outline_of j) t r (anchors (outline_of j) t) ≡ claim_in (outline_of j) t r more
  pub lasts : last_table t (anchors (outline_of j) t) ≡ last_table last more

module _ (j : Job) (t r : ℕ) where
  pub tried_none : (more : List Anchor) → anchors (outline_of j) t ≡ more → Tried j t r t more
  tried_none more a = record { claims = ap (claim_in (outline_of j) t r) a; lasts = ap (last_table t) a }

  module _ (last : ℕ) (xs : List Anchor) (w : Tried j t r last xs) where
    pub tried_on : (more : List Anchor) → xs ≡ more → Tried j t r last more
    tried_on more q = record { claims = w.claims ∙ ap (claim_in (outline_of j) t r) q; lasts = w.lasts ∙ ap (last_table last) q }

    pub tried_here : (l u v : ℕ) (more : List Anchor) → xs ≡ record { loop = l; table = u } ∷ more → (outline_of j).reference t u r ≡ Some v
        → Ok (record { l = record { 0 = l }; table = record { 0 = u }; value = v }) ≡ claim_by (claim_in (outline_of j) t r (anchors (outline_of j) t)) (last_table t (anchors (outline_of j) t))
    tried_here l u v more e q = rw (w.claims ∙ ap (claim_in (outline_of j) t r) e ∙ claim_here (outline_of j) t r v (record { loop = l; table = u }) more q) refl

    pub tried_next : (l u : ℕ) (more : List Anchor) → xs ≡ record { loop = l; table = u } ∷ more → (outline_of j).reference t u r ≡ None → Tried j t r u more
    tried_next l u more e q = record {
      claims = w.claims ∙ ap (claim_in (outline_of j) t r) e ∙ claim_next (outline_of j) t r (record { loop = l; table = u }) more q;
      lasts = w.lasts ∙ ap (last_table last) e;
    }

    pub tried_end : xs ≡ [] → Err (record { 0 = last }) ≡ claim_by (claim_in (outline_of j) t r (anchors (outline_of j) t)) (last_table t (anchors (outline_of j) t))
    tried_end q = rw (w.claims ∙ ap (claim_in (outline_of j) t r) q ∙ claim_none (outline_of j) t r, w.lasts ∙ ap (last_table last) q) refl
