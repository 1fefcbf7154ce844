-- The anchors without sorting: for each depth from the greatest down to 0, the loops of that depth in list order.
use Prim.Native.Nat.{ℕ, zero, suc, ◌+◌, ◌-◌, ◌≤◌, ◌<◌}
use mathlib.Core.Path.{◌≡◌, refl, sym, ap, ap₂, ◌∙◌}
use mathlib.Core.Bool.{Bool, true, false, cond}
use mathlib.Core.List.{List, [], ◌∷◌, ◌++◌, foldr}
use native.Mathlib.Numerals.{sub-one}
use native.Mathlib.Omega.{arith}
use Rattle.std.specs.Prelude.{Option, None, Some}
use lib.ListN.{length, drop, get_or, get_or-eq_default, drop_of_length-le}
use lib.Dec.{eqb}
use borrow.Author.Tests.{eqb-true, eqb-false, eq-eqb, ne_eqb, le-leb, lt-leb}
use Rattle.nest.specs.Lists.{each, on, All}
use Rattle.nest.specs.Outline.{Outline, Loop, Kind, absent, envelope, implied, rows, inside, groups, row_table, no_loop, loop_of, kind_of, parent_of, table_of}
use Rattle.nest.specs.Nest.{Anchor, depth, depth_of, anchor_at, insert, anchors, claim_on, claim_in}
use Rattle.nest.proofs.Alls.{all_append, all_weaker}
use Rattle.nest.proofs.Scan.{drop_next}

-- ---- how deep a loop stands

pub depth_top : (j : Outline) (h l : ℕ) → parent_of j l ≡ None → depth j h l ≡ 0
unfolding depth
depth_top j zero l e = refl
depth_top j (suc h) l e = rw e

-- a loop that is not there
pub depth_nowhere : (j : Outline) (h l : ℕ) → length j.loops ≤ l → depth j h l ≡ 0
unfolding parent_of loop_of
depth_nowhere j h l q = depth_top j h l (ap (λ (v : Loop). v.parent) (get_or-eq_default j.loops no_loop {n = l} q))

pub depth_up : (j : Outline) (h l p : ℕ) → 0 < h → parent_of j l ≡ Some p → depth j h l ≡ suc (depth j (h - 1) p)
unfolding depth
depth_up j zero l p k e = absurd (omega arith)
depth_up j (suc h) l p k e = rw (e, sub-one)

pub depth_spent : (j : Outline) (l : ℕ) → depth j 0 l ≡ 0
unfolding depth
depth_spent j l = refl

pub depth_small : (j : Outline) (h l : ℕ) → depth j h l ≤ h
unfolding depth
depth_small j zero l = omega arith
depth_small j (suc h) l = go (parent_of j l) (depth_small j h)
  where
    go : (x : Option ℕ) → ((p : ℕ) → depth j h p ≤ h) → on x (λ p. suc (depth j h p)) 0 ≤ suc h
    go None more = omega arith
    go (Some p) more = omega (arith, more p)

-- ---- by depth

-- loop l, if it stands at depth d and has rows
unfoldable pub anchors_at : Outline → ℕ → ℕ → List Anchor
anchors_at j d l = cond (eqb (depth_of j l) d) (anchor_at l (kind_of j l)) []

-- those of ls at depths below d, the deepest first
unfoldable pub shallower : Outline → List ℕ → ℕ → List Anchor
shallower j ls zero = []
shallower j ls (suc d) = each (anchors_at j d) ls ++ shallower j ls d

-- what is left at depth d from place i on
abbrev pub left : Outline → List ℕ → ℕ → ℕ → List Anchor
left j ls d i = each (anchors_at j d) (drop i ls) ++ shallower j ls d

Flat : Outline → ℕ → Anchor → Type 0
Flat j d a = depth_of j a.loop ≤ d

module _ (j : Outline) where
  deep_at : (d : ℕ) (ls : List ℕ) → All (λ (a : Anchor). depth_of j a.loop ≡ d) (each (anchors_at j d) ls)
  unfolding anchors_at
  deep_at d [] = tt
  deep_at d (l ∷ ls) = all_append _ (cond (eqb (depth_of j l) d) (anchor_at l (kind_of j l)) []) (each (anchors_at j d) ls) (go (eqb (depth_of j l) d) refl) (deep_at d ls)
    where
      at_kind : (k : Kind) → depth_of j l ≡ d → All (λ (a : Anchor). depth_of j a.loop ≡ d) (anchor_at l k)
      at_kind absent e = tt
      at_kind envelope e = tt
      at_kind implied e = tt
      at_kind (rows u) e = (e, tt)
      at_kind (inside u) e = tt
      at_kind (groups u) e = tt

      go : (b : Bool) → eqb (depth_of j l) d ≡ b → All (λ (a : Anchor). depth_of j a.loop ≡ d) (cond b (anchor_at l (kind_of j l)) [])
      go true q = at_kind (kind_of j l) (eqb-true (depth_of j l) d q)
      go false q = tt

  flat : (n d : ℕ) (ls : List ℕ) → d ≤ suc n → All (Flat j n) (shallower j ls d)
  unfolding shallower Flat
  flat n zero ls h = tt
  flat n (suc d) ls h =
      all_append _ (each (anchors_at j d) ls) (shallower j ls d) (all_weaker _ _ (each (anchors_at j d) ls) (λ a e. omega (arith, e)) (deep_at d ls)) (flat n d ls (omega arith))

  -- before what is no deeper
  front : (a : Anchor) (bs : List Anchor) → All (Flat j (depth_of j a.loop)) bs → insert j a bs ≡ a ∷ bs
  unfolding Flat
  front a [] h = refl
  front a (b ∷ bs) h = rw (le-leb (depth_of j b.loop) (depth_of j a.loop) h.0)

  -- past what is deeper
  past : (a : Anchor) (d : ℕ) (bs cs : List Anchor) → depth_of j a.loop < d → All (λ (b : Anchor). depth_of j b.loop ≡ d) bs → insert j a (bs ++ cs) ≡ bs ++ insert j a cs
  past a d [] cs k h = refl
  past a d (b ∷ bs) cs k h = rw (lt-leb (depth_of j b.loop) (depth_of j a.loop) (omega (arith, h.0))) (ap (λ r. b ∷ r) (past a d bs cs k h.1))

  none_at : (d l : ℕ) → (depth_of j l ≡ d → ⊥) → anchors_at j d l ≡ []
  unfolding anchors_at
  none_at d l n = rw (ne_eqb (depth_of j l) d n)

  no_rows : (d l : ℕ) → row_table (kind_of j l) ≡ None → anchors_at j d l ≡ []
  unfolding anchors_at
  no_rows d l e = go (eqb (depth_of j l) d)
    where
      go : (b : Bool) → cond b (anchor_at l (kind_of j l)) [] ≡ []
      go true = rw e
      go false = refl

  one_at : (d l u : ℕ) → depth_of j l ≡ d → row_table (kind_of j l) ≡ Some u → anchors_at j d l ≡ record { loop = l; table = u } ∷ []
  unfolding anchors_at
  one_at d l u q e = rw (eq-eqb (depth_of j l) d q, e)

  -- a loop that is as deep, or no anchor, changes nothing below
  shallower_skip : (l d : ℕ) (ls : List ℕ) → ((n : ℕ) → n < d → anchors_at j n l ≡ []) → shallower j (l ∷ ls) d ≡ shallower j ls d
  unfolding shallower
  shallower_skip l zero ls h = refl
  shallower_skip l (suc d) ls h = ap₂ (λ x y. (x ++ each (anchors_at j d) ls) ++ y) (h d (omega arith)) (shallower_skip l d ls (λ n k. h n (omega arith)))

  inserted : (l u d : ℕ) (ls : List ℕ) → row_table (kind_of j l) ≡ Some u → depth_of j l < d → insert j (record { loop = l; table = u }) (shallower j ls d) ≡ shallower j (l ∷ ls) d
  unfolding shallower
  inserted l u zero ls e h = absurd (omega arith)
  inserted l u (suc d) ls e h = go (eqb (depth_of j l) d) refl (inserted l u d ls e)
    where
      a : Anchor
      a = record { loop = l; table = u }

      go : (b : Bool) → eqb (depth_of j l) d ≡ b → (depth_of j l < d → insert j a (shallower j ls d) ≡ shallower j (l ∷ ls) d)
          → insert j a (each (anchors_at j d) ls ++ shallower j ls d) ≡ (anchors_at j d l ++ each (anchors_at j d) ls) ++ shallower j (l ∷ ls) d
      go true q more =
          let same : depth_of j l ≡ d = eqb-true (depth_of j l) d q in
          front a (each (anchors_at j d) ls ++ shallower j ls d) (rw same (flat d (suc d) ls (omega arith)))
          ∙ sym (ap₂ (λ x y. (x ++ each (anchors_at j d) ls) ++ y) (one_at d l u same e) (shallower_skip l d ls (λ n k. none_at n l (λ z. omega (arith, k, same, z)))))
      go false q more =
          let other : depth_of j l ≡ d → ⊥ = eqb-false (depth_of j l) d q in
          past a d (each (anchors_at j d) ls) (shallower j ls d) (omega arith) (deep_at d ls)
          ∙ ap₂ (λ x y. (x ++ each (anchors_at j d) ls) ++ y) (sym (none_at d l other)) (more (omega arith))

  shallower_nil : (d : ℕ) → shallower j [] d ≡ []
  unfolding shallower
  shallower_nil zero = refl
  shallower_nil (suc d) = shallower_nil d

  sorted : (d : ℕ) (ls : List ℕ) → All (λ l. depth_of j l < d) ls → foldr (insert j) [] (each (λ l. anchor_at l (kind_of j l)) ls) ≡ shallower j ls d
  sorted d [] h = sym (shallower_nil d)
  sorted d (l ∷ ls) h = go (row_table (kind_of j l)) refl (sorted d ls h.1)
    where
      go : (x : Option ℕ) → row_table (kind_of j l) ≡ x → foldr (insert j) [] (each (λ l. anchor_at l (kind_of j l)) ls) ≡ shallower j ls d
          → foldr (insert j) [] (anchor_at l (kind_of j l) ++ each (λ l. anchor_at l (kind_of j l)) ls) ≡ shallower j (l ∷ ls) d
      go None e more = rw e (more ∙ sym (shallower_skip l d ls (λ n k. no_rows n l e)))
      go (Some u) e more = rw e (ap (insert j (record { loop = l; table = u })) more ∙ inserted l u d ls e h.0)

-- ---- the laws of the search: at depth d, at place i of the table's list

-- all of them, where none is deeper
pub left_all : (j : Outline) (t d : ℕ) → All (λ l. depth_of j l < suc d) (table_of j t).loops → anchors j t ≡ left j (table_of j t).loops d 0
unfolding anchors shallower
left_all j t d h = sorted j (suc d) (table_of j t).loops h

left_step : (j : Outline) (ls : List ℕ) (d i : ℕ) → i < length ls → left j ls d i ≡ anchors_at j d (get_or ls i 0) ++ each (anchors_at j d) (drop (i + 1) ls) ++ shallower j ls d
left_step j ls d i h = ap (λ r. each (anchors_at j d) r ++ shallower j ls d) (drop_next ls i 0 h)

-- a loop at another depth
pub left_other : (j : Outline) (ls : List ℕ) (d i : ℕ) → i < length ls → (depth_of j (get_or ls i 0) ≡ d → ⊥) → left j ls d i ≡ left j ls d (i + 1)
left_other j ls d i h n = left_step j ls d i h ∙ ap (λ r. r ++ each (anchors_at j d) (drop (i + 1) ls) ++ shallower j ls d) (none_at j d (get_or ls i 0) n)

-- a loop without rows
pub left_no_rows : (j : Outline) (ls : List ℕ) (d i : ℕ) → i < length ls → row_table (kind_of j (get_or ls i 0)) ≡ None → left j ls d i ≡ left j ls d (i + 1)
left_no_rows j ls d i h e = left_step j ls d i h ∙ ap (λ r. r ++ each (anchors_at j d) (drop (i + 1) ls) ++ shallower j ls d) (no_rows j d (get_or ls i 0) e)

-- an anchor
pub left_anchor : (j : Outline) (ls : List ℕ) (d i u : ℕ) → i < length ls → depth_of j (get_or ls i 0) ≡ d → row_table (kind_of j (get_or ls i 0)) ≡ Some u
    → left j ls d i ≡ record { loop = get_or ls i 0; table = u } ∷ left j ls d (i + 1)
left_anchor j ls d i u h q e = left_step j ls d i h ∙ ap (λ r. r ++ each (anchors_at j d) (drop (i + 1) ls) ++ shallower j ls d) (one_at j d (get_or ls i 0) u q e)

-- those of depth d and less, and one depth less
pub left_start : (j : Outline) (ls : List ℕ) (d : ℕ) → shallower j ls (suc d) ≡ left j ls d 0
unfolding shallower
left_start j ls d = refl

pub left_down : (j : Outline) (ls : List ℕ) (d i : ℕ) → length ls ≤ i → left j ls d i ≡ shallower j ls d
left_down j ls d i h = rw (drop_of_length-le ls h)

pub left_end : (j : Outline) (ls : List ℕ) → shallower j ls 0 ≡ []
unfolding shallower
left_end j ls = refl

-- ---- the claim

pub claim_here : (j : Outline) (t r v : ℕ) (a : Anchor) (more : List Anchor) → j.reference t a.table r ≡ Some v → claim_in j t r (a ∷ more) ≡ Some (claim_on a v)
unfolding claim_in
claim_here j t r v a more e = rw e

pub claim_next : (j : Outline) (t r : ℕ) (a : Anchor) (more : List Anchor) → j.reference t a.table r ≡ None → claim_in j t r (a ∷ more) ≡ claim_in j t r more
unfolding claim_in
claim_next j t r a more e = rw e

pub claim_none : (j : Outline) (t r : ℕ) → claim_in j t r [] ≡ None
unfolding claim_in
claim_none j t r = refl
