-- A run never passes the end of its list.
use Prim.Native.Nat.{ℕ, zero, suc, ◌+◌, ◌-◌, ◌≤◌, ◌<◌}
use mathlib.Core.Path.{◌≡◌, refl, sym, ap, ◌∙◌, subst}
use mathlib.Core.Bool.{Bool, true, false, cond, not}
use mathlib.Core.List.{List, [], ◌∷◌, map}
use native.Mathlib.Omega.{arith}
use Rattle.std.specs.Prelude.{Option, None, Some}
use Rattle.std.proofs.lemmas.Option.{none-some, same_Some}
use lib.ListN.{length, take, drop, length-take, length-drop}
use lib.Seq.{take-nil, drop-nil}
use lib.Dec.{eqb}
use borrow.Author.Tests.{eqb-true, eqb-false}
use Rattle.nest.specs.Lists.{on, All, some_of, is_empty_list, part}
use Rattle.nest.specs.Outline.{Outline, Kind, absent, envelope, implied, rows, inside, groups, loop_of, kind_of, table_parent, plain}
use Rattle.nest.proofs.Alls.{all_map, any}
use Rattle.walk.specs.Instances.{Context, Run, Piece, outside, at, held_in, cut_to, rows_in, pieces, pieces_of, offset, in_row, in_piece, shown, by_kind, instances}
use Rattle.walk.specs.Runs.{Fits}
use Rattle.walk.proofs.Counting.{held_same}

pub fits_outside : (j : Outline) → Fits j outside
fits_outside j = record { run_fits = λ p e. absurd (none-some p e); no_ring = λ t e. refl }

abbrev Within : ℕ → Piece → Type 0
Within n p = (p.start ≤ p.end) × (p.end ≤ n)

pieces_within : (same : ℕ → ℕ → Bool) (n : ℕ) (rest : List ℕ) (head start end : ℕ) → start ≤ end → end + length rest ≤ n → All (Within n) (pieces same head start end rest)
unfolding pieces
pieces_within same n [] head start end h k = ((h, omega arith), tt)
pieces_within same n (r ∷ more) head start end h k = go (same head r) (pieces_within same n more head start (suc end) (omega arith) (omega arith)) (pieces_within same n more r end (suc end) (omega arith) (omega arith))
  where
    go : (b : Bool) → All (Within n) (pieces same head start (suc end) more) → All (Within n) (pieces same r end (suc end) more)
        → All (Within n) (cond b (pieces same head start (suc end) more) (record { head = head; start = start; end = end } ∷ pieces same r end (suc end) more))
    go true on apart = on
    go false on apart = ((h, omega arith), apart)

pub pieces_bounds : (same : ℕ → ℕ → Bool) (xs : List ℕ) → All (Within (length xs)) (pieces_of same xs)
pieces_bounds same [] = tt
pieces_bounds same (r ∷ more) = pieces_within same (suc (length more)) more r 0 1 (omega arith) (omega arith)

module _ (j : Outline) (c : Context) (F : Fits j c) where
  -- a table that is its own parent has no rows in the context
  ring_empty : (t : ℕ) → table_parent j t ≡ Some t → rows_in j t c ≡ []
  unfolding rows_in held_in
  ring_empty t e = rw (e, F.no_ring t e) (go (plain j t))
    where
      cut : (x : Option Run) → cut_to t x [] ≡ []
      cut None = refl
      cut (Some p) = which (eqb p.table t)
        where
          which : (b : Bool) → cond b (part {A = ℕ} p.start p.end []) [] ≡ []
          which true = ap (take (p.end - p.start)) (drop-nil p.start) ∙ take-nil (p.end - p.start)
          which false = refl

      go : (b : Bool) → cond b (cut_to t c.run []) [] ≡ []
      go true = cut c.run
      go false = refl

  -- where the context's list ends in the parent's
  rows_end : (t : ℕ) → 0 < length (rows_in j t c) → offset t c.run + length (rows_in j t c) ≤ length (held_in j t c.row)
  unfolding rows_in
  rows_end t = go (plain j t)
    where
      whole : List ℕ
      whole = held_in j t c.row

      cut : (x : Option Run) → c.run ≡ x → offset t x + length (cut_to t x whole) ≤ length whole
      cut None q = omega arith
      cut (Some p) q = which (eqb p.table t) refl
        where
          fit : p.table ≡ t → (p.start ≤ p.end) × (p.end ≤ length whole)
          fit z = subst (λ u. (p.start ≤ p.end) × (p.end ≤ length (held_in j u c.row))) z (F.run_fits p q)

          which : (b : Bool) → eqb p.table t ≡ b → cond b p.start 0 + length (cond b (part p.start p.end whole) whole) ≤ length whole
          which true z =
              let f : (p.start ≤ p.end) × (p.end ≤ length whole) = fit (eqb-true p.table t z) in
              omega (arith, f.0, f.1, length-take (p.end - p.start) (drop p.start whole), length-drop p.start whole)
          which false z = omega arith

      go : (b : Bool) → 0 < length (cond b (cut_to t c.run whole) []) → offset t c.run + length (cond b (cut_to t c.run whole) []) ≤ length whole
      go true h = cut c.run refl
      go false h = absurd (omega arith)

  entered : (t r : ℕ) → (table_parent j t ≡ Some t → ⊥) → (u : ℕ) → table_parent j u ≡ Some u → at t r c.row u ≡ None
  entered t r d u e = go (eqb u t) refl
    where
      go : (b : Bool) → eqb u t ≡ b → cond b (Some r) (c.row u) ≡ None
      go true q = let z : u ≡ t = eqb-true u t q in absurd (d (subst (λ i. table_parent j i ≡ Some i) z e))
      go false q = F.no_ring u e

  fits_row : (t r : ℕ) → (table_parent j t ≡ Some t → ⊥) → Fits j (in_row t c r)
  fits_row t r d = record { run_fits = λ p e. absurd (none-some p e); no_ring = entered t r d }

  fits_piece : (t : ℕ) (p : Piece) → (table_parent j t ≡ Some t → ⊥) → 0 < length (rows_in j t c) → Within (length (rows_in j t c)) p → Fits j (in_piece t c p)
  fits_piece t p d some_row w = record { run_fits = fit; no_ring = entered t p.head d }
    where
      long : offset t c.run + p.end ≤ length (held_in j t (at t p.head c.row))
      long = omega (arith, ap length (held_same j t c p d), rows_end t some_row, w.1)

      fit : (q : Run) → (in_piece t c p).run ≡ Some q → (q.start ≤ q.end) × (q.end ≤ length (held_in j q.table (at t p.head c.row)))
      fit q e =
          subst (λ (q : Run). (q.start ≤ q.end) × (q.end ≤ length (held_in j q.table (at t p.head c.row)))) (same_Some _ q e)
          (omega (arith, w.0), long)

own_parent : (j : Outline) (t : ℕ) → Dec (table_parent j t ≡ Some t)
own_parent j t = go (table_parent j t) refl
  where
    go : (x : Option ℕ) → table_parent j t ≡ x → Dec (table_parent j t ≡ Some t)
    go None e = no (λ z. none-some t (sym e ∙ z))
    go (Some u) e = which (eqb u t) refl
      where
        which : (b : Bool) → eqb u t ≡ b → Dec (table_parent j t ≡ Some t)
        which true q = yes (e ∙ ap {B = Option ℕ} Some (eqb-true u t q))
        which false q = no (λ z. eqb-false u t q (same_Some u t (sym e ∙ z)))

-- each instance in a context whose run fits has one that fits
pub fits_instances : (j : Outline) (h l : ℕ) (c : Context) → Fits j c → All (Fits j) (instances j h l c)
unfolding instances by_kind
fits_instances j zero l c F = tt
fits_instances j (suc h) l c F = go (kind_of j l)
  where
    choose : (b : Bool) → All (Fits j) (cond b (c ∷ []) [])
    choose true = (F, tt)
    choose false = tt

    in_row_lem : (t : ℕ) (x : Option ℕ) → All (Fits j) (on x (λ r. cond (shown j l t r) (c ∷ []) []) [])
    in_row_lem t None = tt
    in_row_lem t (Some r) = choose (shown j l t r)

    of_rows : (t : ℕ) → Dec (table_parent j t ≡ Some t) → All (Fits j) (map (in_row t c) (rows_in j t c))
    of_rows t (yes e) = rw (ring_empty j c F t e) tt
    of_rows t (no d) = all_map (Fits j) (λ r. Unit {0}) (in_row t c) (rows_in j t c) (λ r u. fits_row j c F t r d) (any (rows_in j t c))

    of_pieces : (t : ℕ) (xs : List ℕ) → rows_in j t c ≡ xs → (table_parent j t ≡ Some t → ⊥) → All (Fits j) (map (in_piece t c) (pieces_of (j.same_group l) xs))
    of_pieces t [] q d = tt
    of_pieces t (x ∷ xs) q d =
        all_map (Fits j) (Within (length (x ∷ xs))) (in_piece t c) (pieces_of (j.same_group l) (x ∷ xs))
        (λ p w. fits_piece j c F t p d (omega (arith, ap length q)) (w.0, omega (arith, w.1, ap length q))) (pieces_bounds (j.same_group l) (x ∷ xs))

    of_groups : (t : ℕ) → Dec (table_parent j t ≡ Some t) → All (Fits j) (map (in_piece t c) (pieces_of (j.same_group l) (rows_in j t c)))
    of_groups t (yes e) = rw (ring_empty j c F t e) tt
    of_groups t (no d) = of_pieces t (rows_in j t c) refl d

    go : (k : Kind) → All (Fits j) (by_kind (instances j h) j l c k)
    go absent = tt
    go envelope = (F, tt)
    go implied = choose (some_of (λ k. not (is_empty_list (instances j h k c))) (loop_of j l).children)
    go (rows t) = of_rows t (own_parent j t)
    go (groups t) = of_groups t (own_parent j t)
    go (inside t) = in_row_lem t (c.row t)

-- a run that fits is inside its list
pub run_inside : (j : Outline) (c : Context) (p : Run) → Fits j c → c.run ≡ Some p → length (part p.start p.end (held_in j p.table c.row)) ≡ p.end - p.start
run_inside j c p F e =
    let f : (p.start ≤ p.end) × (p.end ≤ length (held_in j p.table c.row)) = F.run_fits p e in
    omega (arith, f.0, f.1, length-take (p.end - p.start) (drop p.start (held_in j p.table c.row)), length-drop p.start (held_in j p.table c.row))
