-- The rows of a table in a context, their pieces and their chunks, one law for each way that code takes.
use Prim.Native.Nat.{ℕ, suc, ◌+◌, ◌-◌, ◌≤◌, ◌<◌}
use mathlib.Core.Path.{◌≡◌, refl, sym, ap, ◌∙◌}
use mathlib.Core.Bool.{Bool, true, false, cond, ◌&&◌}
use mathlib.Core.List.{List, [], ◌∷◌, ◌++◌}
use native.Mathlib.Numerals.{add-one}
use native.Mathlib.Omega.{arith}
use Rattle.std.specs.Prelude.{Option, None, Some}
use lib.ListN.{length, take, drop, get_or, length-take, length-drop}
use lib.Seq.{take_all}
use lib.Dec.{eqb, ltb}
use borrow.Author.Tests.{lt-ltb, le-ltb, eq-eqb, ne_eqb}
use Rattle.nest.specs.Lists.{keep, on, from, is, part}
use Rattle.nest.specs.UpTo.{up_to}
use Rattle.nest.specs.Outline.{Outline, table_parent, row_count, plain}
use Rattle.nest.specs.Nest.{referred, held, hook, hooked, nest_record, repeat_rows}
use Rattle.nest.proofs.Scan.{up_to_all, keep_all, keep_none, keep_length, window, window_all}
use Rattle.nest.proofs.NestLaws.{holds}
use Rattle.nest.proofs.Hanging.{plain_not}
use Rattle.walk.specs.Instances.{Context, Run, at, held_in, cut_to, rows_in, offset, pieces}
use Rattle.walk.specs.Bounds.{held_by, bound}
use Rattle.walk.specs.Tour.{chunks}

-- ---- whether a row is one of its parent's row

pub held_top : (j : Outline) (t : ℕ) (row : ℕ → Option ℕ) (r : ℕ) → table_parent j t ≡ None → held_by j t row r ≡ true
unfolding held_by
held_top j t row r e = rw e

pub held_outside : (j : Outline) (t : ℕ) (row : ℕ → Option ℕ) (r u : ℕ) → table_parent j t ≡ Some u → row u ≡ None → held_by j t row r ≡ false
unfolding held_by
held_outside j t row r u e q = rw e (rw q)

-- by nest's first number
pub held_number : (j : Outline) (t : ℕ) (row : ℕ → Option ℕ) (r u p : ℕ) → plain j t ≡ true → table_parent j t ≡ Some u → row u ≡ Some p
    → held_by j t row r ≡ eqb (get_or (nest_record j t r) 0 0) (suc p)
unfolding held_by
held_number j t row r u p f e q = rw e (rw q (holds j t r u p (plain_not j t f) e))

-- entering a row of the table itself changes nothing, unless the table is its own parent
pub held_apart : (j : Outline) (t head : ℕ) (row : ℕ → Option ℕ) (r : ℕ) → (table_parent j t ≡ Some t → ⊥) → held_by j t (at t head row) r ≡ held_by j t row r
unfolding held_by
held_apart j t head row r d = go (table_parent j t) refl
  where
    go : (x : Option ℕ) → table_parent j t ≡ x
        → on x (λ u. on (at t head row u) (is (referred j t r u)) false) true ≡ on x (λ u. on (row u) (is (referred j t r u)) false) true
    go None e = refl
    go (Some u) e = rw (ne_eqb u t (λ q. absurd (d (e ∙ ap Some q))))

held_keep : (j : Outline) (t : ℕ) (row : ℕ → Option ℕ) → held_in j t row ≡ keep (held_by j t row) (from 0 (row_count j t))
unfolding held_in held_by held
held_keep j t row = go (table_parent j t)
  where
    inside_row : (u : ℕ) (x : Option ℕ) → on x (held j t u) [] ≡ keep (λ r. on x (is (referred j t r u)) false) (from 0 (row_count j t))
    inside_row u None = sym (keep_none (row_count j t) 0)
    inside_row u (Some p) = refl

    go : (x : Option ℕ) → on x (λ u. on (row u) (held j t u) []) (from 0 (row_count j t)) ≡ keep (λ r. on x (λ u. on (row u) (is (referred j t r u)) false) true) (from 0 (row_count j t))
    go None = sym (keep_all (row_count j t) 0)
    go (Some u) = inside_row u (row u)

-- ---- the rows in a context: those that are held, from the run's start (`offset`) up to its end, or all of them

pub rows_window : (j : Outline) (t : ℕ) (c : Context) → plain j t ≡ true
    → rows_in j t c ≡ window (held_by j t c.row) (row_count j t) (offset t c.run) (bound t c.run (row_count j t)) 0 0
unfolding rows_in
rows_window j t c e = rw (e, held_keep j t c.row) (cut c.run ∙ sym (window_all P (row_count j t) (offset t c.run) (bound t c.run (row_count j t))))
  where
    P : ℕ → Bool
    P = held_by j t c.row

    whole : List ℕ
    whole = keep P (from 0 (row_count j t))

    all : whole ≡ part 0 (row_count j t) whole
    all = let q : row_count j t - 0 ≡ row_count j t = omega arith in sym (ap (λ n. take n whole) q ∙ take_all (row_count j t) whole (keep_length P 0 (row_count j t)))

    cut : (x : Option Run) → cut_to t x whole ≡ part (offset t x) (on x (λ p. cond (eqb p.table t) p.end (row_count j t)) (row_count j t)) whole
    cut None = all
    cut (Some p) = which (eqb p.table t)
      where
        which : (b : Bool) → cond b (part p.start p.end whole) whole ≡ part (cond b p.start 0) (cond b p.end (row_count j t)) whole
        which true = refl
        which false = all

pub rows_none : (j : Outline) (t : ℕ) (c : Context) → plain j t ≡ false → rows_in j t c ≡ []
unfolding rows_in
rows_none j t c e = rw e

-- there are no more of them than are held, and no more than the table has
cut_few : (t : ℕ) (run : Option Run) (xs : List ℕ) → length (cut_to t run xs) ≤ length xs
cut_few t None xs = omega arith
cut_few t (Some p) xs = go (eqb p.table t)
  where
    go : (b : Bool) → length (cond b (part p.start p.end xs) xs) ≤ length xs
    go true = omega (arith, length-take (p.end - p.start) (drop p.start xs), length-drop p.start xs)
    go false = omega arith

pub rows_held : (j : Outline) (t w : ℕ) (c : Context) → (plain j t ≡ true → length (held_in j t c.row) ≤ w) → length (rows_in j t c) ≤ w
unfolding rows_in
rows_held j t w c h = go (plain j t) h
  where
    go : (b : Bool) → (b ≡ true → length (held_in j t c.row) ≤ w) → length (cond b (cut_to t c.run (held_in j t c.row)) []) ≤ w
    go true f = omega (arith, f refl, cut_few t c.run (held_in j t c.row))
    go false f = omega arith

pub rows_in_few : (j : Outline) (t : ℕ) (c : Context) → length (rows_in j t c) ≤ row_count j t
rows_in_few j t c = rows_held j t (row_count j t) c (λ f. rw (held_keep j t c.row) (keep_length (held_by j t c.row) 0 (row_count j t)))

-- the bounds: of the run, if it is of that table
pub bound_free : (t : ℕ) (c : Context) (n : ℕ) → c.run ≡ None → (offset t c.run ≡ 0) × (bound t c.run n ≡ n)
bound_free t c n e = rw e (refl, refl)

pub bound_other : (t : ℕ) (c : Context) (n : ℕ) (p : Run) → c.run ≡ Some p → (p.table ≡ t → ⊥) → (offset t c.run ≡ 0) × (bound t c.run n ≡ n)
bound_other t c n p e d = rw e (rw (ne_eqb p.table t d) (refl, refl))

pub bound_run : (t : ℕ) (c : Context) (n : ℕ) (p : Run) → c.run ≡ Some p → p.table ≡ t → (offset t c.run ≡ p.start) × (bound t c.run n ≡ p.end)
bound_run t c n p e d = rw e (rw (eq-eqb p.table t d) (refl, refl))

-- ---- pieces: a run goes on, or ends and the next begins

pub piece_on : (same : ℕ → ℕ → Bool) (head start end r : ℕ) (more : List ℕ) → same head r ≡ true → pieces same head start end (r ∷ more) ≡ pieces same head start (end + 1) more
unfolding pieces
piece_on same head start end r more e = rw (e, add-one)

pub piece_cut : (same : ℕ → ℕ → Bool) (head start end r : ℕ) (more : List ℕ) → same head r ≡ false
    → pieces same head start end (r ∷ more) ≡ record { head = head; start = start; end = end } ∷ pieces same r end (end + 1) more
unfolding pieces
piece_cut same head start end r more e = rw (e, add-one)

pub piece_last : (same : ℕ → ℕ → Bool) (head start end : ℕ) → pieces same head start end [] ≡ record { head = head; start = start; end = end } ∷ []
unfolding pieces
piece_last same head start end = refl

-- ---- chunks: one goes on while there is room and the rows agree, else it ends and the next begins

pub chunk_on : (same : ℕ → ℕ → Bool) (room head : ℕ) (rs : List ℕ) (left r : ℕ) (more : List ℕ) → 0 < left → same head r ≡ true
    → chunks same room head rs left (r ∷ more) ≡ chunks same room head (rs ++ (r ∷ [])) (left - 1) more
unfolding chunks
chunk_on same room head rs left r more h e = rw (lt-ltb 0 left h, e)

pub chunk_full : (same : ℕ → ℕ → Bool) (room head : ℕ) (rs : List ℕ) (left r : ℕ) (more : List ℕ) → left ≡ 0
    → chunks same room head rs left (r ∷ more) ≡ rs ∷ chunks same room r (r ∷ []) (room - 1) more
unfolding chunks
chunk_full same room head rs left r more e = rw (le-ltb 0 left (omega (arith, e)))

pub chunk_cut : (same : ℕ → ℕ → Bool) (room head : ℕ) (rs : List ℕ) (left r : ℕ) (more : List ℕ) → same head r ≡ false
    → chunks same room head rs left (r ∷ more) ≡ rs ∷ chunks same room r (r ∷ []) (room - 1) more
unfolding chunks
chunk_cut same room head rs left r more e = rw e (go (ltb 0 left))
  where
    go : (b : Bool) → cond (b && false) (chunks same room head (rs ++ (r ∷ [])) (left - 1) more) (rs ∷ chunks same room r (r ∷ []) (room - 1) more) ≡ rs ∷ chunks same room r (r ∷ []) (room - 1) more
    go true = refl
    go false = refl

pub chunk_last : (same : ℕ → ℕ → Bool) (room head : ℕ) (rs : List ℕ) (left : ℕ) → chunks same room head rs left [] ≡ rs ∷ []
unfolding chunks
chunk_last same room head rs left = refl

-- the rows of a repeat table from row 0 on (then `keep_yes`, `keep_no`, `keep_end` with `takes`)
pub repeat_all : (j : Outline) (t l p : ℕ) → repeat_rows j t l p ≡ keep (λ r. hooked (hook j t r) l p) (up_to 0 (row_count j t))
unfolding repeat_rows
repeat_all j t l p = rw (up_to_all (row_count j t))
