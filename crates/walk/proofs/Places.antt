-- A context kept in an array, one place a table, is the definition's context: storing a row is entering it. What a place holds may be a number, an
-- enum or a struct: `read` gives the row that it stands for, and `empty` stands for none.
use Prim.Native.Nat.{ℕ, ◌+◌, ◌<◌}
use mathlib.Core.Path.{◌≡◌, refl, sym, ap, ◌∙◌, fun_ext}
use mathlib.Core.Bool.{Bool, true, false, cond}
use mathlib.Core.List.{List}
use native.Mathlib.Decide.{dec_lt}
use native.Mathlib.Omega.{arith}
use Rattle.std.specs.Prelude.{Option, None, Some}
use lib.ListN.{length, get_or, set, replicate, get_or-replicate, length-replicate, get_or-eq_default}
use lib.Seq.{get_or-set_same, get_or-set_other}
use lib.Dec.{eqb}
use borrow.Author.Tests.{eqb-true, eqb-false}
use Rattle.walk.specs.Instances.{Run, Piece, outside, at, offset, in_row, in_piece}
use Rattle.walk.specs.Contexts.{context}

place_row_lem : {A : Type 0} (read : A → Option ℕ) (empty : A) (places : List A) (t r : ℕ) (a : A) → t < length places → read a ≡ Some r
    → (u : ℕ) → read (get_or (set places t a) u empty) ≡ at t r (λ i. read (get_or places i empty)) u
place_row_lem read empty places t r a h e u = go (eqb u t) refl
  where
    go : (b : Bool) → eqb u t ≡ b → read (get_or (set places t a) u empty) ≡ at t r (λ i. read (get_or places i empty)) u
    go true q =
        ap (λ i. read (get_or (set places t a) i empty)) (eqb-true u t q) ∙ ap read (get_or-set_same places t a empty h) ∙ e
        ∙ sym (ap (λ b. cond b (Some r) (read (get_or places u empty))) q)
    go false q = ap read (get_or-set_other places t u a empty (eqb-false u t q)) ∙ sym (ap (λ b. cond b (Some r) (read (get_or places u empty))) q)

pub context_outside : {A : Type 0} (read : A → Option ℕ) (empty : A) (n : ℕ) → read empty ≡ None → context read empty (replicate n empty) None ≡ outside
unfolding context
context_outside {A} read empty n e = ap (λ f. record { row = f; run = None }) (fun_ext (λ t. ap read (go t (dec_lt t n)) ∙ e))
  where
    go : (t : ℕ) → Dec (t < n) → get_or (replicate n empty) t empty ≡ empty
    go t (yes h) = get_or-replicate n t empty empty h
    go t (no h) = get_or-eq_default (replicate n empty) empty {n = t} (omega (arith, length-replicate n empty))

pub context_row : {A : Type 0} (read : A → Option ℕ) (empty : A) (places : List A) (run : Option Run) (t r : ℕ) (a : A) → t < length places → read a ≡ Some r
    → context read empty (set places t a) None ≡ in_row t (context read empty places run) r
unfolding context
context_row read empty places run t r a h e = ap (λ f. record { row = f; run = None }) (fun_ext (place_row_lem read empty places t r a h e))

pub context_piece : {A : Type 0} (read : A → Option ℕ) (empty : A) (places : List A) (run : Option Run) (t : ℕ) (p : Piece) (a : A) → t < length places → read a ≡ Some p.head
    → context read empty (set places t a) (Some (record { table = t; start = offset t run + p.start; end = offset t run + p.end })) ≡ in_piece t (context read empty places run) p
unfolding context
context_piece read empty places run t p a h e =
    ap (λ f. record { row = f; run = Some (record { table = t; start = offset t run + p.start; end = offset t run + p.end }) })
    (fun_ext (place_row_lem read empty places t p.head a h e))
