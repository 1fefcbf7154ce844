-- The tests of equality decide it.
use Rattle.std.specs.Prelude.{ℕ, zero, suc, ◌≡◌, refl, List, [], ◌∷◌, Bool, true, false, get_or, eqb, Option, None, Some}
use Rattle.std.proofs.Common.{sym, ap, ◌∙◌, arith, eq-eqb, eqb-true}
use Rattle.column.specs.Cell.{Cell, null, binary, int64, decimal, date32, time32, both, kind_of, numbers_of, same_bytes, same_cell, same_cells, same_answer}

no : {A : Type 0} → false ≡ true → A
no h = absurd (let z : ◌≡◌ {A = ℕ} 0 1 = cc in omega arith)

both_left : (s t : Bool) → both s t ≡ true → s ≡ true
both_left true t h = refl
both_left false t h = h

both_right : (s t : Bool) → both s t ≡ true → t ≡ true
both_right true t h = h
both_right false t h = no h

-- ---- byte strings
pub same_bytes_lem : (l m : List ℕ) → same_bytes l m ≡ true → l ≡ m
unfolding same_bytes
same_bytes_lem [] [] h = refl
same_bytes_lem [] (y ∷ m) h = no h
same_bytes_lem (x ∷ l) [] h = no h
same_bytes_lem (x ∷ l) (y ∷ m) h = let p : x ≡ y = eqb-true x y (both_left _ _ h) in let q : l ≡ m = same_bytes_lem l m (both_right (eqb x y) _ h) in cc

pub bytes_same : (l : List ℕ) → same_bytes l l ≡ true
unfolding same_bytes
bytes_same [] = refl
bytes_same (x ∷ l) = rw (eq-eqb x x refl) (bytes_same l)

-- ---- cells
-- the cell of a kind with these numbers
made : ℕ → List ℕ → Cell
made zero l = null
made (suc zero) l = binary l
made (suc (suc zero)) l = int64 (get_or l 0 0)
made (suc (suc (suc zero))) l = decimal (get_or l 0 0) (get_or l 1 0)
made (suc (suc (suc (suc zero)))) l = date32 (get_or l 0 0)
made (suc (suc (suc (suc (suc k))))) l = time32 (get_or l 0 0)

made_of : (c : Cell) → made (kind_of c) (numbers_of c) ≡ c
unfolding made
made_of null = refl
made_of (binary bytes) = refl
made_of (int64 x) = refl
made_of (decimal x scale) = refl
made_of (date32 x) = refl
made_of (time32 x) = refl

pub same_cell_lem : (a b : Cell) → same_cell a b ≡ true → a ≡ b
unfolding same_cell
same_cell_lem a b h =
    let k : kind_of a ≡ kind_of b = eqb-true _ _ (both_left _ _ h) in
    let n : numbers_of a ≡ numbers_of b = same_bytes_lem _ _ (both_right (eqb (kind_of a) (kind_of b)) _ h) in
    sym (made_of a) ∙ rw (k, n) (made_of b)

pub cell_same : (a : Cell) → same_cell a a ≡ true
unfolding same_cell
cell_same a = rw (eq-eqb (kind_of a) (kind_of a) refl) (bytes_same (numbers_of a))

-- ---- rows of cells, and answers
pub same_cells_lem : (l m : List Cell) → same_cells l m ≡ true → l ≡ m
unfolding same_cells
same_cells_lem [] [] h = refl
same_cells_lem [] (b ∷ m) h = no h
same_cells_lem (a ∷ l) [] h = no h
same_cells_lem (a ∷ l) (b ∷ m) h = let p : a ≡ b = same_cell_lem a b (both_left _ _ h) in let q : l ≡ m = same_cells_lem l m (both_right (same_cell a b) _ h) in cc

pub cells_same : (l : List Cell) → same_cells l l ≡ true
unfolding same_cells
cells_same [] = refl
cells_same (a ∷ l) = rw (cell_same a) (cells_same l)

pub same_answer_lem : (x y : Option Cell) → same_answer x y ≡ true → x ≡ y
unfolding same_answer
same_answer_lem None None h = refl
same_answer_lem None (Some b) h = no h
same_answer_lem (Some a) None h = no h
same_answer_lem (Some a) (Some b) h = ap Some (same_cell_lem a b h)

pub answer_same : (x : Option Cell) → same_answer x x ≡ true
unfolding same_answer
answer_same None = refl
answer_same (Some a) = cell_same a

pub answers_cells : (a b : Cell) → same_answer (Some a) (Some b) ≡ same_cell a b
unfolding same_answer
answers_cells a b = refl
