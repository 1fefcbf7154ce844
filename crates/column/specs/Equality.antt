-- A law of cells: the tests of equality decide it (docs/RULES.md, "Cells").
use Rattle.std.specs.Prelude.{ℕ, ◌≡◌, ◌↔◌, List, Option, IsTrue}
use Rattle.column.specs.Cell.{Cell, same_bytes, same_cell, same_cells, same_answer}

pub record EqualityDecided : Type 0 where
  -- byte strings
  pub bytes : (l m : List ℕ) → IsTrue (same_bytes l m) ↔ (l ≡ m)
  -- cells
  pub cells : (a b : Cell) → IsTrue (same_cell a b) ↔ (a ≡ b)
  -- rows of cells
  pub rows : (l m : List Cell) → IsTrue (same_cells l m) ↔ (l ≡ m)
  -- answers, of which none and null differ
  pub answers : (x y : Option Cell) → IsTrue (same_answer x y) ↔ (x ≡ y)
