use Rattle.std.proofs.Common.{◌≡◌, true, subst}
use Rattle.column.specs.Cell.{same_bytes, same_cell, same_cells, same_answer}
use Rattle.column.proofs.SameLaws.{same_bytes_lem, bytes_same, same_cell_lem, cell_same, same_cells_lem, cells_same, same_answer_lem, answer_same}
use Rattle.column.proofs.laws.equality_decided.Goals as goal

pub returns : goal.returns
returns c = record {
  bytes = λ l m. (same_bytes_lem l m, λ e. subst (λ n. same_bytes l n ≡ true) e (bytes_same l));
  cells = λ a b. (same_cell_lem a b, λ e. subst (λ n. same_cell a n ≡ true) e (cell_same a));
  rows = λ l m. (same_cells_lem l m, λ e. subst (λ n. same_cells l n ≡ true) e (cells_same l));
  answers = λ x y. (same_answer_lem x y, λ e. subst (λ n. same_answer x n ≡ true) e (answer_same x));
}
