use native.Mathlib.Omega.{arith}
use Rattle.codec.specs.Forms.{num_c}
use Rattle.tree.proofs.Names.{few_numbers, few_once, noted_once, noted_twice}
use Rattle.tree.proofs.repeats_at.Goals as goal

pub returns-then-count_at-lt2-clause-says : goal.returns-then-count_at-lt2-clause-says
returns-then-count_at-lt2-clause-says c = few_once num_c (λ xs. xs) _ _ _ _ few_numbers c.count_at.ensures.0 c.if-count_at-lt2.true

pub returns-then-names_repeat-clause-says : goal.returns-then-names_repeat-clause-says
returns-then-names_repeat-clause-says c = noted_twice num_c (λ xs. xs) _ _ _ _ _ c.note_numbers-noted.ensures.1.1 _ c.names_repeat.ensures c.if-names_repeat.true

pub returns-then-noted-lt33-clause-says : goal.returns-then-noted-lt33-clause-says
returns-then-noted-lt33-clause-says c = noted_once num_c (λ xs. xs) _ _ _ _ _ c.note_numbers-noted.ensures.1.1 _ c.names_repeat.ensures c.if-names_repeat.false (omega (arith, c.if-noted-lt33.true, c.note_numbers-noted.ensures.0))
