use mathlib.Core.Path.{ap, ◌∙◌}
use native.Mathlib.Omega.{arith}
use Rattle.lent.proofs.Laws.{stored_small}
use Rattle.walk.proofs.NestedLaws.{array_held}
use Rattle.writer.specs.Filled.{first_state}
use Rattle.writer.proofs.Sizes.{small}
use Rattle.writer.proofs.Entries.{entries_exact}
use Rattle.writer.proofs.FilledLaws.{first_small, filled_by}
use Rattle.writer.proofs.written.Goals as goal
use Rattle.writer.proofs.written.Goals.{Start}

pub nest_findings-n-requires : goal.nest_findings-n-requires
nest_findings-n-requires c = array_held c.requires.0

pub run-requires : goal.run-requires
run-requires c = (first_small _ _ _ c.first_state-s.ensures (omega (arith, stored_small _ c.nest_findings-n.ensures)), (small c.args.job.now (λ i. omega (arith, c.type_inv.job i)) c.requires.0.ready.passed c.requires.1).steps)

pub returns : goal.returns
returns c = filled_by _ _ (entries_exact c.args.job.now (λ i. omega (arith, c.type_inv.job i)) c.requires.0.ready.passed c.requires.1) (omega (arith, (goal.at.returns c).Start)) (c.first_state-s.ensures ∙ ap (λ k. first_state k c.nest_findings-n.result) c.control_number.ensures) c.nest_findings-n.ensures c.run.ensures
