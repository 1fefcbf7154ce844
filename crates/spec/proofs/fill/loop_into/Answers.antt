use Rattle.format.specs.Spec.{loop_c}
use Rattle.format.proofs.Ends.{skip_usage}
use Rattle.codec.proofs.Skip.{skip_map, skip_pair}
use mathlib.Core.Path.{sym, ◌∙◌}
use Rattle.spec.proofs.fill.loop_into.Goals as goal

pub returns : goal.returns
unfolding loop_c
returns c = (simp (skip_map, skip_pair, skip_usage) (cc), rw (c.ends_at-children.ensures, c.opt_bytes_at-control.ensures, c.case_at-last.ensures ∙ sym (skip_usage _ _ _), c.ends_at-usage.ensures, c.bytes_at-occurrences.ensures, c.opt_num_at-trigger.ensures) at c.put_all.ensures)
