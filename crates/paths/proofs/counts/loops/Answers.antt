use Rattle.nest.proofs.Bridge.{loop_count_is}
use native.Mathlib.Omega.{arith}
use mathlib.Core.Path.{sym, ◌∙◌}
use Rattle.paths.proofs.counts.loops.Goals as goal

pub returns : goal.returns
returns c = (c.loop_count.ensures ∙ sym (loop_count_is _), omega (arith, c.loop_count.ensures, c.args.job.ready.spec.few_loops))
