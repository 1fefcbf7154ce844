use Rattle.std.proofs.Common.{◌<◌, rules}
use native.Mathlib.Omega.{arith}
use Rattle.nest.specs.Job.{job_by}
use Rattle.places.specs.Triggers.{wrong_loop_at}
use Rattle.places.proofs.triggers.loops_wrong.Goals as goal

pub any_numbered-requires : goal.any_numbered-requires
any_numbered-requires c = λ k p h i. let l : k < 32 = omega (arith, h, c.requires) in search rules

pub returns : goal.returns
returns c = c.any_numbered.ensures.says (wrong_loop_at (job_by c.args.part.job)) (λ k p r h i j. search rules)
