use Rattle.std.proofs.Common.{rules}
use Rattle.std.proofs.lemmas.Iterator.{YieldsList-from_slice}
use Rattle.std.proofs.lemmas.Iterator.Adapters.{serves_from_places}
use Rattle.paths.proofs.Answers.{loop_lists, counts_there}
use Rattle.paths.proofs.lists_fit.Goals as goal

pub all-requires-clause-callable : goal.all-requires-clause-callable
all-requires-clause-callable c = serves_from_places (YieldsList-from_slice loop_lists c.iter.ensures.rest) (λ x q k. search rules) (λ x i h e. search (rules, counts_there _ _ c.args.job.ready.plan i _ h e))
