use Rattle.lossless.proofs.Forest.{passed_tree}
use Rattle.judge.proofs.Laws.{all_walked, one_lacks, by_places}
use Rattle.judge.proofs.fits.Goals as goal

pub places_fit-requires : goal.places_fit-requires
places_fit-requires c = (all_walked c.rows_fit-one.ensures c.orders_fit-two.ensures c.paths_fit-three.ensures c.repeats_fit-four.ensures c.all_four-walked.ensures (passed_tree _ c.args.job.ready.passed) c.if-walked.true).0.plan

pub returns-then-walked : goal.returns-then-walked
returns-then-walked c = by_places (all_walked c.rows_fit-one.ensures c.orders_fit-two.ensures c.paths_fit-three.ensures c.repeats_fit-four.ensures c.all_four-walked.ensures (passed_tree _ c.args.job.ready.passed) c.if-walked.true) c.places_fit.ensures

pub returns-else-walked : goal.returns-else-walked
returns-else-walked c = rw c.if-walked.false (one_lacks c.rows_fit-one.ensures c.orders_fit-two.ensures c.paths_fit-three.ensures c.repeats_fit-four.ensures c.all_four-walked.ensures (passed_tree _ c.args.job.ready.passed) c.if-walked.false)
