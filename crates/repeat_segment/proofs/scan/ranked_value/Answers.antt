use Rattle.repeat_segment.proofs.FirstLaws.{found_is, found_not, ranked_is, ranked_not}
use Rattle.repeat_segment.specs.Chunk.{parts_in}
use Rattle.std.specs.Prelude.{Some}
use Rattle.repeat_segment.specs.Places.{rank_of}
use mathlib.Core.Path.{◌∙◌}
use Rattle.repeat_segment.proofs.scan.ranked_value.Goals as goal

pub returns-then-f-count : goal.returns-then-f-count
returns-then-f-count c = let a = c.args in let r = a.chunk.rows.now in let e = c.count-count.ensures.0 in c.found_value.ensures ∙ ranked_is (parts_in a.chunk) a.p (rank_of (Some a.c)) ((rw e at c.first_at-f.ensures r) ∙ found_is a.chunk.job.at.bytes.now a.chunk.segment r _ a.p c.first_at-f.result (rw e at c.if-f-count.true))

pub returns : goal.returns
returns c = let a = c.args in let r = a.chunk.rows.now in let e = c.count-count.ensures.0 in c.held.ensures.text a.chunk.job.at.bytes.now ∙ ranked_not (parts_in a.chunk) a.p (rank_of (Some a.c)) ((rw e at c.first_at-f.ensures r) ∙ found_not a.chunk.job.at.bytes.now a.chunk.segment r _ a.p c.first_at-f.result (rw e at c.if-f-count.false))
