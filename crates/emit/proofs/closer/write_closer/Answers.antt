use Rattle.emit.proofs.StepLaws.{did_closer}
use Rattle.segment.specs.Values.{value_text}
use Rattle.lent.specs.Window.{stretch}
use Rattle.emit.proofs.closer.write_closer.Goals as goal

pub returns : goal.returns
returns c = let a = c.args.c in let j = c.args.job.now in λ o k f p q e g h. did_closer o a.sep (stretch j a.id.start a.id.len) k (value_text j a.control) a.counted f p q h (c.closer_entries-entries.ensures k (value_text j a.control) a.counted e g) (c.put_closer-at.ensures k e g) c.finish_segment.ensures
