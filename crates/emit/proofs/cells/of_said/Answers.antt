use Rattle.emit.proofs.TextLaws.{writes_own, said_few}
use Rattle.emit.proofs.cells.of_said.Goals as goal

pub returns : goal.returns
returns c = record {
  writes = λ job o s. writes_own c.args.said o (rw c.text_in-text.ensures at (c.own.ensures.text job)) c.err.ensures.value s;
  plain = λ o s h. c.own.ensures.plain (said_few c.args.said o c.text_in-text.ensures s h);
}
