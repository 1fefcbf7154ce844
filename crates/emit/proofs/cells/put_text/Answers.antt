use Rattle.emit.proofs.TextLaws.{text_part}
use Rattle.emit.proofs.cells.put_text.Goals as goal

pub returns : goal.returns
returns c = λ x h. let a = c.args in text_part a.s a.pen a.p a.c a.text x _ h c.as_bytes-bytes.ensures c.part.ensures
