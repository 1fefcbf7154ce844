use Rattle.emit.proofs.TextLaws.{control_text_lem}
use Rattle.emit.proofs.envelope.control_value.Goals as goal

pub returns : goal.returns
returns c = λ job. control_text_lem job c.count_text-text.result c.args.number c.control_padding-zeros.result c.args.min c.count_text-text.ensures c.control_padding-zeros.ensures
