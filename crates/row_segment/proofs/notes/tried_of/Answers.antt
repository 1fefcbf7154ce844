use mathlib.Core.Path.{ap, ◌∙◌}
use Rattle.nest.specs.Finding.{number_from}
use Rattle.row_segment.proofs.notes.tried_of.Goals as goal

pub returns : goal.returns
returns c = record { name = c.id_number.ensures ∙ ap (number_from 0) c.requires.id.bytes; delimiters = c.delimiters_of.ensures }
