use Rattle.emit.proofs.FindingLaws.{tried_separators}
use Rattle.emit.proofs.signs.delimiters_of.Goals as goal

pub returns : goal.returns
returns c = tried_separators _ (record { element = c.element_separator-element.result; component = c.component_separator-component.result; segment = c.segment_terminator-segment.result; repetition = c.repetition_of-repetition.result }) c.element_separator-element.ensures c.component_separator-component.ensures c.segment_terminator-segment.ensures c.repetition_of-repetition.ensures
