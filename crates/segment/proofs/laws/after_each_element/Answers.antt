use Rattle.segment.proofs.Elements.{elements_open, elements_group, less_terminator}
use Rattle.segment.proofs.laws.after_each_element.Goals as goal

pub returns : goal.returns
returns c = record {
  start = elements_open;
  next = λ s k f pen r d e id done written h i g. elements_group id done written h i g;
  ended = less_terminator;
}
