-- Segments written out, computed.
use Rattle.std.specs.Prelude.{refl}
use Rattle.segment.specs.Joining.{behind, component_bytes, line_feed, segment_bytes}
use Rattle.segment.specs.Parts.{highest, here, after, all_plain, first_text, component_text, texts, element_text, elements_from, elements_of, joined, insert, sorted}
use Rattle.segment.specs.Examples.{SegmentsWritten}

pub edges : SegmentsWritten
unfolding behind component_bytes line_feed segment_bytes highest here after all_plain first_text component_text texts element_text elements_from elements_of joined insert sorted
edges = record {
  composite = refl;
  all_empty = refl;
  no_parts = refl;
  line_break = refl;
  falling = refl;
  at_zero = refl;
  hidden = refl;
  first_stands = refl;
  hidden_component = refl;
  plain_beside_component = refl;
  component_zero = refl;
  sorting = refl;
}
