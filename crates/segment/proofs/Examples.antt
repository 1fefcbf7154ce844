-- Documents that are written out, and what they read as, computed.
use Rattle.std.specs.Prelude.{refl}
use Rattle.segment.specs.Joining.{behind, line_feed, segment_bytes, component_bytes, trimmed}
use Rattle.segment.specs.Grammar.{document_bytes}
use Rattle.segment.specs.Reading.{cut, ahead, feed, front, read_up_to, read_document}
use Rattle.segment.specs.Places.{text_at, place, components_of, component}
use Rattle.segment.specs.Examples.{DocumentsRead}

pub examples : DocumentsRead
unfolding document_bytes segment_bytes component_bytes trimmed behind line_feed read_document read_up_to front feed ahead cut component components_of place text_at
examples = record {
  read = refl;
  written = refl;
  lines_read = refl;
  feeds_read = refl;
  nothing_read = refl;
  unended = refl;
  unfed = refl;
  nameless = refl;
  stray = refl;
  composite = refl;
  composite_read = refl;
  components = refl;
  all_empty = refl;
  all_empty_read = refl;
  all_empty_component = refl;
  trailing_read = refl;
  trailing_places = refl;
}
