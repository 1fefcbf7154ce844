-- The job of docs/RULES.md, "The listing": its outline, where its rows hang and what nest reports, computed.
use Rattle.std.specs.Prelude.{refl}
use Rattle.nest.specs.Outline.{table_of, table_parent, row_count, repeated}
use Rattle.nest.specs.Nest.{has_keys, first_row, referred, hook, hangs, nest_record, table_array, nest_array}
use Rattle.nest.specs.Finding.{record_of}
use Rattle.nest.specs.NestFindings.{duplicate_at, duplicates, contradiction_at, contradictions, missing_at, row_findings, table_findings, nest_findings}
use Rattle.nest.specs.Example.{ExampleNested}

pub nested : ExampleNested
unfolding has_keys first_row referred hook hangs duplicate_at duplicates contradiction_at contradictions missing_at row_findings table_findings nest_findings table_of table_parent row_count repeated record_of nest_record table_array nest_array
nested = record { findings = refl; records = refl; places = refl }
