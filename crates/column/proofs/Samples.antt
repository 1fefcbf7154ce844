-- The sample columns, by computation.
use Rattle.std.specs.Prelude.{refl}
use Rattle.codec.specs.Codec.{le, le_c, dep_c, map_c, enum_c, ◌⊕◌, end_c, list_c}
use Rattle.format.specs.Data.{values_c, column_c}
use Rattle.column.specs.Cell.{bit_of, held, between, bytes_of, value_of, get, opt_get, cell_in, key_in, ref_column, reference_in}
use Rattle.column.specs.Samples.{SamplesRead}

pub samples : SamplesRead
unfolding column_c values_c map_c dep_c enum_c ◌⊕◌ end_c list_c le_c le get bit_of value_of held bytes_of between opt_get cell_in key_in ref_column reference_in
samples = record {
  bytes = refl;
  texts_cells = refl;
  astray_cells = refl;
  number_cells = refl;
  amount_cells = refl;
  day_cells = refl;
  second_cells = refl;
  absent = refl;
  cells = refl;
  number_keys = refl;
  text_keys = refl;
  no_key_column = refl;
  first_entry = refl;
  without_column = refl;
  other_table = refl;
}
