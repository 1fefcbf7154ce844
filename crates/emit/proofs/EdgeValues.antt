-- The edge values, from those of the texts and of the segments.
use Rattle.texts.proofs.Edges as T
use Rattle.segment.proofs.Edges as S
use Rattle.emit.specs.EdgeValues.{EdgeValues}

pub edge_values : EdgeValues
edge_values =
    let days = T.edges in
    let seconds = days.1.1.1.1.1.1 in
    let decimals = seconds.1.1.1.1 in
    record {
      day_0 = days.0;
      year_1 = days.1.0;
      year_0 = days.1.1.0;
      first_of_1950 = days.1.1.1.0;
      last_of_1949 = days.1.1.1.1.0;
      last_of_2049 = days.1.1.1.1.1.0;
      after_one = seconds.0;
      too_short = seconds.1.0;
      next_day = seconds.1.1.0;
      day_before = seconds.1.1.1.0;
      minus_1_5 = decimals.0;
      five_cents = decimals.1.0;
      nothing = decimals.1.1.0;
      composite = (S.edges).composite;
      all_empty = (S.edges).all_empty;
    }
