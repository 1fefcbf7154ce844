use Rattle.texts.proofs.Count.{number_of_civil, civil_of_number, one_date}
use Rattle.texts.proofs.Dates.{civil_valid}
use Rattle.texts.proofs.laws.days_and_dates.Goals as goal

pub returns : goal.returns
returns c = record { valid = civil_valid; day = number_of_civil; date = civil_of_number; one_date = one_date }
