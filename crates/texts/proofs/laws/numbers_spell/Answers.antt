use Rattle.texts.proofs.Spells.{decimal_spells, int_spells, no_leading_zero}
use Rattle.texts.proofs.laws.numbers_spell.Goals as goal

pub returns : goal.returns
returns c = record { decimal = decimal_spells; whole = int_spells; no_leading_zero = no_leading_zero }
