use mathlib.Core.Path.{sym, ◌∙◌}
use mathlib.Core.Bool.{true}
use Rattle.paths.proofs.Answers.{fits_kind}
use Rattle.paths.proofs.up.row_fits.Goals as goal

pub returns-in-Some : goal.returns-in-Some
returns-in-Some c = fits_kind _ _ _ _ c.kind.ensures (rw (sym c.row_table.ensures ∙ c.in-Some.is) c.fits.ensures)

pub returns-in-None : goal.returns-in-None
returns-in-None c = fits_kind _ _ _ true c.kind.ensures (rw (sym c.row_table.ensures ∙ c.in-None.is))
