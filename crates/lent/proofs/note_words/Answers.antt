use Rattle.lent.proofs.Laws.{sized, noted_fit}
use Rattle.lent.specs.Window.{base}
use native.Mathlib.Omega.{arith}
use Rattle.lent.proofs.note_words.Goals as goal

pub returns : goal.returns
returns c =
    let a = c.args in
    noted_fit base a.d.now a.at a.words a.count (sized _ _ _ c.fitting-all.ensures (omega (arith, c.well_formed))) c.fitting-before.ensures c.in_window.ensures c.put_stretch.ensures.stored c.more.ensures
