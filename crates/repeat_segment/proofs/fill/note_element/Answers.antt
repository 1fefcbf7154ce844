use Rattle.std.specs.Prelude.{Some, ◌≡◌}
use Rattle.repeat_segment.proofs.PlaceLaws.{put_nowhere, put_cell_there, put_code_there}
use Rattle.repeat_segment.specs.Places.{place_in}
use Rattle.plan.specs.Answers.{element_of}
use Rattle.emit.specs.Puts.{put_cell}
use mathlib.Core.Path.{refl, sym, ◌∙◌}
use Rattle.repeat_segment.proofs.fill.note_element.Goals as goal

pub returns-in_err-p : goal.returns-in_err-p
returns-in_err-p c = let a = c.args in let j = a.job.at.bytes.now in rw (c.from_residual.ensures, put_nowhere j a.s a.k a.r.0 (element_of j a.e) (sym (c.place_of.ensures j) ∙ c.in_err-p.was)) (refl, refl, refl)

pub returns-in-Cell : goal.returns-in-Cell
unfolding put_cell
returns-in-Cell c =
    let a = c.args in
    let j = a.job.at.bytes.now in
    let h : place_in a.s.step a.k (element_of j a.e) ≡ Some c.in_ok-p.p = sym (c.place_of.ensures j) ∙ c.in_ok-p.was in
    rw (put_cell_there j a.s a.e a.k c.in_ok-p.p a.r.0 h _ (sym c.source_of.ensures ∙ c.in-Cell.is)) (refl, c.note_cell.ensures)

pub returns-in-Code : goal.returns-in-Code
returns-in-Code c =
    let a = c.args in
    let j = a.job.at.bytes.now in
    let h : place_in a.s.step a.k (element_of j a.e) ≡ Some c.in_ok-p.p = sym (c.place_of.ensures j) ∙ c.in_ok-p.was in
    rw (put_code_there j a.s a.e a.k c.in_ok-p.p a.r.0 h _ (sym c.source_of.ensures ∙ c.in-Code.is)) (refl, refl, refl)
