use Rattle.emit.proofs.findings.cell_spot.Goals as goal

pub returns : goal.returns
returns c = λ id e. rw (← e, c.component_word-component.ensures)
