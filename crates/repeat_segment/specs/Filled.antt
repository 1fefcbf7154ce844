-- Not to be believed: words of inner contracts, on which no contract of what users call rests.
-- What a row of a chunk leaves in the counts: findings and trace entries; no bytes, no segment.
use Rattle.std.specs.Prelude.{ℕ, ◌≡◌, List, [], ◌++◌, Option, None, Some}
use Rattle.lent.specs.Fit.{more}
use Rattle.lent.specs.Window.{Noted}
use Rattle.emit.specs.declared.state.Counts.{Counts}
use Rattle.texts.specs.Reason.{Outcome}
use Rattle.nest.specs.Finding.{Finding, Origin, Place}
use Rattle.emit.specs.Puts.{Put, held_in, unwritten}
use Rattle.emit.specs.Written.{words_of}

pub record Filled (p : Put) (s n : Counts) (f f' : List ℕ) : Type 0 where
  pub entries : n.entries ≡ more s.entries p.entries
  pub begun : n.begun ≡ s.begun
  pub bytes : n.bytes ≡ s.bytes
  pub segments : n.segments ≡ s.segments
  pub findings : Noted f s.findings (words_of p.findings) n.findings f'
  pub stops : n.stops ≡ s.stops

-- a cell's findings were noted from `at` to `end`, and it has a trace entry; what is no cell has neither
abbrev pub CellNoted : Put → ℕ → Option ℕ → List ℕ → List ℕ → Type 0
CellNoted p at None f f' = (p.findings ≡ []) × (p.entries ≡ 0) × (f' ≡ f)
CellNoted p at (Some end) f f' = (p.entries ≡ 1) × Noted f at (words_of p.findings) end f'

-- the findings on a text or its reason
abbrev pub found_on : Origin → Place → Outcome → List ℕ → List Finding
found_on o p x bs = unwritten o p x.reason ++ held_in o p x.text 0 bs
