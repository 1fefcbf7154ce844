-- Not to be believed: words of inner contracts, on which no contract of what users call rests.
-- What is noted of numbers.
use Rattle.std.specs.Prelude.{ℕ, ◌<◌, List}
use denote.Ref.{MutBor}
use Rattle.lent.specs.Window.{Noted}
use Rattle.nest.specs.Finding.{Finding}
use Rattle.nest.specs.Ready.{words}

-- a call, told by what it may give and leave, notes what g has of the numbers below n
abbrev pub NotesAs : (MutBor (List ℕ) → ℕ → ℕ → ℕ → MutBor (List ℕ) → Type 0) → (ℕ → List Finding) → ℕ → Type 0
NotesAs post g n = (d d' : MutBor (List ℕ)) (at k next : ℕ) → k < n → post d at k next d' → Noted d.now at (words (g k)) next d'.now
