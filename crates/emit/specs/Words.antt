-- The numbers that a traced segment and a stop are stored as (docs/RULES.md, "Traced segments" and "Stops").
use Rattle.std.specs.Prelude.{ℕ, suc, List, [], ◌∷◌, Option, None, Some}
use Rattle.walk.specs.Tour.{Stop}
use Rattle.emit.specs.Fold as F

-- ---- as numbers

-- three for a finished segment: its first trace entry, its table plus one or 0, its row
abbrev pub row_words : Option (ℕ × ℕ) → List ℕ
row_words None = 0 ∷ 0 ∷ []
row_words (Some x) = suc x.0 ∷ x.1 ∷ []

abbrev pub traced_word : F.Traced → List ℕ
traced_word t = t.entry ∷ row_words t.row

-- three for a stop: its loop, its table, its row
abbrev pub stop_word : Stop → List ℕ
stop_word x = x.loop ∷ x.table ∷ x.row ∷ []
