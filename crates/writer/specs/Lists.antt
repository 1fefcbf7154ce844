-- What a lent list then holds: as many first items as fit at the front, the rest untouched (docs/RULES.md, "Answer 7").
use Rattle.std.specs.Prelude.{ℕ, zero, suc, List, ◌++◌, length, take, drop}
use Rattle.nest.specs.Lists.{each}

-- these numbers at the front, the rest as it was
unfoldable pub in_front : List ℕ → List ℕ → List ℕ
in_front xs d = xs ++ drop (length xs) d

-- d has room for so many items; `numbers` gives the numbers of one. Numbers past the last whole item stay as they were
unfoldable pub holding : {A : Type 0} → ℕ → (A → List ℕ) → List A → List ℕ → List ℕ
holding room numbers items d = in_front (each numbers (take room items)) d

-- by the refusal: where there is one, as it was
abbrev pub unless_refused : {A : Type 0} → ℕ → A → A → A
unless_refused zero old new = new
unless_refused (suc k) old new = old
