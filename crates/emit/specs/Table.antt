-- Not to be believed: words of inner contracts, on which no contract of what users call rests.
-- The layout of the triggers as a table of equal rows, one for ISA, GS and ST each, and the search in a row (docs/RULES.md, "Envelope fields").
use Rattle.std.specs.Prelude.{ℕ, zero, suc, ◌+◌, ◌*◌, List, [], ◌∷◌, eqb, get_or, cond, Option, Some, None}

abbrev pub table : List (List ℕ)
table =
    (5 ∷ 0 ∷ 6 ∷ 1 ∷ 7 ∷ 2 ∷ 8 ∷ 3 ∷ 9 ∷ 6 ∷ 10 ∷ 7 ∷ 11 ∷ 10 ∷ 15 ∷ 8 ∷ 16 ∷ 11 ∷ [])
    ∷ (2 ∷ 4 ∷ 3 ∷ 5 ∷ 4 ∷ 6 ∷ 5 ∷ 7 ∷ 0 ∷ 0 ∷ 0 ∷ 0 ∷ 0 ∷ 0 ∷ 0 ∷ 0 ∷ 0 ∷ 0 ∷ [])
    ∷ (0 ∷ 0 ∷ 0 ∷ 0 ∷ 0 ∷ 0 ∷ 0 ∷ 0 ∷ 0 ∷ 0 ∷ 0 ∷ 0 ∷ 0 ∷ 0 ∷ 0 ∷ 0 ∷ 0 ∷ 0 ∷ [])
    ∷ []

-- the field of the first of n pairs from number i on that has this position
unfoldable pub searched : List ℕ → ℕ → ℕ → ℕ → Option ℕ
searched row zero i position = None
searched row (suc n) i position = cond (eqb position (get_or row (i * 2) 0)) (Some (get_or row (i * 2 + 1) 0)) (searched row n (i + 1) position)
