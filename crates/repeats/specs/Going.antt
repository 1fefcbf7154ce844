-- Not to be believed: words of inner contracts, on which no contract of what users call rests.
-- The repeat segments of an instance a row at a time, as code makes them: a row joins the chunk, or the chunk is written and the row
-- begins the next one (write/emit.rs; that these are the steps of `repeat_steps` is `repeat_rows_lem` in proofs/GoingLaws).
use Rattle.std.specs.Prelude.{ℕ, ◌+◌, Bool, true, false, ◌&&◌, List, [], ◌∷◌, ◌++◌, ltb}
use Rattle.walk.specs.Tour.{Step, stop, fill, chunk}

-- loop, planned segment, table; the chunk has the rows rs, n of them; then row r comes, and joins or not
unfoldable pub row_adds : ℕ → ℕ → ℕ → ℕ → List ℕ → Bool → ℕ → List Step
row_adds l i t n rs true r = stop l t r ∷ fill l i t n r ∷ []
row_adds l i t n rs false r = chunk l i t rs ∷ stop l t r ∷ fill l i t 0 r ∷ []

-- the chunk's first row, its rows and their number after that
unfoldable pub head_then : ℕ → Bool → ℕ → ℕ
head_then head true r = head
head_then head false r = r

unfoldable pub rows_then : List ℕ → Bool → ℕ → List ℕ
rows_then rs true r = rs ++ (r ∷ [])
rows_then rs false r = r ∷ []

unfoldable pub count_then : ℕ → Bool → ℕ
count_then n true = n + 1
count_then n false = 1

-- what is still to come of a chunk whose rows have been entered, and of the rows behind it
unfoldable pub going : (ℕ → ℕ → Bool) → ℕ → ℕ → ℕ → ℕ → ℕ → List ℕ → ℕ → List ℕ → List Step
going same room l i t head rs n [] = chunk l i t rs ∷ []
going same room l i t head rs n (r ∷ more) =
    let joins = ltb n room && same head r in
    row_adds l i t n rs joins r ++ going same room l i t (head_then head joins r) (rows_then rs joins r) (count_then n joins) more
