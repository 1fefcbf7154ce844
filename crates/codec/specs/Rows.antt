-- Not to be believed: words of inner contracts, on which no contract of what users call rests.
-- The index: a row of numbers for each item of a list, one row after the other.
use Prim.Native.Nat.{ℕ, zero, suc, ◌%◌}
use Rattle.std.specs.Prelude.{List, [], ◌++◌}
use Rattle.std.proofs.lemmas.List.Edits.{sets}
use Rattle.codec.specs.Codec.{Codec}
use Rattle.codec.specs.Skip.{skip}

-- the numbers vs stored from k on
unfoldable pub stored : List ℕ → ℕ → List ℕ → List ℕ
stored l k vs = sets l k vs

-- places are stored in 16 bits
abbrev pub small : ℕ → ℕ
small p = p % 65536

-- the rows of n items from the place at on; f gives the row of an item that stands at a place
unfoldable pub rows : {A : Type 0} → Codec A → List ℕ → ℕ → (ℕ → List ℕ) → ℕ → ℕ → List ℕ
rows C b e f zero at = []
rows C b e f (suc n) at = f at ++ rows C b e f n (skip C b at e)
