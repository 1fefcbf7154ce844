-- Laws of the definitions of specs/Calls, and words that only proofs use.
use Rattle.std.specs.Prelude.{ℕ, zero, suc, ◌+◌, ◌-◌, List, [], ◌∷◌}
use Rattle.segment.specs.Parts.{Part}

-- ---- parts that are numbered: `part` gives each

-- n parts from number i on
unfoldable pub numbered : (ℕ → Part) → ℕ → ℕ → List Part
numbered part zero i = []
numbered part (suc n) i = part i ∷ numbered part n (i + 1)

-- from number i up to e
abbrev pub up_to : (ℕ → Part) → ℕ → ℕ → List Part
up_to part i e = numbered part (e - i) i
