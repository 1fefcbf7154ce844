-- Not to be believed: words of inner contracts, on which no contract of what users call rests.
-- What the answer of a test says: yes exactly where a statement holds.
use Rattle.std.specs.Prelude.{◌≡◌, Bool, true, false}

-- yes exactly where P holds
abbrev pub Decides : Bool → Type 0 → Type 0
Decides r P = (r ≡ true → P) × (r ≡ false → P → ⊥)
