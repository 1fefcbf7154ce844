-- Not to be believed: words of inner contracts, on which no contract of what users call rests.
-- What storing numbers into the index leaves as it was, and what it makes of it.
use Rattle.std.specs.Prelude.{ℕ, ◌≤◌, ◌<◌, ◌≡◌, List, length, get_or}

-- nothing but the places from `from` to `to` has changed
pub record Kept (from to : ℕ) (l m : List ℕ) : Type 0 where
  pub long : length m ≡ length l
  pub below : (i : ℕ) → i < from → get_or m i 0 ≡ get_or l i 0
  pub above : (i : ℕ) → to ≤ i → get_or m i 0 ≡ get_or l i 0
