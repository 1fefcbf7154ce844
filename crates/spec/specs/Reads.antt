-- Not to be believed: words of inner contracts, on which no contract of what users call rests.
-- What a reader by place answers, for a value that stands there.
use Rattle.std.specs.Prelude.{ℕ, ◌≡◌, Bool, true, false, get_or}
use mathlib.Core.List.{List}

-- t is whether the byte at a place is not 0
pub record ByteSays (b : List ℕ) (at : ℕ) (t : Bool) : Type 0 where
  pub unset : get_or b at 0 ≡ 0 → t ≡ false
  pub set : (get_or b at 0 ≡ 0 → ⊥) → t ≡ true
