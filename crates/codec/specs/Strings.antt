-- Not to be believed: words of inner contracts, on which no contract of what users call rests.
-- Maps whose keys are byte strings: the walk over the entries, with the place of the key before.
use Prim.Native.Nat.{ℕ, zero, suc, ◌+◌}
use Rattle.std.specs.Prelude.{List, Bool, get_or, ltb, eqb, Option}
use Rattle.std.specs.Prelude.{Some, None}
use Rattle.std.proofs.Math.Bool.{true, false}
use Rattle.codec.specs.Codec.{pick, le}

-- n bytes from p on are before m bytes from q on
unfoldable pub less_from : List ℕ → ℕ → ℕ → ℕ → ℕ → Bool
less_from b zero zero p q = false
less_from b zero (suc m) p q = true
less_from b (suc n) zero p q = false
less_from b (suc n) (suc m) p q = pick (ltb (get_or b p 0) (get_or b q 0)) true (pick (eqb (get_or b p 0) (get_or b q 0)) (less_from b n m (p + 1) (q + 1)) false)

-- ---- and what it says of the byte strings

unfoldable pub less_at : List ℕ → ℕ → ℕ → Bool
less_at b p q = less_from b (le 4 b p) (le 4 b q) (p + 4) (q + 4)

-- ---- the walk: last is the place of the key before, if there is one
unfoldable pub ok_at : List ℕ → Option ℕ → ℕ → Bool
ok_at b None at = true
ok_at b (Some q) at = less_at b q at
