-- Tests joined, and a test of every item of a list, made where the items stand.
use Rattle.std.specs.Prelude.{Bool, true, false}
use mathlib.Core.List.{List, [], ◌∷◌}
use Rattle.codec.specs.Codec.{pick}

unfoldable pub any : List Bool → Bool
any [] = false
any (t ∷ ts) = pick t true (any ts)

-- some item passes the test
unfoldable pub any_of : {A : Type 0} → (A → Bool) → List A → Bool
any_of f [] = false
any_of f (x ∷ xs) = pick (f x) true (any_of f xs)
