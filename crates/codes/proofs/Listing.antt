-- Members of lists, one by one.
use mathlib.Core.List.{List, [], ◌∷◌}
use Rattle.nest.specs.Lists.{All}

module _ {A : Type 0} where
  pub all_map : (P Q : A → Type 0) → ((x : A) → P x → Q x) → (xs : List A) → All P xs → All Q xs
  all_map P Q f [] h = tt
  all_map P Q f (x ∷ xs) h = (f x h.0, all_map P Q f xs h.1)

  pub all_both : (P Q : A → Type 0) (xs : List A) → All P xs → All Q xs → All (λ x. P x × Q x) xs
  all_both P Q [] h i = tt
  all_both P Q (x ∷ xs) h i = ((h.0, i.0), all_both P Q xs h.1 i.1)

  pub all_any : (P : A → Type 0) → ((x : A) → P x) → (xs : List A) → All P xs
  all_any P f [] = tt
  all_any P f (x ∷ xs) = (f x, all_any P f xs)
