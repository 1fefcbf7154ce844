-- The stops of the walk, counted in their list.
use Prim.Native.Nat.{ℕ, ◌+◌, ◌<◌}
use mathlib.Core.Path.{◌≡◌, refl, sym, ap, ◌∙◌}
use mathlib.Core.Bool.{◌&&◌}
use mathlib.Core.List.{List, [], ◌∷◌}
use native.Mathlib.Nat.{zero-add}
use lib.ListN.{length}
use lib.Dec.{eqb}
use Rattle.nest.specs.Lists.{once, each, All}
use Rattle.nest.specs.Outline.{Outline, row_count}
use Rattle.walk.specs.Tour.{Step, enters, stop, opener, row_segment, fill, chunk, closer, Stop, stop_of, stop_list, tour}
use Rattle.walk.specs.Complete.{Complete}
use Rattle.walk.specs.Stops.{RowLoop, RightStop, stops_of}
use Rattle.walk.proofs.Theorem.{stops_right}
use Rattle.lossless.specs.NothingLost.{stops_at, StopsOnce}

counted : (t r : ℕ) (xs : List Step) → stops_at t r (each stop_of xs) ≡ stops_of t r xs
counted t r [] = refl
counted t r (enters l ∷ xs) = counted t r xs ∙ sym (zero-add (stops_of t r xs))
counted t r (stop l u o ∷ xs) = ap (λ n. once (eqb u t && eqb o r) + n) (counted t r xs)
counted t r (opener l ∷ xs) = counted t r xs ∙ sym (zero-add (stops_of t r xs))
counted t r (row_segment l i u o ∷ xs) = counted t r xs ∙ sym (zero-add (stops_of t r xs))
counted t r (fill l i u k o ∷ xs) = counted t r xs ∙ sym (zero-add (stops_of t r xs))
counted t r (chunk l i u os ∷ xs) = counted t r xs ∙ sym (zero-add (stops_of t r xs))
counted t r (closer l b n m ∷ xs) = counted t r xs ∙ sym (zero-add (stops_of t r xs))

module _ (o : Outline) where
  abbrev Right : Stop → Type 0
  Right p = (p.table < length o.tables) × (p.row < row_count o p.table) × RowLoop o p.loop p.table p.row

  all_right : (xs : List Step) → All (RightStop o) xs → All Right (each stop_of xs)
  all_right [] h = tt
  all_right (enters l ∷ xs) h = all_right xs h.1
  all_right (stop l u r ∷ xs) h = (h.0, all_right xs h.1)
  all_right (opener l ∷ xs) h = all_right xs h.1
  all_right (row_segment l i u r ∷ xs) h = all_right xs h.1
  all_right (fill l i u k r ∷ xs) h = all_right xs h.1
  all_right (chunk l i u rs ∷ xs) h = all_right xs h.1
  all_right (closer l b n m ∷ xs) h = all_right xs h.1

  pub stops_once : Complete o → StopsOnce o (stop_list (tour o))
  unfolding stop_list
  stops_once C =
      let s = stops_right o C in
      record {
        one = λ t r h k d. counted t r (tour o) ∙ s.one t r h k d;
        none_else = λ t r h k d. counted t r (tour o) ∙ s.none_else t r h k d;
        each_right = all_right (tour o) s.each_right;
      }
