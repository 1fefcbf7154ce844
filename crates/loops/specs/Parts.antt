-- Not to be believed: words of inner contracts, on which no contract of what users call rests.
-- Parts of refusal 4 (docs/RULES.md, "Answer 4"): children and orders that repeat, and a spec whose loops are no forest.
use Rattle.std.specs.Prelude.{ℕ, List, [], ◌∷◌, Bool}
use Rattle.codec.specs.Limits.{any, any_of}
use Rattle.format.specs.Layout.{Item}
use Rattle.format.specs.Words.{any_from, member_of, repeats}
use Rattle.format.specs.Refusal.{loops_in, not_child, disagrees, ringed, misrooted}
use Rattle.format.specs.Spec.{Loop, Spec}
use Rattle.tree.specs.Parts.{on_loop}

-- of the loops that an order names
abbrev pub member_in : ℕ → List Item → Bool
member_in x is = member_of x (loops_in is)

abbrev pub repeats_in : List Item → Bool
repeats_in is = repeats (loops_in is)

abbrev pub again_in : List Item → Item → Bool
again_in ys y = on_loop (λ x. member_in x ys) y

-- an item that names a loop which is no child of k
unfoldable pub misplaced : List Loop → ℕ → Item → Bool
misplaced ls k = on_loop (λ l. not_child ls l k)

abbrev pub misplaced_in : List Loop → ℕ → List Item → Bool
misplaced_in ls k is = any_of (λ l. not_child ls l k) (loops_in is)

-- a spec whose loops are no forest
unfoldable pub tangled_spec : Spec → Bool
tangled_spec s = any
    (any_from (disagrees s.loops) 0 s.loops ∷ any_from (ringed s.loops) 0 s.loops ∷ any_from (misrooted s.roots) 0 s.loops ∷ [])

-- some child stands there twice
abbrev pub repeats_below : Loop → Bool
repeats_below v = repeats v.children
