-- Not to be believed: words of inner contracts, on which no contract of what users call rests.
-- Looking a key up in a map: where its value stands.
use Prim.Native.Nat.{ℕ}
use Rattle.std.specs.Prelude.{◌≡◌, List, eqb, Option, None, Some}
use Rattle.codec.specs.Codec.{Codec}
use Rattle.codec.specs.Skip.{Is}
use Rattle.codec.specs.Forms.{num_c, opt_c}
use Rattle.format.specs.Ask.{on, found}
use Rattle.format.specs.Spec.{ElementDef, element_c, ComponentDef}
use Rattle.format.specs.Fields.{element_min, element_max}

-- where a value stands, if there is one
pub record StandsAt {A : Type 0} (C : Codec A) (b : List ℕ) (e at : ℕ) (v : Option A) : Type 0 where
  pub value : A
  pub there : v ≡ Some value
  pub is : Is C b e at value

unfoldable pub PlaceOf : {A : Type 0} → Codec A → List ℕ → ℕ → Option ℕ → Option A → Type 0
PlaceOf C b e None v = v ≡ None
PlaceOf C b e (Some p) v = StandsAt C b e p v

-- ---- an element of a segment

-- the most that an element's definition, or that of its component, gives
abbrev pub max_in : ElementDef → Option ℕ → Option ℕ
max_in d None = d.max
max_in d (Some c) = on (found (eqb c) d.components) (λ (k : ComponentDef). k.max) None

-- some element stands at a place, as far as it is read up to e. `Stands` leaves the end open, but the places of its fields go by a section's end
pub record ElementAt (b : List ℕ) (e at : ℕ) : Type 0 where
  pub def : ElementDef
  pub is : Is element_c b e at def

-- the least and the most of an element or a component stand behind its kind
pub record Sized (b : List ℕ) (e at : ℕ) : Type 0 where
  pub least : Option ℕ
  pub most : Option ℕ
  pub min : Is (opt_c num_c) b e (element_min b e at) least
  pub max : Is (opt_c num_c) b e (element_max b e at) most
