-- From the parts of a segment to its elements (the Rust's `write_segment` in write/render.rs; docs/RULES.md, "Joining").
-- Trailing empty elements and components go. Of parts at one place the first stands.
use Rattle.std.specs.Prelude.{ℕ, zero, suc, ◌+◌, max, Bool, true, false, List, [], ◌∷◌, eqb, leb, ltb, Option, None, Some}
use Rattle.segment.specs.declared.Separators.{Separators}
use Rattle.segment.specs.Joining.{component_bytes, segment_bytes}

-- one text and its place; a part with nothing and a part with empty text are the same
pub record Part : Type 0 where
  pub element : ℕ
  pub component : Option ℕ
  pub text : List ℕ

abbrev pub pick : {A : Type 0} → Bool → A → A → A
pick true a b = a
pick false a b = b

abbrev pub is_empty : {A : Type 0} → List A → Bool
is_empty [] = true
is_empty (x ∷ xs) = false

-- a plain part counts as component 1 where its element also has component parts
abbrev pub or_one : Option ℕ → ℕ
or_one None = 1
or_one (Some c) = c

abbrev pub component_of : Part → ℕ
component_of x = or_one x.component

-- the highest number of a filled part, 0 where none is filled
unfoldable pub highest : (Part → ℕ) → List Part → ℕ
highest f [] = 0
highest f (x ∷ xs) = max (pick (is_empty x.text) 0 (f x)) (highest f xs)

abbrev pub last_element : List Part → ℕ
last_element = highest (λ x. x.element)

abbrev pub last_component : List Part → ℕ
last_component = highest component_of

-- the parts at element p with which a list begins, and the parts after them
unfoldable pub here : ℕ → List Part → List Part
here p [] = []
here p (x ∷ xs) = pick (eqb x.element p) (x ∷ here p xs) []

unfoldable pub after : ℕ → List Part → List Part
after p [] = []
after p (x ∷ xs) = pick (eqb x.element p) (after p xs) (x ∷ xs)

-- ---- one element

abbrev pub is_plain : Option ℕ → Bool
is_plain None = true
is_plain (Some c) = false

unfoldable pub all_plain : List Part → Bool
all_plain [] = true
all_plain (x ∷ xs) = pick (is_plain x.component) (all_plain xs) false

unfoldable pub first_text : List Part → List ℕ
first_text [] = []
first_text (x ∷ xs) = x.text

-- the first part at component c stands
unfoldable pub component_text : List Part → ℕ → List ℕ
component_text [] c = []
component_text (x ∷ xs) c = pick (eqb (component_of x) c) x.text (component_text xs c)

-- the texts of n places from number p on
unfoldable pub texts : (ℕ → List ℕ) → ℕ → ℕ → List (List ℕ)
texts f zero p = []
texts f (suc n) p = f p ∷ texts f n (p + 1)

unfoldable pub element_text : Separators → List Part → List ℕ
element_text s xs = pick (all_plain xs) (first_text xs) (component_bytes s (texts (component_text xs) (last_component xs) 1))

-- ---- the elements

-- n elements from position p on; at each, the parts there with which the list begins are used up
unfoldable pub elements_from : Separators → ℕ → ℕ → List Part → List (List ℕ)
elements_from s zero p rest = []
elements_from s (suc n) p rest = element_text s (here p rest) ∷ elements_from s n (p + 1) (after p rest)

unfoldable pub elements_of : Separators → List Part → List (List ℕ)
elements_of s parts = elements_from s (last_element parts) 1 parts

unfoldable pub joined : Separators → List ℕ → List Part → List ℕ
joined s id parts = segment_bytes s id (elements_of s parts)

-- ---- a repeat segment's parts are sorted by element, then component, none first; equal places keep their order

abbrev pub rank : Option ℕ → ℕ
rank None = 0
rank (Some c) = suc c

-- the place of x is not behind that of y
abbrev pub not_behind : Part → Part → Bool
not_behind x y = pick (eqb x.element y.element) (leb (rank x.component) (rank y.component)) (ltb x.element y.element)

unfoldable pub insert : Part → List Part → List Part
insert x [] = x ∷ []
insert x (y ∷ ys) = pick (not_behind x y) (x ∷ y ∷ ys) (y ∷ insert x ys)

unfoldable pub sorted : List Part → List Part
sorted [] = []
sorted (x ∷ xs) = insert x (sorted xs)
