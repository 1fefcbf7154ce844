-- Not to be believed: words of inner contracts, on which no contract of what users call rests.
-- The calls that write a segment, in the order in which the standard has its places: for the contracts of functions that feed a pen.
-- What the calls together store is proved in proofs/Runs.antt: the joining of the parts, whatever they are.
use Rattle.std.specs.Prelude.{ℕ, suc, ◌+◌, ◌≤◌, ◌<◌, ◌≡◌, Bool, true, false, List, [], ◌∷◌, eqb, ltb, Option, None, Some}
use Rattle.lent.specs.Fit.{Stored}
use Rattle.segment.specs.declared.Separators.{Separators}
use Rattle.segment.specs.declared.Pen.{Pen}
use Rattle.segment.specs.Parts.{Part, pick, rank, component_of, highest, last_component, here, after, component_text}
use Rattle.segment.specs.declared.Value.{Value}
use Rattle.segment.specs.Values.{value_text, closing}
use Rattle.segment.specs.Pen.{placed, Penned}
use Rattle.segment.specs.Group.{Group}

-- ---- one element

-- who is asked answers each component with its text by f
abbrev pub Gives : List ℕ → (ℕ → Value → Type 0) → (ℕ → List ℕ) → Type 0
Gives job asked f = (c : ℕ) (v : Value) → asked c v → value_text job v ≡ f c

-- ---- a row segment: group by group in the order of its parts

-- the parts that are left stay: there are none, or the next is at an element that is done
unfoldable pub stays : ℕ → List Part → Bool
stays p [] = true
stays p (x ∷ xs) = ltb x.element p

-- calls that write the parts that are left, where the elements below p are done, and close the segment
pub data Row (s : Separators) (last : ℕ) : ℕ → List Part → Pen → List ℕ → ℕ → List ℕ → Type 0 where
  group : {p e : ℕ} {x : Part} {xs : List Part} {pen r : Pen} {d d₁ d₂ : List ℕ} → p ≤ x.element
      → Group s (last_component (here x.element (x ∷ xs))) (component_text (here x.element (x ∷ xs))) x.element 1 pen d r d₁
      → Row s last (x.element + 1) (after x.element (x ∷ xs)) r d₁ e d₂ → Row s last p (x ∷ xs) pen d e d₂
  close : {p e : ℕ} {rest : List Part} {pen : Pen} {d d₁ : List ℕ} → stays p rest ≡ true → Stored d pen.at (closing s pen last) e d₁ → Row s last p rest pen d e d₁

-- ---- a repeat segment: position by position, its parts as they come

unfoldable pub stands_at : ℕ → ℕ → Part → Bool
stands_at p r x = pick (eqb x.element p) (eqb (rank x.component) r) false

-- the first part at element p with rank r (0: plain; c + 1: component c)
unfoldable pub first_at : ℕ → ℕ → List Part → Option (List ℕ)
first_at p r [] = None
first_at p r (x ∷ xs) = pick (stands_at p r x) (Some x.text) (first_at p r xs)

abbrev pub or_text : Option (List ℕ) → List ℕ → List ℕ
or_text None text = text
or_text (Some text) other = text

-- component c of element p: at component 1 the first plain part stands in front of the others
unfoldable pub repeat_text : List Part → ℕ → ℕ → List ℕ
repeat_text parts p c = or_text (pick (eqb c 1) (first_at p 0 parts) None) (or_text (first_at p (suc c) parts) [])

abbrev pub component_in : ℕ → Part → ℕ
component_in p x = pick (eqb x.element p) (component_of x) 0

-- the last filled component of element p
unfoldable pub last_component_at : ℕ → List Part → ℕ
last_component_at p parts = highest (component_in p) parts

-- no part stands at element 0
unfoldable pub zero_free : List Part → Bool
zero_free [] = true
zero_free (x ∷ xs) = pick (ltb 0 x.element) (zero_free xs) false

-- calls that write a repeat segment position by position from p on and close it; positions without a filled part may be passed over
pub data Repeat (s : Separators) (last : ℕ) (parts : List Part) : ℕ → Pen → List ℕ → ℕ → List ℕ → Type 0 where
  position : {p e : ℕ} {pen r : Pen} {d d₁ d₂ : List ℕ} → p ≤ last → Group s (last_component_at p parts) (repeat_text parts p) p 1 pen d r d₁
      → Repeat s last parts (p + 1) r d₁ e d₂ → Repeat s last parts p pen d e d₂
  pass : {p e : ℕ} {pen : Pen} {d d₂ : List ℕ} → p ≤ last → last_component_at p parts ≡ 0 → Repeat s last parts (p + 1) pen d e d₂ → Repeat s last parts p pen d e d₂
  ended : {p e : ℕ} {pen : Pen} {d d₁ : List ℕ} → last < p → Stored d pen.at (closing s pen last) e d₁ → Repeat s last parts p pen d e d₁

-- ---- parts that come in the order of their places

-- x stands at component c of element p or behind it
abbrev pub Behind : ℕ → ℕ → Part → Type 0
Behind p c x = (p ≤ x.element) × (0 < component_of x) × (x.element ≡ p → c ≤ component_of x)

-- each part stands behind the one before it, the first at component c of element p or behind it
abbrev pub Rises : ℕ → ℕ → List Part → Type 0
Rises p c [] = Unit {0}
Rises p c (x ∷ xs) = Behind p c x × Rises x.element (component_of x + 1) xs

-- calls that write parts one after the other, each at its place; pen and document before and after
pub data Fed (s : Separators) : List Part → Pen → List ℕ → Pen → List ℕ → Type 0 where
  done : {pen : Pen} {d : List ℕ} → Fed s [] pen d pen d
  part : {x : Part} {xs : List Part} {pen r t : Pen} {d d₁ d₂ : List ℕ} → Penned (placed s pen x.element (component_of x) x.text) pen.at r d d₁ → Fed s xs r d₁ t d₂ → Fed s (x ∷ xs) pen d t d₂
