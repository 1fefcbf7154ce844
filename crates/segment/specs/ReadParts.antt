-- What a segment joined of parts is read as: at each place its first part's text, which is the text planned for it (docs/RULES.md, "One reading").
use Rattle.std.specs.Prelude.{ℕ, ◌≤◌, ◌<◌, ◌≡◌, ◌≢◌, Bool, false, List, [], ◌∷◌, ◌++◌, eqb, Option, None, Some}
use Rattle.segment.specs.declared.Separators.{Separators}
use Rattle.segment.specs.Grammar.{Segment, All, Without, Plain}
use Rattle.segment.specs.Parts.{Part, pick, rank, joined}
use Rattle.segment.specs.Places.{place, component}

-- a segment that is due: its identifier and its parts
pub record Due : Type 0 where
  pub id : List ℕ
  pub parts : List Part

-- due segments, joined one after the other
unfoldable pub joined_all : Separators → List Due → List ℕ
joined_all s [] = []
joined_all s (d ∷ ds) = joined s d.id d.parts ++ joined_all s ds

-- ---- what is planned

-- whether a part stands at component c of element p, or at the element itself
abbrev pub is_at : ℕ → Option ℕ → Part → Bool
is_at p c x = pick (eqb x.element p) (eqb (rank x.component) (rank c)) false

-- the text planned for a place: its first part's, nothing where there is none
unfoldable pub text_of : List Part → ℕ → Option ℕ → List ℕ
text_of [] p c = []
text_of (x ∷ xs) p c = pick (is_at p c x) x.text (text_of xs p c)

-- element p has no component parts
abbrev pub PlainAt : ℕ → List Part → Type 0
PlainAt p = All (λ x. x.element ≡ p → x.component ≡ None)

-- element p has no plain parts
abbrev pub ComposedAt : ℕ → List Part → Type 0
ComposedAt p = All (λ x. x.element ≡ p → x.component ≢ None)

-- no part stands at an element below the one before it, and none below p
abbrev pub RisesFrom : ℕ → List Part → Type 0
RisesFrom p [] = Unit {0}
RisesFrom p (x ∷ xs) = (p ≤ x.element) × RisesFrom x.element xs

-- places start at 1 and rise; no text holds the element separator or the terminator, and no component the component separator
pub record Free (s : Separators) (d : Due) : Type 0 where
  pub named : d.id ≢ []
  pub id_plain : Plain s d.id
  pub rises : RisesFrom 1 d.parts
  pub plain : All (λ x. Plain s x.text) d.parts
  pub whole : All (λ x. x.component ≢ None → Without s.component x.text) d.parts

-- ---- what is read

-- every place has the text that is planned for it, and is empty where none is
pub record ReadAs (s : Separators) (d : Due) (x : Segment) : Type 0 where
  pub id : x.id ≡ d.id
  pub plain_at : (p : ℕ) → 0 < p → PlainAt p d.parts → place x p ≡ text_of d.parts p None
  pub component_at : (p : ℕ) → 0 < p → ComposedAt p d.parts → (c : ℕ) → 0 < c → component s x p c ≡ text_of d.parts p (Some c)
