-- Laws of the definitions of specs/Places, and words that only proofs use.
use Rattle.std.specs.Prelude.{ℕ, zero, suc, ◌≤◌, ◌<◌, ◌≡◌, ◌≢◌, List, [], ◌∷◌}
use Rattle.segment.specs.declared.Separators.{Separators}
use Rattle.segment.specs.Grammar.{Segment, All, Without, Plain}
use Rattle.segment.specs.Joining.{component_bytes}
use Rattle.segment.specs.Places.{text_at, place, component}

-- ---- writing

-- the texts of places 1 to n
unfoldable pub elements_at : (ℕ → List ℕ) → ℕ → List (List ℕ)
elements_at f zero = []
elements_at f (suc n) = f 1 ∷ elements_at (λ p. f (suc p)) n

-- ---- what is planned for a segment, and what is read

-- the identifier, the last place that is written, the text of each place
pub record Planned : Type 0 where
  pub id : List ℕ
  pub last : ℕ
  pub text : ℕ → List ℕ

unfoldable pub written : Planned → Segment
written p = record { id = p.id; elements = elements_at p.text p.last }

-- no separator of elements or segments is in what is written
pub record Clear (s : Separators) (p : Planned) : Type 0 where
  pub named : p.id ≢ []
  pub id_plain : Plain s p.id
  pub texts_plain : (i : ℕ) → 0 < i → i ≤ p.last → Plain s (p.text i)

-- the segment that was read has the planned texts at their places, and nothing at any other
pub record AsPlanned (s : Separators) (p : Planned) (x : Segment) : Type 0 where
  pub id : x.id ≡ p.id
  pub element_at : (i : ℕ) → 0 < i → i ≤ p.last → place x i ≡ p.text i
  pub past : (i : ℕ) → p.last < i → place x i ≡ []
  pub component_at : (i : ℕ) → 0 < i → i ≤ p.last → (cs : List (List ℕ)) → All (Without s.component) cs → p.text i ≡ component_bytes s cs
      → (c : ℕ) → component s x i c ≡ text_at cs c
  pub component_past : (i : ℕ) → p.last < i → (c : ℕ) → component s x i c ≡ []
