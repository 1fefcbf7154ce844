-- The texts at a segment's places (docs/RULES.md, "Grammar": an element planned with components is read at the component separator; a place past
-- the end reads as empty), and elements and components made of texts ("Joining": trailing empty elements and components go).
use Rattle.std.specs.Prelude.{ℕ, zero, suc, List, [], ◌∷◌, get_or}
use Rattle.segment.specs.declared.Separators.{Separators}
use Rattle.segment.specs.Grammar.{Segment}
use Rattle.segment.specs.Reading.{cut}

-- ---- reading

-- text number p, from 1; empty past the end
unfoldable pub text_at : List (List ℕ) → ℕ → List ℕ
text_at texts zero = []
text_at texts (suc i) = get_or texts i []

-- the text at element place p
unfoldable pub place : Segment → ℕ → List ℕ
place x p = text_at x.elements p

-- an element read at the component separator
unfoldable pub components_of : Separators → List ℕ → List (List ℕ)
components_of s element = (cut s.component element).first ∷ (cut s.component element).more

-- the text at component c of element place p
unfoldable pub component : Separators → Segment → ℕ → ℕ → List ℕ
component s x p c = text_at (components_of s (place x p)) c

-- ---- what is planned for a segment, and what is read

-- two lists of one length, whose members match one by one
abbrev pub Match : {A B : Type 0} → (A → B → Type 0) → List A → List B → Type 0
Match R [] [] = Unit {0}
Match R [] (y ∷ ys) = ⊥
Match R (x ∷ xs) [] = ⊥
Match R (x ∷ xs) (y ∷ ys) = R x y × Match R xs ys
