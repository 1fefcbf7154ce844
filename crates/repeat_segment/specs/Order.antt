-- Not to be believed: words of inner contracts, on which no contract of what users call rests.
-- Parts that are plain and come in the order of their places, and the calls that write them as they come.
use Rattle.std.specs.Prelude.{ℕ, ◌<◌, ◌≡◌, List, [], ◌∷◌, Option, None, Some}
use Rattle.segment.specs.declared.Separators.{Separators}
use Rattle.segment.specs.declared.Pen.{Pen}
use Rattle.segment.specs.Parts.{Part}
use Rattle.segment.specs.Pen.{placed, Penned}

-- all parts are plain, each is at an element behind the one before it, the first behind element q; the last is at element l
abbrev pub Rises : ℕ → List Part → ℕ → Type 0
Rises q [] l = q ≡ l
Rises q (x ∷ xs) l = (q < x.element) × (x.component ≡ None) × Rises x.element xs l

-- where an element is told, it is the last
abbrev pub Ends : ℕ → List Part → Option ℕ → Type 0
Ends q parts None = Unit {0}
Ends q parts (Some l) = Rises q parts l

pub record Ordered (parts : List Part) : Type 0 where
  pub last : ℕ
  pub rises : Rises 0 parts last

-- calls that write parts one after the other, each as a plain text; pen and document before and after
pub data Fed (s : Separators) : List Part → Pen → List ℕ → Pen → List ℕ → Type 0 where
  done : {pen : Pen} {d : List ℕ} → Fed s [] pen d pen d
  part : {x : Part} {xs : List Part} {pen r t : Pen} {d d₁ d₂ : List ℕ} → Penned (placed s pen x.element 1 x.text) pen.at r d d₁ → Fed s xs r d₁ t d₂ → Fed s (x ∷ xs) pen d t d₂
