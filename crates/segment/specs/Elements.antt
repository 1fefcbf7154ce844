-- A law of the calls that write a segment: what is written after each element (docs/RULES.md, "Joining").
use Rattle.std.specs.Prelude.{ℕ, ◌+◌, ◌-◌, ◌≤◌, ◌≡◌, List, [], ◌∷◌, ◌++◌, length, replicate}
use Rattle.lent.specs.Fit.{cap, Stored}
use Rattle.segment.specs.declared.Separators.{Separators}
use Rattle.segment.specs.declared.Pen.{Pen}
use Rattle.segment.specs.Joining.{behind, component_bytes, segment_bytes, trimmed}
use Rattle.segment.specs.Parts.{texts}
use Rattle.segment.specs.Pen.{ending}
use Rattle.segment.specs.Group.{Group}

-- the elements `done`, filled or empty, have been written as `written`
pub record Elements (s : Separators) (id : List ℕ) (done : List (List ℕ)) (pen : Pen) (written : List ℕ) : Type 0 where
  -- the identifier and the elements up to the last filled, each behind a separator
  pub text : written ≡ id ++ behind s.element (trimmed done)
  -- the pen counts the separators that are written
  pub standing : pen.elements ≡ length (trimmed done)
  -- those of the empty elements since then are pending
  pub pending : done ≡ trimmed done ++ replicate (length done - pen.elements) []

-- the calls for one element, of text t, have stored its bytes
pub record OneMore (s : Separators) (id : List ℕ) (done : List (List ℕ)) (t : List ℕ) (pen r : Pen) (written d d₂ : List ℕ) : Type 0 where
  pub bytes : List ℕ
  -- as far as they fit
  pub stored : Stored d pen.at bytes r.at d₂
  -- and with them the elements are one more
  pub elements : Elements s id (done ++ (t ∷ [])) r (written ++ bytes)

-- After each element what is written is the joining of the elements so far, less the terminator.
pub record AfterEachElement : Type 0 where
  -- behind the identifier there is no element
  pub start : (s : Separators) (id : List ℕ) (pen : Pen) → pen.elements ≡ 0 → Elements s id [] pen id
  -- the calls for the next element, of k components whose texts f gives, leave the joining of one element more
  pub next : (s : Separators) (k : ℕ) (f : ℕ → List ℕ) (pen r : Pen) (d d₂ id : List ℕ) (done : List (List ℕ)) (written : List ℕ)
      → Elements s id done pen written → length d ≤ cap → Group s k f (length done + 1) 1 pen d r d₂
      → OneMore s id done (component_bytes s (texts f k 1)) pen r written d d₂
  -- with the terminator it is the segment of the elements so far
  pub ended : (s : Separators) (id : List ℕ) (done : List (List ℕ)) (pen : Pen) (written : List ℕ) → Elements s id done pen written
      → segment_bytes s id (trimmed done) ≡ written ++ ending s
