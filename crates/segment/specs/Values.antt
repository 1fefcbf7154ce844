-- Not to be believed: words of inner contracts, beside those of Pen, on which no contract of what users call rests.
use Rattle.std.specs.Prelude.{ℕ, ◌-◌, ◌≤◌, ◌≡◌, Bool, true, false, List, [], ◌∷◌, ◌++◌, take, replicate, eqb}
use Rattle.lent.specs.Window.{stretch}
use Rattle.segment.specs.declared.Separators.{Separators}
use Rattle.segment.specs.declared.Value.{Value}
use Rattle.segment.specs.declared.Pen.{Pen}
use Rattle.segment.specs.Parts.{pick}
use Rattle.segment.specs.Pen.{Wrote, ending}

-- zeros, then bytes of the value's own, then a stretch of the job, then spaces
unfoldable pub value_text : List ℕ → Value → List ℕ
value_text job v = replicate v.zeros 48 ++ (take v.count v.bytes ++ (stretch job v.start v.len ++ replicate v.spaces 32))

-- no zeros, no spaces, and no more bytes of its own than there are
pub record Plain (v : Value) : Type 0 where
  pub zeros : v.zeros ≡ 0
  pub spaces : v.spaces ≡ 0
  pub few : v.count ≤ 48

-- whether a byte of a text passes a test
unfoldable pub holds_any : (ℕ → Bool) → List ℕ → Bool
holds_any f [] = false
holds_any f (x ∷ xs) = pick (f x) true (holds_any f xs)

-- whether a byte is in a text
unfoldable pub holds : ℕ → List ℕ → Bool
holds b = holds_any (λ x. eqb x b)

-- whether a byte is one of four
unfoldable pub one_of : ℕ → ℕ → ℕ → ℕ → ℕ → Bool
one_of a b c d x = pick (eqb x a) true (pick (eqb x b) true (pick (eqb x c) true (eqb x d)))

unfoldable pub closing : Separators → Pen → ℕ → List ℕ
closing s pen last = replicate (last - pen.elements) s.element ++ ending s

-- the start of a segment: its identifier
abbrev pub opened : List ℕ → Wrote
opened id = record { bytes = id; elements = 0; components = 0 }
