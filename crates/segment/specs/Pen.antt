-- Writing a segment in the standard's sequence (X12.6; docs/RULES.md, "Joining"): identifier, then for each filled place the separators that are
-- still due and its text, then the terminator. A pen holds how many bytes are written, how many element separators, and how many component separators
-- in that element.
use Rattle.std.specs.Prelude.{ℕ, ◌-◌, ◌≡◌, List, [], ◌∷◌, ◌++◌, replicate, ltb}
use Rattle.lent.specs.Fit.{Stored}
use Rattle.segment.specs.declared.Separators.{Separators}
use Rattle.segment.specs.declared.Pen.{Pen}
use Rattle.segment.specs.Joining.{line_feed}
use Rattle.segment.specs.Parts.{pick, is_empty}

-- what is written, and the separators that stand then
pub record Wrote : Type 0 where
  pub bytes : List ℕ
  pub elements : ℕ
  pub components : ℕ

abbrev pub nothing : Pen → Wrote
nothing pen = record { bytes = []; elements = pen.elements; components = pen.components }

-- the component separators that stand in element p
abbrev pub components_in : Pen → ℕ → ℕ
components_in pen p = pick (ltb pen.elements p) 0 pen.components

-- the separators that are due in front of component c of element p
unfoldable pub due : Separators → Pen → ℕ → ℕ → List ℕ
due s pen p c = replicate (p - pen.elements) s.element ++ replicate (c - 1 - components_in pen p) s.component

-- these separators and a text behind them
abbrev pub reached : Separators → Pen → ℕ → ℕ → List ℕ → Wrote
reached s pen p c text = record { bytes = due s pen p c ++ text; elements = p; components = c - 1 }

-- a text at component c of element p (a plain text: component 1); nothing if it is empty
unfoldable pub placed : Separators → Pen → ℕ → ℕ → List ℕ → Wrote
placed s pen p c text = pick (is_empty text) (nothing pen) (reached s pen p c text)

-- the end of element p, whose last filled component, hidden or not, is c: component separators stand up to there
unfoldable pub finished : Separators → Pen → ℕ → ℕ → Wrote
finished s pen p c = pick (ltb 1 c) (reached s pen p c []) (nothing pen)

-- the end of a segment whose last filled element, hidden or not, is `last`
unfoldable pub ending : Separators → List ℕ
ending s = s.segment ∷ line_feed s.line_break

-- a pen wrote this from `at` on: it stands at r, and the document went from d to d'
pub record Penned (w : Wrote) (at : ℕ) (r : Pen) (d d' : List ℕ) : Type 0 where
  pub stored : Stored d at w.bytes r.at d'
  pub elements : r.elements ≡ w.elements
  pub components : r.components ≡ w.components
