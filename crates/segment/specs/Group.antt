-- The calls that write one element, in the order of its components (docs/RULES.md, "Joining").
use Rattle.std.specs.Prelude.{ℕ, ◌+◌, ◌≤◌, ◌≡◌, List}
use Rattle.segment.specs.declared.Separators.{Separators}
use Rattle.segment.specs.declared.Pen.{Pen}
use Rattle.segment.specs.Pen.{placed, finished, Penned}

-- ---- one element

-- calls that write element p from component c on, whose texts f gives up to the last filled, k; pen and document before and after
pub data Group (s : Separators) (k : ℕ) (f : ℕ → List ℕ) (p : ℕ) : ℕ → Pen → List ℕ → Pen → List ℕ → Type 0 where
  next : {c : ℕ} {pen r t : Pen} {d d₁ d₂ : List ℕ} → c ≤ k → Penned (placed s pen p c (f c)) pen.at r d d₁ → Group s k f p (c + 1) r d₁ t d₂ → Group s k f p c pen d t d₂
  finish : {c : ℕ} {pen r : Pen} {d d₁ : List ℕ} → c ≡ k + 1 → Penned (finished s pen p k) pen.at r d d₁ → Group s k f p c pen d r d₁
