-- What planned places put, one place after the other: for loops that step through the planned elements.
use Prim.Native.Nat.{ℕ, zero, suc, ◌+◌, ◌≤◌, ◌<◌, max}
use mathlib.Core.Path.{◌≡◌, refl}
use mathlib.Core.List.{List, [], ◌∷◌, ◌++◌}
use native.Mathlib.Numerals.{add-one}
use native.Mathlib.Omega.{arith}
use Rattle.std.specs.Prelude.{Option}
use lib.ListN.{length, get_or, drop}
use lib.Seq.{drop-cons}
use Rattle.format.specs.Job.{Job}
use Rattle.format.specs.Refusal.{separators}
use Rattle.segment.specs.Parts.{Part, highest}
use Rattle.segment.specs.Values.{value_text}
use Rattle.nest.specs.Finding.{cell}
use Rattle.texts.specs.Said.{why_in}
use Rattle.emit.specs.declared.cells.Written.{Written}
use Rattle.emit.specs.declared.findings.Delimiters.{Delimiters}
use Rattle.emit.specs.Puts.{Put, nothing, and_put, put_all, cell_outcome, place_of, held_in, delimited, unwritten, put_cell}
use Rattle.emit.specs.Written.{Writes, tried}

none_left : {A : Type 0} (k : ℕ) (es : List A) → length es ≤ k → drop k es ≡ []
none_left zero [] h = refl
none_left zero (x ∷ es) h = absurd (omega arith)
none_left (suc k) [] h = refl
none_left (suc k) (x ∷ es) h = none_left k es (omega arith)

module _ {A : Type 0} (f : A → Put) (es : List A) (k : ℕ) where
  -- element k, and then those behind it
  pub put_next : (d : A) → k < length es → put_all f (drop k es) ≡ and_put (f (get_or es k d)) (put_all f (drop (k + 1) es))
  put_next d h = rw (add-one, drop-cons es k d h)

  pub put_end : length es ≤ k → put_all f (drop k es) ≡ nothing
  put_end h = rw (none_left k es h)

-- the highest number of a filled part, part by part
pub highest_append : (g : Part → ℕ) (a b : List Part) → highest g (a ++ b) ≡ max (highest g a) (highest g b)
unfolding highest
highest_append g [] b = omega arith
highest_append g (x ∷ a) b = rw (highest_append g a b) (omega arith)

-- a cell's text as code has it gives its place's part and findings
module _ (job : List ℕ) (j : Job) (id : List ℕ) (e : ℕ) (c : Option ℕ) (t column r : ℕ) (x : Written) (w : Writes job x (cell_outcome j id t r e c column)) where
  pub cell_findings : (d : Delimiters) → tried d ≡ separators j.envelope
      → (put_cell j id e c t column r).findings ≡ unwritten (cell t r column) (place_of id e c) (why_in x.reason) ++ held_in (cell t r column) (place_of id e c) (value_text job x.value) 0 (tried d)
  unfolding put_cell delimited
  cell_findings d q = rw (w.text, w.reason, q)
