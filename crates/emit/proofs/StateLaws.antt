-- The state as code moves it on.
use Prim.Native.Nat.{ℕ, zero, suc, ◌<◌}
use mathlib.Core.Path.{◌≡◌, refl, sym, ap, ◌∙◌}
use mathlib.Core.List.{List, [], ◌∷◌, map, append-nil}
use Rattle.std.specs.Prelude.{Option, None}
use lib.ListN.{length, get_or, set}
use lib.Seq.{get_or-set_same, set-set}
use Rattle.emit.specs.declared.state.Counts.{Counts}
use Rattle.emit.specs.Fold as F
use Rattle.emit.specs.Did.{Mark, mark_of, state_of, state_with, traced_words}
use Rattle.emit.specs.Words.{traced_word}

-- ---- the marks

pub mark_at : (l : List Mark) (t : ℕ) → mark_of (get_or l t None) ≡ get_or (map mark_of l) t None
mark_at [] t = refl
mark_at (m ∷ l) zero = refl
mark_at (m ∷ l) (suc t) = mark_at l t

pub mark_put : (l : List Mark) (t : ℕ) (m : Mark) → map mark_of (set l t m) ≡ set (map mark_of l) t (mark_of m)
mark_put [] t m = refl
mark_put (x ∷ l) zero m = refl
mark_put (x ∷ l) (suc t) m = ap (λ (r : List (Option ℕ)). mark_of x ∷ r) (mark_put l t m)

-- the mark that was put, and one put over it
pub mark_in : (l : List Mark) (t : ℕ) (m : Mark) → t < length l → get_or (map mark_of (set l t m)) t None ≡ mark_of m
mark_in l t m h = sym (mark_at (set l t m) t) ∙ ap mark_of (get_or-set_same l t m None h)

pub mark_over : (l : List Mark) (t : ℕ) (m n : Mark) → map mark_of (set l t n) ≡ set (map mark_of (set l t m)) t (mark_of n)
mark_over l t m n = ap (map mark_of) (sym (set-set l t m n)) ∙ mark_put (set l t m) t n

-- ---- control numbers

module _ (high : List Mark) (counter : List ℕ) (l k : ℕ) (s : Counts) (h : l < length counter) where
  pub number_in : get_or (state_of (state_with high (set counter l k) s)).counter l 0 ≡ k
  unfolding state_of
  number_in = get_or-set_same counter l k 0 h

  pub number_up : (n : ℕ) → n ≡ F.next k → state_of (state_with high (set counter l n) s) ≡ F.counter_up l (state_of (state_with high (set counter l k) s))
  unfolding state_of
  number_up n e = rw (get_or-set_same counter l k 0 h, e, set-set counter l k (F.next k)) refl

-- ---- a segment is finished

pub traced_one : (x : F.Traced) → traced_words (x ∷ []) ≡ traced_word x
unfolding traced_words
traced_one x = append-nil (traced_word x)
