-- The runs of a list are the list: each row stands in as many of them as in the list.
use Prim.Native.Nat.{ℕ, zero, suc, ◌+◌, ◌-◌, ◌≤◌}
use mathlib.Core.Path.{◌≡◌, refl, sym, ap, ◌∙◌}
use mathlib.Core.Bool.{Bool, true, false, cond}
use mathlib.Core.List.{List, [], ◌∷◌}
use native.Mathlib.Omega.{arith}
use lib.ListN.{length, take, drop, length-take, length-drop, take-append-drop}
use lib.Seq.{take_all, take-nil, take-take, drop-drop}
use lib.Dec.{eqb}
use Rattle.nest.specs.Lists.{once, sum, times, part}
use Rattle.walk.specs.Instances.{Piece, pieces, pieces_of}
use Rattle.lent.proofs.Laws.{drop_take}
use Rattle.nest.proofs.Sums.{sum_append}

-- there are no more pieces than rows
pieces_few : (same : ℕ → ℕ → Bool) (xs : List ℕ) (head start end : ℕ) → length (pieces same head start end xs) ≤ suc (length xs)
unfolding pieces
pieces_few same [] head start end = omega arith
pieces_few same (r ∷ more) head start end = go (same head r) (pieces_few same more head start (suc end)) (pieces_few same more r end (suc end))
  where
    go : (b : Bool) → length (pieces same head start (suc end) more) ≤ suc (length more) → length (pieces same r end (suc end) more) ≤ suc (length more)
        → length (cond b (pieces same head start (suc end) more) (record { head = head; start = start; end = end } ∷ pieces same r end (suc end) more)) ≤ suc (suc (length more))
    go true on apart = omega arith
    go false on apart = omega arith

pub pieces_no_more : (same : ℕ → ℕ → Bool) (xs : List ℕ) → length (pieces_of same xs) ≤ length xs
pieces_no_more same [] = omega arith
pieces_no_more same (r ∷ more) = pieces_few same more r 0 1

-- a part of a part, both counted from the start of the whole
pub part_of_part : (P : List ℕ) (a b s e : ℕ) → s ≤ e → e ≤ length (part a b P) → part (a + s) (a + e) P ≡ take (e - s) (drop s (part a b P))
part_of_part P a b s e h k =
    let long : e ≤ b - a = omega (arith, simp (length-take, length-drop) at k) in
    let p : a + e - (a + s) ≡ e - s = omega arith in
    let in_reach : e - s ≤ b - a - s = omega (arith, long) in
    rw (p, drop_take s (b - a) (drop a P), take-take (e - s) (b - a - s) (drop s (drop a P)) in_reach, drop-drop s a P)

-- ---- a sum over the pieces

times_split : (x n : ℕ) (l : List ℕ) → times x (take n l) + times x (drop n l) ≡ times x l
times_split x n l = sym (sum_append (λ i. once (eqb i x)) (take n l) (drop n l)) ∙ ap (times x) (take-append-drop n l)

module _ (x : ℕ) (same : ℕ → ℕ → Bool) (whole : List ℕ) (size : Piece → ℕ) (sized : (p : Piece) → p.start ≤ p.end → p.end ≤ length whole → size p ≡ times x (take (p.end - p.start) (drop p.start whole))) where
  pieces_sum : (rest : List ℕ) (head start end : ℕ) → drop end whole ≡ rest → start ≤ end → end ≤ length whole → sum size (pieces same head start end rest) ≡ times x (drop start whole)
  unfolding pieces
  pieces_sum [] head start end e h k =
      let z : length whole - end ≡ 0 = sym (length-drop end whole) ∙ ap length e in
      let all : take (end - start) (drop start whole) ≡ drop start whole = take_all (end - start) (drop start whole) (omega (arith, length-drop start whole)) in
      omega (arith, sized (record { head = head; start = start; end = end }) h k, ap (times x) all)
  pieces_sum (r ∷ more) head start end e h k = go (same head r) (pieces_sum more head start (suc end)) (pieces_sum more r end (suc end))
    where
      longer : length whole - end ≡ suc (length more)
      longer = sym (length-drop end whole) ∙ ap length e

      e₂ : drop (suc end) whole ≡ more
      e₂ = let q : suc end ≡ end + 1 = omega arith in ap (λ i. drop i whole) q ∙ sym (drop-drop 1 end whole) ∙ ap (drop 1) e

      this : Piece
      this = record { head = head; start = start; end = end }

      go : (b : Bool)
          → (drop (suc end) whole ≡ more → start ≤ suc end → suc end ≤ length whole → sum size (pieces same head start (suc end) more) ≡ times x (drop start whole))
          → (drop (suc end) whole ≡ more → end ≤ suc end → suc end ≤ length whole → sum size (pieces same r end (suc end) more) ≡ times x (drop end whole))
          → sum size (cond b (pieces same head start (suc end) more) (this ∷ pieces same r end (suc end) more)) ≡ times x (drop start whole)
      go true on apart = on e₂ (omega arith) (omega (arith, longer))
      go false on apart =
          let tail : drop (end - start) (drop start whole) ≡ drop end whole = let q : start + (end - start) ≡ end = omega arith in drop-drop (end - start) start whole ∙ ap (λ i. drop i whole) q in
          omega (arith, sized this h k, apart e₂ (omega arith) (omega (arith, longer)), times_split x (end - start) (drop start whole), ap (times x) tail)

pub pieces_all : (x : ℕ) (same : ℕ → ℕ → Bool) (whole : List ℕ) (size : Piece → ℕ)
    → ((p : Piece) → p.start ≤ p.end → p.end ≤ length whole → size p ≡ times x (take (p.end - p.start) (drop p.start whole)))
    → sum size (pieces_of same whole) ≡ times x whole
pieces_all x same [] size sized = refl
pieces_all x same (r ∷ more) size sized = pieces_sum x same (r ∷ more) size sized more r 0 1 refl (omega arith) (omega arith)
