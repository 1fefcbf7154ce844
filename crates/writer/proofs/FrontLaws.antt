-- What is stored from the front on of a list's whole places: as many first items as fit, the rest untouched.
use Prim.Native.Nat.{ℕ, zero, suc, ◌+◌, ◌*◌, ◌-◌, ◌≤◌, ◌<◌}
use mathlib.Core.Path.{◌≡◌, refl, sym, ap, ◌∙◌}
use mathlib.Core.Bool.{Bool, true, false}
use mathlib.Core.List.{List, [], ◌∷◌, ◌++◌, append_assoc}
use native.Mathlib.Omega.{arith}
use native.Mathlib.Nat.{zero-add, zero-mul, suc-mul, add_comm}
use lib.ListN.{length, take, drop, length-append, length-take, take-append-drop, drop_of_length-le}
use lib.Seq.{sets, sets-eq, take-nil, take-append-add, length-take-le, drop-nil, drop-append-le, drop-append-add}
use lib.Dec.{leb}
use borrow.Author.Tests.{leb-true, leb-false}
use Rattle.lent.specs.Fit.{cap, placed, Stored}
use Rattle.lent.specs.Window.{base, Noted}
use Rattle.lent.proofs.Fit.{wide}
use Rattle.lent.proofs.Laws.{sets_fits}
use Rattle.nest.specs.Lists.{each}
use Rattle.writer.specs.Lists.{in_front, holding}
use Rattle.writer.specs.Filled.{start_of}

-- what fits is stored at the front
in_front_lem : (d xs : List ℕ) → length xs ≤ length d → sets d 0 xs ≡ in_front xs d
unfolding in_front
in_front_lem d xs h = let q : 0 + length xs ≤ length d = omega arith in sets-eq xs d 0 q ∙ rw (zero-add (length xs)) refl

-- numbers one by one
pub bytes_front : (d xs : List ℕ) → sets d 0 xs ≡ in_front (take (length d) xs) d
bytes_front d xs = sym (sets_fits d 0 xs (length d) (omega arith)) ∙ in_front_lem d (take (length d) xs) (omega (arith, length-take (length d) xs))

-- ---- items of w numbers each

module _ {A : Type 0} (f : A → List ℕ) (w : ℕ) (long : (x : A) → length (f x) ≡ w) where
  pub each_length : (items : List A) → length (each f items) ≡ length items * w
  each_length [] = sym (zero-mul w)
  each_length (x ∷ xs) = length-append (f x) (each f xs) ∙ rw (long x, each_length xs) (add_comm w (length xs * w) ∙ sym (suc-mul (length xs) w))

  take_each : (j : ℕ) (items : List A) → take (j * w) (each f items) ≡ each f (take j items)
  take_each zero items = rw zero-mul
  take_each (suc j) [] = take-nil (suc j * w)
  take_each (suc j) (x ∷ xs) =
      let e : suc j * w ≡ length (f x) + j * w = rw (long x) (suc-mul j w ∙ add_comm (j * w) w) in
      rw e (take-append-add (f x) (each f xs) (j * w) ∙ ap (λ (l : List ℕ). f x ++ l) (take_each j xs))

  pub drop_each : (j : ℕ) (items : List A) → drop (j * w) (each f items) ≡ each f (drop j items)
  drop_each zero items = rw zero-mul
  drop_each (suc j) [] = drop-nil (suc j * w)
  drop_each (suc j) (x ∷ xs) =
      let e : suc j * w ≡ length (f x) + j * w = rw (long x) (suc-mul j w ∙ add_comm (j * w) w) in
      rw e (drop-append-add (f x) (each f xs) (j * w) ∙ drop_each j xs)

  -- the whole places of xs, n of them, take what fits, and the rest of xs comes behind them
  pub items_front : (xs : List ℕ) (n : ℕ) (items : List A) → n * w ≤ length xs
      → sets (take (n * w) xs) 0 (each f items) ++ drop (n * w) xs ≡ holding n f items xs
  unfolding holding in_front
  items_front xs n items h =
      let d : List ℕ = take (n * w) xs in
      let ys : List ℕ = each f (take n items) in
      let l : length d ≡ n * w = length-take-le (n * w) xs h in
      let k : length ys ≤ n * w = rw (← take_each n items) (omega (arith, length-take (n * w) (each f items))) in
      let m : length ys ≤ length d = omega arith in
      let s : sets d 0 (each f items) ≡ ys ++ drop (length ys) d =
      sym (sets_fits d 0 (each f items) (n * w) (omega arith)) ∙ rw (take_each n items) (in_front_lem d ys m) in
      rw s
      (append_assoc ys (drop (length ys) d) (drop (n * w) xs)
      ∙ ap (λ (r : List ℕ). ys ++ r) (sym (drop-append-le (length ys) d (drop (n * w) xs) m) ∙ rw (take-append-drop (n * w) xs) refl))

-- ---- a window that begins with number `from`

-- what lies before it is left out; a number that is past all places of the count is past all items
pub windowed : {A : Type 0} (f : A → List ℕ) → ((x : A) → length (f x) ≡ 10) → (d : List ℕ) (from : ℕ) (items : List A) → length items * 10 < wide
    → placed base d (start_of from) (each f items) ≡ sets d 0 (each f (drop from items))
windowed {A} f long d from items h =
    let e : base - from * 10 - base ≡ 0 = omega arith in
    rw e (ap (sets d 0) (go (leb (from * 10) base) refl))
  where
    go : (t : Bool) → leb (from * 10) base ≡ t → drop (base - (base - from * 10)) (each f items) ≡ each f (drop from items)
    go true q = let k : from * 10 ≤ base = leb-true _ _ q in let e : base - (base - from * 10) ≡ from * 10 = omega arith in rw e (drop_each f 10 long from items)
    go false q =
        let k : base < from * 10 = leb-false _ _ q in
        let e : base - (base - from * 10) ≡ base = omega arith in
        let l : length (each f items) ≡ length items * 10 = each_length f 10 long items in
        let n : length (each f items) ≤ base = omega arith in
        let m : length items ≤ from = omega arith in
        rw (e, drop_of_length-le (each f items) n, drop_of_length-le items m)

-- ---- counts

-- a count below the cap is the true one
pub all_counted : {d d' items : List ℕ} {n : ℕ} → length items < cap → Stored d 0 items n d' → n ≡ length items
all_counted {items = items} h s = s.counted ∙ (omega arith)

pub all_noted : {d d' items : List ℕ} {n start : ℕ} → start ≤ base → length items < wide → Noted d start items n d' → n - start ≡ length items
all_noted {items = items} {n = n} {start = start} k h s = omega (arith, s.counted)
