-- The ways through the rows of a table, whether they hang on rising rows, and through the flags of all tables.
use Prim.Native.Nat.{ℕ, zero, suc, ◌+◌, ◌-◌, ◌*◌, ◌≤◌, ◌<◌}
use mathlib.Core.Path.{◌≡◌, refl, sym, ap, ◌∙◌}
use mathlib.Core.Bool.{Bool, true, false, not, false≢true}
use mathlib.Core.List.{List, [], ◌∷◌}
use native.Mathlib.Omega.{arith}
use native.Mathlib.Decide.{dec_lt}
use lib.ListN.{length, get_or}
use lib.Seq.{sets, length-sets}
use lib.Dec.{ltb}
use borrow.Author.Tests.{ltb-true, ltb-false, lt-ltb, le-ltb}
use Rattle.codec.proofs.Rows.{get_d_sets_out, get_d_sets_in}
use Rattle.format.specs.Job.{Job}
use Rattle.format.specs.Refusal.{rows_of_all}
use Rattle.format.specs.Ask as A
use Rattle.tables.specs.Parts as T
use Rattle.nest.specs.Lists.{once, each, some_of, from}
use Rattle.nest.specs.UpTo.{up_to}
use Rattle.nest.specs.Outline.{Outline, row_count}
use Rattle.nest.specs.Found.{nest_at, ArrayIs}
use Rattle.nest.specs.Seek.{Turns, SplitAt}
use Rattle.nest.specs.OfJob.{outline_of}
use Rattle.nest.specs.Rising.{above_of, falls_at, falls, rising_flag, rising_flags, Climbs, Parted}
use Rattle.nest.proofs.Bridge.{rows_is}
use Rattle.nest.proofs.Scan.{some_yes, some_no, some_end}
use Rattle.nest.proofs.Sizes.{rows_past}
use Rattle.nest.proofs.Stored.{number_of_lem, numbers_within, array_rows}

-- ---- one table: what is left from row k on

abbrev pub falls_from : Outline → ℕ → ℕ → Bool
falls_from o t k = some_of (falls_at o t) (up_to k (row_count o t))

pub falls_start : (o : Outline) (t : ℕ) → falls o t ≡ falls_from o t 1
unfolding falls
falls_start o t = refl

module _ (j : Job) (n : List ℕ) (w : ArrayIs (outline_of j) n) (t base rows k : ℕ) (e : base ≡ T.rows_before j.tables t) (c : rows ≡ (A.data_of j t).rows) (h : k < rows) where
  there : k < row_count (outline_of j) t
  there = omega (arith, h, c, rows_is j t)

  pub place_within : (base + k) * 3 + 2 < length n
  place_within = numbers_within j n w t k base e there

  module _ (i before : ℕ) (p : i ≡ (base + k) * 3) (q : before ≡ i - 3) (low : 1 ≤ k) where
    here : get_or n i 0 ≡ above_of (outline_of j) t k
    unfolding above_of
    here = let z : i ≡ (base + k) * 3 + 0 = omega (arith, p) in ap (λ m. get_or n m 0) z ∙ number_of_lem j n w t k base e there 0 (omega arith)

    last : get_or n before 0 ≡ above_of (outline_of j) t (k - 1)
    unfolding above_of
    last = let z : before ≡ (base + (k - 1)) * 3 + 0 = omega (arith, p, q, low) in ap (λ m. get_or n m 0) z ∙ number_of_lem j n w t (k - 1) base e (omega (arith, there)) 0 (omega arith)

    pub falls_yes : falls (outline_of j) t ≡ falls_from (outline_of j) t k → get_or n i 0 < get_or n before 0 → true ≡ falls (outline_of j) t
    unfolding falls_at
    falls_yes s d = sym (s ∙ some_yes (falls_at (outline_of j) t) k (row_count (outline_of j) t) there (lt-ltb (above_of (outline_of j) t k) (above_of (outline_of j) t (k - 1)) (omega (arith, d, here, last))))

    pub falls_no : falls (outline_of j) t ≡ falls_from (outline_of j) t k → get_or n before 0 ≤ get_or n i 0 → falls (outline_of j) t ≡ falls_from (outline_of j) t (k + 1)
    unfolding falls_at
    falls_no s d = s ∙ some_no (falls_at (outline_of j) t) k (row_count (outline_of j) t) there (le-ltb (above_of (outline_of j) t k) (above_of (outline_of j) t (k - 1)) (omega (arith, d, here, last)))

pub falls_never : (j : Job) (t rows k : ℕ) → rows ≡ (A.data_of j t).rows → rows ≤ k → falls (outline_of j) t ≡ falls_from (outline_of j) t k → false ≡ falls (outline_of j) t
falls_never j t rows k c h s = sym (s ∙ some_end (falls_at (outline_of j) t) k (row_count (outline_of j) t) (omega (arith, h, c, rows_is j t)))

-- ---- all tables

pub flags_all : (o : Outline) → rising_flags o ≡ each (rising_flag o) (up_to 0 (length o.row_counts))
unfolding rising_flags
flags_all o = refl

-- the numbers of rows stand before the flags
pub array_kept : (j : Job) (d d₁ : List ℕ) (at x : ℕ) → rows_of_all j.tables * 3 ≤ at → ArrayIs (outline_of j) d → d₁ ≡ sets d at (x ∷ []) → ArrayIs (outline_of j) d₁
array_kept j d d₁ at x h w e = record {
  room = omega (arith, w.room, ap length e, length-sets d at (x ∷ []));
  numbers = λ i k. ap (λ xs. get_or xs i 0) e ∙ get_d_sets_out (x ∷ []) d at i (omega (arith, k, array_rows j)) ∙ w.numbers i k;
}

pub flagged : (o : Outline) (t : ℕ) (d d₁ : List ℕ) (at : ℕ) (down : Bool) → down ≡ falls o t → d₁ ≡ sets d at (once (not down) ∷ []) → d₁ ≡ sets d at (rising_flag o t)
flagged o t d d₁ at down q e = e ∙ ap (λ b. sets d at (once (not b) ∷ [])) q

-- ---- what a flag says

ones_length : (f : ℕ → ℕ) (m a : ℕ) → length (each (λ t. f t ∷ []) (from a m)) ≡ m
ones_length f zero a = refl
ones_length f (suc m) a = ap suc (ones_length f m (suc a))

ones_at : (f : ℕ → ℕ) (m a i : ℕ) → i < m → get_or (each (λ t. f t ∷ []) (from a m)) i 0 ≡ f (a + i)
ones_at f zero a i h = absurd (omega arith)
ones_at f (suc m) a zero h = let z : a ≡ a + 0 = omega arith in ap f z
ones_at f (suc m) a (suc i) h = let z : suc a + i ≡ a + suc i = omega arith in ones_at f m (suc a) i (omega arith) ∙ ap f z

pub flags_length : (o : Outline) → length (rising_flags o) ≡ length o.row_counts
unfolding rising_flags
flags_length o = ones_length (λ t. once (not (falls o t))) (length o.row_counts - 0) 0 ∙ omega arith

pub flag_right : (o : Outline) (d n : List ℕ) (at : ℕ) → n ≡ sets d at (rising_flags o) → at + length o.row_counts ≤ length d → (t : ℕ) → get_or n (at + t) 0 ≡ 1 → falls o t ≡ false
unfolding rising_flags falls
flag_right o d n at e l t q = go (dec_lt t (length o.row_counts))
  where
    told : (b : Bool) → once (not b) ≡ 1 → b ≡ false
    told true z = absurd (omega (arith, z))
    told false z = refl

    listed : t < length o.row_counts → get_or (rising_flags o) t 0 ≡ once (not (falls o t))
    listed h = let z : 0 + t ≡ t = omega arith in ones_at (λ u. once (not (falls o u))) (length o.row_counts - 0) 0 t (omega (arith, h)) ∙ ap (λ u. once (not (falls o u))) z

    go : Dec (t < length o.row_counts) → falls o t ≡ false
    go (yes h) =
        let there : get_or n (at + t) 0 ≡ get_or (rising_flags o) t 0 = ap (λ xs. get_or xs (at + t) 0) e ∙ get_d_sets_in (rising_flags o) d at t (omega (arith, h, flags_length o)) (omega (arith, h, l)) in
        told (falls o t) (sym (listed h) ∙ sym there ∙ q)
    go (no h) = some_end (falls_at o t) 1 (row_count o t) (omega (arith, rows_past o t (omega (arith, h))))

first_not : (p : ℕ → Bool) (n a : ℕ) → some_of p (up_to a n) ≡ false → a < n → p a ≡ false
first_not p n a e h = go (p a) refl
  where
    go : (b : Bool) → p a ≡ b → p a ≡ false
    go true q = absurd (false≢true (sym e ∙ some_yes p a n h q))
    go false q = q

none_of : (p : ℕ → Bool) (n m a : ℕ) → some_of p (up_to a n) ≡ false → a + m < n → p (a + m) ≡ false
none_of p n zero a e h = let z : a + 0 ≡ a = omega arith in ap p z ∙ first_not p n a e (omega arith)
none_of p n (suc m) a e h =
    let z : a + suc m ≡ a + 1 + m = omega arith in
    ap p z ∙ none_of p n m (a + 1) (sym (some_no p a n (omega arith) (first_not p n a e (omega arith))) ∙ e) (omega arith)

-- where none falls, a later row hangs on the same row as an earlier one or on a later
pub never_falls : (o : Outline) (t : ℕ) → falls o t ≡ false → (i k : ℕ) → i ≤ k → k < row_count o t → above_of o t i ≤ above_of o t k
unfolding falls falls_at
never_falls o t e i k h l = let z : i + (k - i) ≡ k = omega arith in rw (← z) (go (k - i) (omega arith))
  where
    step : (r : ℕ) → r + 1 < row_count o t → above_of o t r ≤ above_of o t (r + 1)
    step r s =
        let z : 1 + r ≡ r + 1 = omega arith in
        let y : r + 1 - 1 ≡ r = omega arith in
        let d : ltb (above_of o t (r + 1)) (above_of o t (r + 1 - 1)) ≡ false = ap (falls_at o t) (sym z) ∙ none_of (falls_at o t) (row_count o t) r 1 e (omega arith) in
        rw y at (ltb-false (above_of o t (r + 1)) (above_of o t (r + 1 - 1)) d)

    go : (m : ℕ) → i + m < row_count o t → above_of o t i ≤ above_of o t (i + m)
    go zero s = let z : i + 0 ≡ i = omega arith in rw z (omega arith)
    go (suc m) s = let z : i + suc m ≡ i + m + 1 = omega arith in rw z (omega (arith, go m (omega arith), step (i + m) (omega arith)))

-- ---- halving
module _ (n : List ℕ) (base rows above : ℕ) where
  abbrev pub before_at : ℕ → Bool
  before_at k = ltb (nest_at n base k 0) above

  pub before_turns : Climbs n base rows → Turns before_at rows
  before_turns u i k h l e = lt-ltb _ _ (omega (arith, u.climb i k h l, ltb-true _ _ e))

  pub parted : (from k : ℕ) → SplitAt before_at from rows k → Parted n base from rows above k
  parted from k w = record { after = w.after; within = w.within; below = λ r p q. ltb-true _ _ (w.before r p q); rest = λ r p q. ltb-false _ _ (w.rest r p q) }
