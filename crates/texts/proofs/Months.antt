-- The days of a year from March to February: their month and day, and that each is the day after the one before it.
use Rattle.std.proofs.Common.{◌≡◌, ℕ, suc, ◌+◌, ◌-◌, ◌*◌, ◌/◌, ◌<◌, ◌≤◌, Bool, true, false, T, eqb, ltb, leb, ℤ, pos, ◌+ℤ◌, sym, refl, ap, ◌∙◌, ⊎_elim, arith, eqb→eq, leb→le, le-ltb}
use lib.IntN.{+ℤ-suc_ℤ, +ℤ_idr}
use Rattle.texts.specs.Calendar.{Day, day_of, and, leap, february, month_length, Valid, pick_day, tomorrow}
use Rattle.texts.proofs.Tested.{below, below_at, both}
use Rattle.std.proofs.lemmas.Bool.{cases_lt}

-- a month and day, and how many years after that of its first of March
pub record Md : Type 0 where
  pub more : ℕ
  pub month : ℕ
  pub day : ℕ

abbrev pub md : ℕ → ℕ → ℕ → Md
md k m d = record { more = k; month = m; day = d }

abbrev pick_md : Bool → Md → Md → Md
pick_md true a b = a
pick_md false a b = b

-- the month that a day of the year is in, March being 0
unfoldable pub month_of : ℕ → ℕ
month_of t = (5 * t + 2) / 153

unfoldable pub day_in : ℕ → ℕ
day_in t = t - (153 * month_of t + 2) / 5 + 1

unfoldable pub md_of : ℕ → Md
md_of t = pick_md (ltb (month_of t) 10) (md 0 (month_of t + 3) (day_in t)) (md 1 (month_of t - 9) (day_in t))

-- of the year that starts in March of the year b
abbrev pub date_of : ℤ → Md → Day
date_of b x = day_of (b +ℤ pos x.more) x.month x.day

-- the day after, in a leap year or not
unfoldable next : Bool → Md → Md
next l x =
    pick_md (ltb x.day (month_length l x.month))
    (md x.more x.month (x.day + 1))
    (pick_md (ltb x.month 12) (md x.more (x.month + 1) 1) (md (suc x.more) 1 1))

picked : (b : ℤ) (s t : Bool) (x y z : Md) (c : Day) → c ≡ date_of b z
    → pick_day s (date_of b x) (pick_day t (date_of b y) c) ≡ date_of b (pick_md s x (pick_md t y z))
picked b true t x y z c e = refl
picked b false true x y z c e = refl
picked b false false x y z c e = e

tomorrow_next : (b : ℤ) (x : Md) → tomorrow (date_of b x) ≡ date_of b (next (leap (b +ℤ pos x.more)) x)
unfolding tomorrow next
tomorrow_next b x =
    picked b (ltb x.day (month_length (leap (b +ℤ pos x.more)) x.month)) (ltb x.month 12)
    (md x.more x.month (x.day + 1)) (md x.more (x.month + 1) 1) (md (suc x.more) 1 1) _
    (ap (λ (z : ℤ). day_of z 1 1) (sym (+ℤ-suc_ℤ b (pos x.more))))

same : Md → Md → Bool
same x y = and (eqb x.more y.more) (and (eqb x.month y.month) (eqb x.day y.day))

is_same : (x y : Md) → T (same x y) → x ≡ y
unfolding same
is_same x y h =
    let b = both (eqb x.more y.more) (and (eqb x.month y.month) (eqb x.day y.day)) h in
    let c = both (eqb x.month y.month) (eqb x.day y.day) b.1 in
    let p = eqb→eq x.more y.more b.0 in
    let q = eqb→eq x.month y.month c.0 in
    let r = eqb→eq x.day y.day c.1 in
    let g : md x.more x.month x.day ≡ md y.more y.month y.day = cc in
    g

follows : Bool → ℕ → Bool
follows l t = same (next l (md_of t)) (md_of (suc t))

all_follow : (l : Bool) → T (below (336 + february l) (follows l))
unfolding below follows same next md_of month_of day_in month_length
all_follow true = tt
all_follow false = tt

last_follows : (l : Bool) → next l (md_of (336 + february l)) ≡ md 1 3 1
unfolding next md_of month_of day_in month_length
last_follows true = refl
last_follows false = refl

-- months and days as the calendar has them
held : Bool → Md → Bool
held l x =
    and (leb 1 x.month)
    (and (leb x.month 12) (and (leb 1 x.day) (leb x.day (month_length l x.month))))

all_held : (l : Bool) → T (below (337 + february l) (λ t. held l (md_of t)))
unfolding below held md_of month_of day_in month_length
all_held true = tt
all_held false = tt

from_january : (t : ℕ) → 306 ≤ t → (md_of t).more ≡ 1
unfolding md_of month_of
from_january t h = let q : 10 ≤ (5 * t + 2) / 153 = omega arith in simp (le-ltb _ _ q)

short : (l : Bool) → 28 ≤ february l
short true = omega arith
short false = omega arith

-- the length of February does not matter before January
reach : (b : ℤ) (j t : ℕ) → 278 ≤ j → t < j + february (leap (b +ℤ pos 1)) → t < j + february (leap (b +ℤ pos (md_of t).more))
reach b j t k h = ⊎_elim early late (cases_lt t 306)
  where
    late : 306 ≤ t → t < j + february (leap (b +ℤ pos (md_of t).more))
    late q = rw (from_january t q) h

    early : t < 306 → t < j + february (leap (b +ℤ pos (md_of t).more))
    early q = omega (arith, short (leap (b +ℤ pos (md_of t).more)))

pub inside : (b : ℤ) (t : ℕ) → t < 336 + february (leap (b +ℤ pos 1)) → tomorrow (date_of b (md_of t)) ≡ date_of b (md_of (suc t))
unfolding follows
inside b t h =
    let l = leap (b +ℤ pos (md_of t).more) in
    let q : t < 336 + february l = reach b 336 t (omega arith) h in
    tomorrow_next b (md_of t) ∙ ap (date_of b) (is_same _ _ (below_at (336 + february l) (follows l) (all_follow l) t q))

first_of_march : (b : ℤ) → day_of b 3 1 ≡ date_of b (md_of 0)
unfolding md_of month_of day_in
first_of_march b = ap (λ (z : ℤ). day_of z 3 1) (sym (+ℤ_idr b))

pub over : (b : ℤ) (t : ℕ) → t ≡ 336 + february (leap (b +ℤ pos 1)) → tomorrow (date_of b (md_of t)) ≡ date_of (b +ℤ pos 1) (md_of 0)
over b t e =
    let q : (md_of t).more ≡ 1 = from_january t (omega (arith, short (leap (b +ℤ pos 1)))) in
    let l = leap (b +ℤ pos 1) in
    tomorrow_next b (md_of t)
    ∙ ap (λ (k : ℕ). date_of b (next (leap (b +ℤ pos k)) (md_of t))) q
    ∙ ap (λ (i : ℕ). date_of b (next l (md_of i))) e
    ∙ ap (date_of b) (last_follows l)
    ∙ first_of_march (b +ℤ pos 1)

pub valid : (b : ℤ) (t : ℕ) → t < 337 + february (leap (b +ℤ pos 1)) → Valid (date_of b (md_of t))
unfolding held
valid b t h =
    let l = leap (b +ℤ pos (md_of t).more) in
    let q : t < 337 + february l = reach b 337 t (omega arith) h in
    let x = md_of t in
    let n = month_length l x.month in
    let c = both (leb 1 x.month) (and (leb x.month 12) (and (leb 1 x.day) (leb x.day n))) (below_at (337 + february l) (λ (i : ℕ). held l (md_of i)) (all_held l) t q) in
    let d = both (leb x.month 12) (and (leb 1 x.day) (leb x.day n)) c.1 in
    let f = both (leb 1 x.day) (leb x.day n) d.1 in
    record { from_january = leb→le _ _ c.0; to_december = leb→le _ _ d.0; from_first = leb→le _ _ f.0; to_last = leb→le _ _ f.1 }
