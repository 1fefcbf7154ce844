-- The calendar told day by day and the count in years and months agree: the date of day d is valid and has the number d, and a valid date is the
-- date of its number. So each day has one valid date, and each valid date one day.
use Rattle.std.proofs.Common.{◌≡◌, ℕ, zero, suc, ◌+◌, ◌-◌, ◌<◌, ◌≤◌, Bool, true, false, ℤ, pos, negsuc, ◌+ℤ◌, ◌-ℤ◌, neg_ℤ, sym, refl, ap, ◌∙◌, subst, ⊎_elim, add-one, arith}
use lib.IntN.{suc_ℤ, pred_ℤ, suc-pred, pred-suc, +ℤ-suc_ℤ, suc_ℤ-+ℤ, +ℤ_idr, +ℤ_invr, -ℤ-+ℤ_cancel}
use Rattle.texts.specs.Calendar.{Day, day_of, leap, month_length, Valid, tomorrow, yesterday, civil_of, days_before, year_length, new_year, day_number}
use Rattle.std.proofs.lemmas.Bool.{cases_lt}
use Rattle.texts.proofs.Dates.{month_long, day_on, month_on, year_on, december, yesterday_tomorrow, civil_valid, civil_next}

year_after : (y : ℤ) → new_year (suc_ℤ y) ≡ new_year y +ℤ pos (year_length (leap y))
unfolding new_year
year_after (pos n) = refl
year_after (negsuc zero) = sym (-ℤ-+ℤ_cancel (pos 0) (pos (year_length (leap (negsuc zero)))))
year_after (negsuc (suc n)) = sym (-ℤ-+ℤ_cancel (new_year (negsuc n)) (pos (year_length (leap (negsuc (suc n))))))

-- the number of a day of a year that has the day k
abbrev numbered : ℤ → ℕ → ℤ
numbered y k = new_year y +ℤ pos k -ℤ new_year (pos 1970)

numbered_suc : (y : ℤ) (k : ℕ) → numbered y (suc k) ≡ suc_ℤ (numbered y k)
numbered_suc y k = ap (λ (z : ℤ). z -ℤ new_year (pos 1970)) (+ℤ-suc_ℤ (new_year y) (pos k)) ∙ suc_ℤ-+ℤ (new_year y +ℤ pos k) (neg_ℤ (new_year (pos 1970)))

month_after : (l : Bool) (m : ℕ) → 1 ≤ m → days_before l (m + 1) ≡ days_before l m + month_length l m
unfolding days_before
month_after l zero h = absurd (omega arith)
month_after l (suc m) h = rw add-one

year_whole : (l : Bool) → year_length l ≡ days_before l 12 + 31
unfolding days_before month_length
year_whole true = refl
year_whole false = refl

-- the first of January is day 0 of its year
january : (l : Bool) → days_before l 1 + (1 - 1) ≡ 0
unfolding days_before
january l = refl

later : (y : ℤ) (j k : ℕ) → j ≡ suc k → numbered y j ≡ suc_ℤ (numbered y k)
later y j k e = ap (numbered y) e ∙ numbered_suc y k

pub number_next : (t : Day) → Valid t → day_number (tomorrow t) ≡ suc_ℤ (day_number t)
unfolding day_number
number_next t v = ⊎_elim not_last last_day (cases_lt t.day (month_length l t.month))
  where
    l : Bool
    l = leap t.year

    k : ℕ
    k = days_before l t.month + (t.day - 1)

    not_last : t.day < month_length l t.month → day_number (tomorrow t) ≡ suc_ℤ (day_number t)
    not_last h = ap day_number (day_on _ _ _ h) ∙ later t.year (days_before l t.month + (t.day + 1 - 1)) k (omega (arith, v.from_first))

    last_day : month_length l t.month ≤ t.day → day_number (tomorrow t) ≡ suc_ℤ (day_number t)
    last_day h = ⊎_elim month year (cases_lt t.month 12)
      where
        month : t.month < 12 → day_number (tomorrow t) ≡ suc_ℤ (day_number t)
        month q =
            ap day_number (month_on _ _ _ h q)
            ∙ later t.year (days_before l (t.month + 1) + (1 - 1)) k
            (omega (arith, month_after l t.month v.from_january, v.from_first, v.to_last))

        year : 12 ≤ t.month → day_number (tomorrow t) ≡ suc_ℤ (day_number t)
        year q =
            let e : t.month ≡ 12 = omega (arith, v.to_december) in
            let a : month_length l t.month ≡ 31 = ap (month_length l) e ∙ december l in
            let b : days_before l t.month ≡ days_before l 12 = ap (days_before l) e in
            ap day_number (year_on _ _ _ h q)
            ∙ ap (numbered (suc_ℤ t.year)) (january (leap (suc_ℤ t.year)))
            ∙ ap (λ (z : ℤ). z -ℤ new_year (pos 1970)) (+ℤ_idr (new_year (suc_ℤ t.year)) ∙ year_after t.year)
            ∙ later t.year (year_length l) k (omega (arith, year_whole l, v.to_last))

first_number : day_number (day_of (pos 1970) 1 1) ≡ pos 0
unfolding day_number
first_number =
    ap (numbered (pos 1970)) (january (leap (pos 1970)))
    ∙ ap (λ (z : ℤ). z -ℤ new_year (pos 1970)) (+ℤ_idr (new_year (pos 1970)))
    ∙ +ℤ_invr (new_year (pos 1970))

-- the number of the date of a day is the day
number_on : (d : ℤ) → day_number (civil_of (suc_ℤ d)) ≡ suc_ℤ (day_number (civil_of d))
number_on d = ap day_number (civil_next d) ∙ number_next (civil_of d) (civil_valid d)

number_back : (d e : ℤ) → suc_ℤ d ≡ e → day_number (civil_of e) ≡ e → day_number (civil_of d) ≡ d
number_back d e p h =
    let q : suc_ℤ (day_number (civil_of d)) ≡ suc_ℤ d = sym (number_on d) ∙ ap (λ (z : ℤ). day_number (civil_of z)) p ∙ h ∙ sym p in
    sym (pred-suc (day_number (civil_of d))) ∙ ap pred_ℤ q ∙ pred-suc d

pub number_of_civil : (d : ℤ) → day_number (civil_of d) ≡ d
unfolding civil_of
number_of_civil (pos zero) = first_number
number_of_civil (pos (suc n)) = number_on (pos n) ∙ ap suc_ℤ (number_of_civil (pos n))
number_of_civil (negsuc zero) = number_back (negsuc zero) (pos zero) refl first_number
number_of_civil (negsuc (suc n)) = number_back (negsuc (suc n)) (negsuc n) refl (number_of_civil (negsuc n))

-- a date that some day has
record Reached (t : Day) : Type 0 where
  number : ℤ
  is : civil_of number ≡ t

on : (t u : Day) → tomorrow t ≡ u → Reached t → Reached u
on t u e r = record { number = suc_ℤ r.number; is = civil_next r.number ∙ ap tomorrow r.is ∙ e }

back : (t u : Day) → Valid t → tomorrow t ≡ u → Reached u → Reached t
back t u v e r =
    let d = pred_ℤ r.number in
    let p : tomorrow (civil_of d) ≡ u = sym (civil_next d) ∙ ap civil_of (suc-pred r.number) ∙ r.is in
    record {
      number = d;
      is = sym (yesterday_tomorrow (civil_of d) (civil_valid d)) ∙ ap yesterday (p ∙ sym e) ∙ yesterday_tomorrow t v;
    }

-- from day to day of a month, from month to month of a year, and from year to year, both ways
module _ (y : ℤ) (m : ℕ) (h : 1 ≤ m) (k : m ≤ 12) where
  date : (d : ℕ) → suc d ≤ month_length (leap y) m → Valid (day_of y m (suc d))
  date d q = record { from_january = h; to_december = k; from_first = omega arith; to_last = q }

  next_day : (d : ℕ) → suc (suc d) ≤ month_length (leap y) m → tomorrow (day_of y m (suc d)) ≡ day_of y m (suc (suc d))
  next_day d q = day_on y m (suc d) (omega arith) ∙ ap (day_of y m) (omega arith)

  days_on : (d : ℕ) → suc d ≤ month_length (leap y) m → Reached (day_of y m 1) → Reached (day_of y m (suc d))
  days_on zero q r = r
  days_on (suc d) q r = on (day_of y m (suc d)) _ (next_day d q) (days_on d (omega arith) r)

  days_back : (d : ℕ) → suc d ≤ month_length (leap y) m → Reached (day_of y m (suc d)) → Reached (day_of y m 1)
  days_back zero q r = r
  days_back (suc d) q r = days_back d (omega arith) (back (day_of y m (suc d)) _ (date d (omega arith)) (next_day d q) r)

  long : suc (month_length (leap y) m - 1) ≡ month_length (leap y) m
  long = omega (arith, (month_long (leap y) m k).0)

  month_on_to : Reached (day_of y m 1) → Reached (day_of y m (month_length (leap y) m))
  month_on_to r = subst (λ (d : ℕ). Reached (day_of y m d)) long (days_on (month_length (leap y) m - 1) (omega (arith, long)) r)

  month_back_from : Reached (day_of y m (month_length (leap y) m)) → Reached (day_of y m 1)
  month_back_from r =
      days_back (month_length (leap y) m - 1) (omega (arith, long)) (subst (λ (d : ℕ). Reached (day_of y m d)) (sym long) r)

  last_valid : Valid (day_of y m (month_length (leap y) m))
  last_valid =
      record { from_january = h; to_december = k; from_first = omega (arith, (month_long (leap y) m k).0); to_last = omega arith }

month_over : (y : ℤ) (m : ℕ) → suc (suc m) ≤ 12 → tomorrow (day_of y (suc m) (month_length (leap y) (suc m))) ≡ day_of y (suc (suc m)) 1
month_over y m h = month_on y (suc m) _ (omega arith) (omega arith) ∙ ap (λ (i : ℕ). day_of y i 1) (omega arith)

months_on : (y : ℤ) (m : ℕ) → suc m ≤ 12 → Reached (day_of y 1 1) → Reached (day_of y (suc m) 1)
months_on y zero h r = r
months_on y (suc m) h r =
    on _ _ (month_over y m h) (month_on_to y (suc m) (omega arith) (omega arith) (months_on y m (omega arith) r))

months_back : (y : ℤ) (m : ℕ) → suc m ≤ 12 → Reached (day_of y (suc m) 1) → Reached (day_of y 1 1)
months_back y zero h r = r
months_back y (suc m) h r =
    months_back y m (omega arith)
    (month_back_from y (suc m) (omega arith) (omega arith)
    (back _ _ (last_valid y (suc m) (omega arith) (omega arith)) (month_over y m h) r))

year_over : (y : ℤ) → tomorrow (day_of y 12 (month_length (leap y) 12)) ≡ day_of (suc_ℤ y) 1 1
year_over y = year_on y 12 _ (omega arith) (omega arith)

year_up : (y : ℤ) → Reached (day_of y 1 1) → Reached (day_of (suc_ℤ y) 1 1)
year_up y r = on _ _ (year_over y) (month_on_to y 12 (omega arith) (omega arith) (months_on y 11 (omega arith) r))

year_down : (y : ℤ) → Reached (day_of (suc_ℤ y) 1 1) → Reached (day_of y 1 1)
year_down y r =
    months_back y 11 (omega arith)
    (month_back_from y 12 (omega arith) (omega arith) (back _ _ (last_valid y 12 (omega arith) (omega arith)) (year_over y) r))

down_to_zero : (n : ℕ) → Reached (day_of (pos n) 1 1) → Reached (day_of (pos 0) 1 1)
down_to_zero zero r = r
down_to_zero (suc n) r = down_to_zero n (year_down (pos n) r)

year_zero : Reached (day_of (pos 0) 1 1)
unfolding civil_of
year_zero = down_to_zero 1970 (record { number = pos 0; is = refl })

all_years : (y : ℤ) → Reached (day_of y 1 1)
all_years (pos zero) = year_zero
all_years (pos (suc n)) = year_up (pos n) (all_years (pos n))
all_years (negsuc zero) = year_down (negsuc zero) year_zero
all_years (negsuc (suc n)) = year_down (negsuc (suc n)) (all_years (negsuc n))

all_dates : (t : Day) → Valid t → Reached t
all_dates t v =
    let a : suc (t.month - 1) ≡ t.month = omega (arith, v.from_january) in
    let b : suc (t.day - 1) ≡ t.day = omega (arith, v.from_first) in
    let r = months_on t.year (t.month - 1) (omega (arith, v.to_december)) (all_years t.year) in
    let s = subst (λ (i : ℕ). Reached (day_of t.year i 1)) a r in
    subst (λ (i : ℕ). Reached (day_of t.year t.month i)) b
    (days_on t.year t.month v.from_january v.to_december (t.day - 1) (omega (arith, v.to_last)) s)

-- a valid date is the date of its number
pub civil_of_number : (t : Day) → Valid t → civil_of (day_number t) ≡ t
civil_of_number t v =
    let r = all_dates t v in
    ap civil_of (sym (ap day_number r.is) ∙ number_of_civil r.number) ∙ r.is

-- no two valid dates have the same number
pub one_date : (t u : Day) → Valid t → Valid u → day_number t ≡ day_number u → t ≡ u
one_date t u v w e = sym (civil_of_number t v) ∙ ap civil_of e ∙ civil_of_number u w
