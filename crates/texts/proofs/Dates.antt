-- The calendar day by day: yesterday undoes tomorrow, each day has a valid date, and the date of a day is the one that its era gives it.
use Rattle.std.proofs.Common.{◌≡◌, ℕ, zero, suc, ◌+◌, ◌-◌, ◌*◌, ◌/◌, ◌%◌, ◌<◌, ◌≤◌, Bool, true, false, T, leb, ℤ, pos, negsuc, ◌+ℤ◌, ◌-ℤ◌, ◌*ℤ◌, sym, refl, ap, ◌∙◌, subst, ap₂, ⊎_elim, arith, leb→le, le-ltb, lt-ltb}
use lib.IntN.{suc_ℤ, suc_ℤ-+ℤ, pred-suc, -ℤ-+ℤ_cancel, +ℤ_assoc}
use Rattle.texts.proofs.Floor.{floor_div, floor_rem}
use Rattle.texts.specs.Calendar.{Day, day_of, and, leap, february, month_length, Valid, tomorrow, yesterday, civil_of}
use Rattle.texts.specs.Dated.{from_march}
use Rattle.texts.proofs.Tested.{below, below_at, both}
use Rattle.std.proofs.lemmas.Bool.{cases_lt}
use Rattle.texts.proofs.Years.{year_of, common, start, year_small, year_start, year_long, year_end}
use Rattle.texts.proofs.Months.{md_of, month_of, day_in, date_of}
use Rattle.texts.proofs.Eras.{Inside, Over, divided, era_date, era_valid, era_next, era_over}

-- the date of the day s after the first of March of the year 0
unfoldable pub shifted_date : ℤ → Day
shifted_date s = era_date (floor_div s 146097) (floor_rem s 146097)

pub rem_small : (z : ℤ) → floor_rem z 146097 < 146097
rem_small (pos n) = omega arith
rem_small (negsuc n) = omega arith

shifted_valid : (s : ℤ) → Valid (shifted_date s)
unfolding shifted_date
shifted_valid s = era_valid _ _ (rem_small s)

shifted_next : (s : ℤ) → tomorrow (shifted_date s) ≡ shifted_date (suc_ℤ s)
unfolding shifted_date
shifted_next s = ⊎_elim here there (divided s)
  where
    here : Inside s → tomorrow (shifted_date s) ≡ shifted_date (suc_ℤ s)
    here i = era_next _ _ i.more ∙ sym (ap₂ era_date i.div i.rem)

    there : Over s → tomorrow (shifted_date s) ≡ shifted_date (suc_ℤ s)
    there o =
        let q : floor_rem s 146097 ≡ 146096 = omega (arith, o.full) in
        ap (λ (e : ℕ). tomorrow (era_date (floor_div s 146097) e)) q ∙ era_over _ ∙ sym (ap₂ era_date o.div o.rem)

-- one law for each way to tomorrow, and for each way back
module _ (y : ℤ) (m d : ℕ) where
  pub day_on : d < month_length (leap y) m → tomorrow (day_of y m d) ≡ day_of y m (d + 1)
  unfolding tomorrow
  day_on h = simp (lt-ltb _ _ h)

  pub month_on : month_length (leap y) m ≤ d → m < 12 → tomorrow (day_of y m d) ≡ day_of y (m + 1) 1
  unfolding tomorrow
  month_on h k = simp (le-ltb _ _ h, lt-ltb _ _ k)

  pub year_on : month_length (leap y) m ≤ d → 12 ≤ m → tomorrow (day_of y m d) ≡ day_of (suc_ℤ y) 1 1
  unfolding tomorrow
  year_on h k = simp (le-ltb _ _ h, le-ltb _ _ k)

  pub day_back : 1 ≤ d → yesterday (day_of y m (d + 1)) ≡ day_of y m d
  unfolding yesterday
  day_back h =
      let q : 1 < d + 1 = omega arith in
      let e : d + 1 - 1 ≡ d = omega arith in
      simp (lt-ltb _ _ q) (ap (day_of y m) e)

pub month_back : (y : ℤ) (m : ℕ) → 1 ≤ m → yesterday (day_of y (m + 1) 1) ≡ day_of y m (month_length (leap y) m)
unfolding yesterday
month_back y m h =
    let q : 1 < m + 1 = omega arith in
    let e : m + 1 - 1 ≡ m = omega arith in
    simp (lt-ltb _ _ q) (ap (λ (i : ℕ). day_of y i (month_length (leap y) i)) e)

pub year_back : (y : ℤ) → yesterday (day_of (suc_ℤ y) 1 1) ≡ day_of y 12 31
unfolding yesterday
year_back y = ap (λ (z : ℤ). day_of z 12 31) (pred-suc y)

lengths : Bool → ℕ → Bool
lengths l m = and (leb 28 (month_length l m)) (leb (month_length l m) 31)

all_lengths : (l : Bool) → T (below 13 (lengths l))
unfolding below lengths month_length
all_lengths true = tt
all_lengths false = tt

pub month_long : (l : Bool) (m : ℕ) → m ≤ 12 → (28 ≤ month_length l m) × (month_length l m ≤ 31)
unfolding lengths
month_long l m h =
    let b = both (leb 28 (month_length l m)) (leb (month_length l m) 31) (below_at 13 (lengths l) (all_lengths l) m (omega arith)) in
    (leb→le _ _ b.0, leb→le _ _ b.1)

pub december : (l : Bool) → month_length l 12 ≡ 31
unfolding month_length
december true = refl
december false = refl

pub yesterday_tomorrow : (t : Day) → Valid t → yesterday (tomorrow t) ≡ t
yesterday_tomorrow t v = ⊎_elim not_last last_day (cases_lt t.day n)
  where
    n : ℕ
    n = month_length (leap t.year) t.month

    not_last : t.day < n → yesterday (tomorrow t) ≡ t
    not_last h = ap yesterday (day_on _ _ _ h) ∙ day_back _ _ _ v.from_first

    last_day : n ≤ t.day → yesterday (tomorrow t) ≡ t
    last_day h = ⊎_elim month year (cases_lt t.month 12)
      where
        is_last : n ≡ t.day
        is_last = omega (arith, v.to_last)

        month : t.month < 12 → yesterday (tomorrow t) ≡ t
        month k = ap yesterday (month_on _ _ _ h k) ∙ month_back _ _ v.from_january ∙ ap (day_of t.year t.month) is_last

        year : 12 ≤ t.month → yesterday (tomorrow t) ≡ t
        year k =
            let e : 12 ≡ t.month = omega (arith, v.to_december) in
            let f : 31 ≡ t.day = sym (december (leap t.year)) ∙ ap (month_length (leap t.year)) e ∙ is_last in
            ap yesterday (year_on _ _ _ h k) ∙ year_back t.year ∙ ap₂ (day_of t.year) e f

first : shifted_date (pos 719468) ≡ day_of (pos 1970) 1 1
unfolding shifted_date era_date year_of common start md_of month_of day_in
first = refl

shifted_back : (s : ℤ) → yesterday (shifted_date (suc_ℤ s)) ≡ shifted_date s
shifted_back s = ap yesterday (sym (shifted_next s)) ∙ yesterday_tomorrow _ (shifted_valid s)

pub civil_shifted : (d : ℤ) → civil_of d ≡ shifted_date (d +ℤ pos 719468)
unfolding civil_of
civil_shifted (pos zero) = sym first
civil_shifted (pos (suc n)) = ap tomorrow (civil_shifted (pos n)) ∙ shifted_next _ ∙ ap shifted_date (sym (suc_ℤ-+ℤ (pos n) (pos 719468)))
civil_shifted (negsuc zero) = ap yesterday (sym first) ∙ shifted_back (pos 719467)
civil_shifted (negsuc (suc n)) =
    ap yesterday (civil_shifted (negsuc n) ∙ ap shifted_date (suc_ℤ-+ℤ (negsuc (suc n)) (pos 719468))) ∙ shifted_back _

-- the first of March of the year 0 is 719,468 days before 1970-01-01
march_shifted : (e : ℕ) → e < 146097 → from_march e ≡ era_date (pos 0) e
unfolding from_march shifted_date
march_shifted e h =
    let q : e / 146097 ≡ 0 = omega arith in
    let r : e % 146097 ≡ e = omega arith in
    civil_shifted (pos e -ℤ pos 719468)
    ∙ ap shifted_date (-ℤ-+ℤ_cancel (pos e) (pos 719468))
    ∙ ap₂ (λ (i j : ℕ). era_date (pos i) j) q r

-- how far into its year a day of an era is
unfoldable pub into_year : ℕ → ℕ
into_year e = e - (365 * year_of e + year_of e / 4 - year_of e / 100)

start_plain : (y : ℕ) → y < 400 → start y ≡ 365 * y + y / 4 - y / 100
unfolding start
start_plain y h = omega arith

into_is : (e : ℕ) → e < 146097 → e - start (year_of e) ≡ into_year e
unfolding into_year
into_is e h = ap (λ (s : ℕ). e - s) (start_plain (year_of e) (year_small e h))

pub started : (e : ℕ) → e < 146097 → 365 * year_of e + year_of e / 4 - year_of e / 100 ≤ e
started e h = omega (arith, start_plain (year_of e) (year_small e h), year_start e h)

february_short : (l : Bool) → february l ≤ 29
february_short true = omega arith
february_short false = omega arith

pub into_small : (e : ℕ) → e < 146097 → into_year e ≤ 365
into_small e h =
    omega (arith, into_is e h, year_long (year_of e) (year_small e h), year_end e h, february_short (leap (pos (suc (year_of e)))))

pub month_small : (e : ℕ) → e < 146097 → month_of (into_year e) - 9 < 256
unfolding month_of
month_small e h = omega (arith, into_small e h)

pub year_more : (e : ℕ) → e < 146097 → year_of e + 1 < 4294967296
year_more e h = omega (arith, year_small e h)

-- the date of a day of the first era, in March to December and in January and February
module _ (e : ℕ) (h : e < 146097) where
  era_date_lem : from_march e ≡ date_of (pos (year_of e)) (md_of (into_year e))
  unfolding era_date
  era_date_lem = march_shifted e h ∙ ap₂ (λ (y : ℕ) (t : ℕ). date_of (pos y) (md_of t)) (omega arith) (into_is e h)

  pub from_march_lem : month_of (into_year e) < 10 → day_of (pos (year_of e)) (month_of (into_year e) + 3) (day_in (into_year e)) ≡ from_march e
  unfolding md_of
  from_march_lem k = let z : year_of e + 0 ≡ year_of e = omega arith in sym (era_date_lem ∙ simp (lt-ltb _ _ k, z))

  pub from_january : 10 ≤ month_of (into_year e) → day_of (pos (year_of e + 1)) (month_of (into_year e) - 9) (day_in (into_year e)) ≡ from_march e
  unfolding md_of
  from_january k = sym (era_date_lem ∙ simp (le-ltb _ _ k))

-- the same date, 400 years later for each era
abbrev pub later : ℤ → Day → Day
later era t = day_of (era *ℤ pos 400 +ℤ t.year) t.month t.day

era_later : (era : ℤ) (e : ℕ) → e < 146097 → era_date era e ≡ later era (from_march e)
unfolding era_date
era_later era e h =
    let x = md_of (e - start (year_of e)) in
    ap (λ (z : ℤ). day_of z x.month x.day) (+ℤ_assoc (era *ℤ pos 400) (pos (year_of e)) (pos x.more))
    ∙ ap (λ (t : ℕ). later era (date_of (pos (year_of e)) (md_of t))) (into_is e h)
    ∙ ap (later era) (sym (era_date_lem e h))

-- the date of a day, by the era that it is in
pub civil_later : (d : ℤ) → civil_of d ≡ later (floor_div (d +ℤ pos 719468) 146097) (from_march (floor_rem (d +ℤ pos 719468) 146097))
unfolding shifted_date
civil_later d = civil_shifted d ∙ era_later _ _ (rem_small (d +ℤ pos 719468))

pub civil_valid : (d : ℤ) → Valid (civil_of d)
civil_valid d = subst Valid (sym (civil_shifted d)) (shifted_valid _)

pub civil_next : (d : ℤ) → civil_of (suc_ℤ d) ≡ tomorrow (civil_of d)
civil_next d =
    civil_shifted (suc_ℤ d)
    ∙ ap shifted_date (suc_ℤ-+ℤ d (pos 719468))
    ∙ sym (ap tomorrow (civil_shifted d) ∙ shifted_next (d +ℤ pos 719468))
