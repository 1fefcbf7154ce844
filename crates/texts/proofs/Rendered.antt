-- The ways of `render`: what each test that the code makes leaves of the definitions.
use Rattle.std.proofs.Common.{◌≡◌, ℕ, ◌/◌, ◌%◌, ◌<◌, ◌≤◌, Bool, true, false, List, ◌++◌, length, ℤ, sym, refl, ap, ◌∙◌, subst, arith, to_z-of_z, w32, SFits, eq-eqb, ne_eqb, Option, Some, None, Ok, Err, Result}
use Rattle.std.specs.Bool.{then_some}
use Rattle.std.specs.Option.{ok_or}
use Rattle.std.specs.Result.{IsErrAnd}
use Rattle.std.proofs.lemmas.Option.{none-some, same_Some}
use Rattle.texts.specs.declared.Text.{Text}
use Rattle.texts.specs.declared.parse.Date.{Date}
use Rattle.texts.specs.declared.render.Refused.{Refused}
use Rattle.texts.specs.Calendar.{Day, day_of, leap, civil_of, near}
use Rattle.texts.specs.Dated.{dated, civil_from}
use Rattle.texts.specs.Held.{held, added}
use Rattle.texts.specs.Reason.{Width, Outcome, gives, refuses, pick, shorter}
use Rattle.texts.specs.Said.{reason_of, Says}
use Rattle.texts.specs.DateText.{two, between, long_date, short_date, date_text, without_century, envelope_date}
use Rattle.texts.specs.DateBy.{date_by}
use Rattle.texts.specs.Clock.{hours_minutes, hours_minutes_seconds, clock, time_text, short_clock, envelope_time}
use Rattle.texts.proofs.Sums.{Back}
use Rattle.texts.proofs.Ranges.{Inside, within}
use Rattle.texts.proofs.Texts.{added_held}
use Rattle.texts.proofs.Dates.{month_long, civil_valid}

-- two more digits behind a text that has at most 46 bytes
pub paired : (t : Text) (xs : List ℕ) (n : ℕ) → t ≡ held xs → length xs ≤ 46 → added t (two n) ≡ held (xs ++ two n)
paired t xs n e h = ap (λ (u : Text). added u (two n)) e ∙ added_held xs (two n) (omega arith)

pub text_says : (t : Text) (xs : List ℕ) (o : Outcome) → t ≡ held xs → o ≡ gives xs → Says (Ok t) o
text_says t xs o e p = rw p (record { text = e; reason = refl })

pub why_says : (w : Refused) (o : Outcome) → o ≡ refuses (reason_of w) → Says (Err w) o
why_says w o p = rw p (record { text = refl; reason = refl })

same_Err : {A E : Type 0} (x y : E) → ◌≡◌ {A = Result A E} (Err x) (Err y) → x ≡ y
same_Err x y e = cc

-- the error that a `?` hands on where there is nothing
pub none_says : {A : Type 0} (w : Refused) {r : Result Text Refused} {n : Option A} {x : Refused} {o : Outcome} → IsErrAnd r (λ y. y ≡ x) → Err x ≡ ok_or n w → n ≡ None
    → o ≡ refuses (reason_of w) → Says r o
none_says {A} w {r} {n} {x} {o} h e f p = go r h
  where
    same : x ≡ w
    same = same_Err _ _ (rw f at e)

    go : (r : Result Text Refused) → IsErrAnd r (λ y. y ≡ x) → Says r o
    go (Ok _) g = absurd g
    go (Err y) g = rw (g, same) (why_says w o p)

pub says_as : {r : Result Text Refused} {o p : Outcome} → Says r o → p ≡ o → Says r p
says_as {r} h e = subst (λ (q : Outcome). Says r q) (sym e) h

-- a date of a year within its bounds, and of another
pub long_is : (z : ℤ) (y m d : ℕ) → Inside 1 9999 z y
    → long_date (day_of z m d) ≡ gives (two (y / 100) ++ two (y % 100) ++ two m ++ two d)
unfolding long_date
long_is z y m d h = rw h.is (simp (within 1 9999 y h.from h.to))

pub long_out : (t : Day) → between 1 9999 t.year ≡ false → long_date t ≡ refuses 1
unfolding long_date
long_out t h = simp h

pub short_is : (low high reason : ℕ) (z : ℤ) (y m d : ℕ) → Inside low high z y
    → short_date low high reason (day_of z m d) ≡ gives (two (y % 100) ++ two m ++ two d)
unfolding short_date
short_is low high reason z y m d h = rw h.is (simp (within low high y h.from h.to))

pub short_out : (low high reason : ℕ) (t : Day) → between low high t.year ≡ false → short_date low high reason t ≡ refuses reason
unfolding short_date
short_out low high reason t h = simp h

-- what the answer of `civil_from_days` says of the day
pub record Told (d y : ℤ) (m n : ℕ) : Type 0 where
  pub in_reach : near d ≡ true
  pub date : civil_of d ≡ day_of y m n
  pub month : m < 100
  pub day : n < 100

pub far : (d : ℤ) → SFits w32 d → civil_from (Back d) ≡ None → near d ≡ false
unfolding civil_from
far d f e = go (near d) refl (ap civil_from (sym (to_z-of_z f)) ∙ e)
  where
    go : (t : Bool) → near d ≡ t → then_some t (dated (civil_of d)) ≡ None → near d ≡ false
    go false p h = p
    go true p h = absurd (none-some _ (sym h))

pub told : (d : ℤ) (x : Date) → SFits w32 d → civil_from (Back d) ≡ Some x → Told d x.year x.month x.day
unfolding civil_from
told d x f e = go (near d) refl (ap civil_from (sym (to_z-of_z f)) ∙ e)
  where
    go : (t : Bool) → near d ≡ t → then_some t (dated (civil_of d)) ≡ Some x → Told d x.year x.month x.day
    go false p h = absurd (none-some x h)
    go true p h =
        let q : dated (civil_of d) ≡ x = same_Some _ _ h in
        let v = civil_valid d in
        let l = month_long (leap (civil_of d).year) (civil_of d).month v.to_december in
        let m : (civil_of d).month ≡ x.month = ap (λ (t : Date). t.month) q in
        let n : (civil_of d).day ≡ x.day = ap (λ (t : Date). t.day) q in
        record { in_reach = p; date = ap (λ (t : Date). day_of t.year t.month t.day) q; month = omega (arith, v.to_december); day = omega (arith, l.1, v.to_last) }

-- without its century a long date is a short one, of any year that has four digits
no_century : (t : Day) → without_century true (long_date t) ≡ short_date 1 9999 1 t
unfolding long_date short_date
no_century t = go (between 1 9999 t.year) refl
  where
    go : (b : Bool) → between 1 9999 t.year ≡ b → without_century true (long_date t) ≡ short_date 1 9999 1 t
    go true p = simp p
    go false p = simp p

nothing_less : (b : Bool) → without_century b (refuses 1) ≡ refuses 1
nothing_less true = refl
nothing_less false = refl

-- a date whose six digits are read as years from low to high
module _ (low high reason : ℕ) {d y : ℤ} {m n : ℕ} (max : Width) (h : Told d y m n) where
  pub years_short : shorter max 8 ≡ true → date_by low high reason d max ≡ short_date low high reason (day_of y m n)
  unfolding date_by
  years_short e = simp (h.in_reach, e) (ap (short_date low high reason) h.date)

  pub years_long : shorter max 8 ≡ false → date_by low high reason d max ≡ long_date (day_of y m n)
  unfolding date_by
  years_long e = simp (h.in_reach, e) (ap long_date h.date)

pub years_far : (low high reason : ℕ) (d : ℤ) (max : Width) → near d ≡ false → date_by low high reason d max ≡ refuses 1
unfolding date_by
years_far low high reason d max h = simp h

-- a cell's date, and an envelope's
pub cell_years : (d : ℤ) (max : Width) → SFits w32 d → date_text d max ≡ date_by 1950 2049 2 (Back d) max
unfolding date_text date_by
cell_years d max f = rw (to_z-of_z f) refl

pub envelope_years : (d : ℤ) (max : Width) → SFits w32 d → envelope_date d max ≡ date_by 1 9999 1 (Back d) max
unfolding envelope_date date_text date_by
envelope_years d max f = rw (to_z-of_z f) (go (shorter max 8) (near d))
  where
    t : Day
    t = civil_of d

    go : (s r : Bool) → without_century s (pick r (long_date t) (refuses 1)) ≡ pick r (pick s (short_date 1 9999 1 t) (long_date t)) (refuses 1)
    go true true = no_century t
    go false true = refl
    go s false = nothing_less s

-- a time within one day, and outside it
module _ (z : ℤ) (max : Width) (h : between 0 86399 z ≡ false) where
  pub time_out : time_text z max ≡ refuses 3
  unfolding time_text
  time_out = simp h

  pub envelope_out : envelope_time z max ≡ refuses 3
  unfolding envelope_time
  envelope_out = simp h

module _ {z : ℤ} {n : ℕ} (max : Width) (h : Inside 0 86399 z n) where
  time_in : time_text z max ≡ clock n max
  unfolding time_text
  time_in = rw h.is (simp (within 0 86399 n h.from h.to))

  envelope_in : envelope_time z max ≡ short_clock n max
  unfolding envelope_time
  envelope_in = rw h.is (simp (within 0 86399 n h.from h.to))

  pub time_even : n % 60 ≡ 0 → time_text z max ≡ gives (hours_minutes n)
  unfolding clock
  time_even e = time_in ∙ simp (eq-eqb _ _ e)

  pub time_full : (n % 60 ≡ 0 → ⊥) → shorter max 6 ≡ true → time_text z max ≡ refuses 4
  unfolding clock
  time_full e s = time_in ∙ simp (ne_eqb _ _ e, s)

  pub time_odd : (n % 60 ≡ 0 → ⊥) → shorter max 6 ≡ false → time_text z max ≡ gives (hours_minutes_seconds n)
  unfolding clock
  time_odd e s = time_in ∙ simp (ne_eqb _ _ e, s)

  pub envelope_even : n % 60 ≡ 0 → envelope_time z max ≡ gives (hours_minutes n)
  unfolding short_clock
  envelope_even e = envelope_in ∙ simp (eq-eqb _ _ e)

  pub envelope_cut : (n % 60 ≡ 0 → ⊥) → shorter max 6 ≡ true → envelope_time z max ≡ gives (hours_minutes n)
  unfolding short_clock
  envelope_cut e s = envelope_in ∙ simp (ne_eqb _ _ e, s)

  pub envelope_odd : (n % 60 ≡ 0 → ⊥) → shorter max 6 ≡ false → envelope_time z max ≡ gives (hours_minutes_seconds n)
  unfolding short_clock
  envelope_odd e s = envelope_in ∙ simp (ne_eqb _ _ e, s)

-- the parts of a time have two digits each
pub four_fits : (n : ℕ) → n ≤ 86399 → (n / 3600 < 100) × (n / 60 % 60 < 100)
four_fits n h = (omega arith, omega arith)

pub six_fits : (n : ℕ) → n ≤ 86399 → (n / 3600 < 100) × (n / 60 % 60 < 100) × (n % 60 < 100)
six_fits n h = (omega arith, omega arith, omega arith)
