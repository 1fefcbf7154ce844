-- The 400 years of an era, over and over: the date of each day, counted from the first of March of the year 0, is the day after the one before.
use Rattle.std.proofs.Common.{◌≡◌, ℕ, zero, suc, ◌+◌, ◌-◌, ◌*◌, ◌/◌, ◌%◌, ◌<◌, ◌≤◌, Bool, true, false, eqb, ltb, ◌⊎◌, ℤ, pos, negsuc, ◌+ℤ◌, ◌*ℤ◌, neg_ℤ, nat_abs, sym, refl, ap, ◌∙◌, inl, inr, ⊎_elim, eq-or-lt_of_le, arith, ltb-false, ltb-true, eq-eqb, ne_eqb, eqb-true}
use lib.IntN.{suc_ℤ, sub_ℕ, +ℤ_idr, +ℤ_assoc, suc_ℤ-*ℤ}
use borrow.Author.Tests.{eqb-false}
use Rattle.texts.proofs.Floor.{floor_div, floor_rem}
use Rattle.texts.specs.Calendar.{Day, leap, february, Valid, tomorrow}
use Rattle.std.proofs.lemmas.Bool.{cases_lt}
use Rattle.texts.proofs.Years.{year_of, start, first_start, last_start, year_long, year_small, year_start, year_end, year_is}
use Rattle.texts.proofs.Months.{md_of, date_of, inside, over, valid}

-- 400 years on, the leap years are the same
module _ (m n : ℕ) (there : m ≡ 0 → n ≡ 0) (back : n ≡ 0 → m ≡ 0) where
  zeros : eqb m 0 ≡ eqb n 0
  zeros = go (eqb n 0) refl
    where
      go : (t : Bool) → eqb n 0 ≡ t → eqb m 0 ≡ t
      go true e = eq-eqb m 0 (back (eqb-true n 0 e))
      go false e = ne_eqb m 0 (λ z. eqb-false n 0 e (there z))

record Alike (a b : ℕ) : Type 0 where
  four : eqb (a % 4) 0 ≡ eqb (b % 4) 0
  hundred : eqb (a % 100) 0 ≡ eqb (b % 100) 0
  all : eqb (a % 400) 0 ≡ eqb (b % 400) 0

-- a and b are apart by a multiple of 400, or add up to one
alike_plus : (a b c : ℕ) → a ≡ c * 400 + b → Alike a b
alike_plus a b c e =
    record {
      four = zeros (a % 4) (b % 4) (λ z. omega arith) (λ z. omega arith);
      hundred = zeros (a % 100) (b % 100) (λ z. omega arith) (λ z. omega arith);
      all = zeros (a % 400) (b % 400) (λ z. omega arith) (λ z. omega arith);
    }

alike_minus : (a b c : ℕ) → a + b ≡ c * 400 → Alike a b
alike_minus a b c e =
    record {
      four = zeros (a % 4) (b % 4) (λ z. omega arith) (λ z. omega arith);
      hundred = zeros (a % 100) (b % 100) (λ z. omega arith) (λ z. omega arith);
      all = zeros (a % 400) (b % 400) (λ z. omega arith) (λ z. omega arith);
    }

leap_alike : (y : ℤ) (n : ℕ) → Alike (nat_abs y) n → leap y ≡ leap (pos n)
unfolding leap
leap_alike y n h = simp (h.four, h.hundred, h.all)

alike_back : (k c y : ℕ) → suc k ≡ c * 400 → Alike (nat_abs (sub_ℕ y (suc k))) y
alike_back k c y e = go (ltb y (suc k)) refl
  where
    go : (t : Bool) → ltb y (suc k) ≡ t → Alike (nat_abs (sub_ℕ y (suc k))) y
    go true p =
        let h : y < suc k = ltb-true _ _ p in
        rw p (alike_minus (suc (suc k - suc y)) y c (omega arith))
    go false p =
        let h : suc k ≤ y = ltb-false _ _ p in
        let r = alike_plus y (y - suc k) c (omega arith) in
        rw p (record { four = sym r.four; hundred = sym r.hundred; all = sym r.all })

pub leap_again : (era : ℤ) (y : ℕ) → leap (era *ℤ pos 400 +ℤ pos y) ≡ leap (pos y)
leap_again (pos c) y = leap_alike _ y (alike_plus (c * 400 + y) y c refl)
leap_again (negsuc c) y =
    let e : suc c * 400 ≡ suc (c * 400 + 399) = omega arith in
    ap (λ (n : ℕ). leap (neg_ℤ (pos n) +ℤ pos y)) e ∙ leap_alike _ y (alike_back (c * 400 + 399) (suc c) y (sym e))

-- the day after, divided by the days of an era
pub record Inside (s : ℤ) : Type 0 where
  pub more : suc (floor_rem s 146097) < 146097
  pub div : floor_div (suc_ℤ s) 146097 ≡ floor_div s 146097
  pub rem : floor_rem (suc_ℤ s) 146097 ≡ suc (floor_rem s 146097)

pub record Over (s : ℤ) : Type 0 where
  pub full : suc (floor_rem s 146097) ≡ 146097
  pub div : floor_div (suc_ℤ s) 146097 ≡ suc_ℤ (floor_div s 146097)
  pub rem : floor_rem (suc_ℤ s) 146097 ≡ 0

pub divided : (s : ℤ) → Inside s ⊎ Over s
divided (pos n) = ⊎_elim here there (cases_lt (n % 146097) 146096)
  where
    there : 146096 ≤ n % 146097 → Inside (pos n) ⊎ Over (pos n)
    there h = inr (record { full = omega arith; div = ap pos (omega arith); rem = omega arith })

    here : n % 146097 < 146096 → Inside (pos n) ⊎ Over (pos n)
    here h = inl (record { more = omega arith; div = ap pos (omega arith); rem = omega arith })
divided (negsuc zero) = inr (record { full = refl; div = refl; rem = refl })
divided (negsuc (suc n)) = ⊎_elim there here (cases_lt (suc n % 146097) 1)
  where
    here : 1 ≤ suc n % 146097 → Inside (negsuc (suc n)) ⊎ Over (negsuc (suc n))
    here h = inl (record { more = omega arith; div = ap negsuc (omega arith); rem = omega arith })

    there : suc n % 146097 < 1 → Inside (negsuc (suc n)) ⊎ Over (negsuc (suc n))
    there h =
        let q : suc n / 146097 ≡ suc (n / 146097) = omega arith in
        inr (record { full = omega arith; div = rw q refl; rem = omega arith })

-- the date of day e of an era
unfoldable pub era_date : ℤ → ℕ → Day
era_date era e = date_of (era *ℤ pos 400 +ℤ pos (year_of e)) (md_of (e - start (year_of e)))

-- the year after
on : (era : ℤ) (y : ℕ) → era *ℤ pos 400 +ℤ pos y +ℤ pos 1 ≡ era *ℤ pos 400 +ℤ pos (suc y)
on era y = +ℤ_assoc (era *ℤ pos 400) (pos y) (pos 1) ∙ ap (λ (n : ℕ). era *ℤ pos 400 +ℤ pos n) (omega arith)

leap_on : (era : ℤ) (y : ℕ) → leap (era *ℤ pos 400 +ℤ pos y +ℤ pos 1) ≡ leap (pos (suc y))
leap_on era y = ap leap (on era y) ∙ leap_again era (suc y)

-- how far into its year a day is
into : (era : ℤ) (e : ℕ) → e < 146097
    → e - start (year_of e) < 337 + february (leap (era *ℤ pos 400 +ℤ pos (year_of e) +ℤ pos 1))
into era e h =
    let y = year_of e in
    rw (leap_on era y) (omega (arith, year_long y (year_small e h), year_start e h, year_end e h))

pub era_valid : (era : ℤ) (e : ℕ) → e < 146097 → Valid (era_date era e)
unfolding era_date
era_valid era e h = valid (era *ℤ pos 400 +ℤ pos (year_of e)) (e - start (year_of e)) (into era e h)

-- the year y of an era, day t of it
abbrev year_date : ℤ → ℕ → ℕ → Day
year_date era y t = date_of (era *ℤ pos 400 +ℤ pos y) (md_of t)

era_year : (era : ℤ) (e y t : ℕ) → e < 146097 → y < 400 → e ≡ start y + t → e < start (suc y) → era_date era e ≡ year_date era y t
unfolding era_date
era_year era e y t h k p q =
    let r : year_of e ≡ y = year_is e y h k (omega arith) q in
    let d : e - start y ≡ t = omega arith in
    ap (λ (i : ℕ). year_date era i (e - start i)) r ∙ ap (year_date era y) d

stays : (era : ℤ) (y t : ℕ) → y < 400 → suc (start y + t) < start (suc y) → tomorrow (year_date era y t) ≡ year_date era y (suc t)
stays era y t k q =
    inside (era *ℤ pos 400 +ℤ pos y) t (rw (leap_on era y) (omega (arith, year_long y k)))

turns : (era : ℤ) (y t : ℕ) → y < 400 → suc (start y + t) ≡ start (suc y) → tomorrow (year_date era y t) ≡ year_date era (suc y) 0
turns era y t k q =
    let b = era *ℤ pos 400 +ℤ pos y in
    let f : t ≡ 336 + february (leap (pos (suc y))) = omega (arith, year_long y k) in
    over b t (f ∙ ap (λ (l : Bool). 336 + february l) (sym (leap_on era y))) ∙ ap (λ (z : ℤ). date_of z (md_of 0)) (on era y)

pub era_next : (era : ℤ) (e : ℕ) → suc e < 146097 → tomorrow (era_date era e) ≡ era_date era (suc e)
era_next era e h = ⊎_elim stay turn (cases_lt (suc e) (start (suc y)))
  where
    y : ℕ
    y = year_of e

    t : ℕ
    t = e - start (year_of e)

    h' : e < 146097
    h' = omega arith

    k : y < 400
    k = year_small e h'

    p : e ≡ start y + t
    p = omega (arith, year_start e h')

    today : era_date era e ≡ year_date era y t
    today = era_year era e y t h' k p (year_end e h')

    stay : suc e < start (suc y) → tomorrow (era_date era e) ≡ era_date era (suc e)
    stay q =
        ap tomorrow today ∙ stays era y t k (omega (arith, p)) ∙ sym (era_year era (suc e) y (suc t) h k (omega (arith, p)) q)

    turn : start (suc y) ≤ suc e → tomorrow (era_date era e) ≡ era_date era (suc e)
    turn q =
        let s : suc e ≡ start (suc y) = omega (arith, year_end e h') in
        let k' : suc y < 400 = ⊎_elim (λ z. absurd (omega (arith, ap start z ∙ last_start))) (λ z. z) (eq-or-lt_of_le k) in
        ap tomorrow today
        ∙ turns era y t k (omega (arith, p))
        ∙ sym (era_year era (suc e) (suc y) 0 h k' (omega arith) (omega (arith, year_long (suc y) k')))

-- the last year of an era starts 366 days before its end
last_year : start 399 ≡ 145731
unfolding start
last_year = refl

pub era_over : (era : ℤ) → tomorrow (era_date era 146096) ≡ era_date (suc_ℤ era) 0
era_over era =
    ap tomorrow (era_year era 146096 399 365 (omega arith) (omega arith) (omega (arith, last_year)) (omega (arith, last_start)))
    ∙ turns era 399 365 (omega arith) (omega (arith, last_year, last_start))
    ∙ ap (λ (z : ℤ). date_of z (md_of 0)) (sym (+ℤ_idr (suc_ℤ era *ℤ pos 400) ∙ suc_ℤ-*ℤ era (pos 400)))
    ∙ sym (era_year (suc_ℤ era) 0 0 0 (omega arith) (omega arith) (omega (arith, first_start)) (omega (arith, first_start, year_long 0 (omega arith))))
