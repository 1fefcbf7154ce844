-- Letters, digits, spaces, minus signs and points are no separators of a job that passed (refusal 5): the texts of numbers, dates and times have no such finding.
use Prim.Native.Nat.{ℕ, zero, suc, ◌+◌, ◌/◌, ◌%◌, ◌≤◌, ◌<◌}
use mathlib.Core.Path.{◌≡◌, refl, sym, ap, ◌∙◌}
use mathlib.Core.Bool.{Bool, true, false, false≢true}
use mathlib.Core.List.{List, [], ◌∷◌, ◌++◌}
use native.Mathlib.Omega.{arith}
use lib.Dec.{eqb, leb}
use lib.IntN.{ℤ, pos, negsuc, nat_abs}
use lib.ListN.{replicate}
use borrow.Author.Tests.{eqb-true, leb-true, le-leb}
use Rattle.codec.specs.Codec.{pick}
use Rattle.codec.specs.Limits.{any, any_of}
use Rattle.codec.proofs.Limits.{none_of}
use Rattle.format.specs.Words.{member_of, repeats, between}
use Rattle.format.specs.Job.{Job}
use Rattle.format.specs.Refusal.{upper, digit, textual, separators, unfit_envelope, unfit}
use Rattle.column.specs.Cell.{or_null}
use Rattle.column.specs.declared.Cell.{Cell as Read}
use Rattle.column.specs.declared.Cell.TheVariants.{None, Null, Bytes, Int, Wide, Days, Seconds}
use Rattle.column.specs.Answers.{cell_at}
use Rattle.texts.specs.Calendar.{Day, and, leap, civil_of, near}
use Rattle.texts.specs.Reason.{Width, Outcome, gives, refuses, pick as choose, shorter}
use Rattle.texts.specs.Number.{count_text, int_text, decimal_text}
use Rattle.texts.specs.DateText.{two, month_day, long_date, short_date, day_text, date_text}
use Rattle.texts.specs.DateText.{between as within}
use Rattle.texts.specs.Clock.{within_day, hours_minutes, hours_minutes_seconds, clock, time_text}
use Rattle.texts.proofs.Dates.{month_long, civil_valid}
use Rattle.texts.proofs.Sizes.{count_has, int_has, decimal_has}
use Rattle.nest.specs.Lists.{All}
use Rattle.nest.proofs.Alls.{all_append}
use Rattle.nest.specs.Finding.{Origin, Place}
use Rattle.emit.specs.Puts.{cell_text, held_in}
use Rattle.emit.specs.Written.{is_own}

-- a text of letters, digits, spaces, minus signs and points
abbrev pub Textual : List ℕ → Type 0
Textual = All (λ c. textual c ≡ true)

pub upper_textual : (c : ℕ) → upper c ≡ true → textual c ≡ true
unfolding textual any
upper_textual c h = rw h

pub digit_textual : (c : ℕ) → digit c ≡ true → textual c ≡ true
unfolding textual any
digit_textual c h = rw h (go (upper c) (between 97 122 c))
  where
    go : (a b : Bool) → pick a true (pick b true true) ≡ true
    go true b = refl
    go false true = refl
    go false false = refl

pub zeros_textual : (n : ℕ) → Textual (replicate n 48)
unfolding textual upper digit any
zeros_textual zero = tt
zeros_textual (suc n) = (refl, zeros_textual n)

pub spaces_textual : (n : ℕ) → Textual (replicate n 32)
unfolding textual upper digit any
spaces_textual zero = tt
spaces_textual (suc n) = (refl, spaces_textual n)

figure_textual : (d : ℕ) → d < 10 → textual (48 + d) ≡ true
unfolding digit
figure_textual d h = digit_textual (48 + d) (rw (le-leb 48 (48 + d) (omega arith)) (le-leb (48 + d) 57 (omega arith)))

figure_first : (d : ℕ) (t : List ℕ) → d < 10 → Textual t → Textual ((48 + d) ∷ t)
figure_first d t h k = (figure_textual d h, k)

-- ---- numbers

minus_first : (t : List ℕ) → Textual t → Textual (45 ∷ t)
unfolding textual upper digit any
minus_first t h = (refl, h)

point_first : (t : List ℕ) → Textual t → Textual (46 ∷ t)
unfolding textual upper digit any
point_first t h = (refl, h)

pub count_textual : (n : ℕ) → Textual (count_text n)
count_textual n = count_has Textual tt figure_first n

pub int_textual : (z : ℤ) → Textual (int_text z)
int_textual z = int_has Textual tt figure_first z minus_first

pub decimal_textual : (z : ℤ) (scale : ℕ) → Textual (decimal_text z scale)
decimal_textual z scale = decimal_has Textual tt figure_first z scale minus_first point_first

-- ---- dates and times

two_textual : (n : ℕ) → n < 100 → Textual (two n)
two_textual n h = figure_first (n / 10) ((48 + n % 10) ∷ []) (omega arith) (figure_first (n % 10) [] (omega arith) tt)

pair_textual : (a b : List ℕ) → Textual a → Textual b → Textual (a ++ b)
pair_textual a b = all_append _ a b

-- a text if a test passes
if_textual : (t : Bool) (a b : Outcome) → (t ≡ true → Textual a.text) → (t ≡ false → Textual b.text) → Textual (choose t a b).text
if_textual true a b h k = h refl
if_textual false a b h k = k refl

low_year : (low high : ℕ) (y : ℤ) → within low high y ≡ true → nat_abs y ≤ high
low_year low high (pos n) h = go (leb low n) refl h
  where
    go : (t : Bool) → leb low n ≡ t → and t (leb n high) ≡ true → n ≤ high
    go true e q = leb-true _ _ q
    go false e q = absurd (false≢true q)
low_year low high (negsuc n) h = absurd (false≢true h)

month_day_lem : (z : ℤ) → Textual (month_day (civil_of z))
month_day_lem z =
    let v = civil_valid z in
    let l = month_long (leap (civil_of z).year) (civil_of z).month v.to_december in
    pair_textual (two (civil_of z).month) (two (civil_of z).day) (two_textual (civil_of z).month (omega (arith, v.to_december))) (two_textual (civil_of z).day (omega (arith, l.1, v.to_last)))

pub date_textual : (z : ℤ) (max : Width) → Textual (date_text z max).text
unfolding date_text long_date short_date
date_textual z max =
    if_textual (near z) (day_text t max) (refuses 1)
    (λ e. if_textual (shorter max 8) (short_date 1950 2049 2 t) (long_date t)
    (λ q. if_textual (within 1950 2049 t.year) (gives (two (y % 100) ++ month_day t)) (refuses 2) (λ k. short) (λ k. tt))
    (λ q. if_textual (within 1 9999 t.year) (gives (two (y / 100) ++ (two (y % 100) ++ month_day t))) (refuses 1)
    (λ k. pair_textual (two (y / 100)) (two (y % 100) ++ month_day t) (two_textual (y / 100) (omega (arith, low_year 1 9999 t.year k))) short) (λ k. tt)))
    (λ e. tt)
  where
    t : Day
    t = civil_of z

    y : ℕ
    y = nat_abs t.year

    short : Textual (two (y % 100) ++ month_day t)
    short = pair_textual (two (y % 100)) (month_day t) (two_textual (y % 100) (omega arith)) (month_day_lem z)

clock_textual : (n : ℕ) (max : Width) → n ≤ 86399 → Textual (clock n max).text
unfolding clock
clock_textual n max h =
    if_textual (eqb (n % 60) 0) (gives (hours_minutes n)) (choose (shorter max 6) (refuses 4) (gives (hours_minutes_seconds n))) (λ e. pair_textual (two (n / 3600)) (two (n / 60 % 60)) hours minutes)
    (λ e. if_textual (shorter max 6) (refuses 4) (gives (hours_minutes_seconds n)) (λ q. tt)
    (λ q. pair_textual (two (n / 3600)) (two (n / 60 % 60) ++ two (n % 60)) hours (pair_textual (two (n / 60 % 60)) (two (n % 60)) minutes (two_textual (n % 60) (omega arith)))))
  where
    hours : Textual (two (n / 3600))
    hours = two_textual (n / 3600) (omega arith)

    minutes : Textual (two (n / 60 % 60))
    minutes = two_textual (n / 60 % 60) (omega arith)

pub time_textual : (z : ℤ) (max : Width) → Textual (time_text z max).text
unfolding time_text
time_textual z max = if_textual (within_day z) (clock (nat_abs z) max) (refuses 3) (λ e. clock_textual (nat_abs z) max (low_year 0 86399 z e)) (λ e. tt)

-- ---- cells

pub own_textual : (b : List ℕ) (c : Read) (max : Width) → is_own c ≡ true → Textual (cell_text (or_null (cell_at b c)) max).text
unfolding cell_text cell_at
own_textual b None max e = tt
own_textual b Null max e = tt
own_textual b (Bytes start len) max e = absurd (false≢true e)
own_textual b (Int bits) max e = int_textual _
own_textual b (Wide low high scale) max e = decimal_textual _ scale
own_textual b (Days bits) max e = date_textual _ max
own_textual b (Seconds bits) max e = time_textual _ max

-- ---- the separators of a job that passed

none_any : (f : ℕ → Bool) (xs : List ℕ) → any_of f xs ≡ false → All (λ x. f x ≡ false) xs
unfolding any_of
none_any f [] h = tt
none_any f (x ∷ xs) h = go (f x) refl h (none_any f xs)
  where
    go : (t : Bool) → f x ≡ t → pick t true (any_of f xs) ≡ false → (any_of f xs ≡ false → All (λ x. f x ≡ false) xs) → (f x ≡ false) × All (λ x. f x ≡ false) xs
    go true e h ih = absurd (false≢true (sym h))
    go false e h ih = (e, ih h)

module _ (j : Job) (fit : unfit j ≡ false) where
  marks : (repeats (separators j.envelope) ≡ false) × (any_of textual (separators j.envelope) ≡ false)
  unfolding unfit unfit_envelope
  marks =
      let a = none_of _ _ (none_of _ _ (none_of _ _ fit).1).0 in
      (a.0, (none_of _ _ a.1).0)

  pub no_repeats : repeats (separators j.envelope) ≡ false
  no_repeats = marks.0

  pub not_textual : All (λ b. textual b ≡ false) (separators j.envelope)
  not_textual = none_any textual (separators j.envelope) marks.1

no_member : (b : ℕ) (text : List ℕ) → textual b ≡ false → Textual text → member_of b text ≡ false
unfolding member_of
no_member b [] h t = refl
no_member b (x ∷ xs) h t = go (eqb b x) refl (no_member b xs h t.1)
  where
    go : (s : Bool) → eqb b x ≡ s → member_of b xs ≡ false → pick s true (member_of b xs) ≡ false
    go true e k = absurd (false≢true (sym h ∙ ap textual (eqb-true b x e) ∙ t.0))
    go false e k = k

none_held : (o : Origin) (p : Place) (text : List ℕ) (role : ℕ) (bs : List ℕ) → All (λ b. textual b ≡ false) bs → Textual text → held_in o p text role bs ≡ []
unfolding held_in
none_held o p text role [] h t = refl
none_held o p text role (b ∷ bs) h t = rw (no_member b text h.0 t) (none_held o p text (role + 1) bs h.1 t)

pub textual_free : (j : Job) → unfit j ≡ false → (o : Origin) (p : Place) (text : List ℕ) → Textual text → held_in o p text 0 (separators j.envelope) ≡ []
textual_free j fit o p text t = none_held o p text 0 (separators j.envelope) (not_textual j fit) t
