-- The years of 400 from a first of March: on which of their days each starts, and which year a day is in. What antt computes of the 400 years,
-- and the rule at each day.
use Rattle.std.proofs.Common.{◌≡◌, ℕ, zero, suc, ◌+◌, ◌-◌, ◌*◌, ◌/◌, ◌<◌, ◌≤◌, min, Bool, T, eqb, pos, refl, ap, ◌∙◌, ⊎_elim, suc-le-suc, le_trans, eq-or-lt_of_le, arith, eqb→eq}
use Rattle.texts.specs.Calendar.{leap, february}
use Rattle.texts.proofs.Tested.{below, below_at}
use Rattle.std.proofs.lemmas.Bool.{cases_lt}

-- days, without those of leap years: 365 of them a year
unfoldable pub common : ℕ → ℕ
common e = e - e / 1460 + e / 36524 - e / 146096

unfoldable pub year_of : ℕ → ℕ
year_of e = common e / 365

-- the day that a year starts on
unfoldable pub start : ℕ → ℕ
start y = 365 * y + y / 4 - y / 100 + y / 400

-- a year's first and last day are in it, and its length is that from March to January and that of February
firsts : ℕ → Bool
firsts y = eqb (year_of (start y)) y

lasts : ℕ → Bool
lasts y = eqb (year_of (start (suc y) - 1)) y

lengths : ℕ → Bool
lengths y = eqb (start (suc y)) (start y + 337 + february (leap (pos (suc y))))

all : T (below 400 firsts) × T (below 400 lasts) × T (below 400 lengths)
unfolding below firsts lasts lengths common year_of start leap
all = (tt, tt, tt)

pub first_in : (y : ℕ) → y < 400 → year_of (start y) ≡ y
unfolding firsts
first_in y h = eqb→eq (year_of (start y)) y (below_at 400 firsts all.0 y h)

pub last_in : (y : ℕ) → y < 400 → year_of (start (suc y) - 1) ≡ y
unfolding lasts
last_in y h = eqb→eq (year_of (start (suc y) - 1)) y (below_at 400 lasts all.1 y h)

pub year_long : (y : ℕ) → y < 400 → start (suc y) ≡ start y + 337 + february (leap (pos (suc y)))
unfolding lengths
year_long y h = eqb→eq (start (suc y)) (start y + 337 + february (leap (pos (suc y)))) (below_at 400 lengths all.2 y h)

-- an era has four centuries of days, and its last day counts to the fourth
century : (a : ℕ) → a < 146097 → a / 36524 - a / 146096 ≡ min (a / 36524) 3
century a h = omega arith

in_order : (a b : ℕ) → a ≤ b → a / 36524 ≤ b / 36524
in_order a b h = omega arith

leaps : (a b : ℕ) → a ≤ b → a - a / 1460 ≤ b - b / 1460
leaps a b h = omega arith

inside : (a : ℕ) → a / 146096 ≤ a / 36524
inside a = omega arith

sum : (x y z x' y' z' : ℕ) → x ≤ x' → y - z ≤ y' - z' → z ≤ y → z' ≤ y' → x + y - z ≤ x' + y' - z'
sum x y z x' y' z' h₁ h₂ h₃ h₄ = omega arith

capped : (x y : ℕ) → x ≤ y → min x 3 ≤ min y 3
capped x y h = omega arith

common_rises : (a b : ℕ) → a ≤ b → b < 146097 → common a ≤ common b
unfolding common
common_rises a b h q =
    sum (a - a / 1460) (a / 36524) (a / 146096) (b - b / 1460) (b / 36524) (b / 146096) (leaps a b h)
    (rw (century a (le_trans (suc-le-suc h) q), century b q) (capped (a / 36524) (b / 36524) (in_order a b h))) (inside a) (inside b)

quotients : (x y : ℕ) → x ≤ y → x / 365 ≤ y / 365
quotients x y h = omega arith

rises : (a b : ℕ) → a ≤ b → b < 146097 → year_of a ≤ year_of b
unfolding year_of
rises a b h q = quotients _ _ (common_rises a b h q)

last_day : year_of 146096 ≡ 399
unfolding year_of common
last_day = refl

pub first_start : start 0 ≡ 0
unfolding start
first_start = refl

pub last_start : start 400 ≡ 146097
unfolding start
last_start = refl

start_small : (y : ℕ) → y < 400 → start y < 146097
unfolding start
start_small y h = omega arith

end_small : (y : ℕ) → y < 400 → start (suc y) ≤ 146097
end_small y h = ⊎_elim (λ e. omega (arith, ap start e ∙ last_start)) (λ l. omega (arith, start_small (suc y) l)) (eq-or-lt_of_le h)

pub year_small : (e : ℕ) → e < 146097 → year_of e < 400
year_small e h = let q : e ≤ 146096 = omega arith in let r = rises e 146096 q (omega arith) in omega (arith, last_day)

-- a day is not before the start of its year
pub year_start : (e : ℕ) → e < 146097 → start (year_of e) ≤ e
year_start e h = go (year_of e) refl
  where
    go : (y : ℕ) → year_of e ≡ y → start y ≤ e
    go zero p = omega (arith, first_start)
    go (suc y) p = ⊎_elim (λ l. absurd (late l)) (λ l. l) (cases_lt e (start (suc y)))
      where
        late : e < start (suc y) → ⊥
        late l =
            let k : y < 400 = omega (arith, year_small e h) in
            let j : suc y < 400 = omega (arith, year_small e h) in
            let s = start_small (suc y) j in
            let u : e ≤ start (suc y) - 1 = omega arith in
            let v : start (suc y) - 1 < 146097 = omega arith in
            let m : year_of e ≤ year_of (start (suc y) - 1) = rises e (start (suc y) - 1) u v in
            let t : year_of (start (suc y) - 1) ≡ y = last_in y k in
            omega arith

-- and before the start of the next
pub year_end : (e : ℕ) → e < 146097 → e < start (suc (year_of e))
year_end e h = ⊎_elim (λ l. l) (λ l. absurd (early l)) (cases_lt e (start (suc (year_of e))))
  where
    early : start (suc (year_of e)) ≤ e → ⊥
    early l = ⊎_elim (λ q. full q) (λ q. next q) (eq-or-lt_of_le (year_small e h))
      where
        full : suc (year_of e) ≡ 400 → ⊥
        full q = let t : start (suc (year_of e)) ≡ 146097 = ap start q ∙ last_start in omega arith

        next : suc (year_of e) < 400 → ⊥
        next q =
            let m : year_of (start (suc (year_of e))) ≤ year_of e = rises (start (suc (year_of e))) e l h in
            let t : year_of (start (suc (year_of e))) ≡ suc (year_of e) = first_in (suc (year_of e)) q in
            omega arith

-- no other year has it
pub year_is : (e y : ℕ) → e < 146097 → y < 400 → start y ≤ e → e < start (suc y) → year_of e ≡ y
year_is e y h k a b =
    let u : e ≤ start (suc y) - 1 = omega arith in
    let s : start (suc y) ≤ 146097 = end_small y k in
    let m : year_of (start y) ≤ year_of e = rises (start y) e a h in
    let n : year_of e ≤ year_of (start (suc y) - 1) = rises e (start (suc y) - 1) u (omega arith) in
    omega (arith, first_in y k, last_in y k)
