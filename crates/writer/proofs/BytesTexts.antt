-- How long the text of a cell is at most: a number, a date or a time has 48 bytes at most.
use Prim.Native.Nat.{ℕ, ◌+◌, ◌-◌, ◌/◌, ◌%◌, ◌^◌, ◌≤◌, ◌<◌}
use mathlib.Core.Path.{◌≡◌, refl}
use mathlib.Core.Bool.{Bool, true, false, cond}
use mathlib.Core.List.{List, [], ◌∷◌, ◌++◌}
use native.Mathlib.Omega.{arith}
use lib.IntN.{ℤ, pos, negsuc, nat_abs}
use lib.ListN.{length}
use lib.Dec.{ltb, eqb, lit<}
use borrow.Author.Tests.{ltb-true, ltb-false}
use Rattle.column.specs.Cell.{Cell, null, binary, int64, decimal, date32, time32}
use Rattle.texts.specs.Number.{int_text, decimal_text}
use Rattle.texts.specs.Wide.{signed, signed64, signed128}
use Rattle.texts.specs.Floor.{signed32}
use Rattle.texts.specs.Reason as R
use Rattle.texts.specs.Reason.{Width, Outcome, gives, refuses, shorter}
use Rattle.texts.specs.Calendar.{Day, civil_of, near}
use Rattle.texts.specs.DateText as T
use Rattle.texts.specs.DateText.{two, month_day, long_date, short_date, day_text, date_text}
use Rattle.texts.specs.Clock.{hours_minutes, hours_minutes_seconds, clock, time_text, within_day}
use Rattle.texts.proofs.Sizes.{int_length, decimal_length}
use Rattle.emit.specs.Puts.{cell_text}
use Rattle.emit.proofs.ScaleLaws.{scale_of}
use Rattle.writer.proofs.BytesJoined.{charge}
use Rattle.writer.proofs.BytesColumns.{weigh}

pub charge_most : (t : List ℕ) (n : ℕ) → charge t n ≤ length t + n
charge_most [] n = omega arith
charge_most (x ∷ xs) n = omega arith

signed_abs : (half n B : ℕ) → 1 ≤ half → half < B → nat_abs (signed half n) < B
unfolding signed
signed_abs half n B one h = go (ltb n half) refl
  where
    go : (b : Bool) → ltb n half ≡ b → nat_abs (cond b (pos n) (negsuc (half + half - 1 - n))) < B
    go true q = omega (arith, ltb-true n half q)
    go false q = omega (arith, ltb-false n half q)

picked : (b : Bool) (x y : Outcome) (n : ℕ) → length x.text ≤ n → length y.text ≤ n → length (R.pick b x y).text ≤ n
picked true x y n h k = h
picked false x y n h k = k

long_date_lem : (t : Day) → length (long_date t).text ≤ 8
unfolding long_date
long_date_lem t = go (T.between 1 9999 t.year) (nat_abs t.year)
  where
    go : (b : Bool) (y : ℕ) → length (R.pick b (gives (two (y / 100) ++ two (y % 100) ++ month_day t)) (refuses 1)).text ≤ 8
    go true y = omega arith
    go false y = omega arith

short_date_lem : (low high reason : ℕ) (t : Day) → length (short_date low high reason t).text ≤ 8
unfolding short_date
short_date_lem low high reason t = go (T.between low high t.year)
  where
    go : (b : Bool) → length (R.pick b (gives (two (nat_abs t.year % 100) ++ month_day t)) (refuses reason)).text ≤ 8
    go true = omega arith
    go false = omega arith

day_short : (t : Day) (max : Width) → length (day_text t max).text ≤ 8
day_short t max = picked (shorter max 8) (short_date 1950 2049 2 t) (long_date t) 8 (short_date_lem 1950 2049 2 t) (long_date_lem t)

pub date_short : (d : ℤ) (max : Width) → length (date_text d max).text ≤ 8
unfolding date_text
date_short d max = picked (near d) (day_text (civil_of d) max) (refuses 1) 8 (day_short (civil_of d) max) (omega arith)

clock_short : (n : ℕ) (max : Width) → length (clock n max).text ≤ 6
unfolding clock
clock_short n max = go (eqb (n % 60) 0) (shorter max 6)
  where
    go : (b c : Bool) → length (R.pick b (gives (hours_minutes n)) (R.pick c (refuses 4) (gives (hours_minutes_seconds n)))).text ≤ 6
    go true c = omega arith
    go false true = omega arith
    go false false = omega arith

time_short : (s : ℤ) (max : Width) → length (time_text s max).text ≤ 6
unfolding time_text
time_short s max = picked (within_day s) (clock (nat_abs s) max) (refuses 3) 6 (clock_short (nat_abs s) max) (omega arith)

pub cell_charge : (c : Cell) (max : Width) (n : ℕ) → scale_of c ≤ 38 → n ≤ 255 → charge (cell_text c max).text n ≤ weigh c
unfolding cell_text
cell_charge null max n k h = omega arith
cell_charge (binary bytes) max n k h = omega (arith, charge_most bytes n)
cell_charge (int64 x) max n k h = omega (arith, charge_most (int_text (signed64 x)) n, int_length (signed64 x) 19 (omega arith) (signed_abs (2 ^ 63) x (10 ^ 19) (omega arith) (lit< tt)))
cell_charge (decimal x scale) max n k h =
    omega (arith, charge_most (decimal_text (signed128 x) scale) n, decimal_length (signed128 x) scale 39 (omega (arith, k)) (signed_abs (2 ^ 127) x (10 ^ 39) one (lit< tt)))
  where
    one : 1 ≤ 2 ^ 127
    one = lit< tt
cell_charge (date32 x) max n k h = omega (arith, charge_most (date_text (signed32 x) max).text n, date_short (signed32 x) max)
cell_charge (time32 x) max n k h = omega (arith, charge_most (time_text (signed32 x) max).text n, time_short (signed32 x) max)
