-- What callers need of the answers: an outcome has one answer, and its text is short.
use Rattle.std.proofs.Common.{◌≡◌, ℕ, zero, suc, ◌%◌, ◌<◌, ◌≤◌, Bool, true, false, eqb, length, ℤ, nat_abs, sym, refl, ap, ◌∙◌, arith, lit≤, length-drop, Option, Some, Result, Ok, Err, None}
use Rattle.std.specs.Option.{is_some}
use Rattle.texts.specs.declared.render.Refused.{Refused}
use Rattle.texts.specs.declared.render.Refused.TheVariants.{Year, Window, Day, Seconds}
use Rattle.texts.specs.declared.Text.{Text}
use Rattle.texts.specs.Calendar as Calendar
use Rattle.texts.specs.Calendar.{or, civil_of, near}
use Rattle.texts.specs.Reason.{Width, Outcome, gives, refuses, pick, shorter}
use Rattle.texts.specs.Said.{reason_of, text_of, why_of, why_in, Says}
use Rattle.texts.specs.DateText.{between, long_date, short_date, day_text, date_text, without_century, envelope_date}
use Rattle.texts.specs.Clock.{within_day, hours_minutes, hours_minutes_seconds, short_clock, envelope_time}

-- the case of a reason
abbrev pub refused_of : ℕ → Refused
refused_of zero = Year
refused_of (suc zero) = Year
refused_of (suc (suc zero)) = Window
refused_of (suc (suc (suc zero))) = Day
refused_of (suc (suc (suc (suc n)))) = Seconds

refused_of_lem : (w : Refused) → refused_of (reason_of w) ≡ w
refused_of_lem Year = refl
refused_of_lem Window = refl
refused_of_lem Day = refl
refused_of_lem Seconds = refl

pub some_reason : (w : Refused) → 0 < reason_of w
some_reason Year = omega arith
some_reason Window = omega arith
some_reason Day = omega arith
some_reason Seconds = omega arith

pub no_reason : (w : Option Refused) → is_some w ≡ false → why_in w ≤ 0
no_reason None e = omega arith
no_reason (Some w) e = cc

pub some_there : (w : Option Refused) → is_some w ≡ true → 0 < why_in w
some_there None e = absurd (let z : ◌≡◌ {A = ℕ} 0 1 = cc in omega arith)
some_there (Some w) e = some_reason w

says_one_lem : (r s : Result Text Refused) → text_of r ≡ text_of s → why_of r ≡ why_of s → r ≡ s
says_one_lem (Ok t) (Ok u) h k = ap Ok h
says_one_lem (Ok t) (Err e) h k = let p = some_reason e in absurd (omega arith)
says_one_lem (Err e) (Ok t) h k = let p = some_reason e in absurd (omega arith)
says_one_lem (Err e) (Err f) h k = ap Err (sym (refused_of_lem e) ∙ ap refused_of k ∙ refused_of_lem f)

pub says_one : (r s : Result Text Refused) (o : Outcome) → Says r o → Says s o → r ≡ s
says_one r s o h k = says_one_lem r s (h.text ∙ sym k.text) (h.reason ∙ sym k.reason)

-- a text of at most n bytes either way
either : (n : ℕ) (b : Bool) (x y : Outcome) → length x.text ≤ n → length y.text ≤ n → length (pick b x y).text ≤ n
either n true x y h k = h
either n false x y h k = k

long_text : (t : Calendar.Day) → length (long_date t).text ≤ 8
unfolding long_date
long_text t = go (between 1 9999 t.year) refl
  where
    go : (b : Bool) → between 1 9999 t.year ≡ b → length (long_date t).text ≤ 8
    go true e = rw e (lit≤ tt)
    go false e = rw e (lit≤ tt)

short_text : (low high reason : ℕ) (t : Calendar.Day) → length (short_date low high reason t).text ≤ 8
unfolding short_date
short_text low high reason t = go (between low high t.year) refl
  where
    go : (b : Bool) → between low high t.year ≡ b → length (short_date low high reason t).text ≤ 8
    go true e = rw e (lit≤ tt)
    go false e = rw e (lit≤ tt)

short_clock_text : (n : ℕ) (max : Width) → length (short_clock n max).text ≤ 6
unfolding short_clock
short_clock_text n max =
    either 6 (or (eqb (n % 60) 0) (shorter max 6)) (gives (hours_minutes n)) (gives (hours_minutes_seconds n)) (lit≤ tt) (lit≤ tt)

pub date_length : (d : ℤ) (max : Width) → length (date_text d max).text ≤ 8
unfolding date_text
date_length d max =
    either 8 (near d) (day_text (civil_of d) max) (refuses 1)
    (either 8 (shorter max 8) (short_date 1950 2049 2 (civil_of d)) (long_date (civil_of d)) (short_text 1950 2049 2 (civil_of d)) (long_text (civil_of d)))
    (lit≤ tt)

pub envelope_date_length : (d : ℤ) (max : Width) → length (envelope_date d max).text ≤ 8
unfolding envelope_date
envelope_date_length d max = go (shorter max 8)
  where
    go : (b : Bool) → length (without_century b (date_text d None)).text ≤ 8
    go true = simp length-drop (omega (arith, date_length d None))
    go false = date_length d None

pub envelope_time_length : (s : ℤ) (max : Width) → length (envelope_time s max).text ≤ 6
unfolding envelope_time
envelope_time_length s max =
    either 6 (within_day s) (short_clock (nat_abs s) max) (refuses 3) (short_clock_text (nat_abs s) max) (lit≤ tt)
