-- Texts of cells as code makes them.
use Prim.Native.Nat.{ℕ, ◌+◌, ◌-◌, ◌*◌, ◌^◌, ◌≤◌}
use mathlib.Core.Path.{◌≡◌, refl, sym, ap, ◌∙◌}
use mathlib.Core.Bool.{Bool}
use mathlib.Core.List.{List, [], ◌++◌, append_assoc, append-nil}
use native.Mathlib.Nat.{mul_comm}
use lib.IntN.{ℤ}
use lib.ListN.{length, take, replicate, length-append}
use lib.Seq.{take-append_seam, take-length}
use mir.Syntax.{Width}
use mir.Val.{SFits, to_z, of_z}
use mir.Facts.{to_z-of_z}
use Rattle.segment.specs.declared.Pen.{Pen}
use Rattle.segment.specs.declared.Separators.{Separators}
use Rattle.segment.specs.declared.Value.{Value}
use Rattle.segment.specs.Pen.{placed, Penned}
use Rattle.segment.specs.Values.{value_text}
use Rattle.std.specs.Prelude as Rust
use Rattle.std.specs.Prelude.{Result, Ok, Err}
use Rattle.std.specs.Result.{result_err, result_unwrap_or}
use Rattle.texts.specs.declared.Text.{Text}
use Rattle.texts.specs.declared.render.Refused.{Refused}
use Rattle.texts.specs.Held.{held}
use Rattle.texts.proofs.Texts.{len_is, held_take}
use Rattle.texts.specs.Reason.{Width as Room, Outcome}
use Rattle.texts.specs.Said.{text_of, why_of, why_in, Says}
use Rattle.texts.specs.Number.{count_text}
use Rattle.texts.specs.Pad.{padded, zero_padded, control_text}
use Rattle.lent.specs.Window.{stretch}
use Rattle.emit.specs.Written.{Writes}

-- a text, empty where it is refused
pub text_or : (r : Result Text Refused) (t : Text) → t ≡ held [] → result_unwrap_or r t ≡ text_of r
text_or (Ok x) t e = refl
text_or (Err w) t e = e

-- a text of its own, with the reason where there is none
pub why_err : (r : Result Text Refused) → why_in (result_err r) ≡ why_of r
why_err (Ok t) = refl
why_err (Err w) = refl

pub writes_own : {job : List ℕ} {v : Value} {e : Rust.Option Refused} (r : Result Text Refused) (o : Outcome) → value_text job v ≡ take (text_of r).len (text_of r).bytes → e ≡ result_err r
    → Says r o → Writes job (record { value = v; reason = e }) o
unfolding held
writes_own r o e q s = record {
  text = e ∙ rw s.text (take-append_seam o.text (replicate (48 - length o.text) 0));
  reason = ap why_in q ∙ why_err r ∙ s.reason;
}

pub said_few : {t : Text} (r : Result Text Refused) (o : Outcome) → t ≡ text_of r → Says r o → length o.text ≤ 48 → t.len ≤ 48
unfolding held
said_few {t} r o e s h = let z : t ≡ text_of r = e in rw (z, s.text) h

-- the halves of a number
pub halves : (lo hi : ℕ) → lo + hi * 2 ^ 64 ≡ lo + 18446744073709551616 * hi
halves lo hi = ap (λ (n : ℕ). lo + n) (mul_comm hi 18446744073709551616)

-- a signed number, as it is read back from its bits
pub back : {w : Width} {z y : ℤ} → SFits w z → z ≡ y → to_z w (of_z w z) ≡ y
back f e = to_z-of_z f ∙ e

-- ---- the envelope

pub held_text : (t : Text) (x : List ℕ) → t ≡ held x → take t.len t.bytes ≡ x
held_text t x h = rw h (held_take x)

-- a text of its own is written as a stretch of its bytes
pub text_part : {r : Pen} {d d₁ : List ℕ} (s : Separators) (pen : Pen) (p c : ℕ) (t : Text) (x own : List ℕ) → t ≡ held x → own ≡ take t.len t.bytes → Penned (placed s pen p c (take (length own) own)) pen.at r d d₁
    → Penned (placed s pen p c x) pen.at r d d₁
text_part s pen p c t x own h e w = rw (take-length, e, held_text t x h) at w

pub control_text_lem : (job : List ℕ) (t : Text) (number zeros : ℕ) (min : Room) → t ≡ held (count_text number)
    → ((text : List ℕ) → length text ≡ t.len → replicate zeros 48 ++ text ≡ zero_padded min text)
    → value_text job (record { zeros = zeros; bytes = t.bytes; count = t.len; start = 0; len = 0; spaces = 0 }) ≡ control_text number min
unfolding value_text control_text
control_text_lem job t number zeros min h p = rw (append-nil (take t.len t.bytes), held_text t (count_text number) h) (p (count_text number) (sym (len_is t (count_text number) h)))

pub padded_text : (job : List ℕ) (v : Value) (numeric : Bool) (min : Room) (max : Room) {own held : ℕ} → own ≡ length (take v.count v.bytes) → held ≡ length (stretch job v.start v.len)
    → ((text : List ℕ) → length text ≡ own + held → replicate v.zeros 48 ++ (text ++ replicate v.spaces 32) ≡ padded numeric min max text)
    → value_text job v ≡ padded numeric min max (take v.count v.bytes ++ stretch job v.start v.len)
unfolding value_text
padded_text job v numeric min max e f p =
    let o = take v.count v.bytes in
    let s = stretch job v.start v.len in
    rw (← append_assoc o s (replicate v.spaces 32)) (p (o ++ s) (length-append o s ∙ rw (← e, ← f) refl))
