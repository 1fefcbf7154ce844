-- Laws of signed texts, one for each way through the code.
use Rattle.std.proofs.Common.{◌≡◌, ℕ, suc, ◌+◌, ◌-◌, ◌*◌, ◌/◌, ◌^◌, ◌<◌, ◌≤◌, true, false, ◌++◌, ℤ, pos, negsuc, nat_abs, refl, ap, ◌∙◌, append-nil, div-one, arith, le-ltb}
use lib.Signed.{lt_z}
use Rattle.texts.specs.Wide.{signed128}
use Rattle.texts.specs.Number.{figures, trimmed, count_text, int_text, fixed_text, decimal_text, minus}
use Rattle.texts.proofs.Halves.{below_half, from_half}
use Rattle.texts.proofs.Integers.{signed_plain, signed_below}

-- without places behind the point a number is a whole number
pub fixed_whole : (n : ℕ) → fixed_text n 0 ≡ count_text n
unfolding fixed_text trimmed figures
fixed_whole n = append-nil (count_text (n / 1)) ∙ ap count_text (div-one n)

pub int_is : (z : ℤ) (n : ℕ) → n ≡ nat_abs z → minus (lt_z z (pos 0)) ++ count_text n ≡ int_text z
unfolding int_text
int_is (pos m) n e = let h : 0 ≤ m = omega arith in rw (e, le-ltb m 0 h) refl
int_is (negsuc m) n e = rw e refl

pub decimal_plus : (lo hi s : ℕ) → lo < 2 ^ 64 → hi < 2 ^ 63 → minus false ++ fixed_text (lo + hi * 2 ^ 64) s ≡ decimal_text (signed128 (lo + hi * 2 ^ 64)) s
unfolding decimal_text
decimal_plus lo hi s h k = rw (signed_plain (2 ^ 127) (lo + hi * 2 ^ 64) (below_half (2 ^ 64) (2 ^ 63) lo hi h k))

complement : (B r v : ℕ) → v < B → r + v ≡ B → suc (B - 1 - v) ≡ r
complement B r v h e = omega arith

pub decimal_minus : (lo hi r s : ℕ) → lo < 2 ^ 64 → hi < 2 ^ 64 → 2 ^ 63 ≤ hi → r + (lo + hi * 2 ^ 64) ≡ 2 ^ 128
    → minus true ++ fixed_text r s ≡ decimal_text (signed128 (lo + hi * 2 ^ 64)) s
unfolding decimal_text
decimal_minus lo hi r s h k m e =
    rw (signed_below (2 ^ 127) (lo + hi * 2 ^ 64) (from_half (2 ^ 64) (2 ^ 63) lo hi m), complement (2 ^ 128) r (lo + hi * 2 ^ 64) (below_half (2 ^ 64) (2 ^ 64) lo hi h k) e)
