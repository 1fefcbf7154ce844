-- Laws of signed numbers, over the width: two's complement.
use Rattle.std.proofs.Common.{◌≡◌, ℕ, ◌+◌, ◌-◌, ◌^◌, ◌<◌, ◌≤◌, Bool, true, false, ltb, pos, negsuc, refl, ap, arith, to_z, le-ltb, lt-ltb}
use mir.Syntax.{Width}
use mir.Val.{bits, hbits}
use Rattle.texts.specs.Wide.{signed}

-- the number that bits stand for
pub signed_plain : (half n : ℕ) → n < half → signed half n ≡ pos n
unfolding signed
signed_plain half n h = simp (lt-ltb n half h)

pub signed_below : (half n : ℕ) → half ≤ n → signed half n ≡ negsuc (half + half - 1 - n)
unfolding signed
signed_below half n h = simp (le-ltb n half h)

-- the number that the bits of n hold
pub cast_is : (w : Width) (n : ℕ) → 2 ^ bits w ≡ 2 ^ hbits w + 2 ^ hbits w → to_z w n ≡ signed (2 ^ hbits w) n
unfolding signed
cast_is w n e = go (ltb n (2 ^ hbits w)) refl
  where
    go : (t : Bool) → ltb n (2 ^ hbits w) ≡ t → to_z w n ≡ signed (2 ^ hbits w) n
    go true h = rw h refl
    go false h = rw (h, e) (ap negsuc (omega arith))
