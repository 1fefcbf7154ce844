-- Laws of padding, one for each way through the code.
use Rattle.std.proofs.Common.{◌≡◌, ℕ, zero, suc, ◌-◌, ◌≤◌, Bool, true, false, cond, List, [], ◌∷◌, ◌++◌, length, replicate, sym, refl, subst, append_assoc, append-nil, nat_eq, arith, length-append, Some, None}
use Rattle.std.specs.Option.{unwrap_or, option_eq}
use lib.ListN.{length-replicate}
use Rattle.texts.specs.Reason.{Width}
use Rattle.texts.specs.Number.{count_text}
use Rattle.texts.specs.Pad.{is_at, zero_padded, space_padded, padded, control_text}

pub zeros_left : (min : Width) (len r : ℕ) (text : List ℕ) → r ≡ unwrap_or min 0 - len → length text ≡ len → replicate r 48 ++ text ≡ zero_padded min text
unfolding zero_padded
zeros_left None len r text h l = let z : r ≡ 0 = omega arith in rw z
zeros_left (Some least) len r text h l = rw (h, l)

pub zero_free_lem : (min : Width) (text : List ℕ) → min ≡ None → text ≡ zero_padded min text
unfolding zero_padded
zero_free_lem min text e = rw e

pub pad_number : (numeric : Bool) (min max : Width) (len r : ℕ) (text : List ℕ) → numeric ≡ true → r ≡ unwrap_or min 0 - len → length text ≡ len
    → replicate r 48 ++ (text ++ []) ≡ padded numeric min max text
unfolding padded
pad_number numeric min max len r text y h l = rw (y, append-nil) (zeros_left min len r text h l)

pub pad_fixed : (numeric : Bool) (min max : Width) (len r : ℕ) (text : List ℕ) → numeric ≡ false → option_eq nat_eq max min ≡ true → r ≡ unwrap_or min 0 - len → length text ≡ len
    → text ++ replicate r 32 ≡ padded numeric min max text
unfolding padded space_padded
pad_fixed numeric None max len r text y x h l = let z : r ≡ 0 = omega arith in rw (y, z) (append-nil text)
pad_fixed numeric (Some least) None len r text y x h l = cc
pad_fixed numeric (Some least) (Some most) len r text y x h l = rw (y, x, h, l)

pub pad_loose : (numeric : Bool) (min max : Width) (text : List ℕ) → numeric ≡ false → option_eq nat_eq max min ≡ false → text ++ [] ≡ padded numeric min max text
unfolding padded space_padded
pad_loose numeric None max text y x = rw (y, append-nil)
pad_loose numeric (Some least) None text y x = rw (y, append-nil)
pad_loose numeric (Some least) (Some most) text y x = rw (y, x, append-nil)

-- how long a padded text is at most
zeros_length : (min : Width) (text : List ℕ) (k : ℕ) → ((least : ℕ) → min ≡ Some least → least ≤ k) → length text ≤ k → length (zero_padded min text) ≤ k
unfolding zero_padded
zeros_length None text k h l = l
zeros_length (Some least) text k h l = simp (length-append, length-replicate) (omega (arith, h least refl))

spaces_length : (min max : Width) (text : List ℕ) (k : ℕ) → ((least : ℕ) → min ≡ Some least → least ≤ k) → length text ≤ k → length (space_padded min max text) ≤ k
unfolding space_padded
spaces_length None max text k h l = l
spaces_length (Some least) max text k h l = go (is_at max least)
  where
    go : (b : Bool) → length (cond b (text ++ replicate (least - length text) 32) text) ≤ k
    go true = simp (length-append, length-replicate) (omega (arith, h least refl))
    go false = l

pub padded_length : (numeric : Bool) (min max : Width) (text : List ℕ) (k : ℕ) → ((least : ℕ) → min ≡ Some least → least ≤ k) → length text ≤ k
    → length (padded numeric min max text) ≤ k
unfolding padded
padded_length true min max text k h l = zeros_length min text k h l
padded_length false min max text k h l = spaces_length min max text k h l

pub control_length : (number : ℕ) (min : Width) (k : ℕ) → ((least : ℕ) → min ≡ Some least → least ≤ k) → length (count_text number) ≤ k → length (control_text number min) ≤ k
unfolding control_text
control_length number min k h l = zeros_length min (count_text number) k h l

-- what holds of a text, and still holds with a zero in front or a space behind, holds of the padded text
module _ (Q : List ℕ → Type 0) (zeros : (t : List ℕ) → Q t → Q (48 ∷ t)) where
  zeros_have : (n : ℕ) (t : List ℕ) → Q t → Q (replicate n 48 ++ t)
  zeros_have zero t h = h
  zeros_have (suc n) t h = zeros _ (zeros_have n t h)

  pub zero_padded_has : (min : Width) (t : List ℕ) → Q t → Q (zero_padded min t)
  unfolding zero_padded
  zero_padded_has None t h = h
  zero_padded_has (Some least) t h = zeros_have (least - length t) t h

  spaces_have : (n : ℕ) (t : List ℕ) → ((s : List ℕ) → Q s → Q (s ++ (32 ∷ []))) → Q t → Q (t ++ replicate n 32)
  spaces_have zero t spaces h = subst Q (sym (append-nil t)) h
  spaces_have (suc n) t spaces h = subst Q (append_assoc t (32 ∷ []) (replicate n 32)) (spaces_have n (t ++ (32 ∷ [])) spaces (spaces t h))

  space_padded_has : (min max : Width) (t : List ℕ) → ((s : List ℕ) → Q s → Q (s ++ (32 ∷ []))) → Q t → Q (space_padded min max t)
  unfolding space_padded
  space_padded_has None max t spaces h = h
  space_padded_has (Some least) max t spaces h = go (is_at max least)
    where
      go : (b : Bool) → Q (cond b (t ++ replicate (least - length t) 32) t)
      go true = spaces_have (least - length t) t spaces h
      go false = h

  pub padded_has : (numeric : Bool) (min max : Width) (t : List ℕ) → ((s : List ℕ) → Q s → Q (s ++ (32 ∷ []))) → Q t → Q (padded numeric min max t)
  unfolding padded
  padded_has true min max t spaces h = zero_padded_has min t h
  padded_has false min max t spaces h = space_padded_has min max t spaces h
