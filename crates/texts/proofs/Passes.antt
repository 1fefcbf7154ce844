-- Laws of the passes over a number's digits.
use Rattle.std.proofs.Common.{◌≡◌, ℕ, zero, suc, ◌+◌, ◌-◌, ◌/◌, ◌%◌, ◌^◌, ◌<◌, ◌≤◌, max, Bool, true, false, ltb, List, [], ◌∷◌, ◌++◌, length, get_or, set, replicate, sym, refl, ap, ◌∙◌, subst, ap₂, append_assoc, add-zero, div-one, add-one, arith, lit<, length-append, length-set, get_or-set_other, get_or-set_same, below_more, ltb-false, ltb-true}
use native.Mathlib.Nat.{div-eq_of_lt}
use lib.ListN.{get_or-replicate}
use lib.Seq.{sets}
use Rattle.texts.specs.declared.Text.{Text}
use Rattle.texts.specs.Held.{held, added}
use Rattle.texts.specs.declared.number.Places.{Places}
use Rattle.texts.specs.Number.{digit, figures, fixed_text, minus}
use Rattle.texts.specs.Digits.{down, Written, FirstFilled}
use Rattle.texts.proofs.Texts.{added_held}
use Rattle.texts.proofs.Numbers.{ten_below, below_power_back, next_place, above, digit_shifted, figures_length, fixed_plain, fixed_point}

-- one place more
pub down_more : (places : List ℕ) (low i : ℕ) → low < i → down places low (i - low) ≡ get_or places (i - 1) 0 ∷ down places low (i - 1 - low)
unfolding down
down_more places low i h =
    let e : i - low ≡ suc (i - 1 - low) = omega arith in
    let f : low + (i - 1 - low) ≡ i - 1 = omega arith in
    rw (e, f)

pub down_length : (places : List ℕ) (low k : ℕ) → length (down places low k) ≡ k
unfolding down
down_length places low zero = refl
down_length places low (suc k) = ap suc (down_length places low k)

pub down_next : (places bytes bytes₀ : List ℕ) (low top len len₀ i : ℕ) → low < i
    → sets bytes₀ len₀ (down places low (top - low)) ≡ sets bytes len (down places low (i - low))
    → sets bytes₀ len₀ (down places low (top - low)) ≡ sets (set bytes len (get_or places (i - 1) 0)) (len + 1) (down places low (i - 1 - low))
down_next places bytes bytes₀ low top len len₀ i h e =
    e ∙ ap (λ (d : List ℕ). sets bytes len d) (down_more places low i h) ∙ ap (λ (k : ℕ). sets (set bytes len (get_or places (i - 1) 0)) k (down places low (i - 1 - low))) (sym (add-one len))

pub down_done : (t : Text) (places bytes : List ℕ) (low top len i : ℕ) → i ≤ low → low ≤ top → len + (i - low) ≡ t.len + (top - low)
    → sets t.bytes t.len (down places low (top - low)) ≡ sets bytes len (down places low (i - low))
    → ◌≡◌ {A = Text} (record { bytes = bytes; len = len }) (added t (down places low (top - low)))
unfolding added down
down_done t places bytes low top len i h k l e =
    let z : i - low ≡ 0 = omega arith in
    let n : len ≡ t.len + length (down places low (top - low)) = rw down_length (omega arith) in
    ap₂ (λ (b : List ℕ) (m : ℕ). record { bytes = b; len = m }) (sym (e ∙ ap (λ (m : ℕ). sets bytes len (down places low m)) z)) n

-- the digits of n found so far: `count` of them, and `rest` is what is left to divide
pub record Found (n : ℕ) (bytes : List ℕ) (count rest : ℕ) : Type 0 where
  pub left : rest ≡ n / 10 ^ count
  pub at : (i : ℕ) → i < count → get_or bytes i 0 ≡ 48 + digit n i
  pub zeros : (i : ℕ) → count ≤ i → i < 48 → get_or bytes i 0 ≡ 48
  pub full : length bytes ≡ 48
  pub few : count ≤ 39
  pub least : (k : ℕ) → n < 10 ^ k → count ≤ k

pub found_none : (n : ℕ) → Found n (replicate 48 48) 0 n
found_none n = record {
  left = sym (div-one n);
  at = λ i h. absurd (omega arith);
  zeros = λ i h l. get_or-replicate 48 i 48 0 l;
  full = refl;
  few = omega arith;
  least = λ k h. omega arith;
}

-- what is left to divide shows how many digits there are at least
reached : (n count : ℕ) → 0 < n / 10 ^ count → 10 ^ count ≤ n
reached n count h = go (ltb n (10 ^ count)) refl
  where
    go : (t : Bool) → ltb n (10 ^ count) ≡ t → 10 ^ count ≤ n
    go true e = let z : n / 10 ^ count ≡ 0 = div-eq_of_lt (ltb-true _ _ e) in absurd (omega arith)
    go false e = ltb-false _ _ e

finished : (n count : ℕ) → n / 10 ^ count ≡ 0 → n < 10 ^ count
finished n count z = subst (λ (k : ℕ). n < 10 ^ k) (add-zero count) (below_power_back n count 0 (rw z (lit< tt)))

pub found_room : (n : ℕ) (bytes : List ℕ) (count rest : ℕ) → n < 10 ^ 39 → Found n bytes count rest → 0 < rest → count < 39
found_room n bytes count rest small f h = ten_below n count 39 (reached n count (rw (← f.left) h)) small

pub found_more : (n : ℕ) (bytes : List ℕ) (count rest q figure : ℕ) → n < 10 ^ 39 → Found n bytes count rest → 0 < rest
    → q ≡ rest / 10 → figure ≡ 48 + rest % 10 → Found n (set bytes count figure) (count + 1) q
found_more n bytes count rest q figure small f h hq hf =
    let room : count < 39 = found_room n bytes count rest small f h in
    let inside : count < length bytes = rw f.full (omega arith) in
    record {
      left = hq ∙ ap (λ (x : ℕ). x / 10) f.left ∙ next_place n count;
      at = below_more (λ (i : ℕ). get_or (set bytes count figure) i 0 ≡ 48 + digit n i) count
          (λ i l. get_or-set_other bytes count i figure 0 (λ e. absurd (omega arith)) ∙ f.at i l)
          (get_or-set_same bytes count figure 0 inside ∙ hf ∙ ap (λ (x : ℕ). 48 + x % 10) f.left);
      zeros = λ i l m. get_or-set_other bytes count i figure 0 (λ e. absurd (omega arith)) ∙ f.zeros i (omega arith) m;
      full = length-set bytes count figure ∙ f.full;
      few = omega arith;
      least = λ k l. omega (arith, ten_below n count k (reached n count (rw (← f.left) h)) l);
    }

pub found_all : (n : ℕ) (bytes : List ℕ) (count rest : ℕ) → Found n bytes count rest → rest ≡ 0 → Written n (record { bytes = bytes; count = count })
found_all n bytes count rest f z =
    let all : n < 10 ^ count = finished n count (sym f.left ∙ z) in
    record {
      at = λ i l. either (ltb i count) i l refl all;
      few = f.few;
      all = all;
      least = f.least;
    }
  where
    either : (t : Bool) (i : ℕ) → i < 48 → ltb i count ≡ t → n < 10 ^ count → get_or bytes i 0 ≡ 48 + digit n i
    either true i l e all = f.at i (ltb-true _ _ e)
    either false i l e all =
        let k : count ≤ i = ltb-false _ _ e in
        f.zeros i k l ∙ ap (λ (d : ℕ). 48 + d) (sym (above n count i all k))

-- places in a row are the digits of the number from there on
pub down_figures : (n : ℕ) (places : List ℕ) (low k : ℕ) → ((i : ℕ) → i < 48 → get_or places i 0 ≡ 48 + digit n i) → low + k ≤ 48 → down places low k ≡ figures k (n / 10 ^ low)
unfolding down figures
down_figures n places low zero at h = refl
down_figures n places low (suc k) at h =
    ap₂ (λ (d : ℕ) (ds : List ℕ). d ∷ ds) (at (low + k) (omega arith) ∙ ap (λ (d : ℕ). 48 + d) (sym (digit_shifted n low k))) (down_figures n places low k at (omega arith))

-- a digit that stands as a zero is 0
digit_none : (n i : ℕ) (p : Places) → Written n p → i < 48 → get_or p.bytes i 0 ≡ 48 → digit n i ≡ 0
digit_none n i p w h z = let e : get_or p.bytes i 0 ≡ 48 + digit n i = w.at i h in omega arith

pub minus_short : (b : Bool) → length (minus b) ≤ 1
minus_short true = omega arith
minus_short false = omega arith

-- the text in one piece, and with a fraction
module _ (n scale top low : ℕ) (p : Places) (s : List ℕ) (t w : Text) (written : Written n p) (found : FirstFilled p.bytes scale low) (small : scale ≤ 38) (short : length s ≤ 1)
    (top-is : top ≡ max p.count (scale + 1)) (t-is : t ≡ held s) (w-is : w ≡ added t (down p.bytes scale (top - scale))) where
  whole : List ℕ
  whole = figures (max p.count (scale + 1) - scale) (n / 10 ^ scale)

  whole_length_lem : length whole + scale ≤ 39
  unfolding whole
  whole_length_lem = rw figures_length (omega (arith, written.few))

  whole_text : w ≡ held (s ++ whole)
  unfolding whole
  whole_text =
      w-is ∙ ap₂ added t-is (ap (λ (k : ℕ). down p.bytes scale (k - scale)) top-is ∙ down_figures n p.bytes scale _ written.at (omega (arith, written.few)))
      ∙ added_held s whole (omega (arith, whole_length_lem))

  pub text_plain : low ≡ scale → w ≡ held (s ++ fixed_text n scale)
  unfolding whole
  text_plain e =
      whole_text ∙ ap (λ (x : List ℕ). held (s ++ x))
      (sym (fixed_plain n scale p.count written.all written.least (λ i h. digit_none n i p written (omega arith) (found.zeros i (omega arith)))))

  pub text_pointed : (v r : Text) → (low ≡ scale → ⊥) → v ≡ added w (46 ∷ []) → r ≡ added v (down p.bytes low (scale - low)) → r ≡ held (s ++ fixed_text n scale)
  unfolding whole
  text_pointed v r e v-is r-is =
      let l : low < scale = omega (arith, found.within) in
      let part : List ℕ = figures (scale - low) (n / 10 ^ low) in
      let size : length part ≡ scale - low = figures_length (scale - low) (n / 10 ^ low) in
      let behind : length (s ++ whole) ≡ length s + length whole = length-append s whole in
      let point : length ((s ++ whole) ++ (46 ∷ [])) ≡ length (s ++ whole) + 1 = length-append (s ++ whole) (46 ∷ []) in
      r-is
      ∙ ap₂ added
      (v-is ∙ ap (λ (x : Text). added x (46 ∷ [])) whole_text ∙ added_held (s ++ whole) (46 ∷ []) (omega (arith, whole_length_lem)))
      (down_figures n p.bytes low (scale - low) written.at (omega arith))
      ∙ added_held ((s ++ whole) ++ (46 ∷ [])) part (omega (arith, whole_length_lem))
      ∙ ap held (append_assoc (s ++ whole) (46 ∷ []) part ∙ append_assoc s whole (46 ∷ part))
      ∙ ap (λ (x : List ℕ). held (s ++ x)) (sym (fixed_point n scale p.count low written.all written.least l
      (λ i h. digit_none n i p written (omega arith) (found.zeros i h))
      (λ z. found.filled l (written.at low (omega arith) ∙ ap (λ (d : ℕ). 48 + d) z))))
