-- From the date of a day to what `civil_from_days` computes: the day is shifted to the first of March of the year 0, and divided by an era's days.
use Rattle.std.proofs.Common.{◌≡◌, ℕ, suc, ◌+◌, ◌<◌, Bool, true, false, leb, ltb, ℤ, pos, negsuc, ◌+ℤ◌, ◌*ℤ◌, sym, refl, ap, ◌∙◌, ap₂, subst, arith, to_z-of_z, w32, SFits, le-leb, leb-true, Some, None}
use lib.IntN.{sub_ℕ}
use lib.Signed.{le_z, mag}
use Rattle.std.specs.Int.{int_div_euclid, int_rem_euclid}
use Rattle.texts.proofs.Floor.{floor_div, floor_rem}
use Rattle.texts.specs.Calendar.{Day, day_of}
use Rattle.texts.specs.Dated.{dated, civil_from, from_march}
use Rattle.texts.proofs.Sums.{Back}
use Rattle.texts.proofs.Dates.{later, civil_later}

fits_le : (z : ℤ) → SFits w32 z → le_z z (pos 2147483647) ≡ true
fits_le (pos n) f = le-leb n 2147483647 (omega (arith, f.sfits))
fits_le (negsuc n) f = refl

down : (n : ℕ) → n < 2147483648 → mag (sub_ℕ 719468 (suc n)) < 2147483648
down n h = go (ltb 719468 (suc n)) refl
  where
    go : (t : Bool) → ltb 719468 (suc n) ≡ t → mag (sub_ℕ 719468 (suc n)) < 2147483648
    go true e = rw e (omega arith)
    go false e = rw e (omega arith)

pub beyond : (d : ℤ) → SFits w32 d → (SFits w32 (Back d +ℤ pos 719468) → ⊥) → None ≡ civil_from d
unfolding civil_from
beyond d f h = go d f (rw (to_z-of_z f) at h)
  where
    go : (d : ℤ) → SFits w32 d → (SFits w32 (d +ℤ pos 719468) → ⊥) → None ≡ civil_from d
    go (pos n) f h = either (leb (n + 719468) 2147483647) refl
      where
        either : (t : Bool) → leb (n + 719468) 2147483647 ≡ t → None ≡ civil_from (pos n)
        either true e = absurd (h (record { sfits = omega (arith, leb-true _ _ e) }))
        either false e = simp e
    go (negsuc n) f h = absurd (h (record { sfits = down n f.sfits }))

-- the library divides the same way
pub euclid_div : (z : ℤ) (k : ℕ) → int_div_euclid z (pos k) ≡ floor_div z k
euclid_div (pos n) k = refl
euclid_div (negsuc n) k = refl

pub euclid_rem : (z : ℤ) (k : ℕ) → int_rem_euclid z (pos k) ≡ pos (floor_rem z k)
euclid_rem (pos n) k = refl
euclid_rem (negsuc n) k = refl

-- s is the shifted day, q and e are its era and the day of that, y, m and n the date of that day of the first era
pub civil_done : (d s q y : ℤ) (e m n : ℕ) → SFits w32 d → SFits w32 (Back d +ℤ pos 719468) → s ≡ Back d +ℤ pos 719468
    → q ≡ floor_div (Back s) 146097 → e ≡ floor_rem (Back s) 146097 → day_of y m n ≡ from_march e
    → SFits w32 q → SFits w32 (Back q *ℤ pos 400) → SFits w32 y → SFits w32 (Back (Back q *ℤ pos 400) +ℤ Back y)
    → Some (record { year = Back (Back (Back q *ℤ pos 400) +ℤ Back y); month = m; day = n }) ≡ civil_from d
unfolding civil_from
civil_done d s q y e m n f g hs hq he hd fq fp fy fr =
    let x : Back d +ℤ pos 719468 ≡ d +ℤ pos 719468 = ap (λ (z : ℤ). z +ℤ pos 719468) (to_z-of_z f) in
    let b : Back s ≡ d +ℤ pos 719468 = ap Back hs ∙ to_z-of_z g ∙ x in
    let p : Back (Back (Back q *ℤ pos 400) +ℤ Back y) ≡ floor_div (d +ℤ pos 719468) 146097 *ℤ pos 400 +ℤ y =
    to_z-of_z fr
    ∙ ap₂ (λ (z w : ℤ). z +ℤ w) (to_z-of_z fp ∙ ap (λ (z : ℤ). z *ℤ pos 400) (to_z-of_z fq ∙ hq ∙ ap (λ (z : ℤ). floor_div z 146097) b)) (to_z-of_z fy) in
    let k : from_march e ≡ from_march (floor_rem (d +ℤ pos 719468) 146097) = ap from_march (he ∙ ap (λ (z : ℤ). floor_rem z 146097) b) in
    simp (fits_le _ (subst (SFits w32) x g)) (ap (λ (z : ℤ). Some (record { year = z; month = m; day = n })) p ∙ ap (λ (t : Day). Some (dated t)) (ap (later (floor_div (d +ℤ pos 719468) 146097)) (hd ∙ k) ∙ sym (civil_later d)))
