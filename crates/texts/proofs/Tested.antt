-- Tests that antt computes, over all numbers below one, and the rule at each.
use Rattle.std.proofs.Common.{ℕ, zero, suc, ◌<◌, ◌≤◌, Bool, true, false, T, sym, subst, ⊎_elim, eq-or-lt_of_le, arith}
use Rattle.texts.specs.Calendar.{and}

-- p holds of each number below n
unfoldable pub below : ℕ → (ℕ → Bool) → Bool
below zero p = true
below (suc n) p = and (p n) (below n p)

pub both : (t u : Bool) → T (and t u) → T t × T u
both true u h = (tt, h)
both false u h = absurd h

pub below_at : (n : ℕ) (p : ℕ → Bool) → T (below n p) → (k : ℕ) → k < n → T (p k)
unfolding below
below_at zero p h k q = let z : ◌≤◌ 1 0 = omega arith in absurd (omega arith)
below_at (suc n) p h k q =
    let b : T (p n) × T (below n p) = both (p n) (below n p) h in
    let q' : k ≤ n = omega arith in
    let rest : k < n → T (p k) = below_at n p b.1 k in
    ⊎_elim (λ e. subst (λ (j : ℕ). T (p j)) (sym e) b.0) rest (eq-or-lt_of_le q')
