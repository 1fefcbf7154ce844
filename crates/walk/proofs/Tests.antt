-- Tests over the numbers below n and over lists, as facts.
use Prim.Native.Nat.{ℕ, zero, suc, ◌+◌, ◌<◌}
use mathlib.Core.Path.{◌≡◌, refl, sym, ap, ◌∙◌}
use mathlib.Core.Bool.{Bool, true, false, not, ◌&&◌, ◌||◌, true≢false, false≢true}
use mathlib.Core.List.{List, [], ◌∷◌}
use native.Mathlib.Omega.{arith}
use native.Mathlib.Decide.{dec_lt}
use Rattle.std.specs.Prelude.{Option, None, Some}
use Rattle.std.proofs.lemmas.Option.{none-some, same_Some}
use lib.Dec.{eqb}
use borrow.Author.Tests.{eqb-true, eqb-false}
use Rattle.nest.specs.Lists.{once, times, All}
use Rattle.walk.specs.Check.{each_below, each_of, how_many, all_pass, if_there}
use Rattle.nest.proofs.Sums.{once_same}

pub both : (a b : Bool) → a && b ≡ true → (a ≡ true) × (b ≡ true)
both true b e = (refl, e)
both false b e = absurd (false≢true e)

pub and_true : (a b : Bool) → a ≡ true → b ≡ true → a && b ≡ true
and_true a b p q = rw p q

-- a condition on a test
pub if_then : (a b : Bool) → not a || b ≡ true → a ≡ true → b ≡ true
if_then true b e q = e
if_then false b e q = absurd (false≢true q)

pub then_if : (a b : Bool) → (a ≡ true → b ≡ true) → not a || b ≡ true
then_if true b f = f refl
then_if false b f = refl

pub there_is : (x : Option ℕ) (p : ℕ → Bool) → if_there x p ≡ true → (n : ℕ) → x ≡ Some n → p n ≡ true
there_is None p e n q = absurd (none-some n q)
there_is (Some m) p e n q = ap p (sym (same_Some m n q)) ∙ e

pub is_there_lem : (x : Option ℕ) (p : ℕ → Bool) → ((n : ℕ) → x ≡ Some n → p n ≡ true) → if_there x p ≡ true
is_there_lem None p f = refl
is_there_lem (Some m) p f = f m refl

pub below_true : (n : ℕ) (p : ℕ → Bool) → each_below n p ≡ true → (i : ℕ) → i < n → p i ≡ true
below_true zero p e i h = absurd (omega arith)
below_true (suc n) p e i h = go (eqb i n) refl (below_true n p (both (p n) (each_below n p) e).1 i)
  where
    go : (b : Bool) → eqb i n ≡ b → (i < n → p i ≡ true) → p i ≡ true
    go true q more = ap p (eqb-true i n q) ∙ (both (p n) (each_below n p) e).0
    go false q more = let d : i ≡ n → ⊥ = eqb-false i n q in more (omega arith)

pub true_below : (n : ℕ) (p : ℕ → Bool) → ((i : ℕ) → i < n → p i ≡ true) → each_below n p ≡ true
true_below zero p f = refl
true_below (suc n) p f = and_true (p n) (each_below n p) (f n (omega arith)) (true_below n p (λ i h. f i (omega arith)))

pub of_true : (xs : List ℕ) (p : ℕ → Bool) → each_of xs p ≡ true → (k : ℕ) → 0 < times k xs → p k ≡ true
of_true [] p e k h = absurd (omega arith)
of_true (x ∷ xs) p e k h = go (eqb x k) refl (of_true xs p (both (p x) (each_of xs p) e).1 k)
  where
    go : (b : Bool) → eqb x k ≡ b → (0 < times k xs → p k ≡ true) → p k ≡ true
    go true q more = ap p (sym (eqb-true x k q)) ∙ (both (p x) (each_of xs p) e).0
    go false q more = more (omega (arith, h, ap once q))

pub true_of : (xs : List ℕ) (p : ℕ → Bool) → ((k : ℕ) → 0 < times k xs → p k ≡ true) → each_of xs p ≡ true
true_of [] p f = refl
true_of (x ∷ xs) p f = and_true (p x) (each_of xs p) (f x (omega (arith, once_same x))) (true_of xs p (λ k h. f k (omega arith)))

-- ---- exactly one

many_zero : (n : ℕ) (p : ℕ → Bool) → ((k : ℕ) → k < n → p k ≡ false) → how_many n p ≡ 0
many_zero zero p f = refl
many_zero (suc n) p f = omega (arith, ap once (f n (omega arith)), many_zero n p (λ k h. f k (omega arith)))

zero_many : (n : ℕ) (p : ℕ → Bool) → how_many n p ≡ 0 → (k : ℕ) → k < n → p k ≡ true → ⊥
zero_many zero p e k h q = omega arith
zero_many (suc n) p e k h q = go (eqb k n) refl (zero_many n p (omega (arith, e)) k)
  where
    go : (b : Bool) → eqb k n ≡ b → (k < n → p k ≡ true → ⊥) → ⊥
    go true s more = omega (arith, e, ap once (ap p (sym (eqb-true k n s)) ∙ q))
    go false s more = let d : k ≡ n → ⊥ = eqb-false k n s in more (omega arith) q

pub record OneBelow (n : ℕ) (p : ℕ → Bool) : Type 0 where
  pub the : ℕ
  pub small : the < n
  pub has : p the ≡ true
  pub only : (k : ℕ) → k < n → p k ≡ true → k ≡ the

pub many_one : (n : ℕ) (p : ℕ → Bool) → how_many n p ≡ 1 → OneBelow n p
many_one zero p e = absurd (omega (arith, e))
many_one (suc n) p e = go (p n) refl (many_one n p)
  where
    go : (b : Bool) → p n ≡ b → (how_many n p ≡ 1 → OneBelow n p) → OneBelow (suc n) p
    go true q more = record { the = n; small = omega arith; has = q; only = only }
      where
        only : (k : ℕ) → k < suc n → p k ≡ true → k ≡ n
        only k h r = same (dec_lt k n)
          where
            same : Dec (k < n) → k ≡ n
            same (yes s) = absurd (zero_many n p (omega (arith, e, ap once q)) k s r)
            same (no s) = omega arith
    go false q more = keep (more (omega (arith, e, ap once q)))
      where
        keep : OneBelow n p → OneBelow (suc n) p
        keep O = record { the = O.the; small = omega (arith, O.small); has = O.has; only = only }
          where
            only : (k : ℕ) → k < suc n → p k ≡ true → k ≡ O.the
            only k h r = same (eqb k n) refl
              where
                same : (b : Bool) → eqb k n ≡ b → k ≡ O.the
                same true s = absurd (true≢false (sym r ∙ ap p (eqb-true k n s) ∙ q))
                same false s = let d : k ≡ n → ⊥ = eqb-false k n s in O.only k (omega arith) r

pub one_many : (n : ℕ) (p : ℕ → Bool) → OneBelow n p → how_many n p ≡ 1
one_many zero p O = absurd (omega (arith, O.small))
one_many (suc n) p O = go (p n) refl (one_many n p)
  where
    not_so : (k : ℕ) → (p k ≡ true → ⊥) → (b : Bool) → p k ≡ b → b ≡ false
    not_so k d true q = absurd (d q)
    not_so k d false q = refl

    go : (b : Bool) → p n ≡ b → (OneBelow n p → how_many n p ≡ 1) → once (p n) + how_many n p ≡ 1
    go true q more =
        let last : n ≡ O.the = O.only n (omega arith) q in
        omega (arith, ap once q, many_zero n p (λ k h. not_so k (λ r. omega (arith, h, O.only k (omega arith) r)) (p k) refl))
    go false q more =
        let other : O.the ≡ n → ⊥ = λ z. true≢false (sym O.has ∙ ap p z ∙ q) in
        omega (arith, ap once q, more (record { the = O.the; small = omega (arith, O.small); has = O.has; only = λ k h r. O.only k (omega arith) r }))

-- ---- a list of tests

pub tests_all : (bs : List Bool) → all_pass bs ≡ true → All (λ b. b ≡ true) bs
tests_all [] e = tt
tests_all (b ∷ bs) e = let p : (b ≡ true) × (all_pass bs ≡ true) = both b (all_pass bs) e in (p.0, tests_all bs p.1)

-- each of them passes, one after the other
infixr 5 ◌⨾◌
pub data Passed : List Bool → Type 0 where
  that_is_all : Passed []
  ◌⨾◌ : {b : Bool} {bs : List Bool} → b ≡ true → Passed bs → Passed (b ∷ bs)

pub all_tests : {bs : List Bool} → Passed bs → all_pass bs ≡ true
all_tests that_is_all = refl
all_tests (◌⨾◌ {b = b} {bs = bs} e h) = and_true b (all_pass bs) e (all_tests h)
