-- What hangs on what: a row found exists, and a row one up is adrift as the row below it.
use Prim.Native.Nat.{ℕ, zero, suc, ◌+◌, ◌<◌}
use mathlib.Core.Path.{◌≡◌, refl, sym, ap, ◌∙◌, subst}
use mathlib.Core.Logic.{◌⊎◌, inl, inr}
use mathlib.Core.Bool.{Bool, true, false, not, ◌&&◌, false≢true}
use native.Mathlib.Omega.{arith}
use Rattle.std.specs.Prelude.{Option, None, Some}
use Rattle.std.specs.Option.{option_map}
use Rattle.std.proofs.lemmas.Option.{same_Some, none-some}
use lib.ListN.{length}
use lib.Dec.{ltb, eqb}
use borrow.Author.Tests.{ltb-true, lt-ltb}
use Rattle.nest.specs.Lists.{keep, first, from}
use Rattle.nest.specs.Outline.{Outline, table_of, table_parent, row_count, plain, repeated}
use Rattle.nest.specs.Nest.{has_keys, first_row, referred, Row, row_of, hangs, needs_parent, Adrift, it, above}

-- ---- a row found exists

first_kept : (p : ℕ → Bool) (n a o : ℕ) → first (keep p (from a n)) ≡ Some o → o < a + n
first_kept p zero a o e = absurd (none-some o e)
first_kept p (suc n) a o e = go (p a) refl (first_kept p n (suc a) o)
  where
    go : (b : Bool) → p a ≡ b → (first (keep p (from (suc a) n)) ≡ Some o → o < suc a + n) → o < a + suc n
    go true q more = omega (arith, same_Some a o (rw q at e))
    go false q more = omega (arith, more (rw q at e))

pub first_exists : (j : Outline) (u v o : ℕ) → first_row j u v ≡ Some o → o < row_count j u
unfolding first_row
first_exists j u v o e = go (has_keys j u) refl
  where
    go : (b : Bool) → has_keys j u ≡ b → o < row_count j u
    go true q = omega (arith, first_kept (λ o. eqb (j.key u o) v) (row_count j u) 0 o (rw q at e))
    go false q = absurd (none-some o (rw q at e))

pub referred_exists : (j : Outline) (t r u o : ℕ) → referred j t r u ≡ Some o → o < row_count j u
unfolding referred
referred_exists j t r u o e = go (j.reference t u r) refl
  where
    go : (x : Option ℕ) → j.reference t u r ≡ x → o < row_count j u
    go None q = absurd (none-some o (rw q at e))
    go (Some v) q = first_exists j u v o (rw q at e)

-- ---- tables with and without repeat segment

pub plain_in : (j : Outline) (t : ℕ) → plain j t ≡ true → t < length j.tables
unfolding plain
plain_in j t e = go (ltb t (length j.tables)) refl
  where
    go : (b : Bool) → ltb t (length j.tables) ≡ b → t < length j.tables
    go true q = ltb-true t (length j.tables) q
    go false q = absurd (false≢true (rw q at e))

pub plain_not : (j : Outline) (t : ℕ) → plain j t ≡ true → repeated j t ≡ false
unfolding plain repeated
plain_not j t e = go (ltb t (length j.tables)) (table_of j t).repeats e
  where
    go : (b s : Bool) → b && not s ≡ true → b && s ≡ false
    go true true q = sym q
    go true false q = refl
    go false s q = refl

pub plain_or : (j : Outline) (t : ℕ) → t < length j.tables → (plain j t ≡ true) ⊎ (repeated j t ≡ true)
unfolding plain repeated
plain_or j t h = go (table_of j t).repeats (ltb t (length j.tables)) (lt-ltb t (length j.tables) h)
  where
    go : (s b : Bool) → b ≡ true → (b && not s ≡ true) ⊎ (b && s ≡ true)
    go true b q = inr (rw q)
    go false b q = inl (rw q)

-- ---- adrift, one row up

pub hangs_parent : (j : Outline) (t r u : ℕ) → plain j t ≡ true → table_parent j t ≡ Some u → hangs j t r ≡ option_map (row_of u) (referred j t r u)
unfolding hangs
hangs_parent j t r u e q = rw (plain_not j t e, q)

pub adrift_up : (j : Outline) (t r : ℕ) (a : Row) → hangs j t r ≡ Some a → Adrift j t r → Adrift j a.table a.row
adrift_up j t r a e (it lacks) = absurd (none-some a (sym lacks.none_there ∙ e))
adrift_up j t r a e (above {a = b} q more) = subst (λ z. Adrift j z.table z.row) (same_Some b a (sym q ∙ e)) more

pub adrift_here : (j : Outline) (t r u : ℕ) → plain j t ≡ true → table_parent j t ≡ Some u → referred j t r u ≡ None → Adrift j t r
unfolding needs_parent
adrift_here j t r u e q z =
    let must : needs_parent j t ≡ true = rw (plain_not j t e, q) in
    it (record { needs = must; none_there = hangs_parent j t r u e q ∙ ap (option_map (row_of u)) z })

pub not_adrift : (j : Outline) (t r : ℕ) → plain j t ≡ true → table_parent j t ≡ None → Adrift j t r → ⊥
unfolding needs_parent hangs
not_adrift j t r e q (it lacks) = false≢true (rw (plain_not j t e, q) at lacks.needs)
not_adrift j t r e q (above {a = a} h more) = none-some a (rw (plain_not j t e, q) at h)
