-- What refusal 5 leaves: the separators differ and are no letters, digits, spaces, minus signs or points; identifiers are not empty and hold none of them.
use Prim.Native.Nat.{ℕ, ◌≤◌, ◌<◌}
use mathlib.Core.Path.{◌≡◌, refl, sym, ap, ◌∙◌, subst}
use mathlib.Core.Logic.{◌≢◌}
use mathlib.Core.Bool.{Bool, true, false, false≢true}
use mathlib.Core.List.{List, [], ◌∷◌, ◌++◌}
use native.Mathlib.Omega.{arith}
use native.Mathlib.Nat.{not-suc-le-zero}
use native.Mathlib.Decide.{dec_lt}
use Rattle.std.specs.Prelude.{Some}
use Rattle.std.proofs.lemmas.Option.{none-some}
use lib.ListN.{length, get_or, get_or-eq_default}
use lib.Dec.{eqb}
use borrow.Author.Tests.{eq-eqb}
use Rattle.codec.specs.Codec.{pick}
use Rattle.codec.specs.Limits.{any}
use Rattle.codec.proofs.Limits.{none_of, none_in}
use Rattle.format.specs.Words.{all_of, member_of, repeats, between}
use Rattle.format.proofs.Words.{none_some}
use Rattle.format.specs.Spec.{Control, Loop, no_loop}
use Rattle.format.specs.Job.{Job}
use Rattle.format.specs.Ask.{loop_of}
use Rattle.format.specs.Refusal.{upper, digit, textual, separators, identifier, unnamed, unfit_loop, unfit_spec, unfit}
use Rattle.segment.specs.Grammar.{Without, Plain, Apart}
use Rattle.nest.specs.Lists.{All}
use Rattle.nest.proofs.Alls.{all_append, all_weaker}
use Rattle.emit.specs.Fold.{separators_of}
use Rattle.emit.proofs.Plain.{Textual, upper_textual, digit_textual, no_repeats, not_textual}
use Rattle.complete.specs.Complete.{Clear, Pairs}
use Rattle.lossless.specs.Separators.{holds_separator}
use Rattle.std.proofs.lemmas.Bool.{not-false}
use Rattle.lossless.proofs.Words.{none_all}

-- ---- texts that hold none

without : (b : ℕ) (text : List ℕ) → member_of b text ≡ false → Without b text
unfolding member_of
without b [] h = tt
without b (x ∷ xs) h = go (eqb b x) refl h (without b xs)
  where
    go : (t : Bool) → eqb b x ≡ t → pick t true (member_of b xs) ≡ false → (member_of b xs ≡ false → Without b xs) → (x ≢ b) × Without b xs
    go true e h ih = absurd (false≢true (sym h))
    go false e h ih = (λ q. false≢true (sym e ∙ eq-eqb b x (sym q)), ih h)

-- a text without any separator
pub held_not : (j : Job) (text : List ℕ) → holds_separator j text ≡ false → Clear j text
unfolding separators
held_not j text h =
    let m = none_all (λ b. member_of b text) (separators j.envelope) h in
    record { no_element = without _ text m.0; no_component = without _ text m.1.0; no_segment = without _ text m.1.1.0 }

pub clear_plain : (j : Job) (text : List ℕ) → Clear j text → Plain (separators_of j) text
clear_plain j text c = record { no_element = c.no_element; no_segment = c.no_segment }

pub plain_append : (j : Job) (a b : List ℕ) → Plain (separators_of j) a → Plain (separators_of j) b → Plain (separators_of j) (a ++ b)
plain_append j a b p q = record { no_element = all_append _ a b p.no_element q.no_element; no_segment = all_append _ a b p.no_segment q.no_segment }

-- ---- the separators

apart_all : (x : ℕ) (ys : List ℕ) → member_of x ys ≡ false → All (λ y. x ≢ y) ys
unfolding member_of
apart_all x [] h = tt
apart_all x (y ∷ ys) h = go (eqb x y) refl h (apart_all x ys)
  where
    go : (t : Bool) → eqb x y ≡ t → pick t true (member_of x ys) ≡ false → (member_of x ys ≡ false → All (λ z. x ≢ z) ys) → (x ≢ y) × All (λ z. x ≢ z) ys
    go true e h ih = absurd (false≢true (sym h))
    go false e h ih = (λ q. false≢true (sym e ∙ eq-eqb x y q), ih h)

repeats_apart : (xs : List ℕ) → repeats xs ≡ false → Pairs (λ x y. x ≢ y) xs
unfolding repeats
repeats_apart [] h = tt
repeats_apart (x ∷ xs) h = go (member_of x xs) refl h (repeats_apart xs)
  where
    go : (t : Bool) → member_of x xs ≡ t → pick t true (repeats xs) ≡ false → (repeats xs ≡ false → Pairs (λ x y. x ≢ y) xs) → All (λ y. x ≢ y) xs × Pairs (λ x y. x ≢ y) xs
    go true e h ih = absurd (false≢true (sym h))
    go false e h ih = (apart_all x xs e, ih h)

letters_textual : (xs : List ℕ) → all_of (λ c. any (upper c ∷ digit c ∷ [])) xs ≡ true → Textual xs
unfolding all_of any
letters_textual [] h = tt
letters_textual (x ∷ xs) h = go (upper x) refl (digit x) refl h (letters_textual xs)
  where
    Rest : Type 0
    Rest = all_of (λ c. any (upper c ∷ digit c ∷ [])) xs ≡ true → Textual xs

    go : (a : Bool) → upper x ≡ a → (b : Bool) → digit x ≡ b → pick (pick a true (pick b true false)) (all_of (λ c. any (upper c ∷ digit c ∷ [])) xs) false ≡ true → Rest
        → (textual x ≡ true) × Textual xs
    go true e b q k ih = (upper_textual x e, ih k)
    go false e true q k ih = (digit_textual x q, ih k)
    go false e false q k ih = absurd (false≢true k)

module _ (j : Job) (fit : unfit j ≡ false) where
  pub apart : Apart (separators_of j)
  unfolding separators
  apart =
      let p = repeats_apart (separators j.envelope) (no_repeats j fit) in
      record { element_segment = p.0.1.0; element_component = p.0.0; component_segment = p.1.0.0 }

  -- the repetition separator, where there is one
  pub repetition_apart : (r : ℕ) → j.envelope.repetition ≡ Some r → (r ≢ j.envelope.element) × (r ≢ j.envelope.segment)
  unfolding separators
  repetition_apart r e =
      let p = repeats_apart (separators j.envelope) (no_repeats j fit) in
      let q = rw e at p in
      (λ z. q.0.1.1.0 (sym z), λ z. q.1.1.0.0 (sym z))

  pub textual_clear : (text : List ℕ) → Textual text → Clear j text
  unfolding separators
  textual_clear text h =
      let m = not_textual j fit in
      record { no_element = other _ m.0; no_component = other _ m.1.0; no_segment = other _ m.1.1.0 }
    where
      other : (b : ℕ) → textual b ≡ false → Without b text
      other b k = all_weaker _ _ text (λ c t q. false≢true (sym k ∙ ap textual (sym q) ∙ t)) h

  -- ---- identifiers

  pub named_clear : (s : List ℕ) → unnamed s ≡ false → (s ≢ []) × Clear j s
  unfolding unnamed identifier
  named_clear s h = go (between 2 3 (length s)) refl (not-false _ h)
    where
      go : (b : Bool) → between 2 3 (length s) ≡ b → pick b (all_of (λ c. any (upper c ∷ digit c ∷ [])) s) false ≡ true → (s ≢ []) × Clear j s
      go true e k = (λ z. false≢true (ap (λ (l : List ℕ). between 2 3 (length l)) (sym z) ∙ e), textual_clear s (letters_textual s k))
      go false e k = absurd (false≢true k)

  loop_fit : (l : ℕ) → l < length j.spec.loops → unfit_loop (loop_of j l) ≡ false
  unfolding unfit unfit_spec loop_of
  loop_fit l h = none_in unfit_loop j.spec.loops (none_of _ _ (none_of _ _ fit).0).0 l no_loop h

  pub past_loops : (l : ℕ) → length j.spec.loops ≤ l → loop_of j l ≡ no_loop
  unfolding loop_of
  past_loops l h = get_or-eq_default j.spec.loops no_loop {n = l} h

  -- what a loop that is there has
  there : (l : ℕ) (P : Loop → Type 0) → (P no_loop → ⊥) → P (loop_of j l) → l < length j.spec.loops
  there l P never h = go (dec_lt l (length j.spec.loops))
    where
      go : Dec (l < length j.spec.loops) → l < length j.spec.loops
      go (yes q) = q
      go (no q) = absurd (never (subst P (past_loops l (omega arith)) h))

  pub trigger_clear : (l : ℕ) (c : Control) → (loop_of j l).control ≡ Some c → ((loop_of j l).trigger ≢ []) × Clear j (loop_of j l).trigger
  unfolding unfit_loop
  trigger_clear l c e =
      let h = there l (λ v. v.control ≡ Some c) (λ q. none-some c q) e in
      named_clear _ (none_of _ _ (loop_fit l h)).0

  pub end_clear : (l : ℕ) (id : List ℕ) → (loop_of j l).end ≡ Some id → (id ≢ []) × Clear j id
  unfolding unfit_loop
  end_clear l id e =
      let h = there l (λ v. v.end ≡ Some id) (λ q. none-some id q) e in
      named_clear id (none_some unnamed (loop_of j l).end (none_of _ _ (none_of _ _ (none_of _ _ (loop_fit l h)).1).1).0 id e)

  pub occurrence_clear : (l i : ℕ) → i < length (loop_of j l).occurrences → (get_or (loop_of j l).occurrences i [] ≢ []) × Clear j (get_or (loop_of j l).occurrences i [])
  unfolding unfit_loop
  occurrence_clear l i k =
      let h = there l (λ v. i < length v.occurrences) (λ q. not-suc-le-zero q) k in
      named_clear _ (none_in unnamed (loop_of j l).occurrences (none_of _ _ (none_of _ _ (loop_fit l h)).1).0 i [] k)
