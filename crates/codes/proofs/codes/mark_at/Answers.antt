use Rattle.std.proofs.Common.{rules}
use Prim.Native.Nat.{ℕ}
use mathlib.Core.Path.{◌≡◌, refl, sym, ◌∙◌}
use mathlib.Core.Logic.{◌⊎◌, inl, inr}
use mathlib.Core.Bool.{true}
use Rattle.codes.specs.declared.codes.Marks.{Marks}
use borrow.Author.Tests.{eq-eqb, ne_eqb}
use Rattle.codes.specs.Codes.{mark}
use Rattle.codes.proofs.Laws.{found_first, found_next}
use Rattle.says.proofs.Walk.{byte_says, only}
use Rattle.codes.proofs.codes.mark_at.Goals as goal

found : (m : Marks) (c : ℕ) → (c ≡ m.element) ⊎ ((c ≡ m.element → ⊥) × (c ≡ m.component)) → mark m c ≡ true
unfolding mark
found m c (inl h) = let z = eq-eqb _ _ h in sym (found_first _ _ _ refl z) ∙ z
found m c (inr h) = let z = eq-eqb _ _ h.1 in sym (found_next _ _ _ refl (ne_eqb _ _ h.0) (found_first _ _ _ refl z)) ∙ z

pub returns-then-c-m-2 : goal.returns-then-c-m-2
returns-then-c-m-2 c = byte_says _ _ _ _ (mark _) _ c.byte_at-c.ensures.0 (rw (found c.args.m c.byte_at-c.result c.if-c-m-2.either) (search rules))

pub returns-else-c-m-2 : goal.returns-else-c-m-2
unfolding mark
returns-else-c-m-2 c = byte_says _ _ _ _ (mark _) _ c.byte_at-c.ensures.0
    (found_next _ _ _ refl (ne_eqb _ _ c.if-c-m-2.false.0) (found_next _ _ _ refl (ne_eqb _ _ c.if-c-m-2.false.1) (only _ _ refl)))
