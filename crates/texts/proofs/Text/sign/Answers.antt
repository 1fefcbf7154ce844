use Rattle.std.proofs.Common.{[], ◌∷◌, ap, ◌∙◌, arith}
use Rattle.texts.specs.declared.Text.{Text}
use Rattle.texts.specs.Held.{added}
use Rattle.texts.proofs.Texts.{len_is, added_held}
use Rattle.texts.proofs.Text.sign.Goals as goal

pub with-requires : goal.with-requires
with-requires c = omega (arith, len_is _ [] c.empty.ensures)

pub returns-then-negative : goal.returns-then-negative
returns-then-negative c =
    let e = c.empty.ensures in
    (simp c.if-negative.true (c.with.ensures.0 ∙ ap (λ (t : Text). added t (45 ∷ [])) e ∙ added_held [] (45 ∷ []) (omega arith)), omega (arith, len_is _ [] e))

pub returns : goal.returns
returns c = let e = c.empty-2.ensures in (simp c.if-negative.false e, omega (arith, len_is _ [] e))
