use Rattle.std.proofs.Common.{List, ◌++◌, sym, ap, ◌∙◌}
use Rattle.texts.specs.Held.{held}
use Rattle.texts.specs.Number.{minus}
use Rattle.texts.proofs.Wholes.{fixed_shortened}
use Rattle.texts.proofs.number.fixed_text.Goals as goal

pub returns-then-t-eq0 : goal.returns-then-t-eq0
returns-then-t-eq0 c =
    c.whole_text.ensures ∙ ap (λ (x : List _). held (minus c.args.negative ++ x)) (sym (fixed_shortened _ _ _ c.without_zeros-t.ensures c.if-t-eq0.true))
