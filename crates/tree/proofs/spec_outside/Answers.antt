use mathlib.Core.Path.{refl, ap, sym, ◌∙◌}
use Rattle.std.specs.Prelude.{ℕ}
use Rattle.codec.specs.Limits.{any_of}
use Rattle.format.proofs.Fields.{is_spec}
use Rattle.format.specs.Refusal.{outside, outside_loop, outside_table}
use Rattle.says.proofs.Walk.{count_length, says_at}
use Rattle.says.proofs.Pass.{any_here, any_later, any_one, any_past}
use Rattle.tree.specs.Parts.{outside_spec}
use Rattle.tree.proofs.spec_outside.Goals as goal

pub returns-then-loops_outside-clause-says : goal.returns-then-loops_outside-clause-says
unfolding outside_spec
returns-then-loops_outside-clause-says c v i =
    let l = is_spec _ _ _ v i in
    let z = count_length _ _ _ _ _ _ c.count_at-n.ensures.0 l.loops in
    let x = says_at _ _ _ _ _ _ _ _ c.loops_outside.ensures.says l.loops refl ∙ ap (λ (m : ℕ). any_of (outside_loop m) v.loops) z in
    sym (any_here _ _ (sym x ∙ c.if-loops_outside.true))

pub returns-then-outsides_at-clause-says : goal.returns-then-outsides_at-clause-says
unfolding outside_spec
returns-then-outsides_at-clause-says c v i =
    let l = is_spec _ _ _ v i in
    let z = count_length _ _ _ _ _ _ c.count_at-n.ensures.0 l.loops in
    let y = says_at _ _ _ _ _ _ _ _ c.outsides_at.ensures.says l.roots c.requires.0 ∙ ap (λ (m : ℕ). any_of (outside m) v.roots) z in
    sym (any_later _ _ (any_here _ _ (sym y ∙ c.if-outsides_at.true)))

pub returns-clause-says : goal.returns-clause-says
unfolding outside_spec
returns-clause-says c v i =
    let l = is_spec _ _ _ v i in
    let z = count_length _ _ _ _ _ _ c.count_at-n.ensures.0 l.loops in
    let x = says_at _ _ _ _ _ _ _ _ c.loops_outside.ensures.says l.loops refl ∙ ap (λ (m : ℕ). any_of (outside_loop m) v.loops) z in
    let y = says_at _ _ _ _ _ _ _ _ c.outsides_at.ensures.says l.roots c.requires.0 ∙ ap (λ (m : ℕ). any_of (outside m) v.roots) z in
    let w = says_at _ _ _ _ _ _ _ _ c.tables_outside.ensures.says l.tables c.requires.1 ∙ ap (λ (m : ℕ). any_of (outside_table m) v.tables) z in
    w ∙ sym (any_past _ _ (sym x ∙ c.if-loops_outside.false) ∙ any_past _ _ (sym y ∙ c.if-outsides_at.false) ∙ any_one _)
