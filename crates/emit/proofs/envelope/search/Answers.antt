use mathlib.Core.Path.{sym, ap, ◌∙◌}
use mathlib.Core.List.{[]}
use Rattle.std.specs.Prelude.{Some}
use lib.ListN.{get_or}
use Rattle.emit.specs.Table.{table}
use Rattle.emit.proofs.TableLaws.{search_next, search_found, search_none}
use Rattle.emit.proofs.envelope.search.Goals as goal

pub returns-then-position_in-position : goal.returns-then-position_in-position
returns-then-position_in-position c =
    let a = c.args in
    let i = c.loop-i.i in
    ap Some c.field_in.ensures ∙ sym (c.loop-i.invariant ∙ search_found (get_or table a.depth []) 9 i a.position c.loop-i-test.true (sym c.position_in.ensures ∙ c.if-position_in-position.true))

pub loop-i-preserved : goal.loop-i-preserved
loop-i-preserved c =
    let a = c.args in
    let i = c.loop-i.i in
    c.loop-i.invariant ∙ search_next (get_or table a.depth []) 9 i a.position c.loop-i-test.true (λ z. c.if-position_in-position.false (c.position_in.ensures ∙ z))

pub returns : goal.returns
returns c =
    let a = c.args in
    sym (c.loop-i.invariant ∙ search_none (get_or table a.depth []) 9 c.loop-i.i a.position c.loop-i-test.false)
