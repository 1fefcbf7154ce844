use mathlib.Core.Path.{refl, sym, ◌∙◌}
use mathlib.Core.Bool.{true≢false}
use Rattle.codec.proofs.Field.{stands_at, stands_list}
use Rattle.codec.specs.Forms.{num_c}
use Rattle.codec.specs.Codec.{list_c}
use Rattle.paths.proofs.Answers.{decides_no, decides_eq, capacity_count, lists_right, lists_pass}
use Rattle.paths.proofs.entries_fit.Goals as goal

pub list_count-capacity-requires : goal.list_count-capacity-requires
list_count-capacity-requires c = let x = c.args.job.ready.plan in record { there = stands_list num_c _ _ (stands_at (list_c num_c) _ _ _ _ _ refl x.layout_end x.capacity) }

pub returns-then-not-fit : goal.returns-then-not-fit
returns-then-not-fit c = decides_no _ (λ E. true≢false (sym (lists_pass _ _ c.args.job.ready.plan _ c.loop_count-n.ensures E) ∙ sym c.lists_fit-fit.ensures ∙ c.if-not-fit.true))

pub returns-then-capacity-all : goal.returns-then-capacity-all
returns-then-capacity-all c = decides_no _ (λ E. c.if-capacity-all.true (capacity_count _ _ c.args.job.ready.plan _ c.list_count-capacity.ensures ∙ E.capacity ∙ sym c.table_count-all.ensures))

pub returns : goal.returns
returns c =
    let q = lists_right _ _ c.args.job.ready.plan _ c.loop_count-n.ensures (sym c.lists_fit-fit.ensures ∙ c.if-not-fit.false) in
    decides_eq _ _ _
    (λ d. record { plan = q.0; order = q.1; forced = q.2; group_columns = q.3; depth = q.4; capacity = sym (capacity_count _ _ c.args.job.ready.plan _ c.list_count-capacity.ensures) ∙ c.if-capacity-all.false ∙ c.table_count-all.ensures; data_tables = sym c.data_count-data.ensures ∙ d ∙ c.table_count-all.ensures })
    (λ E. c.data_count-data.ensures ∙ E.data_tables ∙ sym c.table_count-all.ensures)
