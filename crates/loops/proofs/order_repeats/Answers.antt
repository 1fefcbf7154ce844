use Rattle.format.specs.Layout.{item_c}
use Rattle.format.specs.Refusal.{loops_in}
use Rattle.loops.proofs.Items.{few_loops}
use Rattle.tree.proofs.Names.{few_once, noted_twice}
use Rattle.loops.proofs.order_repeats.Goals as goal

pub returns-then-count_at-lt2 : goal.returns-then-count_at-lt2
returns-then-count_at-lt2 c = few_once item_c loops_in _ _ _ _ few_loops c.count_at.ensures.0 c.if-count_at-lt2.true

pub returns-then-names_repeat : goal.returns-then-names_repeat
returns-then-names_repeat c = noted_twice item_c loops_in _ _ _ _ _ c.note_names-named.ensures.1.1 _ c.names_repeat.ensures c.if-names_repeat.true
