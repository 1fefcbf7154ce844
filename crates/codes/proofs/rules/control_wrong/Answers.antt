use Rattle.std.proofs.Common.{rules}
use Rattle.format.proofs.Fields.{is_control}
use Rattle.codes.proofs.Laws.{control_says, one_of_three, same_numbers}
use Rattle.says.proofs.Walk.{says_at}
use Rattle.codes.proofs.rules.control_wrong.Goals as goal

pub returns-then-z : goal.returns-then-z
returns-then-z c v i = let l = is_control _ _ _ v i in
    control_says v _ _ _ _ _ (says_at _ _ _ _ _ _ _ _ c.low_at-x.ensures l.opener (cc)) (says_at _ _ _ _ _ _ _ _ c.low_at-y.ensures l.closer (cc)) (says_at _ _ _ _ _ _ _ _ c.low_at-z.ensures l.count (cc))
    (same_numbers _ _ _ _ _ _ _ _ _ _ c.count_at-n.ensures.0 c.count_at-m.ensures.0 (cc) (cc) l.closer l.count) (rw (one_of_three c.low_at-x.result c.low_at-y.result c.low_at-z.result _ c.if-z.either) (search rules))

pub returns-else-z : goal.returns-else-z
returns-else-z c v i = let l = is_control _ _ _ v i in
    control_says v _ _ _ _ _ (says_at _ _ _ _ _ _ _ _ c.low_at-x.ensures l.opener (cc)) (says_at _ _ _ _ _ _ _ _ c.low_at-y.ensures l.closer (cc)) (says_at _ _ _ _ _ _ _ _ c.low_at-z.ensures l.count (cc))
    (same_numbers _ _ _ _ _ _ _ _ _ _ c.count_at-n.ensures.0 c.count_at-m.ensures.0 (cc) (cc) l.closer l.count) (rw (c.if-z.false.0, c.if-z.false.1, c.if-z.false.2))
