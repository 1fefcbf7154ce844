use Rattle.std.specs.Prelude.{◌≡◌, ◌+◌, ◌-◌}
use Rattle.std.proofs.Common.{sym, ◌∙◌, rules}
use native.Mathlib.Omega.{arith}
use Rattle.codec.proofs.Strings.{sorted_start, sorted_again, sorted_fallen, sorted_broken, sorted_done}
use Rattle.codec.proofs.Skip.{skip_pair}
use Rattle.codec.proofs.forms.BytesMapForm.ends_at.Goals as goal

pub loop-i-init : goal.loop-i-init
loop-i-init g c = (let z : c.count_at-n.result - 0 ≡ c.count_at-n.result = omega arith in rw z (sorted_start _ _ _ _ _ _ c.count_at-n.ensures.0 c.le_at-p.ensures), search rules)

pub returns-then-s-p : goal.returns-then-s-p
returns-then-s-p g c = cc (sorted_broken _ _ _ _ _ _ _ c.loop-i.invariant.0 (omega arith) c.if-s-p.true)

pub loop-i-preserved : goal.loop-i-preserved
loop-i-preserved g c =
    let z : c.count_at-n.result - (c.loop-i._i + 1) ≡ c.count_at-n.result - c.loop-i._i - 1 = omega arith in
    (rw z (sorted_again _ _ _ _ _ _ _ _ c.loop-i.invariant.0 (omega arith) (sym c.follows.ensures ∙ c.if-not-follows.false) (cc (skip_pair _ _ _ _ _))), search rules)

pub returns : goal.returns
returns g c = sorted_done _ _ _ _ _ _ _ c.loop-i.invariant.0 (omega arith)

pub returns-then-not-follows : goal.returns-then-not-follows
returns-then-not-follows g c = cc (sorted_fallen _ _ _ _ _ _ _ c.loop-i.invariant.0 (omega arith) (sym c.follows.ensures ∙ c.if-not-follows.true))
