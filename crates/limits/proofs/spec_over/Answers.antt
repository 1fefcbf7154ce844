use mathlib.Core.Path.{refl, ◌∙◌}
use Rattle.codec.proofs.Maps.{is_bytes_map}
use Rattle.codec.proofs.Limits.{any_nil}
use Rattle.format.proofs.Fields.{is_spec}
use Rattle.format.specs.Refusal.{over_spec}
use Rattle.says.proofs.Walk.{long_is, long_not, says_be}
use Rattle.says.proofs.Pass.{any_here, any_later, any_not, told_none, told_some, skip_bytes_map_list}
use Rattle.limits.proofs.spec_over.Goals as goal

pub returns-then-count_at-gt32 : goal.returns-then-count_at-gt32
unfolding over_spec
returns-then-count_at-gt32 c v i = any_here _ _ (long_is _ _ _ _ _ _ _ 32 c.count_at.ensures.0 (is_spec _ _ _ v i).loops (refl) c.if-count_at-gt32.true)

pub returns-in_err-roots : goal.returns-in_err-roots
unfolding over_spec
returns-in_err-roots c v i = rw c.from_residual.ensures (any_later _ _ (any_later _ _ (any_here _ _ (told_none _ _ _ _ _ _ _ _ c.loops_over.ensures (is_spec _ _ _ v i).loops (refl) c.in_err-roots.was))))

pub returns-in_err-tables : goal.returns-in_err-tables
unfolding over_spec
returns-in_err-tables c v i =
    let l = is_spec _ _ _ v i in
    let k = told_some _ _ _ _ _ _ _ _ c.loops_over.ensures l.loops (refl) _ c.in_ok-roots.was in
    rw c.from_residual-in_err-tables.ensures (any_later _ _ (any_later _ _ (any_later _ _ (any_here _ _ (told_none _ _ _ _ _ _ _ _ c.segments_over.ensures (is_bytes_map _ _ _ _ _ l.segments).0 (cc k.1) c.in_err-tables.was)))))

pub returns-then-count_at-gt16 : goal.returns-then-count_at-gt16
unfolding over_spec
returns-then-count_at-gt16 c v i =
    let l = is_spec _ _ _ v i in
    let k = told_some _ _ _ _ _ _ _ _ c.loops_over.ensures l.loops (refl) _ c.in_ok-roots.was in
    let m = told_some _ _ _ _ _ _ _ _ c.segments_over.ensures (is_bytes_map _ _ _ _ _ l.segments).0 (cc k.1) _ c.in_ok-tables.was in
    any_later _ _ (any_here _ _ (long_is _ _ _ _ _ _ _ 16 c.count_at-2.ensures.0 l.tables (m.1 ∙ skip_bytes_map_list _ _ _ _ _ l.segments) c.if-count_at-gt16.true))

pub returns-in_err-version : goal.returns-in_err-version
unfolding over_spec
returns-in_err-version c v i =
    let l = is_spec _ _ _ v i in
    let k = told_some _ _ _ _ _ _ _ _ c.loops_over.ensures l.loops (refl) _ c.in_ok-roots.was in
    let m = told_some _ _ _ _ _ _ _ _ c.segments_over.ensures (is_bytes_map _ _ _ _ _ l.segments).0 (cc k.1) _ c.in_ok-tables.was in
    rw c.from_residual-in_err-version.ensures (any_later _ _ (any_later _ _ (any_later _ _ (any_later _ _ (any_here _ _ (told_none _ _ _ _ _ _ _ _ c.tables_over.ensures l.tables (m.1 ∙ skip_bytes_map_list _ _ _ _ _ l.segments) c.in_err-version.was))))))

pub returns-then-opt_version_over : goal.returns-then-opt_version_over
unfolding over_spec
returns-then-opt_version_over c v i =
    let l = is_spec _ _ _ v i in
    let k = told_some _ _ _ _ _ _ _ _ c.loops_over.ensures l.loops (refl) _ c.in_ok-roots.was in
    let m = told_some _ _ _ _ _ _ _ _ c.segments_over.ensures (is_bytes_map _ _ _ _ _ l.segments).0 (cc k.1) _ c.in_ok-tables.was in
    let o = told_some _ _ _ _ _ _ _ _ c.tables_over.ensures l.tables (m.1 ∙ skip_bytes_map_list _ _ _ _ _ l.segments) _ c.in_ok-version.was in
    any_later _ _ (any_later _ _ (any_later _ _ (any_later _ _ (any_later _ _ (any_here _ _ (says_be _ _ _ _ _ _ _ _ _ c.opt_version_over.ensures c.if-opt_version_over.true l.version o.1))))))

pub returns : goal.returns
unfolding over_spec
returns c v i =
    let l = is_spec _ _ _ v i in
    let k = told_some _ _ _ _ _ _ _ _ c.loops_over.ensures l.loops (refl) _ c.in_ok-roots.was in
    let m = told_some _ _ _ _ _ _ _ _ c.segments_over.ensures (is_bytes_map _ _ _ _ _ l.segments).0 (cc k.1) _ c.in_ok-tables.was in
    let n = m.1 ∙ skip_bytes_map_list _ _ _ _ _ l.segments in
    let o = told_some _ _ _ _ _ _ _ _ c.tables_over.ensures l.tables n _ c.in_ok-version.was in (
      any_not _ _ (long_not _ _ _ _ _ _ _ 32 c.count_at.ensures.0 l.loops (refl) c.if-count_at-gt32.false)
          (any_not _ _ (long_not _ _ _ _ _ _ _ 16 c.count_at-2.ensures.0 l.tables n c.if-count_at-gt16.false)
          (any_not _ _ k.0 (any_not _ _ m.0 (any_not _ _ o.0 (any_not _ _ (says_be _ _ _ _ _ _ _ _ _ c.opt_version_over.ensures c.if-opt_version_over.false l.version o.1) any_nil))))),
      k.1,
      n,
    )
