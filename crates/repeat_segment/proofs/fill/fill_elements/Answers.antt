use Rattle.lent.proofs.Laws.{stored_length}
use Rattle.repeat_segment.proofs.FillLaws.{fill_start, fill_next, fill_passed, fill_end}
use Rattle.repeat_segment.proofs.Steps.{stands_here, read_step}
use Rattle.lent.proofs.Fit.{wide}
use lib.ListN.{length}
use mathlib.Core.Path.{sym}
use Prim.Native.Nat.{◌≤◌}
use native.Mathlib.Omega.{arith}
use Rattle.repeat_segment.proofs.fill.fill_elements.Goals as goal
use Rattle.repeat_segment.proofs.fill.fill_elements.Goals.{Start, in-Some, in_default}

pub loop-i-init : goal.loop-i-init
loop-i-init c = let a = c.args in fill_start _ _ c.requires.0 a.k a.r.0 a.state _ c.requires.3 c.more-entries.ensures

pub element_at-e-requires : goal.element_at-e-requires
element_at-e-requires c = stands_here _ _ c.requires.0 _ _ c.loop-i.invariant.along c.loop-i-test.true

pub note_element-requires : goal.note_element-requires
note_element-requires c = let p = c.requires in (p.0, p.1, (read_step _ _ p.0 _ _ c.loop-i.invariant.along c.loop-i-test.true _ c.element_at-e.ensures).low, p.2)

pub loop-i-preserved : goal.loop-i-preserved
loop-i-preserved c = let a = c.args in
    let o = c.requires.0 in
    let w = c.loop-i.invariant in
    let t = c.loop-i-test.true in
    let e = c.element_at-e.result in
    let h : length a.findings.now ≤ wide = omega (arith, (goal.at.loop-i-preserved c).Start) in
    let q = read_step _ _ o _ _ w.along t _ c.element_at-e.ensures in
    elim c.match-note_element.branch [
      | in-Some v ↦ let n = rw v.in-Some.is at c.note_element.ensures in rw (v.found-is, v.entries-is, v.more-entries-in-Some.ensures) (fill_next _ _ o a.k a.r.0 a.state e _ h t w q n.1 (sym n.0))
      | in_default v ↦ let n = rw v.in_default.is at c.note_element.ensures in rw (v.found-is, v.entries-is, n.2) (fill_passed _ _ o a.k a.r.0 a.state e t w q n.0 n.1)
    ]

pub shape_of-findings : goal.shape_of-findings
shape_of-findings c = stored_length _ c.loop-i.invariant.stored

pub returns : goal.returns
returns c = let a = c.args in fill_end _ _ c.requires.0 a.k a.r.0 a.state c.loop-i-test.false c.loop-i.invariant
