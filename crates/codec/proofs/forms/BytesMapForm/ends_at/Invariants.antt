use Rattle.std.specs.Prelude.{◌≡◌, ◌-◌, ◌≤◌, IfSome}
use Rattle.codec.proofs.Strings.{sorted}
use Rattle.codec.specs.Maps.{bytes_map_c}
use Rattle.codec.specs.Skip.{skip}
use Rattle.codec.proofs.forms.BytesMapForm.ends_at.Given as goal

abbrev pub invariant-loop-i : goal.invariant-loop-i
invariant-loop-i g l = (skip (bytes_map_c g.F.Form.codec) l.s.bytes.now l.at l.s.end ≡ sorted g.F.Form.codec l.s.bytes.now l.s.end (l.n - l._i) l.last l.p) × IfSome l.last (λ q. q ≤ 4294967296)
