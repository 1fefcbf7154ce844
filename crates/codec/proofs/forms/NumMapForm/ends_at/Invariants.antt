use Rattle.std.specs.Prelude.{◌≡◌, ◌-◌}
use Rattle.codec.specs.Maps.{num_map_c}
use Rattle.codec.proofs.Maps.{risen}
use Rattle.codec.specs.Skip.{skip}
use Rattle.codec.proofs.forms.NumMapForm.ends_at.Given as goal

abbrev pub invariant-loop-i : goal.invariant-loop-i
invariant-loop-i g l = skip (num_map_c g.F.Form.codec) l.s.bytes.now l.at l.s.end ≡ risen g.F.Form.codec l.s.bytes.now l.s.end (l.n - l._i) l.low l.p
