use Rattle.std.specs.Prelude.{◌≡◌, ◌-◌}
use Rattle.codec.specs.Codec.{list_c}
use Rattle.codec.specs.Skip.{skip, steps}
use Rattle.codec.proofs.forms.ItemsForm.ends_at.Given as goal

abbrev pub invariant-loop-i : goal.invariant-loop-i
invariant-loop-i g l = skip (list_c g.F.Form.codec) l.s.bytes.now l.at l.s.end ≡ steps g.F.Form.codec l.s.bytes.now l.s.end (l.n - l._i) l.p
