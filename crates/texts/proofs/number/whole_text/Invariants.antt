use Rattle.std.proofs.Common.{◌≡◌, ◌-◌, ◌≤◌}
use lib.Seq.{sets}
use Rattle.texts.specs.Number.{figures}
use Rattle.texts.proofs.number.whole_text.Given as goal

abbrev pub invariant-loop-at : goal.invariant-loop-at
invariant-loop-at l = (l.first ≤ l.at) × ((l.at ≤ l.len) × (sets l.initial.bytes l.first (figures (l.len - l.first) l.n) ≡ sets l.bytes l.first (figures (l.at - l.first) l.rest)))
