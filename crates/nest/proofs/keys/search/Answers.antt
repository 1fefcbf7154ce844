use mathlib.Core.Path.{◌≡◌, sym, ap, ◌∙◌}
use native.Mathlib.Omega.{arith}
use borrow.Author.Rules.{rules}
use lib.Dec.{ltb}
use Rattle.format.specs.Ask as A
use Rattle.format.specs.Sections.{job_of}
use Rattle.column.specs.Cell.{key_of}
use Rattle.nest.specs.Seek.{SplitAt}
use Rattle.nest.proofs.Bridge.{key_is}
use Rattle.nest.proofs.Rising.{lower, lower_turns, lower_none, key_here}
use Rattle.nest.proofs.keys.search.Goals as goal
use Rattle.nest.proofs.keys.search.Goals.{After-halve-at}

split : (c : After-halve-at) → SplitAt (lower (job_of c.args.job.at.bytes.now) c.args.u.0 c.args.v c.requires) 0 c.row_count-n.result c.halve-at.result
split c =
    c.halve-at.ensures (lower (job_of c.args.job.at.bytes.now) c.args.u.0 c.args.v c.requires)
    (λ k r h q. let e : r ≡ ltb (key_of (A.data_of (job_of c.args.job.at.bytes.now) c.args.u.0) k) c.args.v = search rules in e ∙ ap (λ m. ltb m c.args.v) (sym (key_is (job_of c.args.job.at.bytes.now) c.args.u.0 k)))
    (lower_turns _ _ _ c.requires _ c.row_count-n.ensures)

pub overflow_cast-k : goal.overflow_cast-k
overflow_cast-k c = omega (arith, (split c).within)

pub returns-then-is_key : goal.returns-then-is_key
returns-then-is_key c = key_here _ _ _ _ c.requires (c.is_key.ensures.there c.if-is_key.true)

pub returns : goal.returns
returns c = lower_none _ _ _ c.requires _ _ c.row_count-n.ensures (split (goal.at.returns c).After-halve-at) (c.is_key.ensures.not_there c.if-is_key.false)
