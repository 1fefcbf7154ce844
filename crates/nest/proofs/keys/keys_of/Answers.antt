use Rattle.nest.proofs.NestLaws.{keyless}
use mathlib.Core.Path.{sym, ◌∙◌}
use Rattle.nest.proofs.keys.keys_of.Goals as goal

pub returns-then-not-has_keys : goal.returns-then-not-has_keys
returns-then-not-has_keys c = λ v. keyless _ _ v (sym c.has_keys.ensures ∙ c.if-not-has_keys.true)
