-- What the list lent to `hanging::hang` and `baktuven_nest` then holds: where each row hangs (docs/RULES.md, "Nesting"), as far as it fits.
use Rattle.std.specs.Prelude.{List, ℕ, eqb}
use Rattle.std.proofs.lemmas.List.Edits.{sets}
use Rattle.codec.specs.Codec.{pick}
use Rattle.format.specs.Refusal.{refusal_of}
use Rattle.nest.specs.Nest.{nest_array}
use Rattle.nest.specs.OutlineAt.{outline_at}

-- where each row hangs, three numbers a row; a job refused by 1 to 5 leaves the list as it was
unfoldable pub nest_lent : List ℕ → List ℕ → List ℕ
nest_lent b n = pick (eqb (refusal_of b) 0) (sets n 0 (nest_array (outline_at b))) n
