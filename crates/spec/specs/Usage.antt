-- Whether a loop's usage is Required; it matters to `Inside` loops alone (docs/RULES.md, "Instances").
use Rattle.std.specs.Prelude.{Bool, true, false}
use Rattle.format.specs.Spec.{Usage, required, situational}

abbrev pub is_required : Usage → Bool
is_required required = true
is_required situational = false
