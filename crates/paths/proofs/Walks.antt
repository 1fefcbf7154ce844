-- Where the loops are a tree, as those of a job that passed are, the tests of four conditions (`specs/Tests`) are those of a complete plan.
use mathlib.Core.Path.{◌≡◌}
use mathlib.Core.Bool.{true}
use lib.ListN.{length}
use Rattle.nest.specs.Outline.{Outline}
use Rattle.walk.specs.Complete.{Tree, Complete}
use Rattle.walk.proofs.CheckRight.{plan_passed, passed_plan}
use Rattle.paths.specs.Tests.{condition1, condition2, condition3, condition4}
use Rattle.paths.proofs.Whole.{conditions_pass, pass_conditions}

pub conditions_walk : (j : Outline) → length j.plan ≡ length j.loops → length j.order ≡ length j.loops
    → condition1 j ≡ true → condition2 j ≡ true → condition3 j ≡ true → condition4 j ≡ true → Tree j → Complete j
conditions_walk j p o a b c d T = plan_passed j T (conditions_pass j p o a b c d)

pub walk_conditions : (j : Outline) → Complete j → (condition1 j ≡ true) × (condition2 j ≡ true) × (condition3 j ≡ true) × (condition4 j ≡ true)
walk_conditions j C = pass_conditions j (passed_plan j C)
