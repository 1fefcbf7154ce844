-- Not to be believed: words of inner contracts, on which no contract of what users call rests.
-- A step upwards from a loop (docs/RULES.md, "Above a row loop"): it ends well, it ends badly, or it goes on from the loop above, with the table whose
-- row loop came last.
use Rattle.std.specs.Prelude.{ℕ, Bool, true, false}
use Rattle.nest.specs.Outline.{Outline}
use Rattle.walk.specs.Check.{fits}
use Rattle.paths.specs.declared.up.Up.{Up}
use Rattle.paths.specs.declared.up.Up.TheVariants.{No, Top, On}

-- what comes of it, with h loops left
abbrev pub outcome : Outline → ℕ → Up → Bool
outcome j h No = false
outcome j h Top = true
outcome j h (On p w) = fits j h p w
