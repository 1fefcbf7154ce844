-- Tests that are joined by `|` and `&`, as definitions join them.
use Rattle.std.specs.Prelude.{◌≡◌, Bool, true, false, ◌||◌, ◌&&◌}
use mathlib.Core.Path.{refl}
use Rattle.codec.specs.Codec.{pick}

pub or_pick : (x y : Bool) → x || y ≡ pick x true y
or_pick true y = refl
or_pick false y = refl

pub and_pick : (x y : Bool) → x && y ≡ pick x y false
and_pick true y = refl
and_pick false y = refl

pub pick_pick : (x y z : Bool) → pick (pick x true y) true z ≡ pick x true (pick y true z)
pick_pick true y z = refl
pick_pick false y z = refl
