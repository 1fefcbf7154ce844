-- Laws of the definitions of specs/Codec, and words that only proofs use.
use Rattle.std.specs.Prelude.{◌≡◌, refl, Bool, true, false}
use Rattle.codec.specs.Codec.{pick}

pub pick_same {ℓ} : {A : Type ℓ} (t : Bool) (x : A) → pick t x x ≡ x
pick_same true x = refl
pick_same false x = refl
