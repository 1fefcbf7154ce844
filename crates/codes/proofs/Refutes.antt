-- What the answer of a test for a fault says: yes exactly where a statement does not hold.
use Rattle.std.specs.Prelude.{◌≡◌, Bool, true, false}

-- yes exactly where P does not hold: the tests look for what is wrong
abbrev pub Refutes : Bool → Type 0 → Type 0
Refutes t P = (t ≡ false → P) × (t ≡ true → P → ⊥)
