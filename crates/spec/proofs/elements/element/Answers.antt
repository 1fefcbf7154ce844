use mathlib.Core.Path.{refl}
use Rattle.format.proofs.Fields.{is_element}
use Rattle.codec.proofs.Field.{stands_at}
use Rattle.spec.proofs.Found.{element_sized}
use Rattle.spec.proofs.Cursor.{first_room, first_number, first_element}
use native.Mathlib.Omega.{arith}
use Rattle.spec.proofs.elements.element.Goals as goal

pub num_in-number-requires : goal.num_in-number-requires
num_in-number-requires c = let r = first_room _ _ _ refl c.requires.left.entry c.requires.left.rest c.requires.left.entries in omega (arith, r, c.requires.job.2)

pub overflow_add-value : goal.overflow_add-value
overflow_add-value c = let r = first_room _ _ _ refl c.requires.left.entry c.requires.left.rest c.requires.left.entries in omega (arith, r, c.requires.job.2)

pub numeric_at-numeric-requires : goal.numeric_at-numeric-requires
numeric_at-numeric-requires c = stands_at _ _ _ _ _ _ refl c.requires.job.2 (is_element _ _ _ _ (first_element _ _ _ refl c.requires.left.entry c.requires.left.rest c.requires.left.entries)).kind

pub element_min-min-requires : goal.element_min-min-requires
element_min-min-requires c = rw c.spec_of-s.ensures.0 (element_sized _ _ _ (record { def = _; is = first_element _ _ _ c.spec_of-s.ensures.1 c.requires.left.entry c.requires.left.rest c.requires.left.entries }))

pub max_at-max-requires : goal.max_at-max-requires
max_at-max-requires c = rw c.spec_of-s.ensures.0 (element_sized _ _ _ (record { def = _; is = first_element _ _ _ c.spec_of-s.ensures.1 c.requires.left.entry c.requires.left.rest c.requires.left.entries }))

pub first_code-code-requires : goal.first_code-code-requires
first_code-code-requires c = rw c.spec_of-s.ensures.0 (record { def = _; is = first_element _ _ _ c.spec_of-s.ensures.1 c.requires.left.entry c.requires.left.rest c.requires.left.entries })

pub returns : goal.returns
returns c = λ x xs h.
    let s = c.spec_of-s.ensures.0 in
    let v = first_element _ _ _ c.spec_of-s.ensures.1 x xs h in
    record {
      number = first_number _ _ _ refl x xs h _ c.num_in-number.ensures.0;
      numeric = c.numeric_at-numeric.ensures _ _ (is_element _ _ _ _ v).kind;
      min = (rw s at c.element_min-min.ensures) _ v;
      max = (rw s at c.max_at-max.ensures.element) _ v;
      code = (rw s at c.first_code-code.ensures) _ v;
    }
