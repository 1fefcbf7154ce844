use Rattle.spec.proofs.Found.{components_at, component_sized, component_none, component_there, place_nowhere, place_at}
use Rattle.codec.proofs.Field.{is_in}
use native.Mathlib.Omega.{arith}
use Rattle.spec.proofs.segments.max_of_component.Goals as goal

pub map_place-requires : goal.map_place-requires
map_place-requires c = omega (arith, is_in _ _ _ _ _ (components_at _ _ _ _ c.sizes_end-components.ensures c.requires.def c.requires.is))

pub returns-in_err-place : goal.returns-in_err-place
returns-in_err-place c = λ d h. rw c.from_residual.ensures (component_none _ d (place_nowhere _ _ _ _ _ (c.map_place.ensures _ (components_at _ _ _ _ c.sizes_end-components.ensures d h)) c.in_err-place.was))

pub max_at-requires : goal.max_at-requires
max_at-requires c = let s = place_at _ _ _ _ _ (c.map_place.ensures _ (components_at _ _ _ _ c.sizes_end-components.ensures c.requires.def c.requires.is)) _ c.in_ok-place.was in component_sized _ _ _ s.value s.is

pub returns : goal.returns
returns c = λ d h. component_there _ _ _ _ _ d (place_at _ _ _ _ _ (c.map_place.ensures _ (components_at _ _ _ _ c.sizes_end-components.ensures d h)) _ c.in_ok-place.was) c.max_at.ensures.component
