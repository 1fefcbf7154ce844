use Rattle.spec.proofs.Kept.{stored_one}
use Rattle.spec.proofs.SegmentsLaws.{few_entries, entries_end, segments_filled}
use native.Mathlib.Omega.{arith}
use Rattle.spec.proofs.fill.fill_segments.Goals as goal

pub entries_into-requires : goal.entries_into-requires
entries_into-requires c = omega (arith, few_entries _ c.requires.0 (λ i. omega (arith, c.type_inv.job i)) _ _ c.requires.1 c.requires.2)

pub returns : goal.returns
returns c = let p = entries_end _ c.requires.0 (λ i. omega (arith, c.type_inv.job i)) _ _ _ c.requires.1 c.requires.2 c.entries_into.ensures.0 in let s = segments_filled _ c.requires.0 (λ i. omega (arith, c.type_inv.job i)) _ _ c.requires.1 c.requires.2 _ _ _ (stored_one _ _ _ _ c.put.ensures) c.entries_into.ensures.1 in (p, s.0, s.1)
