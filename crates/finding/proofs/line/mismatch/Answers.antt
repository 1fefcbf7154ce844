use mathlib.Core.Path.{◌≡◌, refl}
use Rattle.std.specs.Prelude.{decimal, slice_index}
use Rattle.std.proofs.Common.{rules, w64, to_z, of_z}
use Rattle.std.proofs.Output.{has_written_append, has_written_of_eq}
use Rattle.finding.proofs.Halves.{front, back, two_halves}
use Rattle.finding.proofs.line.mismatch.Goals as goal

pub returns : goal.returns
returns g c p o =
    let v = slice_index c.args.values in
    let d = to_z w64 (of_z w64 c.cast_signed.result) in
    let h = to_z w64 (of_z w64 c.cast_signed-2.result) in
    let is_d : d ≡ to_z w64 (v 3) = search rules in
    let is_h : h ≡ to_z w64 (v 6) = search rules in
    let text = two_halves (decimal (v 0)) (decimal (v 1)) (decimal (v 2)) (decimal (v 4)) (decimal (v 5)) d (to_z w64 (v 3)) h (to_z w64 (v 6)) is_d is_h in
    let first = c.in_ok-write.ensures.writes p refl in
    has_written_of_eq _ _ _ _ _ text
    (has_written_append _ _ (front (decimal (v 0)) (decimal (v 1)) (decimal (v 2)) d) _ (back (decimal (v 4)) (decimal (v 5)) h) _ first (c.write-2.ensures.writes first.plain o))
