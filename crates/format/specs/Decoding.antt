-- Not to be believed: words of inner contracts, on which no contract of what users call rests.
-- Decoding and encoding undo each other, and what stands where in a job that is neither broken nor spoilt.
use Rattle.std.specs.Prelude.{ℕ, ◌≤◌, List, length}
use Rattle.std.proofs.Math.Path.{◌≡◌}
use Rattle.std.proofs.Math.Bool.{false}
use Rattle.codec.specs.Codec.{got}
use Rattle.format.specs.Spec.{spec_c}
use Rattle.format.specs.Plan.{plan_c}
use Rattle.format.specs.Layout.{layout_c}
use Rattle.format.specs.Envelope.{envelope_c}
use Rattle.format.specs.Data.{data_c}
use Rattle.format.specs.Job.{Job}
use Rattle.format.specs.Sections.{trailer, spec_start, plan_start, layout_start, envelope_start, data_start, whole_length, broken}

-- ---- what stands where: each section is read from its start, and ends at the next
pub record ReadAs (b : List ℕ) (j : Job) : Type 0 where
  pub sound : broken b ≡ false
  pub spec : spec_c.read b 0 (plan_start b) ≡ got j.spec (plan_start b)
  pub plan : plan_c.read b (plan_start b) (layout_start b) ≡ got j.plan (layout_start b)
  pub layout : layout_c.read b (layout_start b) (envelope_start b) ≡ got j.layout (envelope_start b)
  pub envelope : envelope_c.read b (envelope_start b) (data_start b) ≡ got j.envelope (data_start b)
  pub tables : data_c.read b (data_start b) (trailer b) ≡ got j.tables (trailer b)

-- what the trailer of a job that is not broken says
pub record Sound (b : List ℕ) : Type 0 where
  pub least : 24 ≤ length b
  pub most : length b ≤ 65536
  pub start : spec_start b ≡ 0
  pub plan : plan_start b ≤ layout_start b
  pub layout : layout_start b ≤ envelope_start b
  pub envelope : envelope_start b ≤ data_start b
  pub tables : data_start b ≤ trailer b
  pub whole : whole_length b ≡ length b
