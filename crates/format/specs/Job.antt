-- The job: its five sections, of which data is the list of tables (docs/RULES.md, "A job").
use Rattle.std.specs.Prelude.{[]}
use Rattle.format.specs.Spec.{Spec, no_spec}
use Rattle.format.specs.Plan.{Plan}
use Rattle.format.specs.Layout.{Layout, no_layout}
use Rattle.format.specs.Envelope.{Envelope, no_envelope}
use Rattle.format.specs.Data.{Data}

pub record Job : Type 0 where
  pub spec : Spec
  pub plan : Plan
  pub layout : Layout
  pub envelope : Envelope
  pub tables : Data

abbrev pub no_job : Job
no_job = record { spec = no_spec; plan = []; layout = no_layout; envelope = no_envelope; tables = [] }
