-- Not to be believed: words of inner contracts, on which no contract of what users call rests.
-- What the answer about the version stands for.
use Rattle.std.specs.Prelude.{ℕ, ◌+◌, ◌≤◌, ◌≡◌, List, length, Option, None, Some}
use Rattle.format.specs.Spec.{Version}
use Rattle.spec.specs.Answers.{stretch_of}
use Rattle.spec.specs.declared.ids.VersionRule.{VersionRule}

abbrev pub OptVersion : Type 0
OptVersion = Option Version

-- the rule by which the bytes say it
abbrev pub version_rule : List ℕ → VersionRule → Version
version_rule b r = record { segment = stretch_of b r.segment; element = r.element; first = stretch_of b r.first }

abbrev pub version_of : List ℕ → Option VersionRule → OptVersion
version_of b None = None
version_of b (Some r) = Some (version_rule b r)

-- both stretches are within the job
abbrev pub VersionWithin : List ℕ → Option VersionRule → Type 0
VersionWithin b None = Unit {0}
VersionWithin b (Some r) = (r.segment.start + r.segment.len ≤ length b) × (r.first.start + r.first.len ≤ length b)

pub record HoldsVersion (b : List ℕ) (r : Option VersionRule) (v : OptVersion) : Type 0 where
  pub says : version_of b r ≡ v
  pub within : VersionWithin b r
