-- Not to be believed: words of inner contracts, on which no contract of what users call rests.
-- What an element of a trigger takes, as an answer of code.
use Rattle.std.specs.Prelude.{ℕ, ◌≡◌, List, Option}
use Rattle.std.specs.Prelude as Rust
use Rattle.std.specs.Prelude.{Some, None}
use Rattle.segment.specs.Values.{value_text, Plain}
use Rattle.format.specs.Spec.{ElementDef}
use Rattle.format.specs.Job.{Job}
use Rattle.texts.specs.Said.{why_in}
use Rattle.nest.specs.Lists.{on}
use Rattle.emit.specs.Envelope.{Sourced, field_at, fielded, version_at, versioned, unsourced}
use Rattle.trigger.specs.declared.given.Source.{Source}

abbrev pub text_in : List ℕ → Source → List ℕ
text_in job s = value_text job s.given.value

abbrev pub sourced_by : List ℕ → Source → Sourced
sourced_by job s = record { field = s.field; given = record { text = text_in job s; reason = why_in s.given.reason; checked = s.checked } }

abbrev pub sourced : List ℕ → Rust.Option Source → Option Sourced
sourced job None = None
sourced job (Some s) = Some (sourced_by job s)

-- it has no zeros and no spaces, and its own bytes are at most as many as there are
abbrev pub Short : Rust.Option Source → Type 0
Short None = Unit {0}
Short (Some s) = Plain s.given.value

pub record Tells (job : List ℕ) (s : Rust.Option Source) (o : Option Sourced) : Type 0 where
  pub says : sourced job s ≡ o
  pub short : Short s

-- where the element is not the control number's: its field, the version, the first code
unfoldable pub otherwise : Job → List ℕ → ℕ → ℕ → ElementDef → Option Sourced
otherwise j trigger depth position d = on (field_at depth position) (fielded j.envelope d) (Some (on (version_at j trigger position) versioned (unsourced d)))
