-- Not to be believed: words of inner contracts, on which no contract of what users call rests.
-- What the code's answers on a text stand for: the text of a value with its reason; the place of a text in a finding; the separators that are tried.
use Rattle.std.specs.Prelude.{ℕ, ◌≡◌, Bool, true, false, List, [], ◌∷◌, Option, None, Some}
use Rattle.std.specs.Prelude as Rust
use Rattle.column.specs.declared.Cell.{Cell as Read}
use Rattle.column.specs.declared.Cell.TheVariants.{None as NoAnswer, Null, Bytes, Int, Wide, Days, Seconds}
use Rattle.texts.specs.Reason.{Outcome}
use Rattle.texts.specs.Said.{why_in}
use Rattle.segment.specs.Values.{value_text}
use Rattle.nest.specs.Lists.{each}
use Rattle.nest.specs.Finding.{Finding, Origin, cell, field, Place, number_from, or_zero, record_of}
use Rattle.emit.specs.declared.cells.Written.{Written}
use Rattle.emit.specs.declared.findings.Spot.{Spot}
use Rattle.emit.specs.declared.findings.Delimiters.{Delimiters}

-- the value has this text, and this reason
pub record Writes (job : List ℕ) (r : Written) (o : Outcome) : Type 0 where
  pub text : value_text job r.value ≡ o.text
  pub reason : why_in r.reason ≡ o.reason

-- the scale of a decimal, 0 of any other cell
abbrev pub scale_in : Read → ℕ
scale_in NoAnswer = 0
scale_in Null = 0
scale_in (Bytes start len) = 0
scale_in (Int bits) = 0
scale_in (Wide low high scale) = scale
scale_in (Days bits) = 0
scale_in (Seconds bits) = 0

-- whether a cell's text is no stretch of the job
abbrev pub is_own : Read → Bool
is_own NoAnswer = true
is_own Null = true
is_own (Bytes start len) = false
is_own (Int bits) = true
is_own (Wide low high scale) = true
is_own (Days bits) = true
is_own (Seconds bits) = true

-- ---- findings on a text

-- where a text comes from and where it goes, as the numbers of its findings
abbrev pub spot_of : Origin → Place → Spot
spot_of (cell t r c) p = record { origin = 0; table = t; row = r; column = c; identifier = number_from 0 p.identifier; element = p.element; component = or_zero p.component }
spot_of (field f) p = record { origin = 1; table = f; row = 0; column = 0; identifier = number_from 0 p.identifier; element = p.element; component = or_zero p.component }

abbrev pub spotted : ℕ → Spot → ℕ → ℕ → List ℕ
spotted kind w a b = kind ∷ w.origin ∷ w.table ∷ w.row ∷ w.column ∷ w.identifier ∷ w.element ∷ w.component ∷ a ∷ b ∷ []

-- findings as numbers, ten each, one after the other
unfoldable pub words_of : List Finding → List ℕ
words_of = each record_of

-- in the order in which they are tried
abbrev pub tried_last : Rust.Option ℕ → List ℕ
tried_last Rust.None = []
tried_last (Rust.Some b) = b ∷ []

abbrev pub tried : Delimiters → List ℕ
tried d = d.element ∷ d.component ∷ d.segment ∷ tried_last d.repetition
