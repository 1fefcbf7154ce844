-- The sections of a job and the trailer behind them (docs/RULES.md, "Trailer"): which bytes are which job.
use Rattle.std.specs.Prelude.{ℕ, ◌+◌, ◌-◌, ◌≤◌, ◌≡◌, List, [], ◌∷◌, ◌++◌, Bool, not, length, ltb, eqb, Option, None, Some}
use Rattle.codec.specs.Codec.{Got, got, bad, pick, le, enc_le, Bytes}
use Rattle.codec.specs.Whole.{used_up}
use Rattle.codec.specs.Limits.{any}
use Rattle.format.specs.Spec.{spec_c}
use Rattle.format.specs.Plan.{plan_c}
use Rattle.format.specs.Layout.{layout_c}
use Rattle.format.specs.Envelope.{envelope_c}
use Rattle.format.specs.Data.{data_c}
use Rattle.format.specs.Job.{Job, no_job}

-- ---- the trailer: the last 24 bytes, five starts and the length of the whole
abbrev pub trailer : List ℕ → ℕ
trailer b = length b - 24

abbrev pub spec_start : List ℕ → ℕ
spec_start b = le 4 b (trailer b)

abbrev pub plan_start : List ℕ → ℕ
plan_start b = le 4 b (trailer b + 4)

abbrev pub layout_start : List ℕ → ℕ
layout_start b = le 4 b (trailer b + 8)

abbrev pub envelope_start : List ℕ → ℕ
envelope_start b = le 4 b (trailer b + 12)

abbrev pub data_start : List ℕ → ℕ
data_start b = le 4 b (trailer b + 16)

abbrev pub whole_length : List ℕ → ℕ
whole_length b = le 4 b (trailer b + 20)

-- below 24 or above 65,536 bytes; the first start is not 0, one is below the one before, the last section passes the trailer, the length is another
unfoldable pub broken : List ℕ → Bool
broken b = any
    (ltb (length b) 24
    ∷ ltb 65536 (length b)
    ∷ not (eqb (spec_start b) 0)
    ∷ ltb (layout_start b) (plan_start b)
    ∷ ltb (envelope_start b) (layout_start b)
    ∷ ltb (data_start b) (envelope_start b)
    ∷ ltb (trailer b) (data_start b)
    ∷ not (eqb (whole_length b) (length b))
    ∷ [])

-- a section runs from its start to the next, the last to the trailer; one that is not what its codec reads, or has bytes over, spoils the job
unfoldable pub spoilt : List ℕ → Bool
spoilt b = any
    (not (used_up (spec_c.read b 0 (plan_start b)) (plan_start b))
    ∷ not (used_up (plan_c.read b (plan_start b) (layout_start b)) (layout_start b))
    ∷ not (used_up (layout_c.read b (layout_start b) (envelope_start b)) (envelope_start b))
    ∷ not (used_up (envelope_c.read b (envelope_start b) (data_start b)) (data_start b))
    ∷ not (used_up (data_c.read b (data_start b) (trailer b)) (trailer b))
    ∷ [])

-- ---- the job of a byte string
abbrev pub and_then : {A B : Type 0} → Got A → (A → Option B) → Option B
and_then (got v n) f = f v
and_then bad f = None

unfoldable pub decode : List ℕ → Option Job
decode b =
    pick (broken b) None (pick (spoilt b) None
    (and_then (spec_c.read b 0 (plan_start b)) (λ spec.
    and_then (plan_c.read b (plan_start b) (layout_start b)) (λ plan.
    and_then (layout_c.read b (layout_start b) (envelope_start b)) (λ layout.
    and_then (envelope_c.read b (envelope_start b) (data_start b)) (λ envelope.
    and_then (data_c.read b (data_start b) (trailer b)) (λ tables.
    Some (record { spec = spec; plan = plan; layout = layout; envelope = envelope; tables = tables }))))))))

abbrev pub or_else : {A : Type 0} → A → Option A → A
or_else d None = d
or_else d (Some v) = v

unfoldable pub job_of : List ℕ → Job
job_of b = or_else no_job (decode b)

-- ---- the bytes of a job
-- the trailer behind sections of s, p, l, e and d bytes
abbrev pub trailer_of : ℕ → ℕ → ℕ → ℕ → ℕ → List ℕ
trailer_of s p l e d =
    enc_le 4 0 ++ (enc_le 4 s ++ (enc_le 4 (s + p) ++ (enc_le 4 (s + p + l) ++ (enc_le 4 (s + p + l + e) ++ enc_le 4 (s + p + l + e + d + 24)))))

unfoldable pub framed : List ℕ → List ℕ → List ℕ → List ℕ → List ℕ → List ℕ
framed s p l e d = s ++ (p ++ (l ++ (e ++ (d ++ trailer_of (length s) (length p) (length l) (length e) (length d)))))

unfoldable pub encode : Job → List ℕ
encode j = framed (spec_c.enc j.spec) (plan_c.enc j.plan) (layout_c.enc j.layout) (envelope_c.enc j.envelope) (data_c.enc j.tables)

-- a job that bytes can hold: numbers within their widths, keys that rise, 65,536 bytes at most
pub record Fits (j : Job) : Type 0 where
  pub spec : spec_c.Fits j.spec
  pub plan : plan_c.Fits j.plan
  pub layout : layout_c.Fits j.layout
  pub envelope : envelope_c.Fits j.envelope
  pub tables : data_c.Fits j.tables
  pub size : length (encode j) ≤ 65536

-- Encoding and decoding undo each other: a law of these definitions.
pub record RoundTrip : Type 0 where
  -- a job that bytes can hold comes back from its bytes
  pub there : (j : Job) → Fits j → decode (encode j) ≡ Some j
  -- bytes that are a job are the bytes of that job, and of no other
  pub back : (b : List ℕ) (j : Job) → Bytes b → decode b ≡ Some j → (encode j ≡ b) × Fits j
