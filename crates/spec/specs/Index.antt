-- Not to be believed: words of inner contracts, on which no contract of what users call rests.
-- The index over the spec: at each place that it holds stands the part of the job that it is for.
use Rattle.std.specs.Prelude.{ℕ, ◌+◌, ◌*◌, ◌≤◌, ◌<◌, List, get_or, ltb, Option, None, Some}
use Rattle.std.proofs.Math.ListN.{length}
use Rattle.codec.specs.Codec.{Codec, pick, le, list_c}
use Rattle.codec.specs.Skip.{Is}
use Rattle.codec.specs.Forms.{num_c, bytes_c, opt_c, flag_c}
use Rattle.format.specs.Spec.{Loop, loop_c, Table, table_c, usage_c, control_c, repeat_c, version_c}
use Rattle.format.specs.Sections.{plan_start, job_of}
use Rattle.format.specs.Ask.{loop_of, table_of}

-- From 0 the places of the lists of loops, of roots and of tables, and of the version; from 8 seven numbers a loop, from 232 six a table.
-- a field of every loop
abbrev pub LoopField : {A : Type 0} → List ℕ → List ℕ → ℕ → Codec A → (Loop → A) → Type 0
LoopField b idx f C field = (i : ℕ) → i < length (job_of b).spec.loops → Is C b (plan_start b) (get_or idx (8 + i * 7 + f) 0) (field (loop_of (job_of b) i))

-- a field of every table
abbrev pub TableField : {A : Type 0} → List ℕ → List ℕ → ℕ → Codec A → (Table → A) → Type 0
TableField b idx f C field = (i : ℕ) → i < length (job_of b).spec.tables → Is C b (plan_start b) (get_or idx (232 + i * 6 + f) 0) (field (table_of (job_of b) i))

pub record SpecIndexed (b idx : List ℕ) : Type 0 where
  pub trailed : 24 ≤ length b
  pub short : length b ≤ 65536
  pub within : plan_start b ≤ length b
  pub few_loops : length (job_of b).spec.loops ≤ 32
  pub few_tables : length (job_of b).spec.tables ≤ 16
  pub loops : Is (list_c loop_c) b (plan_start b) (get_or idx 0 0) (job_of b).spec.loops
  pub roots : Is (list_c num_c) b (plan_start b) (get_or idx 1 0) (job_of b).spec.roots
  pub tables : Is (list_c table_c) b (plan_start b) (get_or idx 2 0) (job_of b).spec.tables
  pub version : Is (opt_c version_c) b (plan_start b) (get_or idx 3 0) (job_of b).spec.version
  pub parent : LoopField b idx 0 (opt_c num_c) (λ v. v.parent)
  pub trigger : LoopField b idx 1 bytes_c (λ v. v.trigger)
  pub occurrences : LoopField b idx 2 (list_c bytes_c) (λ v. v.occurrences)
  pub usage : LoopField b idx 3 usage_c (λ v. v.usage)
  pub end : LoopField b idx 4 (opt_c bytes_c) (λ v. v.end)
  pub control : LoopField b idx 5 (opt_c control_c) (λ v. v.control)
  pub children : LoopField b idx 6 (list_c num_c) (λ v. v.children)
  pub table_loops : TableField b idx 0 (list_c num_c) (λ v. v.loops)
  pub segment : TableField b idx 1 flag_c (λ v. v.segment)
  pub repeat : TableField b idx 2 (opt_c repeat_c) (λ v. v.repeat)
  pub columns : TableField b idx 3 num_c (λ v. v.columns)
  pub table_parent : TableField b idx 4 (opt_c num_c) (λ v. v.parent)
  pub ancestors : TableField b idx 5 (list_c num_c) (λ v. v.ancestors)

-- ---- the place of field f of row i: the list's own place is number `list`, its rows of `width` numbers begin at `from`; none for a row that is not there
unfoldable pub row_place : List ℕ → List ℕ → ℕ → ℕ → ℕ → ℕ → ℕ → Option ℕ
row_place b idx list from width i f = pick (ltb i (le 4 b (get_or idx list 0))) (Some (get_or idx (from + i * width + f) 0)) None
