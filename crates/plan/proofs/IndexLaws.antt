-- Laws of the definitions of specs/Index, and words that only proofs use.
use Rattle.std.specs.Prelude.{ℕ, ◌+◌, ◌≤◌, ◌<◌, ◌≡◌, List, get_or, leb}
use Rattle.std.proofs.Common.{arith}
use Rattle.codec.specs.Codec.{pick, le}
use Rattle.spec.proofs.RegionLaws.{listed_kept}
use Rattle.plan.specs.Index.{segments_at, PlanIndexed}

-- it holds as well of any index that agrees on the region
pub plan_indexed_kept : (b idx new : List ℕ) → ((i : ℕ) → 1024 ≤ i → i < 2560 → get_or new i 0 ≡ get_or idx i 0) → PlanIndexed b idx → PlanIndexed b new
plan_indexed_kept b idx new q h = record {
  short = h.short;
  plan_end = h.plan_end;
  layout_end = h.layout_end;
  few = h.few;
  plan = listed_kept _ b _ 1024 idx new _ (λ i m n. q i (omega arith) (omega arith)) h.plan;
  segments = λ l m n. listed_kept _ b _ (segments_at l) idx new _ (λ i o p. q i (omega arith) (omega arith)) (h.segments l m n);
  order = listed_kept _ b _ 1057 idx new _ (λ i m n. q i (omega arith) (omega arith)) h.order;
  forced = listed_kept _ b _ 1090 idx new _ (λ i m n. q i (omega arith) (omega arith)) h.forced;
  columns = listed_kept _ b _ 1123 idx new _ (λ i m n. q i (omega arith) (omega arith)) h.columns;
  depth = listed_kept _ b _ 1156 idx new _ (λ i m n. q i (omega arith) (omega arith)) h.depth;
  capacity = rw (q 1189 (omega arith) (omega arith)) h.capacity;
}

-- how many items the inner list of number l has, by what the index and the job hold
unfoldable pub inner_count : List ℕ → List ℕ → ℕ → ℕ → ℕ
inner_count b idx k l = pick (leb (le 4 b (get_or idx k 0)) l) 0 (le 4 b (get_or idx (k + 1 + l) 0))
