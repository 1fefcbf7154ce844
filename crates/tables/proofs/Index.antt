-- Laws of the definitions of specs/Index, and words that only proofs use.
use Rattle.std.specs.Prelude.{ℕ, ◌+◌, ◌≤◌, ◌<◌, ◌≡◌, List, get_or}
use Rattle.std.proofs.Common.{◌∙◌, arith}
use Rattle.spec.proofs.RegionLaws.{listed_kept}
use Rattle.tables.specs.Index.{columns_at, TablesIndexed}

-- it holds as well of any index that agrees on the region
pub tables_indexed_kept : (b idx new : List ℕ) → ((i : ℕ) → 2624 ≤ i → i < 4096 → get_or new i 0 ≡ get_or idx i 0) → TablesIndexed b idx → TablesIndexed b new
tables_indexed_kept b idx new q h =
    let n = h.few in
    record {
      short = h.short;
      few = n;
      few_rows = h.few_rows;
      few_columns = h.few_columns;
      tables = listed_kept _ _ _ 2624 idx new _ (λ i m o. q i (omega arith) (omega arith)) h.tables;
      first = λ t m. rw (q (2657 + t) (omega arith) (omega arith)) (h.first t m);
      count = q 3202 (omega arith) (omega arith) ∙ h.count;
      refs = λ t m. rw (q (3203 + t) (omega arith) (omega arith)) (h.refs t m);
      columns = λ t m. listed_kept _ _ _ (columns_at t) idx new _ (λ i o p. q i (omega arith) (omega arith)) (h.columns t m);
    }
