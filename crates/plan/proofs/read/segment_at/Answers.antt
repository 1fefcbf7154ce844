use mathlib.Core.Path.{refl}
use native.Mathlib.Omega.{arith}
use Rattle.plan.proofs.Reading.{segment_read, segment_source, segment_list, source_starts}
use Rattle.plan.proofs.read.segment_at.Goals as goal

pub num_in-occurrence-requires : goal.num_in-occurrence-requires
num_in-occurrence-requires c = omega (arith, source_starts _ _ (segment_source _ _ c.requires))

pub overflow_add-at : goal.overflow_add-at
overflow_add-at c = omega (arith, source_starts _ _ (segment_source _ _ c.requires))

pub source_at-source-requires : goal.source_at-source-requires
source_at-source-requires c = segment_source _ _ c.requires

pub overflow_add-list : goal.overflow_add-list
overflow_add-list c = omega (arith, source_starts _ _ (segment_source _ _ c.requires))

pub num_in-requires : goal.num_in-requires
num_in-requires c = segment_list _ _ c.requires _ _ c.source_len.ensures c.source_at-source.ensures

pub overflow_add-list-2 : goal.overflow_add-list-2
overflow_add-list-2 c = omega (arith, segment_list _ _ c.requires _ _ c.source_len.ensures c.source_at-source.ensures)

pub overflow_add-result : goal.overflow_add-result
overflow_add-result c = omega (arith, segment_list _ _ c.requires _ _ c.source_len.ensures c.source_at-source.ensures)

pub returns : goal.returns
returns c = λ e v m. segment_read _ _ _ _ refl c.num_in-occurrence.ensures.0 c.source_len.ensures c.num_in.ensures.0 refl c.source_at-source.ensures e v
