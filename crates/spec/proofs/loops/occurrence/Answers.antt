use mathlib.Core.Path.{refl}
use Rattle.format.specs.Spec.{Loop}
use Rattle.codec.proofs.Field.{stands_at, stands_list}
use Rattle.spec.proofs.ReadsLaws.{nothing_held, string_none, string_is}
use Rattle.spec.proofs.Index.{loop_lacks, loop_is, loop_stands}
use native.Mathlib.Omega.{arith}
use Rattle.spec.proofs.loops.occurrence.Goals as goal

pub returns-in_default : goal.returns-in_default
returns-in_default c = rw (loop_lacks _ _ c.requires _ _ _ c.loop_field.ensures c.in_default.is) (nothing_held _ _ refl refl)

pub num_in-n-requires : goal.num_in-n-requires
num_in-n-requires c = stands_list _ _ _ (loop_stands _ _ c.requires _ _ _ _ (λ (v : Loop). v.occurrences) c.requires.occurrences c.loop_field.ensures _ c.in-Some.is)

pub returns-then-n-k : goal.returns-then-n-k
returns-then-n-k c = string_none _ _ _ _ c.num_in-n.ensures.0 c.if-n-k.true _ refl refl _ _ (loop_is _ _ c.requires _ _ _ _ (λ (v : Loop). v.occurrences) c.requires.occurrences c.loop_field.ensures _ c.in-Some.is)

pub string_at-q-requires : goal.string_at-q-requires
string_at-q-requires c = omega (arith, c.requires.short, stands_list _ _ _ (loop_stands _ _ c.requires _ _ _ _ (λ (v : Loop). v.occurrences) c.requires.occurrences c.loop_field.ensures _ c.in-Some.is))

pub stretch_at-requires : goal.stretch_at-requires
stretch_at-requires c = stands_at _ _ _ _ _ _ refl c.requires.within (string_is _ _ _ _ _ _ c.num_in-n.ensures.0 c.if-n-k.false (rw (c.spec_of.ensures.0, c.spec_of.ensures.1) at c.string_at-q.ensures) _ (loop_is _ _ c.requires _ _ _ _ (λ (v : Loop). v.occurrences) c.requires.occurrences c.loop_field.ensures _ c.in-Some.is))

pub returns : goal.returns
returns c = c.stretch_at.ensures _ _ c.requires.within (string_is _ _ _ _ _ _ c.num_in-n.ensures.0 c.if-n-k.false (rw (c.spec_of.ensures.0, c.spec_of.ensures.1) at c.string_at-q.ensures) _ (loop_is _ _ c.requires _ _ _ _ (λ (v : Loop). v.occurrences) c.requires.occurrences c.loop_field.ensures _ c.in-Some.is))
