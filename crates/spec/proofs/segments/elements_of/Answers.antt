use Rattle.spec.specs.Found.{PlaceOf}
use Rattle.spec.proofs.Found.{names_counted, name_stands, names_more, name_found, name_missing}
use Rattle.codec.proofs.Field.{stands_at, stands_list}
use Rattle.spec.specs.Answers.{stretch_of}
use native.Mathlib.Omega.{arith}
use Rattle.spec.proofs.segments.elements_of.Goals as goal

pub num_in-n-requires : goal.num_in-n-requires
num_in-n-requires c = let x = c.requires.0 in stands_list _ _ _ (stands_at _ _ _ _ _ _ c.place-m.ensures.0 x.within x.entries)

pub key_is-requires : goal.key_is-requires
key_is-requires c = let z = names_counted _ _ c.requires.0 _ _ c.place-m.ensures.0 c.num_in-n.ensures.0 in (c.requires.1, name_stands _ _ c.requires.0 (stretch_of c.args.job.bytes.now c.args.identifier) _ _ c.place-p.ensures.0 (omega (arith, z, c.loop-k-test.true)))

pub num_in-requires : goal.num_in-requires
num_in-requires c = let z = names_counted _ _ c.requires.0 _ _ c.place-m.ensures.0 c.num_in-n.ensures.0 in stands_list _ _ _ (name_stands _ _ c.requires.0 (stretch_of c.args.job.bytes.now c.args.identifier) _ _ c.place-p.ensures.0 (omega (arith, z, c.loop-k-test.true)))

pub returns-then-key_is : goal.returns-then-key_is
unfolding PlaceOf
returns-then-key_is c = let z = names_counted _ _ c.requires.0 _ _ c.place-m.ensures.0 c.num_in-n.ensures.0 in name_found _ _ c.requires.0 _ _ _ c.place-p.ensures.0 (omega (arith, z, c.loop-k-test.true)) _ _ c.loop-k.invariant c.key_is.ensures c.if-key_is.true c.num_in.ensures.0

pub loop-k-preserved : goal.loop-k-preserved
loop-k-preserved c = let z = names_counted _ _ c.requires.0 _ _ c.place-m.ensures.0 c.num_in-n.ensures.0 in names_more _ _ c.requires.0 (stretch_of c.args.job.bytes.now c.args.identifier) _ _ c.place-p.ensures.0 (omega (arith, z, c.loop-k-test.true)) _ c.loop-k.invariant c.key_is.ensures c.if-key_is.false

pub returns : goal.returns
unfolding PlaceOf
returns c = name_missing _ _ c.requires.0 _ _ _ c.loop-k.invariant (names_counted _ _ c.requires.0 _ _ c.place-m.ensures.0 c.num_in-n.ensures.0) c.loop-k-test.false
