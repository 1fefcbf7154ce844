use Rattle.codec.proofs.Field.{stands_le, stands_opt, stands_some}
use mathlib.Core.Path.{refl}
use Rattle.spec.proofs.ReadsLaws.{byte_none, byte_is}
use Rattle.spec.proofs.Held.{is_unset, is_set}
use native.Mathlib.Omega.{arith}
use Rattle.spec.proofs.read.byte_number_at.Goals as goal

pub flag_at-requires : goal.flag_at-requires
flag_at-requires c = stands_opt _ _ _ c.requires

pub returns-then-not-flag_at : goal.returns-then-not-flag_at
returns-then-not-flag_at c = λ e v i. record { says = byte_none _ _ (is_unset c.flag_at.ensures c.if-not-flag_at.true) e v i; low = omega arith }

pub bounds-b-at : goal.bounds-b-at
bounds-b-at c = omega (arith, stands_le _ _ _ (stands_some _ _ _ c.requires (is_set c.flag_at.ensures c.if-not-flag_at.false)))

pub returns : goal.returns
returns c = λ e v i. record { says = byte_is _ _ _ (is_set c.flag_at.ensures c.if-not-flag_at.false) refl e v i; low = search }
