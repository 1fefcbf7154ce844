-- What the job says of a table, in terms of its outline.
use Prim.Native.Nat.{ℕ, ◌≤◌, ◌<◌}
use mathlib.Core.Path.{◌≡◌, sym, ap, ◌∙◌}
use mathlib.Core.Bool.{Bool, not}
use native.Mathlib.Omega.{arith}
use Rattle.std.specs.Prelude.{Some}
use Rattle.std.specs.Option.{option_eq}
use lib.ListN.{length}
use lib.Dec.{eqb, ltb}
use borrow.Author.Tests.{lt-ltb, le-ltb}
use Rattle.format.specs.Job.{Job}
use Rattle.format.specs.Ask as A
use Rattle.nest.specs.Lists.{is}
use Rattle.nest.specs.Outline.{Table, table_parent, plain}
use Rattle.nest.specs.OfJob.{outline_of}
use Rattle.nest.proofs.Bridge.{table_is, table_count_is, table_parent_is}
use Rattle.nest.proofs.NestLaws.{is_eq}

module _ (j : Job) (t : ℕ) where
  module _ (n : ℕ) (e : n ≡ length j.spec.tables) where
    pub plain_here : (x : Bool) → t < n → x ≡ (A.table_of j t).segment → not x ≡ plain (outline_of j) t
    unfolding plain
    plain_here x h q = rw (lt-ltb t (length (outline_of j).tables) (omega (arith, table_count_is j, e, h))) (ap not (q ∙ sym (ap (λ (v : Table). v.repeats) (table_is j t))))

    pub plain_past : n ≤ t → ltb t n ≡ plain (outline_of j) t
    unfolding plain
    plain_past h = le-ltb t n h ∙ rw (le-ltb t (length (outline_of j).tables) (omega (arith, table_count_is j, e, h)))

  pub parent_eq : (u : ℕ) → option_eq eqb (A.table_of j t).parent (Some u) ≡ is (table_parent (outline_of j) t) u
  parent_eq u = rw (table_parent_is j t) (is_eq (A.table_of j t).parent u)
