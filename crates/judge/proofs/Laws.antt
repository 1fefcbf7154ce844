-- The five conditions from the answers to their tests.
use Prim.Native.Nat.{ℕ}
use mathlib.Core.Path.{◌≡◌, refl, sym, ◌∙◌}
use mathlib.Core.Bool.{Bool, true, false, ◌&&◌, true≢false}
use mathlib.Core.List.{List}
use Rattle.format.specs.Job.{Job}
use Rattle.format.specs.Sections.{job_of}
use Rattle.format.specs.Refusal.{refusal_of}
use Rattle.nest.specs.OfJob.{outline_of}
use Rattle.nest.proofs.Bridge.{loop_count_is, plan_count_is, order_count_is}
use Rattle.walk.specs.Complete.{Tree, Complete}
use Rattle.complete.specs.Complete.{Entries, Places, CompletePlan}
use Rattle.complete.specs.Decides.{Decides}
use Rattle.lossless.proofs.Conditions.{walk_complete, plan_complete}
use Rattle.walk.proofs.Tests.{both}
use Rattle.paths.specs.Tests.{condition1, condition3, condition4}
use Rattle.paths.specs.Entries.{Orders}
use Rattle.paths.proofs.Walks.{conditions_walk, walk_conditions}
use Rattle.std.specs.Prelude.{Ok, Err}
use Rattle.refusal.specs.declared.Refusal.{Refusal}
use Rattle.refusal.specs.Answer.{number}
use Rattle.judge.specs.Judged.{Judged}

-- ---- the conditions but for places, by the answers to each, where the loops are a tree

decided : (P : Type 0) (b : Bool) → Decides b P → P → b ≡ true
decided P true d p = refl
decided P false d p = absurd (d.1 refl p)

module _ {j : Job} {a b c d z : Bool} (one : a ≡ condition1 (outline_of j)) (two : Decides b (Orders j)) (three : c ≡ condition3 (outline_of j)) (four : d ≡ condition4 (outline_of j)) (w : z ≡ a && (b && (c && d))) where
  -- the entries, and what the walk's laws ask
  pub all_walked : Tree (outline_of j) → z ≡ true → Entries j × Complete (outline_of j)
  all_walked T h =
      let p = both a _ (sym w ∙ h) in
      let q = both b _ p.1 in
      let r = both c d q.1 in
      let o = two.0 q.0 in
      let plan = plan_count_is j ∙ o.entries.plan ∙ sym (loop_count_is j) in
      let order = order_count_is j ∙ o.entries.order ∙ sym (loop_count_is j) in
      (o.entries, conditions_walk (outline_of j) plan order (sym one ∙ p.0) o.ordered (sym three ∙ r.0) (sym four ∙ r.1) T)

  pub one_lacks : Tree (outline_of j) → z ≡ false → Decides false (CompletePlan j)
  one_lacks T h = (
    (λ e. cc),
    (λ e C.
        let k = walk_conditions (outline_of j) (walk_complete j T C) in
        let m = decided (Orders j) b two (record { entries = C.entries_and_orders.entries; ordered = k.1 }) in
        true≢false (sym (rw (one ∙ k.0, m, three ∙ k.2, four ∙ k.3) at w) ∙ h)),
  )

pub by_places : {j : Job} {r : Bool} → Entries j × Complete (outline_of j) → Decides r (Places j) → Decides r (CompletePlan j)
by_places {j} w d = ((λ h. plan_complete j w.1 w.0 (d.0 h)), (λ h c. d.1 h c.places))

-- ---- the answer

pub judged_ok : (b : List ℕ) (x : Bool) → refusal_of b ≡ 0 → Decides x (CompletePlan (job_of b)) → Judged b (Ok x)
judged_ok b x h d = record { number = sym h; yes = λ e. d.0 (cc); no = λ e. d.1 (cc) }

pub judged_refused : (b : List ℕ) (r : Refusal) → number r ≡ refusal_of b → Judged b (Err r)
judged_refused b r h = record { number = h; yes = λ e. absurd (cc); no = λ e. absurd (cc) }
