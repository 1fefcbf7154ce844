-- Whether a loop has an instance, one law for each way that code takes.
use Prim.Native.Nat.{ℕ, zero, suc, ◌+◌, ◌-◌, ◌≤◌, ◌<◌}
use mathlib.Core.Path.{◌≡◌, refl, sym, ap, ◌∙◌, subst}
use mathlib.Core.Bool.{Bool, true, false, cond, not, false≢true}
use mathlib.Core.List.{List, [], ◌∷◌}
use native.Mathlib.Numerals.{sub-one}
use native.Mathlib.Omega.{arith}
use lib.ListN.{length, get_or}
use Rattle.format.specs.Job.{Job}
use Rattle.format.specs.Ask as A
use Rattle.spec.specs.declared.ids.LoopId.{LoopId}
use Rattle.nest.specs.Lists.{is_empty_list}
use Rattle.nest.specs.Outline.{Outline, Kind, absent, envelope, implied, rows, inside, groups, loop_of, kind_of}
use Rattle.nest.specs.OfJob.{outline_of}
use Rattle.walk.specs.declared.Context.{Context as Kept}
use Rattle.walk.specs.Instances.{Context, instances}
use Rattle.walk.specs.Contexts.{context_by}
use Rattle.walk.specs.Nested.{Sound}
use Rattle.walk.proofs.TourLaws.{inst_deep, inst_implied, some_child, child_found, child_next, child_end}
use Rattle.instances.specs.declared.Cursor.{Cursor}
use Rattle.instances.specs.declared.Left.TheVariants.{Nothing, Itself}
use Rattle.instances.specs.declared.Next.{Next}
use Rattle.std.specs.Prelude.{Option, Some, None, is_some}
use Rattle.instances.specs.Cursor.{coming, Going, rowless, is_implied, OfLoop, Came}
use Rattle.nest.proofs.Bridge.{children_is}
use Rattle.instances.proofs.Cursors.{coming_none, coming_one, going_rowless}

abbrev pub some_in : Outline → ℕ → ℕ → Context → Bool
some_in o h l c = not (is_empty_list (instances o h l c))

pub some_deep : (o : Outline) (h l : ℕ) (c : Context) → h ≡ 0 → false ≡ some_in o h l c
some_deep o h l c e = rw (e, inst_deep o l c)

kind_implied : (k : Kind) → is_implied k ≡ true → k ≡ implied
kind_implied absent e = absurd (false≢true e)
kind_implied envelope e = absurd (false≢true e)
kind_implied implied e = refl
kind_implied (rows t) e = absurd (false≢true e)
kind_implied (inside t) e = absurd (false≢true e)
kind_implied (groups t) e = absurd (false≢true e)

whole : (o : Outline) (h l : ℕ) (c : Context) → (h ≡ 0 → ⊥) → instances o h l c ≡ instances o (suc (h - 1)) l c
whole o zero l c d = absurd (d refl)
whole o (suc h) l c d = rw sub-one

flip : (y s : Bool) → not y ≡ s → y ≡ not s
flip true s z = ap not z
flip false s z = ap not z

-- ---- an `Implied` loop: the first i children have none
module _ (j : Job) (h l : ℕ) (c : Context) (deep : h ≡ 0 → ⊥) (x : Bool) (e : x ≡ is_implied (kind_of (outline_of j) l)) (t : x ≡ true) where
  by_child : instances (outline_of j) h l c ≡ cond (some_child (outline_of j) (h - 1) l c 0) (c ∷ []) []
  by_child = whole (outline_of j) h l c deep ∙ inst_implied (outline_of j) (h - 1) l c (kind_implied (kind_of (outline_of j) l) (sym e ∙ t))

  some_child_lem : some_in (outline_of j) h l c ≡ some_child (outline_of j) (h - 1) l c 0
  some_child_lem = rw by_child (go (some_child (outline_of j) (h - 1) l c 0))
    where
      go : (b : Bool) → not (is_empty_list (cond b (c ∷ []) [])) ≡ b
      go true = refl
      go false = refl

  module _ (n i : ℕ) (count : n ≡ length (A.loop_of j l).children) (inv : some_child (outline_of j) (h - 1) l c 0 ≡ some_child (outline_of j) (h - 1) l c i) where
    module _ (k : ℕ) (b : Bool) (here : i < n) (child : k ≡ get_or (A.loop_of j l).children i 0) (answer : b ≡ some_in (outline_of j) (h - 1) k c) where
      there : i < length (loop_of (outline_of j) l).children
      there = rw (children_is j l) (omega (arith, count))

      its : b ≡ some_in (outline_of j) (h - 1) (get_or (loop_of (outline_of j) l).children i 0) c
      its = rw (children_is j l) (answer ∙ ap (λ v. some_in (outline_of j) (h - 1) v c) child)

      pub some_found : b ≡ true → true ≡ some_in (outline_of j) h l c
      some_found q = sym (some_child_lem ∙ inv ∙ child_found (outline_of j) (h - 1) l c i there (flip _ true (sym its ∙ q)))

      pub some_next : b ≡ false → some_child (outline_of j) (h - 1) l c 0 ≡ some_child (outline_of j) (h - 1) l c (i + 1)
      some_next q = inv ∙ child_next (outline_of j) (h - 1) l c i there (flip _ false (sym its ∙ q))

    pub some_none : n ≤ i → false ≡ some_in (outline_of j) h l c
    some_none z = sym (some_child_lem ∙ inv ∙ child_end (outline_of j) (h - 1) l c i (rw (children_is j l) (omega (arith, count))))

  -- the instances of it
  pub implied_one : (b : Bool) → b ≡ some_in (outline_of j) h l c → b ≡ true → instances (outline_of j) h l c ≡ c ∷ []
  implied_one b s q = by_child ∙ ap (λ v. cond v (c ∷ []) []) (sym some_child_lem ∙ sym s ∙ q)

  pub implied_none : (b : Bool) → b ≡ some_in (outline_of j) h l c → b ≡ false → instances (outline_of j) h l c ≡ []
  implied_none b s q = by_child ∙ ap (λ v. cond v (c ∷ []) []) (sym some_child_lem ∙ sym s ∙ q)

-- ---- a loop of another kind
module _ (o : Outline) (n : List ℕ) (h l : ℕ) (c : Context) (deep : h ≡ 0 → ⊥) (cur : Cursor) (is : OfLoop o n l c cur) where
  pub all_coming : coming o n cur ≡ instances o h l c
  all_coming = is.all (h - 1) ∙ sym (whole o h l c deep)

  pub some_coming : (r : Option Next) → Came o n cur r → is_some r ≡ some_in o h l c
  some_coming (Some a) came = ap (λ cs. not (is_empty_list cs)) (sym (came.given a refl).came ∙ all_coming)
  some_coming None came = ap (λ cs. not (is_empty_list cs)) (sym (came.ended refl) ∙ all_coming)

-- ---- cursors without rows
module _ (o : Outline) (n : List ℕ) (h : ℕ) (l : LoopId) (c : Kept) (small : l.0 < 32) (s : Sound o (context_by c)) (r : Cursor) where
  pub gives_none : r ≡ rowless Nothing l c → instances o h l.0 (context_by c) ≡ [] → (coming o n r ≡ instances o h l.0 (context_by c)) × Going o n r
  gives_none q e = (ap (coming o n) q ∙ coming_none o n (rowless Nothing l c) refl ∙ sym e, subst (Going o n) (sym q) (going_rowless o n Nothing l c small s))

  pub gives_one : r ≡ rowless Itself l c → instances o h l.0 (context_by c) ≡ context_by c ∷ [] → (coming o n r ≡ instances o h l.0 (context_by c)) × Going o n r
  gives_one q e = (ap (coming o n) q ∙ coming_one o n (rowless Itself l c) refl ∙ sym e, subst (Going o n) (sym q) (going_rowless o n Itself l c small s))

pub deep_none : (o : Outline) (h l : ℕ) (c : Context) → h ≡ 0 → instances o h l c ≡ []
deep_none o h l c e = rw (e, inst_deep o l c)
