-- The ways through the reports: what is found is stored, one record after the other.
use Prim.Native.Nat.{ℕ, ◌+◌, ◌≤◌, ◌<◌}
use mathlib.Core.Path.{◌≡◌, refl, sym, ap, ◌∙◌}
use mathlib.Core.Bool.{true}
use mathlib.Core.List.{List, [], ◌∷◌, append-nil}
use lib.ListN.{length}
use Rattle.format.specs.Job.{Job}
use Rattle.format.specs.Ask as A
use Rattle.column.specs.Cell.{key_of}
use Rattle.lent.specs.Window.{base, Noted}
use Rattle.lent.proofs.Fit.{wide}
use Rattle.lent.specs.Fit.{more}
use Rattle.lent.proofs.Laws.{SoFarAt, stored_none, go_on}
use Rattle.spec.specs.declared.ids.RowId.{RowId}
use Rattle.std.specs.Prelude.{Option, Some, None}
use Rattle.nest.specs.Lists.{each}
use Rattle.nest.specs.UpTo.{up_to}
use Rattle.nest.specs.Nest.{has_keys, first_row}
use Rattle.nest.specs.Finding.{Finding, duplicate, record_of}
use Rattle.nest.specs.NestFindings.{duplicate_at}
use Rattle.nest.specs.Found.{found_by}
use Rattle.nest.specs.OfJob.{outline_of}
use Rattle.nest.specs.Ready.{words}
use Rattle.nest.proofs.Scan.{each_next, each_end, each_each}
use Rattle.nest.proofs.NestLaws.{keyed}
use Rattle.nest.proofs.FindingLaws.{duplicate_none, duplicate_first, duplicate_later}
use Rattle.nest.proofs.Bridge.{key_is}
use Rattle.nest.proofs.Ways.{sought}

-- ---- what an answer stands for
abbrev pub row_in : Option RowId → Option ℕ
row_in (Some r) = Some r.0
row_in None = None

row_in_lem : (x : Option ℕ) → row_in (found_by x) ≡ x
row_in_lem None = refl
row_in_lem (Some r) = refl

pub found_row : (x : Option ℕ) (f : Option RowId) (r : RowId) → f ≡ found_by x → f ≡ Some r → x ≡ Some r.0
found_row x f r e q = sym (row_in_lem x) ∙ ap row_in (sym e ∙ q)

pub found_none : (x : Option ℕ) (f : Option RowId) → f ≡ found_by x → f ≡ None → x ≡ None
found_none x f e q = sym (row_in_lem x) ∙ ap row_in (sym e ∙ q)

-- ---- one finding, or none
pub stored_nothing : (d : List ℕ) (at n : ℕ) (fs : List Finding) → fs ≡ [] → n ≡ more at 0 → Noted d at (words fs) n d
stored_nothing d at n fs e q = rw (e, q) (stored_none d at)

pub stored_finding : (d d' : List ℕ) (at n : ℕ) (fs : List Finding) (f : Finding) (ws : List ℕ) → fs ≡ f ∷ [] → ws ≡ record_of f → Noted d at ws n d' → Noted d at (words fs) n d'
stored_finding d d' at n fs f ws e q s = rw (e, append-nil, ← q) s

-- ---- a list of them, one piece after the other

-- of the pieces k up to n, those from i on are still to come
pub record Reported (g : ℕ → List Finding) (n : ℕ) (d₀ : List ℕ) (start : ℕ) (d : List ℕ) (at i : ℕ) : Type 0 where
  pub so_far : SoFarAt base (each (λ x. words (g x)) (up_to 0 n)) d₀ start d at (each (λ x. words (g x)) (up_to i n))

module _ (g : ℕ → List Finding) (n : ℕ) (d₀ : List ℕ) (start : ℕ) where
  pub reported_more : (d d₁ : List ℕ) (at next i : ℕ) → length d₀ ≤ wide → i < n → Reported g n d₀ start d at i → Noted d at (words (g i)) next d₁ → Reported g n d₀ start d₁ next (i + 1)
  reported_more d d₁ at next i h k w s = record { so_far = go_on (words (g i)) _ h w.so_far (each_next (λ x. words (g x)) i n k) s }

  pub reported_all : (d : List ℕ) (at i : ℕ) → n ≤ i → Reported g n d₀ start d at i → Noted d₀ start (words (each g (up_to 0 n))) at d
  reported_all d at i k w =
      let z : w.so_far.written ≡ words (each g (up_to 0 n)) = sym (append-nil w.so_far.written) ∙ rw (← each_end (λ x. words (g x)) i n k) w.so_far.adds_up ∙ sym (each_each record_of g (up_to 0 n)) in
      rw (← z) w.so_far.stored

-- all of them, m of them by the code's count
pub reported_as : (g : ℕ → List Finding) {m n at next : ℕ} {d d' : List ℕ} (fs : List Finding) → m ≡ n → fs ≡ each g (up_to 0 n) → Noted d at (words (each g (up_to 0 m))) next d' → Noted d at (words fs) next d'
reported_as g fs e q s = rw (q, ← e) s

-- ---- duplicate keys
module _ (j : Job) (t r key : ℕ) (keys : has_keys (outline_of j) t ≡ true) (k : key ≡ key_of (A.data_of j t) r) (f : Option RowId) (e : f ≡ found_by (sought j t key 0)) where
  same_key : (outline_of j).key t r ≡ key
  same_key = key_is j t r ∙ sym k

  first_is : first_row (outline_of j) t ((outline_of j).key t r) ≡ sought j t key 0
  first_is = keyed (outline_of j) t _ keys ∙ rw same_key

  pub duplicate_no : f ≡ None → duplicate_at (outline_of j) t r ≡ []
  duplicate_no q = duplicate_none (outline_of j) t r (first_is ∙ found_none _ f e q)

  pub duplicate_own : (o : RowId) → f ≡ Some o → r ≤ o.0 → duplicate_at (outline_of j) t r ≡ []
  duplicate_own o q h = duplicate_first (outline_of j) t r o.0 (first_is ∙ found_row _ f o e q) h

  pub duplicate_yes : (o : RowId) → f ≡ Some o → o.0 < r → duplicate_at (outline_of j) t r ≡ duplicate t r key o.0 ∷ []
  duplicate_yes o q h = duplicate_later (outline_of j) t r o.0 (first_is ∙ found_row _ f o e q) h ∙ rw same_key

  pub duplicate_words : (o : RowId) → 0 ∷ t ∷ r ∷ key ∷ o.0 ∷ 0 ∷ 0 ∷ 0 ∷ 0 ∷ 0 ∷ [] ≡ record_of (duplicate t r key o.0)
  unfolding record_of
  duplicate_words o = refl
