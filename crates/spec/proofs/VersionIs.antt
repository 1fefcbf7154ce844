-- Laws of the definitions of specs/VersionIs, and words that only proofs use.
use Rattle.std.specs.Prelude.{ℕ, ◌+◌, ◌*◌, ◌≤◌, ◌≡◌, refl, List, length, get_or, None, Some}
use Rattle.std.proofs.Common.{sym, ap, ◌∙◌, arith}
use Rattle.codec.specs.Codec.{le}
use Rattle.codec.specs.Skip.{Is, skip}
use Rattle.codec.specs.Forms.{num_c, bytes_c, opt_c}
use Rattle.codec.specs.Field.{Stands}
use Rattle.codec.proofs.Field.{is_le, is_some, is_none, stands_at, stands_some}
use Rattle.codec.proofs.Answers.{skip_les}
use Rattle.format.specs.Spec.{Version, version_c}
use Rattle.format.proofs.Fields.{is_version}
use Rattle.spec.proofs.Standing.{next_place}
use Rattle.spec.specs.Answers.{Holds}
use Rattle.spec.specs.declared.ids.VersionRule.{VersionRule}
use Rattle.spec.specs.VersionIs.{OptVersion, HoldsVersion}

-- the fields of a version behind an option's byte, the first of n bytes
pub record VersionParts (b : List ℕ) (e at n : ℕ) (v : Version) : Type 0 where
  pub segment : Is bytes_c b e (at + 1) v.segment
  pub element : Is num_c b e (at + 5 + n) v.element
  pub first : Is bytes_c b e (at + 9 + n) v.first

pub record VersionStands (b : List ℕ) (at n : ℕ) : Type 0 where
  pub segment : Stands bytes_c b (at + 1)
  pub element : Stands num_c b (at + 5 + n)
  pub first : Stands bytes_c b (at + 9 + n)

module _ (b : List ℕ) (at : ℕ) where
  version_parts : (e n : ℕ) (v : Version) → n ≡ le 4 b (at + 1) → Is version_c b e (at + 1) v → VersionParts b e at n v
  version_parts e n v c h =
      let t = is_version b e (at + 1) v h in
      let k : skip bytes_c b (at + 1) e ≡ at + 1 + 4 + le 4 b (at + 1) * 1 = skip_les 1 b e (at + 1) v.segment t.segment in
      let k₁ : at + 5 + n ≡ skip bytes_c b (at + 1) e = omega (arith, k, c) in
      let t₁ : Is num_c b e (at + 5 + n) v.element = rw k₁ t.element in
      let k₂ : at + 9 + n ≡ skip num_c b (at + 5 + n) e = (omega arith) ∙ sym (next_place b e (at + 5 + n) v.element t₁) in
      record { segment = t.segment; element = t₁; first = rw (k₂, k₁) t.first }

  pub version_stands : (n : ℕ) → n ≡ le 4 b (at + 1) → (get_or b at 0 ≡ 0 → ⊥) → Stands (opt_c version_c) b at → VersionStands b at n
  version_stands n c h s =
      let o = stands_some version_c b at s h in
      let t = version_parts o.end n o.value c o.is in
      record {
        segment = stands_at bytes_c b _ _ o.end _ refl o.within t.segment;
        element = stands_at num_c b _ _ o.end _ refl o.within t.element;
        first = stands_at bytes_c b _ _ o.end _ refl o.within t.first;
      }

  pub version_none : get_or b at 0 ≡ 0 → (e : ℕ) (v : OptVersion) → Is (opt_c version_c) b e at v → HoldsVersion b None v
  version_none h e None i = record { says = refl; within = tt }
  version_none h e (Some x) i = absurd (omega (arith, (is_some version_c b e at x i).0))

  pub version_is : (n : ℕ) (r : VersionRule) → (get_or b at 0 ≡ 0 → ⊥) → n ≡ le 4 b (at + 1)
      → ((e : ℕ) (v : List ℕ) → e ≤ length b → Is bytes_c b e (at + 1) v → Holds b r.segment v) → r.element ≡ le 4 b (at + 5 + n) → ((e : ℕ) (v : List ℕ) → e ≤ length b → Is bytes_c b e (at + 9 + n) v → Holds b r.first v)
      → (e : ℕ) (v : OptVersion) → e ≤ length b → Is (opt_c version_c) b e at v → HoldsVersion b (Some r) v
  version_is n r h c s l f e None m i = absurd (h (is_none version_c b e at i))
  version_is n r h c s l f e (Some x) m i =
      let t = version_parts e n x c (is_some version_c b e at x i).1 in
      let g = s e x.segment m t.segment in
      let o = f e x.first m t.first in
      let q : r.element ≡ x.element = l ∙ sym (is_le 4 b e (at + 5 + n) _ t.element).1 in
      record { says = ap Some (rw (g.bytes, q, o.bytes)); within = (g.within, o.within) }
