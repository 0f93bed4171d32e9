-- The members after a closed one is removed, and its ids from the invalid ids of the others.
use Rattle.std.proofs.Common.{◌≡◌, ℕ, List, [], length, refl, sym, ap, ◌∙◌, arith, inl, inr, length-set}
use Rattle.std.proofs.lemmas.Bool.{cases_lt}
use Rattle.std.proofs.lemmas.List.{get_or-set_same, get_or-set_other, get_or_past}
use Rattle.std.specs.Prelude.{slice_set}
use Rattle.snap_ids.proofs.IdLists.{none_removed}
use Rattle.snap_nested.specs.Members.{no_member, member, without_invalid, IsForgotten}
use Rattle.snap_nested.specs.declared.family.Member.{Member}

gone_here : (ms : List Member) (name : ℕ) → member (slice_set ms name no_member) name ≡ no_member
gone_here ms name = elim (cases_lt name (length ms)) [
  | inl h ↦ get_or-set_same ms name no_member no_member h
  | inr h ↦ get_or_past (slice_set ms name no_member) name no_member
      (omega (arith, h, length-set ms name no_member))
]

pub forgotten : (ms between ns : List Member) (own : List ℕ) (name : ℕ) → between ≡ slice_set ms name no_member
    → own ≡ (member ms name).ids → length ns ≡ length between
    → ((n : ℕ) → member ns n ≡ without_invalid own (member between n)) → IsForgotten ms ns name
forgotten ms between ns own name is same count each = record {
  count = count ∙ ap (λ (l : List Member). length l) is ∙ length-set ms name no_member;
  here = each name ∙ ap (λ (l : List Member). without_invalid own (member l name)) is
      ∙ ap (without_invalid own) (gone_here ms name);
  others = λ n other. each n ∙ ap (λ (l : List Member). without_invalid own (member l n)) is
      ∙ ap (without_invalid own) (get_or-set_other ms name n no_member no_member other)
      ∙ ap (λ (l : List ℕ). without_invalid l (member ms n)) same;
}

-- A member without ids is forgotten once it is removed.
pub forgotten_none : (ms ns : List Member) (name : ℕ) → ns ≡ slice_set ms name no_member → member ms name ≡ no_member
    → IsForgotten ms ns name
forgotten_none ms ns name is none = forgotten ms ns ns [] name is (sym (ap (λ (m : Member). m.ids) none)) refl
    (λ n. ap (λ (l : List ℕ). record (member ns n) { invalid = l })
    (sym (none_removed (member ns n).invalid [] (λ i h. refl))))
