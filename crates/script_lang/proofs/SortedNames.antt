-- Attributes in the order of their names are members in that order.
use Rattle.std.proofs.Common.{◌≡◌, ◌∙◌, ℕ, ◌<◌, ◌≤◌, ◌+◌, List, [], ◌∷◌, ◌++◌, length, refl, sym, ap, take, drop, slice_index_or}
use Rattle.std.proofs.lemmas.List.{take_more, drop_more, take_all}
use Rattle.std.proofs.Math.ListN.{drop_of_length-le}
use Rattle.std.specs.Borrow.{Bor}
use Rattle.std.specs.Ordering.{nat_cmp, match_ordering}
use Rattle.std.specs.Cmp.Lexicographic.{slice_cmp}
use Rattle.std.specs.declared.cmp.Ordering.TheVariants.{Less, Equal, Greater}
use Rattle.std.specs.FinMap.{slice_cmp-IsAntisymmetric, nat_cmp-IsAntisymmetric}
use Rattle.rt_groups.specs.declared.groups.Attribute.{Attribute}
use Rattle.serde_json.specs.Data.{Members, no_members, member, put}
use Rattle.script_lang.specs.TreeJson.{value_data}
use Rattle.script_lang.specs.SortedAttributes.{members_then, sorted_members}

-- One list after another.
pub members_then-append : (xs ys : List (Bor Attribute)) (ms : Members)
    → members_then (xs ++ ys) ms ≡ members_then xs (members_then ys ms)
members_then-append [] ys ms = refl
members_then-append (x ∷ xs) ys ms = ap (member x.now.name (value_data x.now.value)) (members_then-append xs ys ms)

-- The members from an index on are those of the attribute at the index and of the attributes after it.
from_index : (bs : List (Bor Attribute)) (i : ℕ) (b : Bor Attribute) → i < length bs → b ≡ slice_index_or bs i b →
    sorted_members (drop i bs) ≡ member b.now.name (value_data b.now.value) (sorted_members (drop (i + 1) bs))
from_index bs i b low is = ap sorted_members (drop_more bs i b low ∙ ap (λ x. x ∷ drop (i + 1) bs) (sym is))

-- Before a greater name.
pub put_less : (bs : List (Bor Attribute)) (i : ℕ) (a b : Bor Attribute) → i < length bs → b ≡ slice_index_or bs i b
    → slice_cmp nat_cmp a.now.name b.now.name ≡ Less →
    sorted_members (take i bs ++ a ∷ drop i bs)
    ≡ members_then (take i bs) (put a.now.name (value_data a.now.value) (sorted_members (drop i bs)))
put_less bs i a b low is less =
    let k = a.now.name in
    let d = value_data a.now.value in
    let rest = sorted_members (drop (i + 1) bs) in
    members_then-append (take i bs) (a ∷ drop i bs) no_members
    ∙ ap (members_then (take i bs))
    (ap (member k d) (from_index bs i b low is)
    ∙ sym (ap (λ o. match_ordering o (member k d (member b.now.name (value_data b.now.value) rest))
    (member b.now.name d rest) (member b.now.name (value_data b.now.value) (put k d rest))) less)
    ∙ sym (ap (put k d) (from_index bs i b low is)))

-- In the place of an equal name.
pub put_equal : (bs : List (Bor Attribute)) (i : ℕ) (a b : Bor Attribute) → i < length bs → b ≡ slice_index_or bs i b
    → slice_cmp nat_cmp a.now.name b.now.name ≡ Equal →
    sorted_members (take i bs ++ a ∷ drop (i + 1) bs)
    ≡ members_then (take i bs) (put a.now.name (value_data a.now.value) (sorted_members (drop i bs)))
put_equal bs i a b low is equal =
    let k = a.now.name in
    let d = value_data a.now.value in
    let rest = sorted_members (drop (i + 1) bs) in
    members_then-append (take i bs) (a ∷ drop (i + 1) bs) no_members
    ∙ ap (members_then (take i bs))
    (ap (λ n. member n d rest) (slice_cmp-IsAntisymmetric nat_cmp-IsAntisymmetric k b.now.name equal)
    ∙ sym (ap (λ o. match_ordering o (member k d (member b.now.name (value_data b.now.value) rest))
    (member b.now.name d rest) (member b.now.name (value_data b.now.value) (put k d rest))) equal)
    ∙ sym (ap (put k d) (from_index bs i b low is)))

-- After a lesser name.
pub put_greater : (bs : List (Bor Attribute)) (i : ℕ) (a : Attribute) (b : Bor Attribute) → i < length bs
    → b ≡ slice_index_or bs i b → slice_cmp nat_cmp a.name b.now.name ≡ Greater →
    members_then (take (i + 1) bs) (put a.name (value_data a.value) (sorted_members (drop (i + 1) bs)))
    ≡ members_then (take i bs) (put a.name (value_data a.value) (sorted_members (drop i bs)))
put_greater bs i a b low is greater =
    let k = a.name in
    let d = value_data a.value in
    let rest = sorted_members (drop (i + 1) bs) in
    ap (λ l. members_then l (put k d rest)) (take_more bs i b low ∙ ap (λ x. take i bs ++ x ∷ []) (sym is))
    ∙ members_then-append (take i bs) (b ∷ []) (put k d rest)
    ∙ ap (members_then (take i bs))
    (sym (ap (λ o. match_ordering o (member k d (member b.now.name (value_data b.now.value) rest))
    (member b.now.name d rest) (member b.now.name (value_data b.now.value) (put k d rest))) greater)
    ∙ sym (ap (put k d) (from_index bs i b low is)))

-- After all names.
pub put_last : (bs : List (Bor Attribute)) (i : ℕ) (a : Bor Attribute) (ms : Members) → length bs ≤ i
    → members_then (take i bs) (put a.now.name (value_data a.now.value) (sorted_members (drop i bs))) ≡ ms →
    sorted_members (bs ++ a ∷ []) ≡ ms
put_last bs i a ms past is =
    let front : take i bs ≡ bs = take_all i bs past in
    let back : drop i bs ≡ [] = drop_of_length-le bs past in
    members_then-append bs (a ∷ []) no_members
    ∙ sym (ap (λ l. members_then l (put a.now.name (value_data a.now.value) no_members)) front)
    ∙ sym (ap (λ l. members_then (take i bs) (put a.now.name (value_data a.now.value) (sorted_members l))) back) ∙ is
