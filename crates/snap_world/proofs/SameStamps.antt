-- Equal lists of stamps differ at no object.
use Rattle.std.proofs.Common.{◌≡◌, ℕ, zero, suc, ◌+◌, ◌<◌, List, ◌∷◌, drop, sym, ap, ◌∙◌, false, not, cond, arith}
use Rattle.std.specs.Prelude.{slice_get, slice_index_or, length}
use Rattle.std.proofs.lemmas.Bool.Decides.{Decides-eqb}
use Rattle.std.proofs.lemmas.List.{drop_more}
use Rattle.std.proofs.lemmas.Option.{slice_get-get_or}
use Rattle.snap_laws.specs.TakesFor.{stamp_differs, differ_stamps}
use Rattle.snap_world.specs.Stamps.{AreSame}

-- The objects with different stamps from an index on, by the stamp at that index.
pub differ_more : (before now : List ℕ) (i : ℕ) → i < length now → differ_stamps before i (drop i now)
    ≡ cond (stamp_differs (slice_get before i) (slice_index_or now i 0))
    (i ∷ differ_stamps before (i + 1) (drop (i + 1) now)) (differ_stamps before (i + 1) (drop (i + 1) now))
differ_more before now i within = ap (λ (l : List ℕ). differ_stamps before i l) (drop_more now i 0 within)

one_same : (before now : List ℕ) (i : ℕ) → i < length before → i < length now
    → slice_index_or before i 0 ≡ slice_index_or now i 0
    → differ_stamps before (i + 1) (drop (i + 1) now) ≡ differ_stamps before i (drop i now)
one_same before now i there within same =
    let unlike : stamp_differs (slice_get before i) (slice_index_or now i 0) ≡ false =
    ap (λ o. stamp_differs o (slice_index_or now i 0)) (slice_get-get_or before i 0 there)
    ∙ ap not ((Decides-eqb (slice_index_or before i 0) (slice_index_or now i 0)).1 same) in
    sym (differ_more before now i within
    ∙ ap (λ b. cond b (i ∷ differ_stamps before (i + 1) (drop (i + 1) now))
    (differ_stamps before (i + 1) (drop (i + 1) now))) unlike)

pub many_same : (before now : List ℕ) (i n : ℕ) → AreSame before now i n
    → differ_stamps before (i + n) (drop (i + n) now) ≡ differ_stamps before i (drop i now)
many_same before now i zero same =
    let e : i + 0 ≡ i = omega arith in ap (λ (k : ℕ). differ_stamps before k (drop k now)) e
many_same before now i (suc n) same =
    let e : i + suc n ≡ (i + 1) + n = omega arith in
    let here = same i (omega arith) (omega arith) in
    ap (λ (k : ℕ). differ_stamps before k (drop k now)) e
    ∙ many_same before now (i + 1) n (λ j low high. same j (omega (arith, low)) (omega (arith, high)))
    ∙ one_same before now i here.0 here.1 here.2
