-- A group is found among its own siblings.
use Rattle.std.proofs.Common.{ℕ, suc, ◌+◌, ◌==◌, List, [], ◌∷◌, ◌≡◌, refl, ap, ◌∙◌, eq-eqb, Bool, true, false, Option, Some, None, if◌then◌else◌, arith}
use Rattle.std.specs.Bool.{Decides}
use Rattle.std.specs.Option.{option_eq}
use Rattle.std.proofs.lemmas.Bool.Decides.{not_from_Decides}
use Rattle.std.proofs.lemmas.Bool.{true_from_ne_false}
use Rattle.rt_values.specs.declared.value.Value.{Value}
use Rattle.rt_values.specs.Values.{same_value, same_values}
use Rattle.rt_groups.specs.GroupForest.{GroupForest, End, Read, Group, GroupKind, Call, joined_forest}
use Rattle.rt_groups.specs.Paths.{GroupKey, sibling, same_sibling, occurrence, Found, nth, matching_sibling}
use Rattle.rt_groups.specs.Frames.{same_call}
use Rattle.rt_values.proofs.Equal.{same_value_decides}
use Rattle.recompose_laws.specs.Work.{siblings}

decides_true : {P : Type 0} (b : Bool) → Decides b P → P → b ≡ true
decides_true b d p = true_from_ne_false b (λ e. not_from_Decides b d e p)

value_itself : (v : Value) → same_value v v ≡ true
value_itself v = decides_true (same_value v v) (same_value_decides v v) refl

values_themselves : (vs : List Value) → same_values vs vs ≡ true
values_themselves [] = refl
values_themselves (v ∷ vs) = rw (value_itself v) (values_themselves vs)

key_itself : (k : Option Value) → option_eq same_value k k ≡ true
key_itself None = refl
key_itself (Some v) = value_itself v

number_itself : (n : ℕ) → (n == n) ≡ true
number_itself n = eq-eqb n n refl

pub sibling_itself : (s : GroupKey) → same_sibling s s ≡ true
sibling_itself s = rw (number_itself s.site) (key_itself s.key)

pub call_itself : (f : ℕ) (vs : List Value) → same_call (Call f vs) (Call f vs) ≡ true
call_itself f vs = rw (number_itself f) (values_themselves vs)

occurrence-siblings : (s : GroupKey) (t : GroupForest) (seen : List GroupKey)
    → occurrence s (siblings t seen) ≡ occurrence s (siblings t []) + occurrence s seen
occurrence-siblings s End seen = omega arith
occurrence-siblings s (Read x rest) seen = occurrence-siblings s rest seen
occurrence-siblings s (Group site n what inside rest) seen =
    let e = occurrence-siblings s rest (sibling site what ∷ seen) in
    let f = occurrence-siblings s rest (sibling site what ∷ []) in
    omega (arith, e, f)

among_step : (b : Bool) (here : Found) (go : ℕ → Option Found) (k : ℕ)
    → (if b then nth ((if b then 1 else 0) + k) here go else go ((if b then 1 else 0) + k)) ≡ go k
among_step true here go k = let e : 1 + k ≡ suc k = omega arith in ap (λ x. nth x here go) e
among_step false here go k = let e : 0 + k ≡ k = omega arith in ap go e

-- After a part of the siblings, the search goes on with the rest.
among_past : (s : GroupKey) (k : ℕ) (t u : GroupForest)
    → matching_sibling s (occurrence s (siblings t []) + k) (joined_forest t u) ≡ matching_sibling s k u
among_past s k End u = let e : 0 + k ≡ k = omega arith in ap (λ x. matching_sibling s x u) e
among_past s k (Read x rest) u = among_past s k rest u
among_past s k (Group site n what inside rest) u =
    let f = occurrence-siblings s rest (sibling site what ∷ []) in
    let e : occurrence s (siblings rest (sibling site what ∷ [])) + k ≡ (if same_sibling (sibling site what) s then 1 else 0) + (occurrence s (siblings rest []) + k) = omega (arith, f) in
    ap (λ x. matching_sibling s x (Group site n what inside (joined_forest rest u))) e
    ∙ among_step (same_sibling (sibling site what) s) (record { number = n; what = what; inside = inside })
    (λ j. matching_sibling s j (joined_forest rest u)) (occurrence s (siblings rest []) + k)
    ∙ among_past s k rest u

-- A group is found by its site, its key and the count of equal siblings before it.
pub among_itself : (site n : ℕ) (what : GroupKind) (inside rest before : GroupForest) →
    matching_sibling (sibling site what) (occurrence (sibling site what) (siblings before []))
    (joined_forest before (Group site n what inside rest))
    ≡ Some (record { number = n; what = what; inside = inside })
among_itself site n what inside rest before =
    let me : Found = record { number = n; what = what; inside = inside } in
    let e : occurrence (sibling site what) (siblings before []) ≡ occurrence (sibling site what) (siblings before []) + 0 = omega arith in
    ap (λ x. matching_sibling (sibling site what) x (joined_forest before (Group site n what inside rest))) e
    ∙ among_past (sibling site what) 0 before (Group site n what inside rest)
    ∙ ap (λ b. if b then Some me else matching_sibling (sibling site what) 0 rest) (sibling_itself (sibling site what))

pub joined_forest-joined_forest : (t u v : GroupForest)
    → joined_forest (joined_forest t u) v ≡ joined_forest t (joined_forest u v)
joined_forest-joined_forest End u v = refl
joined_forest-joined_forest (Read x rest) u v = ap (λ w. Read x w) (joined_forest-joined_forest rest u v)
joined_forest-joined_forest (Group site n what inside rest) u v =
    ap (λ w. Group site n what inside w) (joined_forest-joined_forest rest u v)
