-- Internal: the test of siblings is equality. No public clause cites this module. It is in `specs/` for the impls of
-- `PartialEq` and `Eq` of other crates, which take their laws only from there.
use Rattle.std.proofs.Common.{true≢false, ◌≡◌, ◌==◌, Bool, true, false, ◌&&◌, Option, Some, None, refl, ap, sym, ◌∙◌, eq-eqb}
use Rattle.std.specs.Option.{option_eq}
use Rattle.std.specs.Cmp.{IsEquivalence}
use Rattle.std.proofs.lemmas.Bool.{eqb-true}
use Rattle.rt_values.specs.declared.value.Value.{Value}
use Rattle.rt_values.specs.Values.{same_value}
use Rattle.rt_groups.specs.Paths.{GroupKey, same_sibling}
use Rattle.rt_values.proofs.Equal.{told_equal}

both_true : (a b : Bool) → (a && b) ≡ true → (a ≡ true) × (b ≡ true)
both_true true b e = (refl, e)
both_true false b e = absurd (true≢false (sym e))

same_key : (k l : Option Value) → option_eq same_value k l ≡ true → k ≡ l
same_key None None e = refl
same_key None (Some w) e = absurd (true≢false (sym e))
same_key (Some v) None e = absurd (true≢false (sym e))
same_key (Some v) (Some w) e = ap Some ((told_equal v w (same_value v w) refl).0 e)

key_itself : (k : Option Value) → option_eq same_value k k ≡ true
key_itself None = refl
key_itself (Some v) = (told_equal v v (same_value v v) refl).1 refl

pub same_is : (s t : GroupKey) → same_sibling s t ≡ true → s ≡ t
same_is s t e =
    let both = both_true (s.site == t.site) (option_eq same_value s.key t.key) e in
    let site : s.site ≡ t.site = eqb-true s.site t.site both.0 in
    ap (λ n. record { site = n; key = s.key }) site
    ∙ ap (λ k. record { site = t.site; key = k }) (same_key s.key t.key both.1)

pub itself : (s : GroupKey) → same_sibling s s ≡ true
itself s = ap (λ b. b && option_eq same_value s.key s.key) (eq-eqb s.site s.site refl) ∙ key_itself s.key

both_ways : (a b : Bool) → (a ≡ true → b ≡ true) → (b ≡ true → a ≡ true) → a ≡ b
both_ways true b to from = sym (to refl)
both_ways false true to from = from refl
both_ways false false to from = refl

turned : (s t : GroupKey) → same_sibling s t ≡ true → same_sibling t s ≡ true
turned s t e = ap (λ x. same_sibling x s) (sym (same_is s t e)) ∙ itself s

pub siblings_equiv : IsEquivalence same_sibling
siblings_equiv = record {
  refl = itself;
  symm = λ x y. both_ways (same_sibling x y) (same_sibling y x) (turned x y) (turned y x);
  congr = λ x y z e. ap (λ s. same_sibling s z) (same_is x y e);
}
