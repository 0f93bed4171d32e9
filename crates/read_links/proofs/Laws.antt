-- The scopes of an object after a put and after a drop.
use Rattle.std.proofs.Common.{◌≡◌, ◌==◌, ℕ, Bool, true, false, List, [], ◌∷◌, if◌then◌else◌, refl, ap, sym, ◌∙◌, true≢false, eq-eqb}
use Rattle.std.proofs.lemmas.Bool.{eqb-true}
use Rattle.read_links.specs.LinkLists.{with_scope, links_with, scopes_without, links_without, scopes_in, PuttingLinksOneObject, DroppingUnlinksOneScope}

put_in : (s x y : ℕ) (ls : List (ℕ × List ℕ)) (b : Bool) → (x == y) ≡ b
    → scopes_in y (links_with s x ls) ≡ (if b then with_scope s (scopes_in y ls) else scopes_in y ls)
put_in s x y [] true e = ap (λ c. if c then s ∷ [] else []) (ap (λ n. y == n) (eqb-true x y e) ∙ eq-eqb y y refl)
put_in s x y [] false e = by (y == x) refl
  where
    by : (c : Bool) → (y == x) ≡ c → (if c then s ∷ [] else []) ≡ []
    by true f = absurd (true≢false (sym (eq-eqb x x refl) ∙ ap (λ n. x == n) (sym (eqb-true y x f)) ∙ e))
    by false f = refl
put_in s x y (l ∷ ls) b e = by (x == l.0) refl (y == l.0) refl b e (put_in s x y ls b e)
  where
    by : (c : Bool) → (x == l.0) ≡ c → (d : Bool) → (y == l.0) ≡ d → (b : Bool) → (x == y) ≡ b
        → scopes_in y (links_with s x ls) ≡ (if b then with_scope s (scopes_in y ls) else scopes_in y ls)
        → scopes_in y (if c then (l.0, with_scope s l.1) ∷ ls else l ∷ links_with s x ls)
        ≡ (if b then with_scope s (if d then l.1 else scopes_in y ls) else (if d then l.1 else scopes_in y ls))
    by true f true g true e later = ap (λ c. if c then with_scope s l.1 else scopes_in y ls) g
    by true f true g false e later =
        absurd (true≢false (sym (eq-eqb x x refl) ∙ ap (λ n. x == n) (eqb-true x l.0 f ∙ sym (eqb-true y l.0 g)) ∙ e))
    by true f false g true e later = absurd (true≢false (sym (ap (λ n. n == l.0) (sym (eqb-true x y e)) ∙ f) ∙ g))
    by true f false g false e later = ap (λ c. if c then with_scope s l.1 else scopes_in y ls) g
    by false f true g true e later = absurd (true≢false (sym (ap (λ n. n == l.0) (eqb-true x y e) ∙ g) ∙ f))
    by false f true g false e later = ap (λ c. if c then l.1 else scopes_in y (links_with s x ls)) g
    by false f false g b e later = ap (λ c. if c then l.1 else scopes_in y (links_with s x ls)) g ∙ later

pub putting_links_one_object : PuttingLinksOneObject
putting_links_one_object s x y ls = put_in s x y ls (x == y) refl

pub dropping_unlinks_one_scope : DroppingUnlinksOneScope
dropping_unlinks_one_scope s y [] = refl
dropping_unlinks_one_scope s y (l ∷ ls) = by (y == l.0) (dropping_unlinks_one_scope s y ls)
  where
    by : (b : Bool) → scopes_in y (links_without s ls) ≡ scopes_without s (scopes_in y ls)
        → (if b then scopes_without s l.1 else scopes_in y (links_without s ls)) ≡ scopes_without s
        (if b then l.1 else scopes_in y ls)
    by true e = refl
    by false e = e
