-- Trusted: the links from what is read to the scopes that read it.
use Rattle.std.specs.Prelude.{ℕ, ◌-◌, ◌≡◌, ◌==◌, nat_eq, not, Bool, List, [], ◌∷◌, ◌++◌, length, slice_get, map, filter, Some, if◌then◌else◌}
use Rattle.std.specs.Option.{option_eq}

-- For each object the scopes that depend on it, and how many more pairs can be put without memory.
pub record LinkLists : Type 0 where
  pub links : List (ℕ × List ℕ)
  pub spare : ℕ

-- Whether s is the last of the scopes.
abbrev pub ends_with : ℕ → List ℕ → Bool
ends_with s ts = option_eq nat_eq (slice_get ts (length ts - 1)) (Some s)

-- The scopes with s appended, unless s is the last one: a call that reads an object several times is listed once.
abbrev pub with_scope : ℕ → List ℕ → List ℕ
with_scope s ts = if ends_with s ts then ts else ts ++ s ∷ []

-- The links after the scope s is put with the object x.
abbrev pub links_with : ℕ → ℕ → List (ℕ × List ℕ) → List (ℕ × List ℕ)
links_with s x [] = (x, s ∷ []) ∷ []
links_with s x (l ∷ ls) = if x == l.0 then (l.0, with_scope s l.1) ∷ ls else l ∷ links_with s x ls

-- The links after the scope s is put with each of the objects.
abbrev pub links_with_all : ℕ → List ℕ → List (ℕ × List ℕ) → List (ℕ × List ℕ)
links_with_all s [] ls = ls
links_with_all s (x ∷ xs) ls = links_with_all s xs (links_with s x ls)

abbrev pub scopes_without : ℕ → List ℕ → List ℕ
scopes_without s ts = filter (λ t. not (t == s)) ts

-- The links after the scope s is dropped.
abbrev pub links_without : ℕ → List (ℕ × List ℕ) → List (ℕ × List ℕ)
links_without s ls = map (λ l. (l.0, scopes_without s l.1)) ls

-- The scopes that depend on the object x, in the order in which they were put.
abbrev pub scopes_in : ℕ → List (ℕ × List ℕ) → List ℕ
scopes_in x [] = []
scopes_in x (l ∷ ls) = if x == l.0 then l.1 else scopes_in x ls

-- Putting a scope with an object changes the scopes of this object only.
abbrev pub PuttingLinksOneObject : Type 0
PuttingLinksOneObject = (s x y : ℕ) (ls : List (ℕ × List ℕ)) →
    scopes_in y (links_with s x ls) ≡ (if x == y then with_scope s (scopes_in y ls) else scopes_in y ls)

-- Dropping a scope removes it from the scopes of each object, and no other scope.
abbrev pub DroppingUnlinksOneScope : Type 0
DroppingUnlinksOneScope = (s y : ℕ) (ls : List (ℕ × List ℕ)) →
    scopes_in y (links_without s ls) ≡ scopes_without s (scopes_in y ls)
