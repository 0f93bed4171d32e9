-- The names of a script's actors.
use Rattle.std.proofs.Common.{◌≡◌, ℕ, zero, suc, ◌<◌, ◌≤◌, Bool, true, false, List, [], ◌∷◌, ◌++◌, length, nat_lt, refl, sym, ap, ◌∙◌, subst, cond, inl, inr, arith, lt-ltb}
use Rattle.std.proofs.lemmas.Bool.{cases_lt, cases_Bool}
use Rattle.std.specs.Cmp.Lexicographic.{bytes_decides}
use Rattle.std.specs.Str.{bytes_eq}
use Rattle.lang_ast.specs.declared.script.DoForm.{DoForm}
use Rattle.script_lang.specs.Lines.{actor_name}
use Rattle.lang_script.specs.Scripts.{most_actors, index_of, is_among, with_actor, actors_from, actors_of}
use Rattle.play_laws.specs.Laws.{ActorNamesAreDistinct}

-- No name is among the later ones.
abbrev Apart : List (List ℕ) → Type 0
Apart [] = Unit {0}
Apart (x ∷ xs) = (index_of x xs ≡ length xs) × Apart xs

differs : (x y : List ℕ) → bytes_eq x y ≡ false → bytes_eq y x ≡ false
differs x y ne = elim (cases_Bool (bytes_eq y x)) [
  | inl same ↦ let no : true ≡ false = sym ((bytes_decides x y).1 (sym ((bytes_decides y x).0 same))) ∙ ne in absurd cc
  | inr other ↦ other
]

index_of-snoc : (x name : List ℕ) (xs : List (List ℕ)) → index_of x xs ≡ length xs → bytes_eq name x ≡ false
    → index_of x (xs ++ name ∷ []) ≡ length (xs ++ name ∷ [])
index_of-snoc x name [] m ne = ap (λ b. cond b 0 1) ne
index_of-snoc x name (y ∷ ys) m ne = by (bytes_eq y x) m (λ e. index_of-snoc x name ys e ne) where
  by : (b : Bool) → cond b 0 (suc (index_of x ys)) ≡ suc (length ys)
      → (index_of x ys ≡ length ys → index_of x (ys ++ name ∷ []) ≡ length (ys ++ name ∷ [])) →
      cond b 0 (suc (index_of x (ys ++ name ∷ []))) ≡ suc (length (ys ++ name ∷ []))
  by true e rest = absurd (omega (arith, e))
  by false e rest = ap (λ k. suc k) (rest (omega (arith, e)))

apart-snoc : (xs : List (List ℕ)) (name : List ℕ) → Apart xs → index_of name xs ≡ length xs → Apart (xs ++ name ∷ [])
apart-snoc [] name m e = (refl, tt)
apart-snoc (x ∷ xs) name m e = by (bytes_eq x name) refl e (apart-snoc xs name m.1) where
  by : (b : Bool) → bytes_eq x name ≡ b → cond b 0 (suc (index_of name xs)) ≡ suc (length xs)
      → (index_of name xs ≡ length xs → Apart (xs ++ name ∷ [])) → Apart (x ∷ (xs ++ name ∷ []))
  by true q e rest = absurd (omega (arith, e))
  by false q e rest = (index_of-snoc x name xs m.0 (differs x name q), rest (omega (arith, e)))

index_of-upto : (name : List ℕ) (xs : List (List ℕ)) → index_of name xs ≤ length xs
index_of-upto name [] = omega (arith)
index_of-upto name (x ∷ xs) = by (bytes_eq x name) (index_of-upto name xs) where
  by : (b : Bool) → index_of name xs ≤ length xs → cond b 0 (suc (index_of name xs)) ≤ suc (length xs)
  by true h = omega (arith)
  by false h = omega (arith, h)

new_name : (name : List ℕ) (xs : List (List ℕ)) → is_among name xs ≡ false → index_of name xs ≡ length xs
new_name name xs h = elim (cases_lt (index_of name xs) (length xs)) [
  | inl under ↦ let no : true ≡ false = sym (lt-ltb (index_of name xs) (length xs) under) ∙ h in absurd cc
  | inr far ↦ let upto = index_of-upto name xs in omega (arith, far, upto)
]

apart-with : (xs : List (List ℕ)) (name : List ℕ) → Apart xs → Apart (with_actor xs name)
apart-with xs name m = by (is_among name xs) refl (nat_lt (length xs) most_actors) where
  by : (b : Bool) → is_among name xs ≡ b → (c : Bool) → Apart (cond b xs (cond c (xs ++ name ∷ []) xs))
  by true h c = m
  by false h true = apart-snoc xs name m (new_name name xs h)
  by false h false = m

apart-from : (forms : List DoForm) (xs : List (List ℕ)) → Apart xs → Apart (actors_from xs forms)
apart-from [] xs m = m
apart-from (d ∷ more) xs m = apart-from more (with_actor xs d.actor.text) (apart-with xs d.actor.text m)

among : (xs : List (List ℕ)) (b : ℕ) (x : List ℕ) → b < length xs → actor_name xs b ≡ x → index_of x xs < length xs
among [] b x h e = absurd (omega (arith, h))
among (y ∷ ys) zero x h e = subst (λ (c : Bool). cond c 0 (suc (index_of x ys)) < suc (length ys))
    (sym ((bytes_decides y x).1 e)) (omega (arith))
among (y ∷ ys) (suc b) x h e = by (bytes_eq y x) (among ys b x (omega (arith, h)) e) where
  by : (c : Bool) → index_of x ys < length ys → cond c 0 (suc (index_of x ys)) < suc (length ys)
  by true rest = omega (arith)
  by false rest = omega (arith, rest)

distinct : (xs : List (List ℕ)) → Apart xs → (a b : ℕ) → a < length xs → b < length xs
    → actor_name xs a ≡ actor_name xs b → a ≡ b
distinct [] m a b ha hb e = absurd (omega (arith, ha))
distinct (x ∷ xs) m zero zero ha hb e = refl
distinct (x ∷ xs) m zero (suc b) ha hb e =
    let k = among xs b x (omega (arith, hb)) (sym e) in
    let no = m.0 in absurd (omega (arith, k, no))
distinct (x ∷ xs) m (suc a) zero ha hb e =
    let k = among xs a x (omega (arith, ha)) e in
    let no = m.0 in absurd (omega (arith, k, no))
distinct (x ∷ xs) m (suc a) (suc b) ha hb e =
    ap (λ k. suc k) (distinct xs m.1 a b (omega (arith, ha)) (omega (arith, hb)) e)

pub actor_names_are_distinct : ActorNamesAreDistinct
actor_names_are_distinct forms a b ha hb e = distinct (actors_of forms) (apart-from forms [] tt) a b ha hb e
