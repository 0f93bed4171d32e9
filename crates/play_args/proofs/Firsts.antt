-- The first of the arguments, and words that name no command.
use Rattle.std.proofs.Common.{◌≡◌, ◌∙◌, ◌++◌, ℕ, List, [], ◌∷◌, Bool, true, false, Option, Some, None, option_map, codes, refl, ap, sym, length, get_or, if◌then◌else◌, arith, String, Global}
use Rattle.std.specs.Str.{bytes_eq}
use Rattle.std.specs.Prelude.{string_bytes}
use Rattle.std.proofs.lemmas.Slice.Eq.{bytes_eq-Decides}
use Rattle.play_args.specs.declared.command.Command.TheVariants.{Run, Threads}
use Rattle.play_args.specs.CommandWords.{no_flags, flags_after, check_with, gen_with, command_named, command_of_args, texts}

-- The arguments are the first one and the others.
pub split_first : (items front back : List (String Global)) → items ≡ front ++ back → length front ≡ 1
    → (f : String Global) → f ≡ get_or front 0 f →
    (texts front ≡ string_bytes f ∷ []) × (texts items ≡ string_bytes f ∷ texts back)
split_first items [] back split one f is = absurd (omega (arith, one))
split_first items (x ∷ []) back split one f is =
    let same : x ≡ f = sym is in
    (ap (λ y. string_bytes y ∷ []) same, ap texts split ∙ ap (λ y. string_bytes y ∷ texts back) same)
split_first items (x ∷ y ∷ front) back split one f is = absurd (omega (arith, one))

-- Some first argument precedes the others.
pub split_any : (items front back : List (String Global)) → items ≡ front ++ back → length front ≡ 1
    → (w : List ℕ) × (texts front ≡ w ∷ []) × (texts items ≡ w ∷ texts back)
split_any items [] back split one = absurd (omega (arith, one))
split_any items (x ∷ []) back split one = (string_bytes x, refl, ap texts split)
split_any items (x ∷ y ∷ front) back split one = absurd (omega (arith, one))

pub some-inj : {A : Type 0} (a b : A) → Some a ≡ Some b → a ≡ b
some-inj a b e = cc

pub none-apart : {A : Type 0} (a : A) → None ≡ Some a → ⊥
none-apart a e = absurd cc

pub unequal : (a b : List ℕ) → false ≡ bytes_eq a b → a ≡ b → ⊥
unequal a b differ e = let both : false ≡ true = differ ∙ (bytes_eq-Decides a b).1 e in absurd cc

-- A word that is no name of a command.
unnamed : (w : List ℕ) (ws : List (List ℕ)) → (w ≡ codes "run" → ⊥) → (w ≡ codes "threads" → ⊥) → (w ≡ codes "check" → ⊥) → (w ≡ codes "gen" → ⊥) → command_named w ws ≡ None
unnamed w ws run threads check gen = by (bytes_eq w (codes "run")) (bytes_eq w (codes "threads")) (bytes_eq w (codes "check")) (bytes_eq w (codes "gen"))
    (λ e. run ((bytes_eq-Decides w (codes "run")).0 e)) (λ e. threads ((bytes_eq-Decides w (codes "threads")).0 e)) (λ e. check ((bytes_eq-Decides w (codes "check")).0 e)) (λ e. gen ((bytes_eq-Decides w (codes "gen")).0 e))
  where
    by : (a b c d : Bool) → (a ≡ true → ⊥) → (b ≡ true → ⊥) → (c ≡ true → ⊥) → (d ≡ true → ⊥) →
        (if a then option_map Run (flags_after no_flags ws) else if b then option_map Threads (flags_after no_flags ws)
        else if c then check_with ws else if d then gen_with ws else None) ≡ None
    by true b c d p q r s = absurd (p refl)
    by false true c d p q r s = absurd (q refl)
    by false false true d p q r s = absurd (r refl)
    by false false false true p q r s = absurd (s refl)
    by false false false false p q r s = refl

-- A first argument that clap does not find is no command.
pub unfound : (words front : List (List ℕ)) (w : List ℕ) (ws : List (List ℕ)) (found : Option (List ℕ)) → front ≡ w ∷ []
    → words ≡ w ∷ ws →
    (front ≡ codes "run" ∷ [] → found ≡ Some (codes "run")) → (front ≡ codes "threads" ∷ [] → found ≡ Some (codes "threads")) →
    (front ≡ codes "check" ∷ [] → found ≡ Some (codes "check")) → (front ≡ codes "gen" ∷ [] → found ≡ Some (codes "gen")) →
    (found ≡ Some w → ⊥) → None ≡ command_of_args words
unfound words front w ws found one all run threads check gen other =
    let not : (v : List ℕ) → (front ≡ v ∷ [] → found ≡ Some v) → w ≡ v → ⊥ =
    λ v known is. other (known (one ∙ ap (λ u. u ∷ []) is) ∙ ap Some (sym is)) in
    sym (unnamed w ws (not (codes "run") run) (not (codes "threads") threads) (not (codes "check") check) (not (codes "gen") gen)) ∙ ap command_of_args (sym all)
