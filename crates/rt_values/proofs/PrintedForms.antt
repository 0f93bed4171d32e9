-- Laws of printed values, for loops that append them item by item.
use Rattle.std.proofs.Common.{◌≡◌, ◌<◌, ℕ, ◌+◌, ℤ, pos, List, [], ◌∷◌, ◌++◌, refl, sym, ap, ◌∙◌, length, take, get_or, append_assoc, add-one}
use Rattle.std.proofs.Math.Seq.{take-suc}
use Rattle.std.proofs.lemmas.List.{append-nil}
use Rattle.std.proofs.lemmas.Int.{to_z-of_z}
use Rattle.std.specs.Fmt.{signed_decimal}
use Rattle.rt_values.specs.Values.{escape, escape_all, items_text}

escaped-append : (xs ys : List ℕ) → escape_all (xs ++ ys) ≡ escape_all xs ++ escape_all ys
escaped-append [] ys = refl
escaped-append (x ∷ xs) ys =
    ap (λ l. escape x ++ l) (escaped-append xs ys) ∙ sym (append_assoc (escape x) (escape_all xs) (escape_all ys))

-- The literal of a prefix that is one byte longer.
pub escaped-more : (xs : List ℕ) (i : ℕ) → i < length xs
    → escape_all (take (i + 1) xs) ≡ escape_all (take i xs) ++ escape (get_or xs i 0)
escaped-more xs i lt =
    ap (λ n. escape_all (take n xs)) (add-one i) ∙ ap escape_all (take-suc xs i 0 lt)
    ∙ escaped-append (take i xs) (get_or xs i 0 ∷ [])
    ∙ ap (λ l. escape_all (take i xs) ++ l) (append-nil (escape (get_or xs i 0)))

pub ruleset strings = (escaped-more, append_assoc)

items_text-append : (xs ys : List ℤ) → items_text (xs ++ ys) ≡ items_text xs ++ items_text ys
items_text-append [] ys = refl
items_text-append (x ∷ xs) ys =
    ap (λ l. 32 ∷ signed_decimal x ++ l) (items_text-append xs ys)
    ∙ ap (λ l. 32 ∷ l) (sym (append_assoc (signed_decimal x) (items_text xs) (items_text ys)))

-- The literal of a prefix that is one number longer.
pub items_text-more : (xs : List ℤ) (i : ℕ) (d : ℤ) → i < length xs
    → items_text (take (i + 1) xs) ≡ items_text (take i xs) ++ 32 ∷ signed_decimal (get_or xs i d)
items_text-more xs i d lt =
    ap (λ n. items_text (take n xs)) (add-one i) ∙ ap items_text (take-suc xs i d lt)
    ∙ items_text-append (take i xs) (get_or xs i d ∷ [])
    ∙ ap (λ l. items_text (take i xs) ++ 32 ∷ l) (append-nil (signed_decimal (get_or xs i d)))

pub ruleset lists = (items_text-more, append_assoc, to_z-of_z)
