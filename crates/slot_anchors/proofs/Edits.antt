-- Lemmas on replacing the indexes of a list one after another.
use Rattle.std.proofs.Common.{◌≡◌, ℕ, suc, ◌+◌, ◌<◌, List, [], ◌∷◌, ◌++◌, map, length, length-append, take, drop, get_or, set, refl, ap, sym, ◌∙◌, arith, append_assoc, drop-cons, length-take, length-drop}
use Rattle.std.proofs.Math.Seq.{set-append_seam, get_or-append_seam}
use Rattle.std.proofs.lemmas.List.{take_more, length-map}

set_seam : {X : Type 0} (xs before after : List X) (x y : X) (n : ℕ) → length before ≡ n → xs ≡ before ++ (x ∷ after)
    → set xs n y ≡ before ++ (y ∷ after)
set_seam xs before after x y n e is = ap (λ l. set l n y) is ∙ ap (λ k. set (before ++ (x ∷ after)) k y) (sym e)
    ∙ set-append_seam before x after y

got_seam : {X : Type 0} (xs before after : List X) (x d : X) (n : ℕ) → length before ≡ n → xs ≡ before ++ (x ∷ after)
    → get_or xs n d ≡ x
got_seam xs before after x d n e is = ap (λ l. get_or l n d) is ∙ ap (λ k. get_or (before ++ (x ∷ after)) k d) (sym e)
    ∙ get_or-append_seam before x after d

map-append : {X Y : Type 0} (f : X → Y) (xs ys : List X) → map f (xs ++ ys) ≡ map f xs ++ map f ys
map-append f [] ys = refl
map-append f (x ∷ xs) ys = ap (λ l. f x ∷ l) (map-append f xs ys)

pub one_more : {X : Type 0} (f : X → X) (all now : List X) (k : ℕ) (x y : X) → k < length now
    → now ≡ map f (take k all) ++ drop k all → y ≡ f (get_or now k x)
    → set now k y ≡ map f (take (k + 1) all) ++ drop (k + 1) all
one_more f all now k x y inside is e =
    let below : k < length all =
    let whole = ap (λ l. length l) is ∙ length-append (map f (take k all)) (drop k all) in
    let one = length-map (take k all) f in let two = length-take k all in let three = length-drop k all in
    omega (arith, whole, one, two, three, inside) in
    let next : suc k ≡ k + 1 = omega arith in
    let split : now ≡ map f (take k all) ++ (get_or all k x ∷ drop (k + 1) all) =
    is ∙ ap (λ l. map f (take k all) ++ l) (drop-cons all k x below ∙ ap (λ n. get_or all k x ∷ drop n all) next) in
    let long : length (map f (take k all)) ≡ k = let one = length-map (take k all) f in let two = length-take k all in
    omega (arith, one, two, below) in
    let got = got_seam now (map f (take k all)) (drop (k + 1) all) (get_or all k x) x k long split in
    set_seam now (map f (take k all)) (drop (k + 1) all) (get_or all k x) y k long split
    ∙ ap (λ z. map f (take k all) ++ (z ∷ drop (k + 1) all)) (e ∙ ap f got)
    ∙ sym (append_assoc (map f (take k all)) (f (get_or all k x) ∷ []) (drop (k + 1) all))
    ∙ ap (λ l. l ++ drop (k + 1) all)
    (sym (ap (λ l. map f l) (take_more all k x below) ∙ map-append f (take k all) (get_or all k x ∷ [])))
