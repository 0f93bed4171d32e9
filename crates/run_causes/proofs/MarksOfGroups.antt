-- The marks of a frame have the causes of its calls, and tell which cells were calculated.
use Rattle.std.proofs.Common.{ℕ, List, [], ◌∷◌, ◌++◌, ◌≡◌, refl, ap, ◌∙◌, sym, map, Bool}
use Rattle.std.proofs.lemmas.List.{map-append}
use Rattle.rt_groups.specs.GroupForest.{GroupForest, End, Read, Group, Call, Node, Key, Cell}
use Rattle.rt_groups.specs.Paths.{Path, GroupKey, sibling, step}
use Rattle.rt_groups.specs.Frames.{CallAtPath, CellAtPath, nobody, calls, cells, is_calculated}
use Rattle.run_causes.specs.declared.causes.Cause.{Cause}
use Rattle.run_causes.specs.declared.causes.Mark.{Mark}
use Rattle.run_causes.specs.declared.causes.Mark.TheVariants as mark
use Rattle.run_causes.specs.Causes.{cause_of, marks_from}
use Rattle.run_causes.specs.CauseLaws.{causes_in, calculated_in, MarksHaveTheCauses, MarksTellTheCalculated}

causes_joined : (xs ys : List Mark) → causes_in (xs ++ ys) ≡ causes_in xs ++ causes_in ys
causes_joined [] ys = refl
causes_joined (mark.Call c ∷ xs) ys = ap (λ l. c ∷ l) (causes_joined xs ys)
causes_joined (mark.Cell b ∷ xs) ys = causes_joined xs ys
causes_joined (mark.Other ∷ xs) ys = causes_joined xs ys

calculated_joined : (xs ys : List Mark) → calculated_in (xs ++ ys) ≡ calculated_in xs ++ calculated_in ys
calculated_joined [] ys = refl
calculated_joined (mark.Call c ∷ xs) ys = calculated_joined xs ys
calculated_joined (mark.Cell b ∷ xs) ys = ap (λ l. b ∷ l) (calculated_joined xs ys)
calculated_joined (mark.Other ∷ xs) ys = calculated_joined xs ys

both : {A : Type 0} (a b c d : List A) → a ≡ c → b ≡ d → a ++ b ≡ c ++ d
both a b c d e f = ap (λ x. x ++ b) e ∙ ap (λ x. c ++ x) f

causes_step : (f : CallAtPath → Cause) (ms ns : List Mark) (cs ds : List CallAtPath)
    → causes_in ms ≡ map f cs → causes_in ns ≡ map f ds → causes_in (ms ++ ns) ≡ map f (cs ++ ds)
causes_step f ms ns cs ds e g =
    causes_joined ms ns ∙ both (causes_in ms) (causes_in ns) (map f cs) (map f ds) e g ∙ sym (map-append f cs ds)

calculated_step : (f : CellAtPath → Bool) (ms ns : List Mark) (cs ds : List CellAtPath)
    → calculated_in ms ≡ map f cs → calculated_in ns ≡ map f ds → calculated_in (ms ++ ns) ≡ map f (cs ++ ds)
calculated_step f ms ns cs ds e g =
    calculated_joined ms ns ∙ both (calculated_in ms) (calculated_in ns) (map f cs) (map f ds) e g
    ∙ sym (map-append f cs ds)

causes_from : (owed : List ℕ) (old : GroupForest) (caller : CallAtPath) (here : Path) (seen : List GroupKey) (t : GroupForest)
    → causes_in (marks_from owed old caller here seen t) ≡ map (cause_of owed old) (calls here seen t)
causes_from owed old caller here seen End = refl
causes_from owed old caller here seen (Read x rest) = causes_from owed old caller here seen rest
causes_from owed old caller here seen (Group site number (Call f vs) inside rest) =
    let path = here ++ step site (Call f vs) seen ∷ [] in
    ap (λ l. cause_of owed old (record { path = path; what = Call f vs }) ∷ l)
    (causes_step (cause_of owed old) (marks_from owed old (record { path = path; what = Call f vs }) path [] inside)
    (marks_from owed old caller here (sibling site (Call f vs) ∷ seen) rest)
    (calls path [] inside) (calls here (sibling site (Call f vs) ∷ seen) rest)
    (causes_from owed old (record { path = path; what = Call f vs }) path [] inside) (causes_from owed old caller here (sibling site (Call f vs) ∷ seen) rest))
causes_from owed old caller here seen (Group site number (Node k as_) inside rest) =
    let path = here ++ step site (Node k as_) seen ∷ [] in
    causes_step (cause_of owed old) (marks_from owed old caller path [] inside)
    (marks_from owed old caller here (sibling site (Node k as_) ∷ seen) rest)
    (calls path [] inside) (calls here (sibling site (Node k as_) ∷ seen) rest)
    (causes_from owed old caller path [] inside) (causes_from owed old caller here (sibling site (Node k as_) ∷ seen) rest)
causes_from owed old caller here seen (Group site number (Key v) inside rest) =
    let path = here ++ step site (Key v) seen ∷ [] in
    causes_step (cause_of owed old) (marks_from owed old caller path [] inside)
    (marks_from owed old caller here (sibling site (Key v) ∷ seen) rest)
    (calls path [] inside) (calls here (sibling site (Key v) ∷ seen) rest)
    (causes_from owed old caller path [] inside) (causes_from owed old caller here (sibling site (Key v) ∷ seen) rest)
causes_from owed old caller here seen (Group site number (Cell ks v) inside rest) =
    let path = here ++ step site (Cell ks v) seen ∷ [] in
    causes_step (cause_of owed old) (marks_from owed old caller path [] inside)
    (marks_from owed old caller here (sibling site (Cell ks v) ∷ seen) rest)
    (calls path [] inside) (calls here (sibling site (Cell ks v) ∷ seen) rest)
    (causes_from owed old caller path [] inside) (causes_from owed old caller here (sibling site (Cell ks v) ∷ seen) rest)

pub marks_have_the_causes : MarksHaveTheCauses
marks_have_the_causes owed old new = causes_from owed old nobody [] [] new

calculated_from : (owed : List ℕ) (old : GroupForest) (caller : CallAtPath) (here : Path) (seen : List GroupKey) (t : GroupForest)
    → calculated_in (marks_from owed old caller here seen t) ≡ map (is_calculated owed old) (cells caller here seen t)
calculated_from owed old caller here seen End = refl
calculated_from owed old caller here seen (Read x rest) = calculated_from owed old caller here seen rest
calculated_from owed old caller here seen (Group site number (Call f vs) inside rest) =
    let path = here ++ step site (Call f vs) seen ∷ [] in
    calculated_step (is_calculated owed old) (marks_from owed old (record { path = path; what = Call f vs }) path [] inside)
    (marks_from owed old caller here (sibling site (Call f vs) ∷ seen) rest)
    (cells (record { path = path; what = Call f vs }) path [] inside) (cells caller here (sibling site (Call f vs) ∷ seen) rest)
    (calculated_from owed old (record { path = path; what = Call f vs }) path [] inside) (calculated_from owed old caller here (sibling site (Call f vs) ∷ seen) rest)
calculated_from owed old caller here seen (Group site number (Node k as_) inside rest) =
    let path = here ++ step site (Node k as_) seen ∷ [] in
    calculated_step (is_calculated owed old) (marks_from owed old caller path [] inside)
    (marks_from owed old caller here (sibling site (Node k as_) ∷ seen) rest)
    (cells caller path [] inside) (cells caller here (sibling site (Node k as_) ∷ seen) rest)
    (calculated_from owed old caller path [] inside) (calculated_from owed old caller here (sibling site (Node k as_) ∷ seen) rest)
calculated_from owed old caller here seen (Group site number (Key v) inside rest) =
    let path = here ++ step site (Key v) seen ∷ [] in
    calculated_step (is_calculated owed old) (marks_from owed old caller path [] inside)
    (marks_from owed old caller here (sibling site (Key v) ∷ seen) rest)
    (cells caller path [] inside) (cells caller here (sibling site (Key v) ∷ seen) rest)
    (calculated_from owed old caller path [] inside) (calculated_from owed old caller here (sibling site (Key v) ∷ seen) rest)
calculated_from owed old caller here seen (Group site number (Cell ks v) inside rest) =
    let path = here ++ step site (Cell ks v) seen ∷ [] in
    ap (λ l. is_calculated owed old (record { caller = caller; path = path; keys = ks }) ∷ l)
    (calculated_step (is_calculated owed old) (marks_from owed old caller path [] inside)
    (marks_from owed old caller here (sibling site (Cell ks v) ∷ seen) rest)
    (cells caller path [] inside) (cells caller here (sibling site (Cell ks v) ∷ seen) rest)
    (calculated_from owed old caller path [] inside) (calculated_from owed old caller here (sibling site (Cell ks v) ∷ seen) rest))

pub marks_tell_the_calculated : MarksTellTheCalculated
marks_tell_the_calculated owed old new = calculated_from owed old nobody [] [] new
