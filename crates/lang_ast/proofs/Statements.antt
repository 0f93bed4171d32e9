-- Facts of each of some statements.
use Rattle.std.proofs.Common.{List, [], ◌∷◌, ◌++◌}
use Rattle.lang_ast.specs.Terms.{Stmt}
use Rattle.lang_ast.specs.Programs.{Each}

pub each_apart : (P : Stmt → Type 0) (xs ys : List Stmt) → Each P (xs ++ ys) → Each P xs × Each P ys
each_apart P [] ys h = (tt, h)
each_apart P (x ∷ xs) ys h = let both = each_apart P xs ys h.1 in ((h.0, both.0), both.1)

pub each_joined : (P : Stmt → Type 0) (xs ys : List Stmt) → Each P xs → Each P ys → Each P (xs ++ ys)
each_joined P [] ys h g = g
each_joined P (x ∷ xs) ys h g = (h.0, each_joined P xs ys h.1 g)

-- A fact that follows from another.
pub each_follows : (P Q : Stmt → Type 0) (xs : List Stmt) → ((s : Stmt) → P s → Q s) → Each P xs → Each Q xs
each_follows P Q [] go h = tt
each_follows P Q (x ∷ xs) go h = (go x h.0, each_follows P Q xs go h.1)

-- A fact that follows from two others.
pub each_of_both : (P Q R : Stmt → Type 0) (xs : List Stmt) → ((s : Stmt) → P s → Q s → R s) → Each P xs → Each Q xs
    → Each R xs
each_of_both P Q R [] go h g = tt
each_of_both P Q R (x ∷ xs) go h g = (go x h.0 g.0, each_of_both P Q R xs go h.1 g.1)
