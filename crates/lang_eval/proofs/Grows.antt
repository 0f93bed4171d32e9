-- Lists that grow by a first part of a list.
use Rattle.std.proofs.Common.{◌≡◌, ℕ, List, [], ◌++◌, refl, ap, sym, ◌∙◌, append_assoc, append-nil}
use Rattle.rt_values.specs.Views.{Grew}

-- By an empty part.
pub grew_none : (old all : List ℕ) → Grew old old all
grew_none old all = record { rest = all; is = refl }

-- By a list, and then by a part of another.
pub grew_behind : (old mid new front back : List ℕ) → mid ≡ old ++ front → Grew mid new back
    → Grew old new (front ++ back)
grew_behind old mid new front back e g =
    record { rest = g.rest; is = g.is ∙ ap (λ l. l ++ back) e ∙ append_assoc old front back }

-- By a part of the first of two lists.
pub grew_front : (old new front back : List ℕ) → Grew old new front → Grew old new (front ++ back)
grew_front old new front back g = record {
  rest = g.rest ++ back;
  is = sym (append_assoc new g.rest back) ∙ ap (λ l. l ++ back) g.is ∙ append_assoc old front back;
}

-- By a part of the remaining list, where the list was all that came and the remaining list.
pub grew_left : (old mid new left all : List ℕ) → mid ++ left ≡ old ++ all → Grew mid new left → Grew old new all
grew_left old mid new left all e g = record { rest = g.rest; is = g.is ∙ e }

-- By the whole list.
pub grew_all : (old new all : List ℕ) → new ≡ old ++ all → Grew old new all
grew_all old new all e = record { rest = []; is = append-nil new ∙ e }
