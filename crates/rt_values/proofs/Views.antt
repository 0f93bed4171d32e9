-- Laws of lists that grow at their end.
use Rattle.std.proofs.Common.{ℕ, List, [], ◌++◌, ap, ◌∙◌, sym, append_assoc, append-nil}
use Rattle.rt_values.specs.Views.{Extends}

pub extends_itself : (xs : List ℕ) → Extends xs xs
extends_itself xs = record { more = []; is = sym (append-nil xs) }

pub extends_on : {xs ys zs : List ℕ} → Extends xs ys → Extends ys zs → Extends xs zs
extends_on {xs = xs} h k =
    record { more = h.more ++ k.more; is = k.is ∙ ap (λ l. l ++ k.more) h.is ∙ append_assoc xs h.more k.more }
