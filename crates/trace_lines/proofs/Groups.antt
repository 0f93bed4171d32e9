-- Groups with their marks.
use Rattle.std.proofs.Common.{◌≡◌, ◌≤◌, ◌⊎◌, inl, inr, ℕ, List, [], ◌∷◌, length, drop, refl, ap, ◌∙◌}
use Rattle.std.proofs.lemmas.List.{drop_all}
use Rattle.rt_groups.specs.declared.groups.Group.{Group}
use Rattle.run_causes.specs.declared.causes.Mark.{Mark}
use Rattle.trace_lines.specs.TraceLines.{Names, groups_tokens}

-- No group is shown without a mark.
pub unmarked : (names : Names) (gs : List Group) → groups_tokens names gs [] ≡ []
unmarked names [] = refl
unmarked names (g ∷ gs) = refl

-- No group is left at an index past the end of the groups or of the marks.
pub none_left : (names : Names) (gs : List Group) (ms : List Mark) (i : ℕ) → (length gs ≤ i) ⊎ (length ms ≤ i)
    → groups_tokens names (drop i gs) (drop i ms) ≡ []
none_left names gs ms i (inl past) = ap (λ l. groups_tokens names l (drop i ms)) (drop_all i gs past)
none_left names gs ms i (inr past) =
    ap (λ l. groups_tokens names (drop i gs) l) (drop_all i ms past) ∙ unmarked names (drop i gs)
