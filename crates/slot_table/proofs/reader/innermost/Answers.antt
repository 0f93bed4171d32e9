use Rattle.std.proofs.Common.{◌≡◌, ◌==◌, ◌<◌, ◌-◌, ℕ, zero, suc, false, List, [], ◌∷◌, length, get_or, refl, sym, ◌∙◌, arith}
use Rattle.rt_groups.specs.declared.groups.Group.{Group}
use Rattle.slot_table.specs.TableGroups.{group_at}
use Rattle.slot_table.proofs.OpenGroups.{innermost_is}
use Rattle.slot_table.proofs.reader.innermost.Goals as goal

some_of : (n : ℕ) → (n == 0) ≡ false → 0 < n
some_of zero e = absurd cc
some_of (suc n) e = omega arith

same_group : (gs : List Group) (i : ℕ) (d e : Group) → i < length gs → get_or gs i d ≡ get_or gs i e
same_group [] i d e lt = absurd (omega (arith, lt))
same_group (g ∷ gs) zero d e lt = refl
same_group (g ∷ gs) (suc i) d e lt = same_group gs i d e (omega (arith, lt))

pub returns-clause-inside : goal.returns-clause-inside
returns-clause-inside c =
    let opens = c.args.opens.now in
    let some : 0 < length opens = some_of (length opens) (sym c.is_empty.ensures ∙ c.if-is_empty.false) in
    c.requires (length opens - 1) 0 (omega (arith, some))

pub returns-clause-group : goal.returns-clause-group
returns-clause-group c =
    let opens = c.args.opens.now in
    let gs = c.args.table.now.groups in
    let i : ℕ = get_or opens (length opens - 1) 0 in
    let some : 0 < length opens = some_of (length opens) (sym c.is_empty.ensures ∙ c.if-is_empty.false) in
    let inside : i < length gs = c.requires (length opens - 1) 0 (omega (arith, some)) in
    innermost_is gs (group_at gs i) opens i 0 some refl inside (same_group gs i (group_at [] i) (group_at gs i) inside)
