use Rattle.std.proofs.Common.{◌≡◌, ◌∙◌, ap, sym, subst, ℕ, suc, ◌-◌, List, arith}
use Rattle.snap_ids.specs.IdLists.{without_id}
use Rattle.snap_ids.proofs.Booleans.{not_both}
use Rattle.snap_nested.specs.ByName.{by_name, member_of, AreListed}
use Rattle.snap_nested.specs.declared.family.Member.{Member}
use Rattle.snap_nested.proofs.ByName.{absent, popped_listed, popped_by_name, last_apart}
use Rattle.snap_nested.proofs.member_list.MemberList.pop.Goals as goal

pub invariant_of-self : goal.invariant_of-self
invariant_of-self c =
    let k = c.self.inside.count - 1 in
    let is : suc k ≡ c.self.inside.count = omega (arith, c.if-self-eq0.false) in
    let a = subst (λ (n : ℕ). AreListed n c.self.inside.names c.self.inside.opened.items) (sym is) c.self.invariant in
    subst (λ (l : List ℕ). AreListed k l c.remove.new.self.items) (sym c.clear.ensures)
    (subst (λ (l : List Member). AreListed k (without_id k c.self.inside.names) l) (sym c.remove.ensures.items)
    (popped_listed a c.in-Some.at c.in-Some.ensures.within c.in-Some.ensures.some))

pub returns-in-Some : goal.returns-in-Some
returns-in-Some c = λ ms m same live.
    let k = c.self.inside.count - 1 in
    let is : suc k ≡ c.self.inside.count = omega (arith, c.if-self-eq0.false) in
    let ns = c.self.inside.names in
    let os = c.self.inside.opened.items in
    let a = subst (λ (n : ℕ). AreListed n ns os) (sym is) c.self.invariant in
    ap (λ (l : List ℕ). by_name k l c.remove.new.self.items) c.clear.ensures
    ∙ ap (λ (l : List Member). by_name k (without_id k ns) l) c.remove.ensures.items
    ∙ popped_by_name a c.in-Some.at c.in-Some.ensures.within c.in-Some.ensures.some
    ∙ (last_apart (by_name k ns os) ms (member_of ns os k) m
    (ap (λ (n : ℕ). by_name n ns os) is ∙ c.self.view_is ∙ same)).0

pub returns-in_default : goal.returns-in_default
returns-in_default c = λ ms m same live.
    let k = c.self.inside.count - 1 in
    let is : suc k ≡ c.self.inside.count = omega (arith, c.if-self-eq0.false) in
    let ns = c.self.inside.names in
    let os = c.self.inside.opened.items in
    absurd (not_both m.is_live live (ap (λ (o : Member). o.is_live)
    (sym (last_apart (by_name k ns os) ms (member_of ns os k) m
    (ap (λ (n : ℕ). by_name n ns os) is ∙ c.self.view_is ∙ same)).1 ∙ absent ns os k c.in_default.ensures.none)))
