use Rattle.std.proofs.Common.{◌≡◌, ◌∙◌, ap, sym, subst, ℕ, suc, List, [], ◌∷◌, ◌++◌, arith}
use Rattle.snap_ids.specs.IdLists.{with_id}
use Rattle.snap_nested.specs.ByName.{by_name, AreListed}
use Rattle.snap_nested.specs.declared.family.Member.{Member}
use Rattle.snap_nested.proofs.ByName.{push_listed, push_by_name}
use Rattle.snap_nested.proofs.member_list.MemberList.push.Goals as goal

pub invariant_of-self-2 : goal.invariant_of-self-2
invariant_of-self-2 c =
    let next : c.in-Some.count ≡ suc c.self.inside.count = omega (arith, c.in-Some.ensures) in
    let os = c.push.new.self.items in
    subst (λ (k : ℕ). AreListed k c.set.new.self os) (sym next)
    (subst (λ (l : List ℕ). AreListed (suc c.self.inside.count) l os) (sym c.in-Ok-set.ensures.ok)
    (subst (λ (l : List Member). AreListed (suc c.self.inside.count) (with_id c.self.inside.count c.self.inside.names) l)
    (sym (c.in-Ok-push.ensures.items ∙ ap (λ (l : List Member). l ++ c.args.new ∷ []) c.in-Ok.ensures.items))
    (push_listed c.self.invariant c.args.new)))

pub returns-clause-ok : goal.returns-clause-ok
returns-clause-ok c =
    let next : c.in-Some.count ≡ suc c.self.inside.count = omega (arith, c.in-Some.ensures) in
    ap (λ (k : ℕ). by_name k c.set.new.self c.push.new.self.items) next
    ∙ ap (λ (l : List ℕ). by_name (suc c.self.inside.count) l c.push.new.self.items) c.in-Ok-set.ensures.ok
    ∙ ap (λ (l : List Member). by_name (suc c.self.inside.count) (with_id c.self.inside.count c.self.inside.names) l)
    (c.in-Ok-push.ensures.items ∙ ap (λ (l : List Member). l ++ c.args.new ∷ []) c.in-Ok.ensures.items)
    ∙ push_by_name c.self.invariant c.args.new ∙ ap (λ (l : List Member). l ++ c.args.new ∷ []) c.self.view_is
