use Rattle.std.proofs.Common.{◌≡◌, sym, ap, subst, List, ℕ, true}
use Rattle.std.specs.Prelude.{slice_set}
use Rattle.snap_ids.specs.IdLists.{with_id}
use Rattle.snap_nested.specs.Members.{member}
use Rattle.snap_nested.specs.ByName.{by_name}
use Rattle.snap_nested.specs.declared.family.Member.{Member}
use Rattle.snap_nested.proofs.ByName.{changed_by_name, indexed, live_open}
use Rattle.snap_nested.proofs.member_list.MemberList.advance.Goals as goal

pub unreachable-requires : goal.unreachable-requires
unreachable-requires c = live_open c.self.invariant c.args.name
    (subst (λ (l : List Member). (member l c.args.name).is_live ≡ true) (sym c.self.view_is) c.requires)
    c.in_default.ensures.none

abbrev renewed : ℕ → List ℕ → Member → Member
renewed id invalid m = record m { id = id; ids = with_id id m.ids; invalid = invalid }

abbrev set_member : List ℕ → ℕ → List ℕ → Member → Member
set_member ids id invalid m = record m { id = id; ids = ids; invalid = invalid }

pub returns-clause-ok : goal.returns-clause-ok
returns-clause-ok c =
    let m = c.index_mut-member.result.now in
    let new = set_member c.set.new.self c.args.id c.args.invalid m in
    subst (λ (l : List Member). by_name c.self.inside.count c.self.inside.names
    (slice_set c.self.inside.opened.items c.in-Some.at new) ≡ slice_set l c.args.name
    (renewed c.args.id c.args.invalid (member l c.args.name))) c.self.view_is
    (changed_by_name c.self.invariant c.in-Some.at c.args.name c.in-Some.ensures.within c.in-Some.ensures.some new
    (renewed c.args.id c.args.invalid) m
    (indexed c.self.invariant c.in-Some.at c.in-Some.ensures.within m c.index_mut-member.ensures.value)
    (ap (λ (l : List ℕ). set_member l c.args.id c.args.invalid m) c.in-Ok.ensures.ok))
