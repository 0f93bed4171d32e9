use Rattle.std.proofs.Common.{◌≡◌, ℕ, ◌+◌, List, sym, ap, ◌∙◌, subst, arith, length, refl}
use Rattle.rt_values.specs.Maps.{contains}
use Rattle.snap_nested.specs.Moves.{Advances}
use Rattle.snap_nested.specs.Members.{member, ids_of, members_after_enter, members_after_advance}
use Rattle.snap_nested.specs.declared.family.Member.{Member}
use Rattle.snap_nested.proofs.Members.{dated, enters_entered, members_entered, up_entered, advances_advanced, taken_new, taken_others, taken_count}
use Rattle.snap_world.proofs.world.RecordWorld.push_child.Goals as goal

pub returns-in_default-clause-err : goal.returns-in_default-clause-err
returns-in_default-clause-err g c =
    let e : c.take.new.self.members ≡ c.args.self.now.family.members = c.in_default.ensures.err in
    record {
      same = record {
        clock = refl;
        objects = refl;
        names = ap (λ (l : List Member). length l) e;
        owner = λ n live. ap (λ (l : List Member). (member l n).owner) e;
        kind = λ n live. ap (λ (l : List Member). (member l n).kind) e;
        stamps = refl;
        watchers = refl;
      };
      handed = c.in_default.ensures.err_handed;
      ids = ap ids_of e;
      chains = λ x. refl;
      noted = λ n x. refl;
    }

pub invariant_of-self : goal.invariant_of-self
invariant_of-self g c =
    let old = c.args.self.now in
    let many : length c.take.new.self.members ≡ length old.family.members =
    ap (λ (l : List Member). length l) c.in_default.ensures.err in
    record {
      in_time = old.in_time;
      few = omega (arith, c.in_default.ensures.err_handed, old.few);
      many = old.many;
      stamped = old.stamped;
      blank = λ n past. old.blank n (omega (arith, past, many));
    }

pub invariant_of-self-2 : goal.invariant_of-self-2
invariant_of-self-2 g c =
    let old = c.args.self.now in
    let e : c.take.new.self.members ≡ members_after_advance (members_after_enter old.family.members old.family.handed c.args.parent c.args.kind c.args.caller) (old.family.handed + 1) c.args.parent = c.in-Ok.ensures.ok in
    let many : length c.take.new.self.members ≡ length old.family.members + 1 =
    ap (λ (ms : List Member). length ms) e
    ∙ taken_count old.family.members old.family.handed c.args.parent c.args.kind c.args.caller
    old.family.sound c.requires.live in
    record {
      in_time = omega (arith, c.requires.room);
      few = omega (arith, c.in-Ok.ensures.handed, old.few);
      many = old.many;
      stamped = old.stamped;
      blank = λ n past. old.blank n (omega (arith, past, many));
    }

pub returns-clause-ok : goal.returns-clause-ok
returns-clause-ok g c =
    let ms = c.args.self.now.family.members in
    let handed = c.args.self.now.family.handed in
    let parent = c.args.parent in
    let a = c.args.self.now.family.sound in
    let up = c.requires.live in
    let e : c.take.new.self.members ≡ members_after_advance (members_after_enter ms handed parent c.args.kind c.args.caller) (handed + 1) parent = c.in-Ok.ensures.ok in
    record {
      named = c.in-Ok.ensures.name;
      between = ids_of (members_after_enter ms handed parent c.args.kind c.args.caller);
      is = record {
        clock = refl;
        objects = refl;
        names = ap (λ (l : List Member). length l) e ∙ taken_count ms handed parent c.args.kind c.args.caller a up;
        handed = c.in-Ok.ensures.handed;
        enters = enters_entered ms handed parent c.args.kind c.args.caller a up;
        advances =
            subst (λ (l : List Member). Advances (ids_of (members_after_enter ms handed parent c.args.kind
            c.args.caller)) (ids_of l) (handed + 1) parent) (sym e)
            (advances_advanced (members_after_enter ms handed parent c.args.kind c.args.caller) (handed + 1) parent
            (members_entered ms handed parent c.args.kind c.args.caller a up)
            (up_entered ms handed parent c.args.kind c.args.caller a up));
        dated_between = dated (members_after_enter ms handed parent c.args.kind c.args.caller);
        dated = dated c.take.new.self.members;
        owner = ap (λ (l : List Member). (member l (length ms)).owner) e
            ∙ ap (λ (m : Member). m.owner) (taken_new ms handed parent c.args.kind c.args.caller a up);
        kind_is = ap (λ (l : List Member). (member l (length ms)).kind) e
            ∙ ap (λ (m : Member). m.kind) (taken_new ms handed parent c.args.kind c.args.caller a up);
        owners = λ n other. ap (λ (l : List Member). (member l n).owner) e
            ∙ (taken_others ms handed parent c.args.kind c.args.caller a up n other).0;
        kinds = λ n other. ap (λ (l : List Member). (member l n).kind) e
            ∙ (taken_others ms handed parent c.args.kind c.args.caller a up n other).1;
        watchers = refl;
        chains = refl;
        stamps = refl;
        noted = λ x. ap (λ (l : List ℕ). contains x l) (c.args.self.now.blank (length ms) (omega arith));
        noted_others = λ n x other. refl;
      };
    }
