use Rattle.std.proofs.Common.{◌≡◌, List, length, refl, sym, ap, ◌∙◌, subst, arith}
use Rattle.snap_nested.specs.Moves.{Disposes}
use Rattle.snap_nested.specs.Members.{member, ids_of, members_after_close}
use Rattle.snap_nested.specs.declared.family.Member.{Member}
use Rattle.snap_nested.proofs.Members.{dated, live_member, closed_stays, closed_count, disposes_closed}
use Rattle.snap_world.proofs.world.RecordWorld.close.Goals as goal

pub invariant_of-self : goal.invariant_of-self
invariant_of-self g c =
    let old = c.args.self.now in
    let ms = old.family.members in
    let many : length c.close_disposed.new.self.members ≡ length ms =
    ap (λ (l : List Member). length l) c.close_disposed.ensures.ok
    ∙ closed_count ms old.family.handed c.args.name old.family.sound c.requires.live in
    record {
      in_time = old.in_time;
      few = omega (arith, c.close_disposed.ensures.handed, old.few);
      many = old.many;
      stamped = old.stamped;
      blank = λ n past. old.blank n (omega (arith, past, many));
    }

pub returns : goal.returns
returns g c =
    let old = c.args.self.now in
    let ms = old.family.members in
    let e : c.close_disposed.new.self.members ≡ members_after_close ms c.args.name =
    c.close_disposed.ensures.ok in
    let stays = closed_stays ms old.family.handed c.args.name old.family.sound c.requires.live in
    record {
      same = record {
        clock = refl;
        objects = refl;
        names = ap (λ (l : List Member). length l) e
            ∙ closed_count ms old.family.handed c.args.name old.family.sound c.requires.live;
        owner = λ n live. ap (λ (l : List Member). (member l n).owner) e ∙ (stays n).0;
        kind = λ n live. ap (λ (l : List Member). (member l n).kind) e ∙ (stays n).1;
        stamps = refl;
        watchers = refl;
      };
      handed = c.close_disposed.ensures.handed;
      ids = subst (λ (l : List Member). Disposes (ids_of ms) (ids_of l) c.args.name) (sym e)
          (disposes_closed ms c.args.name (live_member ms c.args.name c.requires.live));
      dated = dated c.close_disposed.new.self.members;
      chains = refl;
      noted = refl;
    }
