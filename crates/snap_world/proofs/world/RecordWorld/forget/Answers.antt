use Rattle.std.proofs.Common.{◌≡◌, ◌≢◌, ℕ, List, length, refl, ap, ◌∙◌, true, arith}
use Rattle.rt_values.specs.Maps.{contains}
use Rattle.snap_records.specs.Edits.{chain_without_ids}
use Rattle.snap_ids.specs.IdLists.{is_empty}
use Rattle.snap_ids.proofs.Booleans.{not_both}
use Rattle.snap_nested.specs.Members.{member, is_seen}
use Rattle.snap_nested.specs.declared.family.Member.{Member}
use Rattle.snap_nested.proofs.Free.{free_closed, free_parts, free_unseen}
use Rattle.snap_nested.proofs.Members.{dated, forgotten_stays}
use Rattle.snap_records.specs.Chains.{chain_of}
use Rattle.snap_laws.proofs.Others.{forgets_stand}
use Rattle.snap_world.specs.Holding.{world_parts}
use Rattle.snap_world.proofs.Forgetting.{drops_all, chain_past}
use Rattle.snap_world.proofs.world.RecordWorld.forget.Goals as goal

pub clear_noted-requires : goal.clear_noted-requires
clear_noted-requires g c = omega (arith, c.len.ensures, c.args.self.now.objects.ok.0, c.args.self.now.many)

pub unreachable-requires : goal.unreachable-requires
unreachable-requires g c =
    let m = member c.args.self.now.family.members c.args.name in
    not_both (is_empty m.ids) (ap is_empty c.in_default.ensures.none)
    (free_parts m.is_live (is_empty m.ids) (is_seen c.args.self.now.family.members m.first) c.requires.free).1

pub forget-requires : goal.forget-requires
forget-requires g c = record { closed = free_closed c.args.self.now.family.members c.args.name c.requires.free }

pub invariant_of-self : goal.invariant_of-self
invariant_of-self g c =
    let old = c.args.self.now in
    let ms = old.family.members in
    let many : length c.forget.new.self.members ≡ length ms = c.forget.ensures.ok.count in
    record {
      in_time = old.in_time;
      few = omega (arith, c.forget.ensures.handed, old.few);
      many = c.clear_noted.ensures.many ∙ old.many;
      stamped = old.stamped;
      blank = λ n past. c.remove.ensures.others n (λ same. omega (arith, same, past, many, c.requires.there))
          ∙ old.blank n (omega (arith, past, many));
    }

pub returns-clause-held : goal.returns-clause-held
returns-clause-held g c = c.forget.ensures.held

pub returns-clause-unnoted : goal.returns-clause-unnoted
returns-clause-unnoted g c = λ x. ap (λ (l : List ℕ). contains x l) c.remove.ensures.here

pub returns-clause-stays : goal.returns-clause-stays
returns-clause-stays g c = λ w s.
    let old = c.args.self.now in
    let ms = old.family.members in
    let name = c.args.name in
    let closed = free_closed ms name c.requires.free in
    let ns = c.forget.new.self.members in
    let stays = forgotten_stays ms ns name c.forget.ensures.ok closed in
    let other : (n : ℕ) → (member ns n).is_live ≡ true → n ≢ name = λ n live same. not_both (member ns n).is_live live
    (ap (λ (k : ℕ). (member ns k).is_live) same ∙ ap (λ (m : Member). m.is_live) c.forget.ensures.ok.here) in
    let count : c.len.result ≡ length old.objects.items = c.len.ensures ∙ old.objects.ok.0 in
    let ids : c.in-Some.ids.now ≡ (member ms name).ids = c.in-Some.ensures.some in
    forgets_stand g.P.Policy.rules (world_parts old) _ w name s closed (free_unseen ms name c.requires.free) (record {
      same = record {
        clock = refl;
        objects = refl;
        names = c.forget.ensures.ok.count;
        owner = λ n live. (stays n (other n live)).0;
        kind = λ n live. (stays n (other n live)).1;
        stamps = refl;
        watchers = refl;
      };
      handed = c.forget.ensures.handed;
      ids = c.forget.ensures.ids;
      dated = dated c.forget.new.self.members;
      dropped = drops_all (world_parts old) (λ x. chain_of c.clear_noted.new.chains x) (member ms name).ids w name s closed
          (λ i. refl) (length old.objects.items) (λ x past. chain_past old.chains x (omega (arith, past, old.many)))
          (λ x past. chain_past c.clear_noted.new.chains x (omega (arith, past, old.many, c.clear_noted.ensures.many)))
          (λ x within noted. c.clear_noted.ensures.put x (omega (arith, within, count))
          noted ∙ ap (λ (l : List ℕ). chain_without_ids l (chain_of old.chains x)) ids)
          (λ x none. c.clear_noted.ensures.left x none);
      noted_name = λ x. ap (λ (l : List ℕ). contains x l) c.remove.ensures.here;
      noted_others = λ n x other. ap (λ (l : List ℕ). contains x l) (c.remove.ensures.others n other);
    })
