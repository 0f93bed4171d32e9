use Rattle.std.proofs.Common.{◌≡◌, ◌≢◌, ℕ, ◌+◌, ◌<◌, ◌&&◌, ◌||◌, nat_lt, List, length, refl, sym, ap, ◌∙◌, subst, Bool, true, false, Some, cond, arith, inl, inr}
use Rattle.std.proofs.lemmas.Option.{slice_get_within}
use Rattle.std.specs.Option.{unwrap_or}
use Rattle.std.specs.Prelude.{slice_index_or, slice_get}
use Rattle.rt_values.specs.Maps.{contains}
use Rattle.snap_api.specs.Choices.{entry_of_choice, is_changed}
use Rattle.snap_api.specs.declared.choice.Choice.{Choice}
use Rattle.snap_records.specs.Edits.{with_head_id}
use Rattle.snap_nested.specs.Moves.{Applies}
use Rattle.snap_records.proofs.Padding.{padded_same}
use Rattle.snap_nested.specs.Members.{member, ids_of, members_after_advance, members_after_apply}
use Rattle.snap_nested.specs.declared.family.Member.{Member}
use Rattle.snap_nested.proofs.Members.{dated, live_member}
use Rattle.snap_nested.proofs.Merging.{high_own, advances_between, applies_merged, merged_count, merged_stays}
use Rattle.snap_records.specs.Chains.{chain_of}
use Rattle.snap_laws.specs.Applies.{choice_at}
use Rattle.snap_world.specs.Noting.{noted_of}
use Rattle.snap_world.specs.Choices.{EntriesAre, objects_of, is_taken, with_taken}
use Rattle.snap_world.specs.Holding.{world_parts}
use Rattle.snap_world.specs.declared.settling.Settled.{Settled}
use Rattle.snap_world.proofs.Settled.{entry_settled, changed_settled, find_settled, taken_is, contains-with_taken}
use Rattle.snap_world.proofs.world.RecordWorld.put_settled.Goals as goal

pub invariant_of-self-in_default-add_list : goal.invariant_of-self-in_default-add_list
invariant_of-self-in_default-add_list g c = let old = c.args.self.now in
    record {
      in_time = old.in_time;
      few = old.few;
      many = old.many;
      stamped = old.stamped;
      blank = λ n past. c.add_list.ensures.same n ∙ old.blank n past;
    }

pub returns-in_default-add_list-clause-err : goal.returns-in_default-add_list-clause-err
returns-in_default-add_list-clause-err g c = record {
  same = record {
    clock = refl;
    objects = refl;
    names = refl;
    owner = λ n live. refl;
    kind = λ n live. refl;
    stamps = refl;
    watchers = refl;
  };
  handed = refl;
  ids = refl;
  chains = λ x. padded_same (chain_of c.args.self.now.chains x);
  noted = λ n x. ap (λ (l : List ℕ). contains x l) (c.add_list.ensures.same n);
}

pub invariant_of-self-in_default-pad_all : goal.invariant_of-self-in_default-pad_all
invariant_of-self-in_default-pad_all g c = let old = c.args.self.now in
    record {
      in_time = old.in_time;
      few = old.few;
      many = c.pad_all.ensures.many ∙ old.many;
      stamped = old.stamped;
      blank = λ n past. c.add_list.ensures.same n ∙ old.blank n past;
    }

pub returns-in_default-pad_all-clause-err : goal.returns-in_default-pad_all-clause-err
returns-in_default-pad_all-clause-err g c = record {
  same = record {
    clock = refl;
    objects = refl;
    names = refl;
    owner = λ n live. refl;
    kind = λ n live. refl;
    stamps = refl;
    watchers = refl;
  };
  handed = refl;
  ids = refl;
  chains = c.pad_all.ensures.padded;
  noted = λ n x. ap (λ (l : List ℕ). contains x l) (c.add_list.ensures.same n);
}

pub invariant_of-self-in_default-close_applied : goal.invariant_of-self-in_default-close_applied
invariant_of-self-in_default-close_applied g c =
    let old = c.args.self.now in
    let many : length c.close_applied.new.self.members ≡ length old.family.members =
    ap (λ (l : List Member). length l) c.in_default-close_applied.ensures.err in
    record {
      in_time = old.in_time;
      few = omega (arith, c.in_default-close_applied.ensures.err_handed, old.few);
      many = c.pad_all.ensures.many ∙ old.many;
      stamped = old.stamped;
      blank = λ n past. c.add_list.ensures.same n ∙ old.blank n (omega (arith, past, many));
    }

pub returns-in_default-close_applied-clause-err : goal.returns-in_default-close_applied-clause-err
returns-in_default-close_applied-clause-err g c =
    let e : c.close_applied.new.self.members ≡ c.args.self.now.family.members =
    c.in_default-close_applied.ensures.err in
    record {
      same = record {
        clock = refl;
        objects = refl;
        names = ap (λ (l : List Member). length l) e;
        owner = λ n live. ap (λ (l : List Member). (member l n).owner) e;
        kind = λ n live. ap (λ (l : List Member). (member l n).kind) e;
        stamps = refl;
        watchers = refl;
      };
      handed = c.in_default-close_applied.ensures.err_handed;
      ids = ap ids_of e;
      chains = c.pad_all.ensures.padded;
      noted = λ n x. ap (λ (l : List ℕ). contains x l) (c.add_list.ensures.same n);
    }

pub raise_noted-requires-clause-within : goal.raise_noted-requires-clause-within
raise_noted-requires-clause-within g c =
    omega (arith, c.len.ensures, c.args.self.now.objects.ok.0, c.args.self.now.many, c.pad_all.ensures.many)

pub raise_noted-requires-clause-some : goal.raise_noted-requires-clause-some
raise_noted-requires-clause-some g c = λ x small noted.
    let old = c.args.self.now in
    let choices : ℕ → Choice = λ y. choice_at g.P.Policy.rules (world_parts old) c.args.name c.args.into y in
    let are : EntriesAre (λ y. entry_of_choice (choices y)) c.args.settled.now = λ i s there. entry_settled s
    ∙ ap entry_of_choice (c.requires.each i s there).0 in
    let listed : contains x (objects_of c.args.settled.now) ≡ true =
    ap (λ (l : List ℕ). contains x l)
    (c.requires.objects ∙ sym (c.add_list.ensures.same c.args.name)) ∙ noted in
    let head = c.in-Ok-pad_all.ensures.head (λ y. entry_of_choice (choices y)) are x
    (omega (arith, small, c.len.ensures, old.objects.ok.0, old.many)) listed in
    omega (arith, slice_get_within (chain_of c.pad_all.new.chains x) 0 _ head)

pub invariant_of-self-2 : goal.invariant_of-self-2
invariant_of-self-2 g c =
    let old = c.args.self.now in
    let ms = old.family.members in
    let many : length c.close_applied.new.self.members ≡ length ms =
    ap (λ (l : List Member). length l) c.in-Ok-close_applied.ensures.ok
    ∙ merged_count ms old.family.handed c.args.name c.args.into old.family.sound c.requires.live c.requires.inner
    c.requires.parent c.requires.above in
    record {
      in_time = omega (arith, c.requires.room);
      few = omega (arith, c.in-Ok-close_applied.ensures.handed, old.few);
      many = c.raise_noted.ensures.many ∙ c.pad_all.ensures.many ∙ old.many;
      stamped = c.stamp_settled.ensures.many ∙ old.stamped;
      blank = λ n past.
          let other : n ≢ c.args.into =
          λ same. omega (arith, same, past, many, live_member ms c.args.into c.requires.above) in
          let outer : n ≢ c.args.name =
          λ same. omega (arith, same, past, many, live_member ms c.args.name c.requires.live) in
          c.remove.ensures.others n outer ∙ c.set_noted.ensures.others n other ∙ c.add_list.ensures.same n
          ∙ old.blank n (omega (arith, past, many));
    }

pub returns-clause-ok : goal.returns-clause-ok
returns-clause-ok g c =
    let old = c.args.self.now in
    let h = world_parts old in
    let ms = old.family.members in
    let handed = old.family.handed in
    let name = c.args.name in
    let into = c.args.into in
    let settled : List Settled = c.args.settled.now in
    let a = old.family.sound in
    let r = c.requires in
    let e : c.close_applied.new.self.members ≡ members_after_apply (members_after_advance ms handed into) name into = c.in-Ok-close_applied.ensures.ok in
    let stays = merged_stays ms handed name into a r.live r.inner r.parent r.above in
    let id : c.handed-id.result ≡ handed + 1 = c.handed-id.ensures ∙ c.in-Ok-close_applied.ensures.handed in
    let choices : ℕ → Choice = λ y. choice_at g.P.Policy.rules h name into y in
    let are : EntriesAre (λ y. entry_of_choice (choices y)) settled = λ i s there. entry_settled s
    ∙ ap entry_of_choice (r.each i s there).0 in
    let kinds : (i : ℕ) (s : Settled) → slice_get settled i ≡ Some s → s.is_changed ≡ is_changed (choices s.object) =
    λ i s there. changed_settled s ∙ ap is_changed (r.each i s there).0 in
    let listed : (x : ℕ) → h.noted name x ≡ true → contains x (objects_of settled) ≡ true =
    λ x noted. ap (λ (l : List ℕ). contains x l) r.objects ∙ noted in
    let within : (x : ℕ) → h.noted name x ≡ true → x < length old.objects.items =
    λ x noted. let f = find_settled x settled (listed x noted) in
    omega (arith, (r.each f.at f.one f.there).1, f.same) in
    let wrote : noted_of c.add_list.new.wrote name ≡ noted_of old.wrote name = c.add_list.ensures.same name in
    let unlike : into ≢ name = λ same. a.sound.above name r.live r.inner (r.parent ∙ same) in
    let before : List ℕ = noted_of old.wrote into in
    let more : unwrap_or c.in-Ok.more before ≡ cond (nat_lt 0 into) (with_taken settled before) before =
    c.in-Ok.ensures.is in
    record {
      clock = refl;
      objects = refl;
      names = ap (λ (l : List Member). length l) e ∙ merged_count ms handed name into a r.live r.inner r.parent r.above;
      handed = c.in-Ok-close_applied.ensures.handed;
      owner = λ n other. ap (λ (l : List Member). (member l n).owner) e ∙ (stays n other).0;
      kind = λ n other. ap (λ (l : List Member). (member l n).kind) e ∙ (stays n other).1;
      watchers = refl;
      between = ids_of (members_after_advance ms handed into);
      advances = advances_between ms handed name into a r.live r.inner r.parent r.above;
      dated_between = dated (members_after_advance ms handed into);
      high = high_own ms handed name into a r.live r.inner r.parent r.above;
      ids = subst (λ (l : List Member). Applies (ids_of (members_after_advance ms handed into)) (ids_of l) name into)
          (sym e) (applies_merged ms handed name into a r.live r.inner r.parent r.above);
      dated = dated c.close_applied.new.self.members;
      padded = λ x. chain_of c.pad_all.new.chains x;
      pads = c.pad_all.ensures.padded;
      head = λ x noted. c.in-Ok-pad_all.ensures.head (λ y. entry_of_choice (choices y)) are x
          (omega (arith, within x noted, old.many)) (listed x noted);
      put = λ x noted. c.raise_noted.ensures.put x (omega (arith, within x noted, c.len.ensures, old.objects.ok.0))
          (ap (λ (l : List ℕ). contains x l) wrote ∙ noted)
          ∙ ap (λ (i : ℕ). with_head_id i (chain_of c.pad_all.new.chains x)) id;
      left = λ x none. c.raise_noted.ensures.left x (ap (λ (l : List ℕ). contains x l) wrote ∙ none);
      noted_into = λ x. ap (λ (l : List ℕ). contains x l)
          (c.remove.ensures.others into unlike ∙ c.set_noted.ensures.here
          ∙ ap (λ (l : List ℕ). unwrap_or c.in-Ok.more l) (c.add_list.ensures.same into) ∙ more)
          ∙ merged (nat_lt 0 into) x settled before (h.noted name x) (is_changed (choices x))
          (taken_is (λ y. is_changed (choices y)) settled kinds x
          ∙ ap (λ (l : List ℕ). contains x l && is_changed (choices x)) r.objects);
      noted_name = λ x. ap (λ (l : List ℕ). contains x l) c.remove.ensures.here;
      noted_others = λ n x one two. ap (λ (l : List ℕ). contains x l)
          (c.remove.ensures.others n one ∙ c.set_noted.ensures.others n two ∙ c.add_list.ensures.same n);
      stamps_count = c.stamp_settled.ensures.many;
      stamps_put = λ x root noted. c.stamp_settled.ensures.put root (λ y. entry_of_choice (choices y)) are x
          (omega (arith, within x noted, old.stamped)) (listed x noted);
      stamps_left = λ x out. elim out [
        | inl above ↦ ap (λ (l : List ℕ). slice_index_or l x 0) (c.stamp_settled.ensures.other above)
        | inr none ↦ c.stamp_settled.ensures.left x (ap (λ (l : List ℕ). contains x l) r.objects ∙ none)
      ];
    } where
      merged : (b : Bool) (x : ℕ) (settled : List Settled) (xs : List ℕ) (noted changed : Bool)
          → is_taken x settled ≡ (noted && changed)
          → contains x (cond b (with_taken settled xs) xs) ≡ ((b && (noted && changed)) || contains x xs)
      merged true x settled xs noted changed is =
          contains-with_taken x settled xs ∙ ap (λ (c : Bool). c || contains x xs) is
      merged false x settled xs noted changed is = refl
