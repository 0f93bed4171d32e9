use Rattle.std.proofs.Common.{◌≡◌, ◌≢◌, ℕ, ◌+◌, ◌==◌, ◌||◌, ◌&&◌, nat_lt, List, length, ap, ◌∙◌, subst, arith, refl, Bool, true, false, cond, length-set}
use Rattle.std.specs.Prelude.{slice_set}
use Rattle.rt_values.specs.Maps.{contains, with_member}
use Rattle.rt_values.specs.declared.maps.StampedValue.{StampedValue}
use Rattle.snap_records.specs.Records.{Puts}
use Rattle.snap_records.specs.Chains.{chain_of}
use Rattle.snap_reuse.specs.Readers.{is_unkept}
use Rattle.snap_nested.specs.Members.{member}
use Rattle.snap_nested.proofs.Members.{live_member}
use Rattle.snap_laws.proofs.Reuse.{view_stays, base_stays}
use Rattle.snap_world.specs.Noting.{noted_of}
use Rattle.snap_world.proofs.NotedMembers.{contains-noted, undone}
use Rattle.snap_world.proofs.Searching.{owned_records}
use Rattle.snap_world.proofs.world.RecordWorld.put_record.Goals as goal

pub invariant_of-self : goal.invariant_of-self
invariant_of-self g c = let old = c.args.self.now in
    record {
      in_time = old.in_time;
      few = old.few;
      many = old.many;
      stamped = old.stamped;
      blank = λ n past. c.add_list.ensures.same n ∙ old.blank n past;
    }

pub returns-in_default-clause-err : goal.returns-in_default-clause-err
returns-in_default-clause-err g c = record {
  same = record {
    clock = refl;
    objects = refl;
    names = refl;
    owner = λ n live. refl;
    kind = λ n live. refl;
    stamps = refl;
    watchers = refl;
  };
  handed = refl;
  ids = refl;
  chains = λ x. refl;
  noted = λ n x. ap (λ (l : List ℕ). contains x l) (c.add_list.ensures.same n);
}

pub invariant_of-self-in_default-note_object : goal.invariant_of-self-in_default-note_object
invariant_of-self-in_default-note_object g c = let old = c.args.self.now in
    record {
      in_time = old.in_time;
      few = old.few;
      many = old.many;
      stamped = old.stamped;
      blank = λ n past. c.in_default-note_object.ensures.err n ∙ c.add_list.ensures.same n ∙ old.blank n past;
    }

pub returns-in_default-note_object-clause-err : goal.returns-in_default-note_object-clause-err
returns-in_default-note_object-clause-err g c = record {
  same = record {
    clock = refl;
    objects = refl;
    names = refl;
    owner = λ n live. refl;
    kind = λ n live. refl;
    stamps = refl;
    watchers = refl;
  };
  handed = refl;
  ids = refl;
  chains = λ x. refl;
  noted = λ n x. ap (λ (l : List ℕ). contains x l) (c.in_default-note_object.ensures.err n ∙ c.add_list.ensures.same n);
}

pub invariant_of-self-in_default-put : goal.invariant_of-self-in_default-put
invariant_of-self-in_default-put g c =
    let old = c.args.self.now in
    let u = c.unnote_object.ensures in
    let same = undone c.add_list.new.wrote c.note_object.new.wrote c.unnote_object.new.wrote c.args.name
    c.args.object c.in-Ok-note_object.is_new c.in-Ok-note_object.ensures.ok u.last u.kept u.others in
    record {
      in_time = old.in_time;
      few = old.few;
      many = c.put.ensures.many ∙ old.many;
      stamped = old.stamped;
      blank = λ n past. same n ∙ c.add_list.ensures.same n ∙ old.blank n past;
    }

pub returns-in_default-put-clause-err : goal.returns-in_default-put-clause-err
returns-in_default-put-clause-err g c =
    let u = c.unnote_object.ensures in
    let same = undone c.add_list.new.wrote c.note_object.new.wrote c.unnote_object.new.wrote c.args.name
    c.args.object c.in-Ok-note_object.is_new c.in-Ok-note_object.ensures.ok u.last u.kept u.others in
    record {
      same = record {
        clock = refl;
        objects = refl;
        names = refl;
        owner = λ n live. refl;
        kind = λ n live. refl;
        stamps = refl;
        watchers = refl;
      };
      handed = refl;
      ids = refl;
      chains = λ x. c.in_default-put.ensures.err x;
      noted = λ n x. ap (λ (l : List ℕ). contains x l) (same n ∙ c.add_list.ensures.same n);
    }

pub invariant_of-self-2 : goal.invariant_of-self-2
invariant_of-self-2 g c =
    let old = c.args.self.now in
    record {
      in_time = omega (arith, c.requires.room);
      few = omega (arith, old.few);
      many = c.put.ensures.many ∙ old.many;
      stamped = ap (λ (l : List ℕ). length l) c.stamp_object.ensures
          ∙ set_count (c.args.name == 0) old.stamps.items c.args.object (old.clock + 1) ∙ old.stamped;
      blank = λ n past.
          let other : n ≢ c.args.name =
          λ same. omega (arith, same, past, live_member old.family.members c.args.name c.requires.live) in
          c.in-Ok-note_object.ensures.ok.others n other ∙ c.add_list.ensures.same n ∙ old.blank n past;
    } where
      set_count : (b : Bool) (xs : List ℕ) (i y : ℕ) → length (cond b (slice_set xs i y) xs) ≡ length xs
      set_count true xs i y = length-set xs i y
      set_count false xs i y = refl

pub returns-clause-ok : goal.returns-clause-ok
returns-clause-ok g c = λ w s.
    let old = c.args.self.now in
    let name = c.args.name in
    let id : c.id-id.result ≡ (member old.family.members name).id = c.id-id.ensures.id in
    let put = c.in-Ok-put.ensures.ok (s.kept.chained.apart c.args.object) c.id-id.ensures.positive in
    let e : StampedValue = record { value = c.args.value; stamp = old.clock + 1 } in
    let noted = c.in-Ok-note_object.ensures.ok in
    record {
      clock = refl;
      objects = refl;
      names = refl;
      handed = refl;
      owner = λ n. refl;
      kind = λ n. refl;
      watchers = refl;
      ids = refl;
      gone = is_unkept c.args.kept.now c.id-id.result;
      put = subst (λ (i : ℕ). Puts (chain_of old.chains c.args.object) (chain_of c.put.new.chains c.args.object)
          (record { id = i; entry = e }) (is_unkept c.args.kept.now c.id-id.result)) id put.put;
      view_stays = view_stays s name c.args.object c.requires.live c.id-id.result id (c.requires.read (owned_records s c.args.object));
      base_stays = base_stays s name c.args.object c.requires.live c.id-id.result id (c.requires.read (owned_records s c.args.object));
      others = c.put.ensures.others;
      noted = λ y. ap (λ (l : List ℕ). contains y l)
          (noted.here ∙ ap (λ (l : List ℕ). cond (nat_lt 0 name) (with_member c.args.object l) l)
          (c.add_list.ensures.same name)) ∙ listed (nat_lt 0 name) y c.args.object
          (noted_of old.wrote name);
      noted_others = λ n y other. ap (λ (l : List ℕ). contains y l) (noted.others n other ∙ c.add_list.ensures.same n);
      stamps = c.stamp_object.ensures;
    } where
      none : (b : Bool) → b ≡ (b || false)
      none true = refl
      none false = refl

      listed : (b : Bool) (y x : ℕ) (xs : List ℕ)
          → contains y (cond b (with_member x xs) xs) ≡ (contains y xs || (b && y == x))
      listed true y x xs = contains-noted y x xs
      listed false y x xs = none (contains y xs)

pub returns-clause-swept : goal.returns-clause-swept
returns-clause-swept g c = λ w s.
    let put = c.in-Ok-put.ensures.ok (s.kept.chained.apart c.args.object) c.id-id.ensures.positive in
    record { apart = put.put.apart; listed = put.swept }
