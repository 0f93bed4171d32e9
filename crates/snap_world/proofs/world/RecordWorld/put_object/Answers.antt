use Rattle.std.proofs.Common.{◌≡◌, ℕ, List, [], ◌∷◌, ◌++◌, refl, sym, ap, ◌∙◌}
use Rattle.snap_api.specs.declared.data.Object.{Object}
use Rattle.snap_laws.specs.Represents.{WorldParts}
use Rattle.snap_laws.specs.Steps.{IsUnchanged}
use Rattle.snap_records.specs.Records.{Rec}
use Rattle.snap_records.specs.Chains.{chain_of}
use Rattle.snap_world.specs.Holding.{world_parts}
use Rattle.snap_world.proofs.world.RecordWorld.put_object.Goals as goal

-- A world with the same objects, chains and stamps is unchanged if its other parts stay.
unchanged : {P : Type 0} (h : WorldParts P) (objects : List (Object P)) (chains : ℕ → List Rec) (stamps : List ℕ)
    → objects ≡ h.objects → ((x : ℕ) → chains x ≡ h.chains x) → stamps ≡ h.stamps
    → IsUnchanged h (record {
      clock = h.clock;
      objects = objects;
      names = h.names;
      handed = h.handed;
      ids = h.ids;
      owner = h.owner;
      kind = h.kind;
      noted = h.noted;
      chains = chains;
      stamps = stamps;
      watchers = h.watchers;
    })
unchanged h objects chains stamps same_objects same_chains same_stamps = record {
  same = record {
    clock = refl;
    objects = same_objects;
    names = refl;
    owner = λ n live. refl;
    kind = λ n live. refl;
    stamps = same_stamps;
    watchers = refl;
  };
  handed = refl;
  ids = refl;
  chains = same_chains;
  noted = λ n x. refl;
}

pub returns-in_default-clause-err : goal.returns-in_default-clause-err
returns-in_default-clause-err g c =
    unchanged (world_parts c.args.self.now) _ _ _ c.reserve.ensures.items (λ x. refl) refl

pub returns-in_default-reserve-clause-err : goal.returns-in_default-reserve-clause-err
returns-in_default-reserve-clause-err g c =
    unchanged (world_parts c.args.self.now) _ _ _ c.reserve.ensures.items (λ x. refl) c.reserve-2.ensures.items

pub returns-in_default-add_object_with-clause-err : goal.returns-in_default-add_object_with-clause-err
returns-in_default-add_object_with-clause-err g c =
    unchanged (world_parts c.args.self.now) _ _ _ c.reserve.ensures.items c.in_default-add_object_with.ensures.err
    c.reserve-2.ensures.items

pub returns-clause-ok : goal.returns-clause-ok
returns-clause-ok g c =
    let many = c.args.self.now.many in
    record {
      clock = refl;
      objects = c.in-Ok-push.ensures.items
          ∙ ap (λ l. l ++ record { ty = c.args.ty; policy = c.args.policy } ∷ []) c.reserve.ensures.items;
      names = refl;
      handed = refl;
      ids = refl;
      owner = λ n. refl;
      kind = λ n. refl;
      watchers = refl;
      chain = ap (λ n. chain_of c.add_object_with.new.self n) (sym many) ∙ c.in-Ok-add_object_with.ensures.here;
      others = λ x other. c.in-Ok-add_object_with.ensures.others x (λ same. other (same ∙ many));
      noted = refl;
      stamps = c.in-Ok-push-2.ensures.items ∙ ap (λ (l : List ℕ). l ++ 0 ∷ []) c.reserve-2.ensures.items;
    }
