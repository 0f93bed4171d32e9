-- Records of no object represent the first world.
use Rattle.std.proofs.Common.{◌≡◌, ℕ, zero, suc, ◌<◌, List, [], ◌∷◌, length, refl, Some, true, false, arith}
use Rattle.std.specs.Prelude.{slice_get}
use Rattle.rt_values.specs.Maps.{contains}
use Rattle.snap_api.specs.World.{World, start, snapshot_of, is_live}
use Rattle.snap_records.specs.Records.{Rec, Has}
use Rattle.snap_laws.specs.Keeps.{IsKept}
use Rattle.snap_nested.proofs.Members.{dated}
use Rattle.snap_nested.proofs.Start.{members_start, alone_start}
use Rattle.snap_nested.specs.Members.{member, ids_of, global}
use Rattle.snap_nested.specs.declared.family.Member.{Member}
use Rattle.snap_laws.specs.Represents.{WorldParts, Represents, views_of, bases_of}
use Rattle.snap_world.specs.Noting.{noted_of}

abbrev ms : List Member
ms = global ∷ []

-- The parts of the first world of records.
abbrev pub begun : {P : Type 0} → ℕ → WorldParts P
begun clock = record {
  clock = clock;
  objects = [];
  names = 1;
  handed = 1;
  ids = ids_of ms;
  owner = λ n. (member ms n).owner;
  kind = λ n. (member ms n).kind;
  noted = λ n x. contains x (noted_of ([], []) n);
  chains = λ x. [];
  stamps = [];
  watchers = [];
}

no_record : {A : Type 0} (p : Rec) → Has [] p → A
no_record p h = absurd (at h.at h.is) where
  at : (k : ℕ) → slice_get {X = Rec} [] k ≡ Some p → ⊥
  at k is = cc

kept : (P : Type 0) (clock : ℕ)
    → IsKept (ids_of ms) 1 (λ n x. false) (λ x. []) 0 (views_of {P = P} (start clock)) (bases_of {P = P} (start clock))
kept P clock = record {
  sound = members_start.sound;
  dated = dated ms;
  alone = alone_start;
  chained =
      record { apart = λ x j k p q one two positive same. absurd cc; known = λ x p there positive. no_record p there };
  shown = record {
    views = λ n x live within. absurd (omega (arith, within));
    bases = λ n x live inner within. absurd (omega (arith, within));
  };
}

module _ (P : Type 0) (clock : ℕ) where
  abbrev w : World P
  w = start clock

  lives : (n : ℕ) → is_live (snapshot_of w n).status ≡ (member ms n).is_live
  lives zero = refl
  lives (suc n) = refl

  parents : (n : ℕ) → (member ms n).is_live ≡ true → (snapshot_of w n).parent ≡ (member ms n).parent
  parents zero live = refl
  parents (suc n) live = refl

  owners : (n : ℕ) → (member ms n).is_live ≡ true → (snapshot_of w n).owner ≡ (member ms n).owner
  owners zero live = refl
  owners (suc n) live = refl

  kinds : (n : ℕ) → (member ms n).is_live ≡ true → (snapshot_of w n).kind ≡ (member ms n).kind
  kinds zero live = refl
  kinds (suc n) live = refl

  wrote : (n x : ℕ) → (member ms n).is_live ≡ true → 0 < n → contains x (snapshot_of w n).wrote ≡ false
  wrote zero x live inner = refl
  wrote (suc n) x live inner = refl

  full_view : (n : ℕ) → (member ms n).is_live ≡ true → length (snapshot_of w n).view ≡ 0
  full_view zero live = refl
  full_view (suc n) live = refl

  full_base : (n : ℕ) → (member ms n).is_live ≡ true → length (snapshot_of w n).base ≡ 0
  full_base zero live = refl
  full_base (suc n) live = refl

  pub stands_begun : Represents {P = P} (begun clock) w
  stands_begun = record {
    clock_is = refl;
    objects_are = refl;
    named = refl;
    lives = lives;
    parents = parents;
    owners = owners;
    kinds = kinds;
    wrote = wrote;
    within = λ n x live noted. absurd cc;
    full_view = full_view;
    full_base = full_base;
    fresh = refl;
    lasts = refl;
    kept = kept P clock;
  }
