-- In a script without a fault for `threads` each snapshot name has an owner: the one actor that takes and names it.
use Rattle.std.proofs.Common.{◌≡◌, ℕ, ◌==◌, Bool, true, false, not, List, [], ◌∷◌, ◌++◌, refl, sym, ap, ◌∙◌, cond, Option, Some, None}
use Rattle.std.proofs.lemmas.Bool.{eqb-true}
use Rattle.std.specs.Cmp.Lexicographic.{bytes_decides}
use Rattle.std.specs.Str.{bytes_eq}
use Rattle.lang_ast.proofs.Limits.{none_in}
use Rattle.lang_ast.specs.declared.program.State.{State}
use Rattle.lang_ast.specs.declared.script.SnapshotRef.{SnapshotRef}
use Rattle.lang_ast.specs.declared.script.SnapshotRef.TheVariants.{Global, Named}
use Rattle.lang_ast.specs.declared.script.CallForm.{CallForm}
use Rattle.lang_ast.specs.declared.script.CallForm.TheVariants as form
use Rattle.lang_ast.specs.declared.script.DoForm.{DoForm}
use Rattle.lang_script.specs.SnapshotNames.{NamedNumber, latest}
use Rattle.lang_script.specs.Scripts.{actors_of}
use Rattle.lang_script.specs.ScriptFaults.{TextStep, CallStep, FrameStep, text_script, FirstUses, no_uses, with_taker, uses_after_call, uses_after, fault_if, unknown_name, foreign_name, snapshot_faults, call_faults, step_faults, steps_faults, oversized_faults, long_forms, most_steps, further_actors, forms_wrong_repeats, script_faults}
use Rattle.lang_script.specs.declared.faults.ScriptStop.{ScriptStop}
use Rattle.lang_script.specs.declared.faults.ScriptStop.TheVariants as stop
use Rattle.lang_forms.proofs.Ints.{same_bytes as same_name}

-- The owner of each name, if it has one.
abbrev pub Owners : Type 0
Owners = List ℕ → Option ℕ

module _ (owner : Owners) where
  -- An actor names global or a snapshot whose name it owns.
  abbrev pub OwnsSnapshot : ℕ → SnapshotRef → Type 0
  OwnsSnapshot a Global = Unit {0}
  OwnsSnapshot a (Named name) = owner name.text ≡ Some a

  -- An actor takes and names only what it owns.
  abbrev pub OwnsCall : ℕ → CallForm → Type 0
  OwnsCall a (form.Take at name kind parent) = (owner name.text ≡ Some a) × OwnsSnapshot a parent
  OwnsCall a (form.Read at s state x) = OwnsSnapshot a s
  OwnsCall a (form.Write at s state x v) = OwnsSnapshot a s
  OwnsCall a (form.Add at s state x d) = OwnsSnapshot a s
  OwnsCall a (form.Apply at s) = OwnsSnapshot a s
  OwnsCall a (form.Dispose at s) = OwnsSnapshot a s

  abbrev pub AreOwned : List TextStep → Type 0
  AreOwned [] = Unit {0}
  AreOwned (CallStep actor c ∷ more) = OwnsCall actor c × AreOwned more
  AreOwned (FrameStep actor at ∷ more) = AreOwned more

  pub owned_append : (xs ys : List TextStep) → AreOwned (xs ++ ys) → AreOwned xs × AreOwned ys
  owned_append [] ys h = (tt, h)
  owned_append (CallStep actor c ∷ xs) ys h = let more = owned_append xs ys h.1 in ((h.0, more.0), more.1)
  owned_append (FrameStep actor at ∷ xs) ys h = owned_append xs ys h

no_fault : (b : Bool) (s : ScriptStop) → fault_if b s ≡ [] → b ≡ false
no_fault true s h = absurd cc
no_fault false s h = refl

pub not_false : (b : Bool) → not b ≡ false → b ≡ true
not_false true h = refl
not_false false h = absurd cc

-- The owners have the takers so far.
abbrev Extend : FirstUses → Owners → Type 0
Extend u owner = (x : List ℕ) (k : ℕ) → latest u.takers x ≡ Some k → owner x ≡ Some k

known : (at : ℕ) (o : Option ℕ) → unknown_name at o ≡ [] → (k : ℕ) × (o ≡ Some k)
known at None h = absurd cc
known at (Some k) h = (k, refl)

own_one : (at actor k : ℕ) (o : Option ℕ) → o ≡ Some k → foreign_name at actor o ≡ [] → k ≡ actor
own_one at actor k None e h = absurd cc
own_one at actor k (Some taker) e h =
    let same : taker ≡ k = cc in
    sym same ∙ eqb-true taker actor (not_false (taker == actor) (no_fault (not (taker == actor)) (stop.Actor at) h))

-- A name that was taken before keeps its first taker.
taker_stays : (takers : List NamedNumber) (name : List ℕ) (actor : ℕ) (o : Option ℕ) → latest takers name ≡ o →
    (x : List ℕ) (k : ℕ) → latest takers x ≡ Some k → latest (with_taker takers name actor o) x ≡ Some k
taker_stays takers name actor (Some first) is x k e = e
taker_stays takers name actor None is x k e = by (bytes_eq name x) refl
  where
    by : (b : Bool) → bytes_eq name x ≡ b → cond b (Some actor) (latest takers x) ≡ Some k
    by true same =
        let equal : name ≡ x = (bytes_decides name x).0 same in
        let none : latest takers x ≡ None = ap (λ n. latest takers n) (sym equal) ∙ is in absurd cc
    by false other = e

call_stays : (u : FirstUses) (actor : ℕ) (c : CallForm) (x : List ℕ) (k : ℕ) → latest u.takers x ≡ Some k
    → latest (uses_after_call u actor c).takers x ≡ Some k
call_stays u actor (form.Take at name kind parent) x k e =
    taker_stays u.takers name.text actor (latest u.takers name.text) refl x k e
call_stays u actor (form.Read at s state y) x k e = e
call_stays u actor (form.Write at s state y v) x k e = e
call_stays u actor (form.Add at s state y d) x k e = e
call_stays u actor (form.Apply at s) x k e = e
call_stays u actor (form.Dispose at s) x k e = e

module _ (states : List State) (u : FirstUses) (actor : ℕ) (owner : Owners) where
  owns_snapshot : (at : ℕ) (s : SnapshotRef) → Extend u owner → snapshot_faults true u actor at s ≡ []
      → OwnsSnapshot owner actor s
  owns_snapshot at Global e h = tt
  owns_snapshot at (Named name) e h =
      let both = none_in (unknown_name at (latest u.takers name.text)) _ h in
      let k = known at (latest u.takers name.text) both.0 in
      e name.text k.0 k.1 ∙ ap Some (own_one at actor k.0 (latest u.takers name.text) k.1 both.1)

  -- The owner of a taken name is its taker.
  owns_taken : (at : ℕ) (name : List ℕ) (o : Option ℕ) → latest u.takers name ≡ o → foreign_name at actor o ≡ [] →
      ((x : List ℕ) (k : ℕ) → latest (with_taker u.takers name actor o) x ≡ Some k → owner x ≡ Some k) →
      owner name ≡ Some actor
  owns_taken at name None is h e = e name actor (ap (λ b. cond b (Some actor) (latest u.takers name)) (same_name name))
  owns_taken at name (Some first) is h e =
      e name first is ∙ ap Some (own_one at actor first (Some first) refl h)

  owns_call : (c : CallForm) → Extend u owner → Extend (uses_after_call u actor c) owner →
      call_faults true states u actor c ≡ [] → OwnsCall owner actor c
  owns_call (form.Take at name kind parent) e after h =
      let both = none_in (snapshot_faults true u actor at parent) _ h in
      (owns_taken at name.text (latest u.takers name.text) refl both.1 after, owns_snapshot at parent e both.0)
  owns_call (form.Read at s state x) e after h =
      owns_snapshot at s e (none_in (snapshot_faults true u actor at s) _ h).0
  owns_call (form.Write at s state x v) e after h =
      owns_snapshot at s e (none_in (snapshot_faults true u actor at s) _ h).0
  owns_call (form.Add at s state x d) e after h =
      owns_snapshot at s e (none_in (snapshot_faults true u actor at s) _ h).0
  owns_call (form.Apply at s) e after h = owns_snapshot at s e h
  owns_call (form.Dispose at s) e after h = owns_snapshot at s e h

-- Owners of the names of steps without faults.
pub record HaveOwners (u : FirstUses) (ts : List TextStep) : Type 0 where
  pub owner : Owners
  pub takers : Extend u owner
  pub owned : AreOwned owner ts

pub have_owners : (states : List State) (ts : List TextStep) (u : FirstUses) → steps_faults true states u ts ≡ []
    → HaveOwners u ts
have_owners states [] u h = record { owner = latest u.takers; takers = λ x k e. e; owned = tt }
have_owners states (CallStep actor c ∷ more) u h =
    let both = none_in (step_faults true states u (CallStep actor c)) _ h in
    let rest = have_owners states more (uses_after u (CallStep actor c)) both.1 in
    let before : Extend u rest.owner = λ x k e. rest.takers x k (call_stays u actor c x k e) in
    record {
      owner = rest.owner;
      takers = before;
      owned = (owns_call states u actor rest.owner c before rest.takers both.0, rest.owned);
    }
have_owners states (FrameStep actor at ∷ more) u h =
    let both = none_in (step_faults true states u (FrameStep actor at)) _ h in
    let rest = have_owners states more (uses_after u (FrameStep actor at)) both.1 in
    record { owner = rest.owner; takers = rest.takers; owned = rest.owned }

-- The faults of a script, pass by pass.
pub record HasNoFaults (states : List State) (forms : List DoForm) : Type 0 where
  pub actors : further_actors (actors_of forms) forms ≡ []
  pub steps : steps_faults true states no_uses (text_script (actors_of forms) forms) ≡ []

pub no_faults : (states : List State) (first : Option ℕ) (forms : List DoForm)
    → script_faults true states first forms ≡ [] → HasNoFaults states forms
no_faults states first forms h =
    let one = (none_in (oversized_faults first) _ h).1 in
    let two = (none_in (long_forms most_steps forms) _ one).1 in
    let three = none_in (further_actors (actors_of forms) forms) _ two in
    record { actors = three.0; steps = (none_in (forms_wrong_repeats forms) _ three.1).1 }
