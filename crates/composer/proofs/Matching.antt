-- A new group matched with an old sibling: what is then known, and the state of the composer.
use Rattle.std.proofs.Common.{ℕ, ◌+◌, ◌++◌, ◌≤◌, List, [], ◌∷◌, ◌≡◌, refl, ap, ◌∙◌, sym, length, length-append, Bool, true, false, Option, Some, None, drop, slice_get, if◌then◌else◌, arith}
use Rattle.std.proofs.lemmas.Slice.Eq.{slice_eq-Decides}
use Rattle.rt_values.specs.declared.value.Value.{Value}
use Rattle.rt_values.specs.Maps.{Map}
use Rattle.rt_values.specs.Values.{same_values}
use Rattle.rt_values.proofs.Equal.{same_value_decides}
use Rattle.rt_groups.specs.declared.groups.GroupKind.{GroupKind as ListedKind}
use Rattle.rt_groups.specs.GroupForest.{GroupForest, GroupKind, Call, Node, Key, Cell, is_call}
use Rattle.rt_groups.specs.Paths.{GroupKey, key_of, same_sibling, sibling, occurrence, Found, matching_sibling, inside_of}
use Rattle.rt_groups.specs.PreorderGroups.{flat_kind, flat_group}
use Rattle.slot_table.specs.ReaderStates.{group_key}
use Rattle.lang_ast.specs.Terms.{Func}
use Rattle.recompose_laws.specs.CalculatedCells.{Calculation, IsCalculatedFor, IsFoundCalculated}
use Rattle.composer.specs.declared.pending.Pending.{Pending}
use Rattle.composer.specs.OldSiblings.{KeyInfo}
use Rattle.composer.specs.Waiting.{waiting_siblings}
use Rattle.composer.specs.OldGroups.{Alike, Fits}
use Rattle.composer.specs.ComposerState.{one_if, opened_group}
use Rattle.composer.specs.BesideContracts.{OldSiblings, IsOldPart, IsOldFound}
use Rattle.composer.specs.Recomposes.{IsBeside, is_container}
use Rattle.composer.specs.WrittenGroups.{WrittenGroups, state_of, written_number, enter_group, with_call, running_call, written_kept, kept_in, kept_of}
use Rattle.composer.proofs.OldMatches.{fits_found, fits_next}
use Rattle.composer.proofs.OldParts.{part_found, part_matched}
use Rattle.composer.proofs.Comparisons.{number_of_kept, other_keys_kept}
use Rattle.composer.proofs.Machine.{same_state}

-- The state after a group that is no call.
entered_is : (d site : ℕ) (w : GroupKind) (inside : GroupForest) (k : Option KeyInfo) (f : Option Found)
    (written : WrittenGroups) (asked mine : List ℕ) → is_call w ≡ false → Alike d k f →
    state_of (enter_group d site (flat_kind w) k written) asked mine
    ≡ opened_group d true f site w inside (state_of written asked mine)
entered_is d site (Call g vs) inside k f written asked mine e a = absurd cc
entered_is d site (Node kind attributes) inside k f written asked mine e a =
    let same = number_of_kept d k f (Node kind attributes) written.next a in
    same_state (ap (λ (p : ℕ × ℕ). written.groups ++ flat_group d site p.0 (flat_kind (Node kind attributes)) [] ∷ [])
    same) (ap (λ (p : ℕ × ℕ). p.1) same) refl (omega arith) refl refl
entered_is d site (Key v) inside k f written asked mine e a = same_state refl refl refl (omega arith) refl refl
entered_is d site (Cell ks v) inside k f written asked mine e a =
    same_state refl refl refl (ap (λ b. written.calculated + one_if b) (other_keys_kept d k f ks a)) refl refl

-- The site and the key of a new group.
pub key_is : (site : ℕ) (w : GroupKind) (code : ListedKind) (k : Option Value) → k ≡ group_key code → code ≡ flat_kind w
    → {key : GroupKey} → key ≡ record { site = site; key = k } → key ≡ sibling site w
key_is site w code k e is first =
    first ∙ ap (λ (key : Option Value). record { site = site; key = key }) (e ∙ ap group_key is ∙ by w)
  where
    by : (w : GroupKind) → group_key (flat_kind w) ≡ key_of w
    by (Call f vs) = refl
    by (Node kind attributes) = refl
    by (Key v) = refl
    by (Cell ks v) = refl

-- What is known after the first unmatched old sibling with the site and the key of a new group was taken.
pub record Matched (o : OldSiblings) (owed : List ℕ) (m : Map) (d : ℕ) (x : GroupKey) (found : Option KeyInfo)
    (left : Pending) : Type 0 where
  pub like : Alike d found (matching_sibling x (occurrence x o.seen) o.old)
  pub fits : Fits d left o.old (x ∷ o.seen)
  pub there : IsOldFound o.last owed m x.site (matching_sibling x (occurrence x o.seen) o.old)
  pub part : IsOldPart o.last owed m (inside_of (matching_sibling x (occurrence x o.seen) o.old))

pub matched : {o : OldSiblings} {owed : List ℕ} {m : Map} {fs : List Func} {d : ℕ} {before left : Pending}
    {found : Option KeyInfo} (x key : GroupKey) → key ≡ x → IsBeside o owed m fs d before
    → found ≡ slice_get (waiting_siblings before key) 0 →
    ((s : GroupKey) → waiting_siblings left s ≡ (if same_sibling key s then drop 1 (waiting_siblings before s) else waiting_siblings before s))
    → Matched o owed m d x found left
matched {o = o} {d = d} {before = before} {left = left} {found = found} x key is b e rest = record {
  like = fits_found d before o.old o.seen x found (e ∙ ap (λ (s : GroupKey). slice_get (waiting_siblings before s) 0) is) b.fits;
  fits = fits_next d before left o.old o.seen x
      (λ s. rest s ∙ ap (λ (y : GroupKey). if same_sibling y s then drop 1 (waiting_siblings before s) else waiting_siblings before s) is)
      b.fits;
  there = part_found x (occurrence x o.seen) b.part;
  part = part_matched x (occurrence x o.seen) b.part;
}

-- The state after the group.
pub matched_state : (d site : ℕ) (w : GroupKind) (code : ListedKind) (inside : GroupForest) (k : Option KeyInfo)
    (f : Option Found) (written written' : WrittenGroups) (asked mine : List ℕ) → is_call w ≡ false → Alike d k f
    → code ≡ flat_kind w → written' ≡ enter_group d site code k written →
    state_of written' asked mine ≡ opened_group d true f site w inside (state_of written asked mine)
matched_state d site w code inside k f written written' asked mine plain a is e =
    ap (λ (q : WrittenGroups). state_of q asked mine) (e ∙ ap (λ (c : ListedKind). enter_group d site c k written) is)
    ∙ entered_is d site w inside k f written asked mine plain a

-- One more group.

pub entered_longer : (d site : ℕ) (code : ListedKind) (k : Option KeyInfo) (written written' : WrittenGroups)
    → written' ≡ enter_group d site code k written → length written.groups ≤ length written'.groups
entered_longer d site code k written written' e =
    let long = ap (λ (q : WrittenGroups). length q.groups) e in
    omega (arith, long, length-append written.groups (flat_group d site (written_number code k written.next).0 code [] ∷ []))

pub call_longer : (d site : ℕ) (code : ListedKind) (runs : Bool) (written written' : WrittenGroups)
    → written' ≡ with_call d site code runs written → length written.groups ≤ length written'.groups
call_longer d site code runs written written' e =
    let long = ap (λ (q : WrittenGroups). length q.groups) e in
    omega (arith, long, length-append written.groups (flat_group d site 0 code [] ∷ []))

pub running_longer : (d site : ℕ) (code : ListedKind) (reads : List ℕ) (written written' : WrittenGroups)
    → written' ≡ running_call d site code reads written → length written.groups ≤ length written'.groups
running_longer d site code reads written written' e =
    let long = ap (λ (q : WrittenGroups). length q.groups) e in
    omega (arith, long, length-append written.groups (flat_group d site 0 code reads ∷ []))

pub kept_longer : (d site n : ℕ) (code : ListedKind) (reads : List ℕ) (written written' : WrittenGroups)
    → written' ≡ written_kept d site n code reads written → length written.groups ≤ length written'.groups
kept_longer d site n code reads written written' e =
    let long = ap (λ (q : WrittenGroups). length q.groups) e in
    omega (arith, long, length-append written.groups (flat_group d site n code reads ∷ []))

pub container_is_no_call : (w : GroupKind) → is_container w ≡ true → is_call w ≡ false
container_is_no_call (Call f vs) h = absurd cc
container_is_no_call (Node kind attributes) h = refl
container_is_no_call (Key v) h = refl
container_is_no_call (Cell ks v) h = absurd cc

-- The value of an old cell with equal keys is the calculated value.
pub kept_is_calculated : (calc : Calculation) (d site : ℕ) (ks : List Value) (k : Option KeyInfo) (f : Option Found)
    (v : Value) → Alike d k f → IsFoundCalculated calc site f → kept_of k ks ≡ Some v → v ≡ calc site ks
kept_is_calculated calc d site ks None f v a h e = absurd cc
kept_is_calculated calc d site ks (Some k) None v a h e = absurd a
kept_is_calculated calc d site ks (Some k) (Some g) v a h e =
    by g.what h.0 (sym (ap (λ (w : ListedKind). kept_in w ks) a.kind) ∙ e)
  where
    cell : (b : Bool) (js : List Value) (u : Value) → same_values js ks ≡ b → u ≡ calc site js
        → (if b then Some u else None) ≡ Some v → v ≡ calc site ks
    cell true js u same told is =
        let value : u ≡ v = cc in
        sym value ∙ told ∙ ap (λ l. calc site l)
        ((slice_eq-Decides same_value_decides js ks (same_values js ks) refl).0 same)
    cell false js u same told is = absurd cc

    by : (w : GroupKind) → IsCalculatedFor calc site w → kept_in (flat_kind w) ks ≡ Some v → v ≡ calc site ks
    by (Call f vs) told is = absurd cc
    by (Node kind attributes) told is = absurd cc
    by (Key u) told is = absurd cc
    by (Cell js u) told is = cell (same_values js ks) js u refl told is

-- Next to the old siblings, after more new ones.
abbrev pub at_now : OldSiblings → List GroupKey → OldSiblings
at_now o now = record { last = o.last; old = o.old; seen = now }

pub beside_now : {o : OldSiblings} {owed : List ℕ} {m : Map} {fs : List Func} {d : ℕ} {left left1 : Pending}
    (now : List GroupKey) → IsBeside o owed m fs d left → Fits d left1 o.old now
    → IsBeside (at_now o now) owed m fs d left1
beside_now now b f = record { since = b.since; part = b.part; fits = f }
