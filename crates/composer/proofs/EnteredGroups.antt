-- A node or a key that was matched and appended, with the statements inside it.
use Rattle.std.proofs.Common.{ℕ, ◌+◌, List, [], ◌∷◌, ◌≡◌, refl, sym, subst, Result, Ok, Err, OnOk, true, Option, drop, slice_get, if◌then◌else◌}
use Rattle.rt_values.specs.Maps.{Map}
use Rattle.rt_groups.specs.declared.groups.GroupKind.{GroupKind as ListedKind}
use Rattle.rt_groups.specs.GroupForest.{GroupForest, End, Group, GroupKind}
use Rattle.rt_groups.specs.Paths.{GroupKey, same_sibling, sibling, occurrence, Found, matching_sibling, inside_of}
use Rattle.rt_groups.specs.PreorderGroups.{flat_kind}
use Rattle.slot_table.specs.ReaderStates.{group_key}
use Rattle.lang_ast.specs.Terms.{Func}
use Rattle.composer.specs.declared.pending.Pending.{Pending}
use Rattle.composer.specs.declared.stop.ComposeStop.{ComposeStop}
use Rattle.composer.specs.OldSiblings.{KeyInfo}
use Rattle.composer.specs.Waiting.{waiting_siblings}
use Rattle.composer.specs.OldGroups.{Alike, Fits}
use Rattle.composer.specs.ComposerState.{ComposerState, composed_beside}
use Rattle.composer.specs.BesideContracts.{Reaches, OldSiblings, IsOldPart}
use Rattle.composer.specs.Recomposes.{ComposesBeside, IsBeside, is_container}
use Rattle.composer.specs.WrittenGroups.{WrittenGroups, state_of, enter_group}
use Rattle.composer.proofs.BesideSteps.{beside_group}
use Rattle.composer.proofs.Matching.{key_is, matched, matched_state, container_is_no_call}

-- The old siblings that are left after the group stay the same while the statements inside it are composed.
fits_still : {U : Type 0} (d : ℕ) (left after : Pending) (old : GroupForest) (seen : List GroupKey)
    (result : Result U ComposeStop) → OnOk result (after ≡ left) → Fits d left old seen
    → OnOk result (Fits d after old seen)
fits_still d left after old seen (Ok u) e f = subst (λ (p : Pending). Fits d p old seen) (sym e) f
fits_still d left after old seen (Err x) e f = tt

-- A group was matched and appended, and then the statements inside it were composed next to those of its old sibling.
pub entered_beside : {U : Type 0} {o : OldSiblings} {owed : List ℕ} {m : Map} {fs : List Func} {d site : ℕ}
    {before after : Pending} {found : Option KeyInfo} {inside : GroupForest} {written written1 : WrittenGroups}
    {asked mine : List ℕ} {s' : ComposerState} (result : Result U ComposeStop) (left : Pending) (w : GroupKind) (code : ListedKind)
    → code ≡ flat_kind w → is_container w ≡ true → IsBeside o owed m fs d before →
    found ≡ slice_get (waiting_siblings before (record { site = site; key = group_key code })) 0 →
    ((s : GroupKey) → waiting_siblings left s ≡ (if same_sibling (record { site = site; key = group_key code }) s then drop 1 (waiting_siblings before s) else waiting_siblings before s))
    → written1 ≡ enter_group d site code found written → OnOk result (after ≡ left) →
    ((there : Option Found) → IsOldPart o.last owed m (inside_of there) → Alike d found there →
    Reaches (composed_beside owed (inside_of there) (d + 1) true [] inside (state_of written1 asked mine)) s' result)
    → ComposesBeside owed o.old d o.seen (Group site 0 w inside End) (state_of written asked mine) s' after result
entered_beside {o = o} {d = d} {site = site} {after = after} {found = found} {inside = inside} {written = written} {written1 = written1} {asked = asked} {mine = mine} result left w code is plain b first rest entered stays inner =
    let x = sibling site w in
    let k = matched {left = left} x (record { site = site; key = group_key code }) (key_is site w code (group_key code) refl is refl) b first rest in
    let there = matching_sibling x (occurrence x o.seen) o.old in
    beside_group w (state_of written1 asked mine) plain
    (matched_state d site w code inside found there written written1 asked mine (container_is_no_call w plain) k.like is
    entered) (fits_still d left after o.old (x ∷ o.seen) result stays k.fits) (inner there k.part k.like)
