-- A group of the table compares as the group of the old forest.
use Rattle.std.proofs.Common.{◌≡◌, ℕ, not, ◌||◌, List, Option, Some, None, refl, ap, ◌∙◌}
use Rattle.rt_values.specs.declared.value.Value.{Value}
use Rattle.rt_groups.specs.GroupForest.{GroupForest, GroupKind, Call, Node, Key, Cell, asks, own_part}
use Rattle.rt_groups.specs.Paths.{Found}
use Rattle.rt_groups.specs.PreorderGroups.{flat_kind, flat_reads}
use Rattle.rt_groups.specs.Frames.{meets, runs_after}
use Rattle.rt_groups.specs.Frames as frames
use Rattle.composer.specs.OldSiblings.{KeyInfo, old_group}
use Rattle.composer.specs.OldGroups.{Alike}
use Rattle.composer.specs.Comparisons.{same_call, call_runs, has_keys, other_keys}
use Rattle.composer.specs.WrittenGroups.{number_for, written_number}

same_call_kept : (a b : GroupKind) → same_call (flat_kind a) (flat_kind b) ≡ frames.same_call a b
same_call_kept (Call f vs) (Call g ws) = refl
same_call_kept (Call f vs) (Node kind attributes) = refl
same_call_kept (Call f vs) (Key v) = refl
same_call_kept (Call f vs) (Cell ks v) = refl
same_call_kept (Node kind attributes) b = refl
same_call_kept (Key w) b = refl
same_call_kept (Cell ks w) b = refl

-- If the old group was no call, its reads do not matter.
runs_kept : (owed : List ℕ) (a b : GroupKind) (inside : GroupForest)
    → (not (frames.same_call a b) || meets (flat_reads a inside) owed)
    ≡ (not (frames.same_call a b) || meets (asks (own_part inside)) owed)
runs_kept owed (Call f vs) b inside = refl
runs_kept owed (Node kind attributes) b inside = refl
runs_kept owed (Key w) b inside = refl
runs_kept owed (Cell ks w) b inside = refl

pub call_runs_kept : (owed : List ℕ) (d : ℕ) (k : Option KeyInfo) (f : Option Found) (what : GroupKind) → Alike d k f
    → call_runs owed k (flat_kind what) ≡ runs_after owed f what
call_runs_kept owed d None None what a = refl
call_runs_kept owed d None (Some f) what a = absurd a
call_runs_kept owed d (Some k) None what a = absurd a
call_runs_kept owed d (Some k) (Some f) what a =
    ap (λ w. not (same_call w (flat_kind what)) || meets (old_group k).reads owed) a.kind
    ∙ ap (λ l. not (same_call (flat_kind f.what) (flat_kind what)) || meets l owed) a.reads
    ∙ ap (λ b. not b || meets (flat_reads f.what f.inside) owed) (same_call_kept f.what what)
    ∙ runs_kept owed f.what what f.inside

has_keys_kept : (ks : List Value) (what : GroupKind) → has_keys ks (flat_kind what) ≡ frames.has_keys ks what
has_keys_kept ks (Call f vs) = refl
has_keys_kept ks (Node kind attributes) = refl
has_keys_kept ks (Key v) = refl
has_keys_kept ks (Cell js v) = refl

pub other_keys_kept : (d : ℕ) (k : Option KeyInfo) (f : Option Found) (ks : List Value) → Alike d k f
    → other_keys k ks ≡ frames.other_keys f ks
other_keys_kept d None None ks a = refl
other_keys_kept d None (Some f) ks a = absurd a
other_keys_kept d (Some k) None ks a = absurd a
other_keys_kept d (Some k) (Some f) ks a = ap (λ w. not (has_keys ks w)) a.kind ∙ ap not (has_keys_kept ks f.what)

given_kept : (d : ℕ) (k : Option KeyInfo) (f : Option Found) (next : ℕ) → Alike d k f
    → number_for k next ≡ frames.number_for f next
given_kept d None None next a = refl
given_kept d None (Some f) next a = absurd a
given_kept d (Some k) None next a = absurd a
given_kept d (Some k) (Some f) next a = ap (λ n. (n, next)) a.number

pub number_of_kept : (d : ℕ) (k : Option KeyInfo) (f : Option Found) (what : GroupKind) (next : ℕ) → Alike d k f
    → written_number (flat_kind what) k next ≡ frames.given_number what f next
number_of_kept d k f (Call g vs) next a = refl
number_of_kept d k f (Node kind attributes) next a = given_kept d k f next a
number_of_kept d k f (Key v) next a = refl
number_of_kept d k f (Cell ks v) next a = refl
