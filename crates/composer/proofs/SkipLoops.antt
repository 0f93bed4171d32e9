-- Old groups that are skipped one after another.
use Rattle.std.proofs.Common.{ℕ, suc, ◌+◌, ◌++◌, append-nil, List, [], ◌∷◌, ◌≡◌, refl, ap, ◌∙◌, sym, subst, ◌-◌, ◌<◌, ◌≤◌, length, length-append, length-drop, drop, drop-cons, nat_le, Bool, true, false, if◌then◌else◌, Result, Ok, Err, IsErr, arith}
use Rattle.std.proofs.lemmas.List.{drop_all}
use Rattle.slot_table.specs.TableGroups.{group_at}
use Rattle.slot_table.specs.ReaderStates.{after_deep}
use Rattle.rt_values.specs.Maps.{Map}
use Rattle.rt_groups.specs.declared.groups.GroupKind.{GroupKind as ListedKind}
use Rattle.rt_groups.specs.GroupForest.{GroupForest, End, Read, Group, GroupKind, Call, Node, Key, Cell}
use Rattle.rt_groups.specs.PreorderGroups.{flat_kind, flat_reads, flat_group, preorder}
use Rattle.rt_groups.specs.Paths.{Found}
use Rattle.rt_groups.specs.declared.groups.Group.{Group as Listed}
use Rattle.lang_ast.specs.Terms.{Func}
use Rattle.recompose_laws.specs.Refreshing.{is_owed}
use Rattle.composer.specs.declared.stop.ComposeStop.{ComposeStop}
use Rattle.composer.specs.declared.stop.ComposeStop.TheVariants.{TooManyGroups, NoMemory}
use Rattle.composer.specs.ComposerState.{ComposerState, skipped_inside, skipped_groups}
use Rattle.composer.specs.BesideContracts.{Reaches, LastComposition, IsPrefix, IsOldPart}
use Rattle.rt_groups.specs.Frames.{most_groups, meets}
use Rattle.recompose_laws.specs.Numbering.{kept_number}
use Rattle.composer.specs.OldSiblings.{KeyInfo, LastFrameGroups, old_group}
use Rattle.composer.specs.QuietRuns.{group_run, with_run, has_owed, IsQuietGroup, Layers, NoLayer, Layer, AreLayers, AreOldParts, skipped_layers, QuietWalk}
use Rattle.composer.proofs.Reaching.{reached_full, reached_stop}
use Rattle.composer.specs.OldGroups.{Begins, Ends, SameGroup}
use Rattle.composer.proofs.Layers.{FirstLayer, layer_at, one_layer}
use Rattle.composer.proofs.OldMatches.{first_same, next_of}
use Rattle.composer.proofs.OldWalks.{ends_at, past_end, past_inside, past_preorder}
use Rattle.composer.proofs.QuietRuns.{none_of_both, quiet_inside, quiet_kept, run_is}
use Rattle.composer.proofs.OldParts.{part_inside, part_rest}
use Rattle.composer.proofs.Machine.{part_skipped, longer_skipped, part_on}

-- A group that was reached in a layer: an old group of the table, the state after it, and what is known of the groups
-- inside it.

abbrev pub layer_found : {owed : List ℕ} {d : ℕ} {gs : List Listed} {ls : Layers} → FirstLayer owed d gs ls → Found
layer_found f = record { number = f.number; what = f.what; inside = f.inside }

pub layer_part : {l : LastComposition} {owed : List ℕ} {m : Map} {d : ℕ} {gs : List Listed} {ls : Layers}
    (f : FirstLayer owed d gs ls) → AreOldParts l owed m ls → IsOldPart l owed m f.inside
layer_part {l = l} {m = m} f p = part_inside f.site f.number f.what f.inside f.rest (f.parts l m p).0

pub moved_group : {d d' site site' : ℕ} (m : Map) (owed : List ℕ) (fs : List Func) (f : Found) (s : ComposerState)
    → d ≡ d' → site ≡ site' →
    skipped_inside m owed fs d site f.number f.what (is_owed owed f.inside) f.inside (skipped_groups m owed f.inside) s
    ≡ skipped_inside m owed fs d' site' f.number f.what (is_owed owed f.inside) f.inside
    (skipped_groups m owed f.inside) s
moved_group {d' = d'} {site = site} m owed fs f s depth place =
    ap (λ n. skipped_inside m owed fs n site f.number f.what (is_owed owed f.inside) f.inside
    (skipped_groups m owed f.inside) s) depth
    ∙ ap (λ n. skipped_inside m owed fs d' n f.number f.what (is_owed owed f.inside) f.inside
    (skipped_groups m owed f.inside) s) place

pub layer_same : {owed : List ℕ} {d : ℕ} {ls : Layers} (groups : List Listed) (i : ℕ)
    (f : FirstLayer owed d (drop i groups) ls) → SameGroup f.at (record { groups = groups; index = i })
    (layer_found f)
layer_same groups i f =
    first_same groups f.at i f.site f.number f.what f.inside f.rest f.more f.is f.ends

pub layer_site : {owed : List ℕ} {d : ℕ} {ls : Layers} (groups : List Listed) (i : ℕ)
    (f : FirstLayer owed d (drop i groups) ls) → (group_at groups i).site ≡ f.site
layer_site groups i f =
    ap (λ (h : Listed). h.site) (next_of groups ((preorder (f.at + 1) f.inside ++ preorder f.at f.rest) ++ f.more)
    (flat_group f.at f.site f.number (flat_kind f.what) (flat_reads f.what f.inside)) i f.is).0

-- The view is asked for no less, and there are no fewer groups, after layers are skipped.

part_layers : (m : Map) (owed : List ℕ) (fs : List Func) (ls : Layers) (s : ComposerState)
    → IsPrefix s.asked (skipped_layers m owed fs ls s).asked
part_layers m owed fs NoLayer s = record { rest = []; is = append-nil s.asked }
part_layers m owed fs (Layer d t outer) s =
    part_on (part_skipped m owed t fs d s) (part_layers m owed fs outer (skipped_groups m owed t fs d s))

longer_layers : (m : Map) (owed : List ℕ) (fs : List Func) (ls : Layers) (s : ComposerState)
    → length s.groups ≤ length (skipped_layers m owed fs ls s).groups
longer_layers m owed fs NoLayer s = omega arith
longer_layers m owed fs (Layer d t outer) s =
    let one = longer_skipped m owed t fs d s in
    let more = longer_layers m owed fs outer (skipped_groups m owed t fs d s) in omega (arith, one, more)

-- Nothing is left of layers before a group that is less deep.

skipped_none : (m : Map) (owed : List ℕ) (e : ℕ) (t : GroupForest) (fs : List Func) (gs : List Listed)
    (s : ComposerState) → (b : Begins e gs t) → Ends e gs
    → (skipped_groups m owed t fs e s ≡ s) × (gs ≡ b.more)
skipped_none m owed e End fs gs s b ends = (refl, b.is)
skipped_none m owed e (Read x rest) fs gs s b ends =
    skipped_none m owed e rest fs gs s (record { more = b.more; is = b.is; ends = b.ends }) ends
skipped_none m owed e (Group site n what inside rest) fs gs s b ends = absurd (by gs b.is ends)
  where
    g : Listed
    g = flat_group e site n (flat_kind what) (flat_reads what inside)

    by : (xs : List Listed) → xs ≡ preorder e (Group site n what inside rest) ++ b.more → Ends e xs → ⊥
    by [] same shallow = cc
    by (x ∷ xs) same shallow =
        let is : x ≡ g = cc in
        let depth = ap (λ (k : Listed). k.depth) is in omega (arith, depth, shallow)

deeper_ends : (d e : ℕ) (gs : List Listed) → d ≤ e → Ends d gs → Ends e gs
deeper_ends d e [] low ends = tt
deeper_ends d e (g ∷ gs) low ends = omega (arith, low, ends)

none_layered : (m : Map) (owed : List ℕ) (fs : List Func) (d : ℕ) (ls : Layers) (gs : List Listed) (s : ComposerState)
    → AreLayers d ls gs → Ends d gs → skipped_layers m owed fs ls s ≡ s
none_layered m owed fs d NoLayer gs s a ends = refl
none_layered m owed fs d (Layer e t outer) gs s a ends =
    let none = skipped_none m owed e t fs gs s a.1 (deeper_ends d e gs a.0 ends) in
    ap (λ q. skipped_layers m owed fs outer q) none.0
    ∙ none_layered m owed fs d outer a.1.more s a.2 (subst (λ xs. Ends d xs) none.1 ends)

-- The old groups that are left, and the state after them.
pub record GroupsLeft (m : Map) (owed : List ℕ) (l : LastComposition) (fs : List Func) (d : ℕ) (t : GroupForest)
    (gs : List Listed) (s s' : ComposerState) : Type 0 where
  pub rest : Layers
  pub begins : AreLayers d rest gs
  pub parts : AreOldParts l owed m rest
  pub going : skipped_layers m owed fs rest s' ≡ skipped_groups m owed t fs d s

pub left_first : {m : Map} {owed : List ℕ} {l : LastComposition} {fs : List Func} {d : ℕ} {t : GroupForest}
    {gs : List Listed} {s : ComposerState} → Begins d gs t → IsOldPart l owed m t → GroupsLeft m owed l fs d t gs s s
left_first {d = d} {t = t} {gs = gs} b p = record {
  rest = Layer d t NoLayer;
  begins = one_layer d t gs b;
  parts = (p, tt);
  going = refl;
}

-- The first group of the layers that are left.
pub left_group : {m : Map} {owed : List ℕ} {l : LastComposition} {fs : List Func} {d : ℕ} {t : GroupForest}
    {s mid : ComposerState} (groups : List Listed) (i : ℕ) (k : GroupsLeft m owed l fs d t (drop i groups) s mid)
    → i < length groups → d ≤ (group_at groups i).depth → FirstLayer owed d (drop i groups) k.rest
left_group {owed = owed} {d = d} groups i k inside deep =
    layer_at owed groups d i k.rest k.begins inside deep

-- The state after the first group.
abbrev pub after_first : {owed : List ℕ} {d : ℕ} {gs : List Listed} {ls : Layers} → FirstLayer owed d gs ls → Map
    → List Func → ComposerState → ComposerState
after_first {owed = owed} f m fs s =
    skipped_inside m owed fs f.at f.site f.number f.what (is_owed owed f.inside) f.inside
    (skipped_groups m owed f.inside) s

pub left_more : {U : Type 0} {m : Map} {owed : List ℕ} {l : LastComposition} {fs : List Func} {d : ℕ}
    {t : GroupForest} {s mid late : ComposerState} {u : U} (groups : List Listed) (i j : ℕ)
    → (k : GroupsLeft m owed l fs d t (drop i groups) s mid) → (f : FirstLayer owed d (drop i groups) k.rest) →
    ((g : Listed) (rest : List Listed) → drop i groups ≡ g ∷ rest → drop j groups ≡ after_deep (g.depth + 1) rest) →
    Reaches (after_first f m fs mid) late {U = U} (Ok u) → GroupsLeft m owed l fs d t (drop j groups) s late
left_more {m = m} {owed = owed} {l = l} {fs = fs} {d = d} {mid = mid} groups i j k f after h =
    let left : Layers = Layer f.at f.rest f.outer in
    let p = f.parts l m k.parts in
    let later : drop j groups ≡ preorder f.at f.rest ++ f.more =
    after (flat_group f.at f.site f.number (flat_kind f.what) (flat_reads f.what f.inside))
    ((preorder (f.at + 1) f.inside ++ preorder f.at f.rest) ++ f.more) f.is
    ∙ past_inside f.at f.inside f.rest f.more f.ends in
    record {
      rest = left;
      begins = (f.deep, record { more = f.more; is = later; ends = f.ends }, f.begins);
      parts = (part_rest f.site f.number f.what f.inside f.rest p.0, p.1);
      going = ap (λ (q : ComposerState). skipped_layers m owed fs left q) h.all ∙ f.same m fs mid ∙ k.going;
    }

pub left_stop : {U V : Type 0} {m : Map} {owed : List ℕ} {l : LastComposition} {fs : List Func} {d : ℕ}
    {t : GroupForest} {gs : List Listed} {s mid late : ComposerState} {x : ComposeStop}
    (result : Result U ComposeStop) → (k : GroupsLeft m owed l fs d t gs s mid)
    → (f : FirstLayer owed d gs k.rest) →
    Reaches (after_first f m fs mid) late {U = V} (Err x) → result ≡ Err x
    → Reaches (skipped_groups m owed t fs d s) late result
left_stop (Ok u) k f h is = cc
left_stop {m = m} {owed = owed} {fs = fs} {d = d} {mid = mid} {late = late} {x = x} (Err z) k f h is =
    let same = f.same m fs mid ∙ k.going in
    let left : Layers = Layer f.at f.rest f.outer in
    let after = after_first f m fs mid in record {
      all = tt;
      part = subst (λ (q : ComposerState). IsPrefix late.asked q.asked) same
          (part_on h.part (part_layers m owed fs left after));
      many = λ y.
          let y0 : z ≡ x = cc in
          let y1 : z ≡ TooManyGroups = cc in
          let big = h.many (ap (λ (w : ComposeStop). Err w) (sym y0 ∙ y1)) in
          let far = longer_layers m owed fs left after in
          let len = ap (λ (q : ComposerState). length q.groups) same in
          omega (arith, big, far, len);
    }

pub left_done : {m : Map} {owed : List ℕ} {l : LastComposition} {fs : List Func} {d : ℕ} {t : GroupForest}
    {gs : List Listed} {s mid : ComposerState} → GroupsLeft m owed l fs d t gs s mid → Ends d gs
    → Reaches (skipped_groups m owed t fs d s) mid {U = Unit {0}} (Ok tt)
left_done {m = m} {owed = owed} {fs = fs} {d = d} {gs = gs} {mid = mid} k e = record {
  all = sym (none_layered m owed fs d k.rest gs mid k.begins e) ∙ k.going;
  part = tt;
  many = λ y. cc;
}

-- The composition runs out of memory between two old groups.
pub left_memory : {U : Type 0} {m : Map} {owed : List ℕ} {l : LastComposition} {fs : List Func} {d : ℕ}
    {t : GroupForest} {gs : List Listed} {s mid : ComposerState} (result : Result U ComposeStop)
    → GroupsLeft m owed l fs d t gs s mid → result ≡ Err NoMemory
    → Reaches (skipped_groups m owed t fs d s) mid result
left_memory {m = m} {owed = owed} {fs = fs} {mid = mid} result k e =
    reached_stop result e (subst (λ (q : ComposerState). IsPrefix mid.asked q.asked) k.going
    (part_layers m owed fs k.rest mid))

-- No group at an index and after it is as deep.

pub ends_past : (groups : List Listed) (d i : ℕ) → length groups ≤ i → Ends d (drop i groups)
ends_past groups d i past = ends_at groups d i (λ g rest e. absurd (let none = drop_all i groups past in cc))

-- The index after a group is greater than its index.

after_short : (d : ℕ) (gs : List Listed) → length (after_deep d gs) ≤ length gs
after_short d [] = omega arith
after_short d (g ∷ gs) = by (nat_le d g.depth) (after_short d gs)
  where
    by : (b : Bool) → length (after_deep d gs) ≤ length gs
        → length (if b then after_deep d gs else g ∷ gs) ≤ suc (length gs)
    by true h = omega (arith, h)
    by false h = omega arith

pub index_grows : (groups : List Listed) (i j : ℕ) → i < length groups
    → ((g : Listed) (rest : List Listed) → drop i groups ≡ g ∷ rest → drop j groups ≡ after_deep (g.depth + 1) rest)
    → j ≤ length groups → length groups - j < length groups - i
index_grows groups i j inside after most =
    let first : drop i groups ≡ group_at groups i ∷ drop (suc i) groups = drop-cons groups i (group_at [] i) inside in
    let next = ap (λ (l : List Listed). length l) (after (group_at groups i) (drop (suc i) groups) first) in
    let short = after_short ((group_at groups i).depth + 1) (drop (suc i) groups) in
    omega (arith, inside, most, next, short, length-drop j groups, length-drop (suc i) groups)

-- A group at its place in which no call is owed is kept with all groups inside it.

no_number : (what : GroupKind) (n : ℕ) → n ≡ 0 → n ≡ kept_number what n
no_number (Call f vs) n e = e
no_number (Node kind attributes) n e = refl
no_number (Key v) n e = e
no_number (Cell ks v) n e = e

quiet_is : (g : Listed) (d site n : ℕ) (what : ListedKind) (reads : List ℕ) → g.depth ≡ d → g.site ≡ site
    → g.number ≡ n → g.what ≡ what → g.reads ≡ reads → g ≡ flat_group d site n what reads
quiet_is g d site n what reads e1 e2 e3 e4 e5 =
    ap (λ x. flat_group x g.site g.number g.what g.reads) e1
    ∙ ap (λ x. flat_group d x g.number g.what g.reads) e2
    ∙ ap (λ x. flat_group d site x g.what g.reads) e3
    ∙ ap (λ (x : ListedKind). flat_group d site n x g.reads) e4
    ∙ ap (λ x. flat_group d site n what x) e5

pub quiet_group : {l : LastComposition} {m : Map} {d site j : ℕ} (last : LastFrameGroups) (old : KeyInfo) (i : ℕ)
    (f : Found) (fs : List Func) (s : ComposerState) → i ≡ old.index → old.groups ≡ last.groups
    → old.index < length last.groups → IsQuietGroup last d site old.index j → SameGroup d old f
    → IsOldPart l last.owed.objects m f.inside →
    with_run (group_run last.groups i j) s
    ≡ skipped_inside m last.owed.objects fs d site f.number f.what (is_owed last.owed.objects f.inside) f.inside
    (skipped_groups m last.owed.objects f.inside) s
quiet_group {m = m} {d = d} {site = site} {j = j} last old n f fs s place table within q like part =
    let groups = last.groups in
    let owed = last.owed.objects in
    let i : ℕ = old.index in
    let g : Listed = flat_group d site f.number (flat_kind f.what) (flat_reads f.what f.inside) in
    let here : old_group old ≡ group_at groups i = ap (λ (gs : List Listed). group_at gs i) table in
    let number : (group_at groups i).number ≡ f.number = sym (ap (λ (x : Listed). x.number) here) ∙ like.number in
    let kind : (group_at groups i).what ≡ flat_kind f.what = sym (ap (λ (x : Listed). x.what) here) ∙ like.kind in
    let reads : (group_at groups i).reads ≡ flat_reads f.what f.inside = sym (ap (λ (x : Listed). x.reads) here)
    ∙ like.reads in
    let is : group_at groups i ≡ g = quiet_is (group_at groups i) d site f.number (flat_kind f.what)
    (flat_reads f.what f.inside) q.depth_is q.site_is number kind reads in
    let first : drop i groups ≡ group_at groups i ∷ drop (suc i) groups = drop-cons groups i (group_at [] i) within in
    let one : suc i ≡ i + 1 = omega arith in
    let b = like.begins in
    let behind : drop (suc i) groups ≡ preorder (d + 1) f.inside ++ b.more = ap (λ n. drop n groups) one
    ∙ sym (ap (λ (gs : List Listed). drop (i + 1) gs) table) ∙ b.is in
    let all : drop i groups ≡ (g ∷ preorder (d + 1) f.inside) ++ b.more = first
    ∙ ap (λ x. x ∷ drop (suc i) groups) is ∙ ap (λ xs. g ∷ xs) behind in
    let later : drop j groups ≡ b.more = q.after g (preorder (d + 1) f.inside ++ b.more) all
    ∙ past_preorder (d + 1) (d + 1) f.inside b.more (omega arith) ∙ past_end (d + 1) b.more b.ends in
    let run : group_run groups i j ≡ g ∷ preorder (d + 1) f.inside =
    run_is groups i j (g ∷ preorder (d + 1) f.inside) b.more q.order q.inside all later in
    let none = none_of_both (meets (flat_reads f.what f.inside) owed) (has_owed owed (preorder (d + 1) f.inside))
    (sym (ap (λ xs. has_owed owed xs) run) ∙ q.quiet) in
    ap (λ x. with_run (group_run groups x j) s) place
    ∙ ap (λ xs. with_run xs s) run
    ∙ sym (quiet_inside m owed f.what d site f.number f.inside fs s
    (no_number f.what f.number (sym number ∙ q.number_is)) none.0
    (quiet_kept m owed f.inside (d + 1) part.numbered none.1))

-- The old groups that are left after a run in which no call is owed.

pub left_run : {m : Map} {owed : List ℕ} {l : LastComposition} {fs : List Func} {d i j : ℕ} {t : GroupForest}
    {groups : List Listed} {s mid late : ComposerState} → (k : GroupsLeft m owed l fs d t (drop i groups) s mid)
    → QuietWalk owed d groups i j k.rest →
    late ≡ with_run (group_run groups i j) mid → GroupsLeft m owed l fs d t (drop j groups) s late
left_run {m = m} {owed = owed} {l = l} {fs = fs} {d = d} {mid = mid} k q added = record {
  rest = q.rest;
  begins = q.begins;
  parts = q.parts l m k.parts;
  going =
      ap (λ (x : ComposerState). skipped_layers m owed fs q.rest x) added ∙ q.kept l m k.parts fs mid ∙ k.going;
}

-- A run did not fit.
pub left_full : {U : Type 0} {m : Map} {owed : List ℕ} {l : LastComposition} {fs : List Func} {d i j : ℕ}
    {t : GroupForest} {groups : List Listed} {s mid late : ComposerState} (result : Result U ComposeStop)
    → (k : GroupsLeft m owed l fs d t (drop i groups) s mid) → QuietWalk owed d groups i j k.rest →
    IsErr result → (result ≡ Err TooManyGroups → most_groups < length mid.groups + length (group_run groups i j))
    → late.asked ≡ mid.asked → Reaches (skipped_groups m owed t fs d s) late result
left_full {m = m} {owed = owed} {l = l} {fs = fs} {d = d} {i = i} {j = j} {t = t} {groups = groups} {s = s} {mid = mid} {late = late} result k q failed full same =
    let run = group_run groups i j in
    let whole = q.kept l m k.parts fs mid ∙ k.going in
    let len = ap (λ (x : ComposerState). length x.groups) whole in
    let far = longer_layers m owed fs q.rest (with_run run mid) in
    let sum = length-append mid.groups run in
    reached_full result failed (λ e. let big = full e in omega (arith, big, far, len, sum))
    (subst (λ (a : List ℕ). IsPrefix a (skipped_groups m owed t fs d s).asked) (sym same)
    (subst (λ (x : ComposerState). IsPrefix mid.asked x.asked) k.going (part_layers m owed fs k.rest mid)))
