-- Calls that run, and old groups that are skipped.
use Rattle.std.proofs.Common.{ℕ, ◌+◌, ◌++◌, ◌<◌, List, [], ◌∷◌, ◌≡◌, refl, ap, ◌∙◌, sym, subst, append_assoc, append-nil, length, length-append, Bool, true, false, Option, Some, None, take, drop, Result, Ok, Err, arith}
use Rattle.rt_values.specs.declared.value.Value.{Value}
use Rattle.rt_groups.specs.declared.groups.Group.{Group as Listed}
use Rattle.rt_groups.specs.declared.groups.GroupKind.{GroupKind as ListedKind}
use Rattle.rt_groups.specs.declared.groups.GroupKind.TheVariants as listed
use Rattle.rt_values.specs.Maps.{Map}
use Rattle.rt_groups.specs.GroupForest.{GroupForest, End, Group, GroupKind, Call, Node, Key, Cell, is_call, asks, own_part}
use Rattle.rt_groups.specs.Paths.{Found}
use Rattle.rt_groups.specs.PreorderGroups.{flat_kind, flat_reads, flat_group, preorder}
use Rattle.rt_groups.specs.Frames.{meets}
use Rattle.lang_ast.specs.Terms.{Func}
use Rattle.compose_model.specs.Composing.{meaning_at, meanings}
use Rattle.recompose_laws.specs.Work.{work}
use Rattle.recompose_laws.specs.Refreshing.{is_owed}
use Rattle.recompose_laws.specs.Walking.{walk_work_inside, walk_work}
use Rattle.recompose_laws.specs.Numbering.{numbered_by_siblings, renewed_inside, renewed_groups, kept_number}
use Rattle.composer.specs.declared.stop.ComposeStop.{ComposeStop}
use Rattle.composer.specs.declared.stop.ComposeStop.TheVariants.{TooManyGroups}
use Rattle.composer.specs.OldSiblings.{KeyInfo, old_group}
use Rattle.composer.specs.OldGroups.{Alike, Begins}
use Rattle.composer.specs.ComposerState.{ComposerState, put_group, opened_group, closed_group, composed_beside, run_beside, skipped_inside, skipped_groups}
use Rattle.composer.specs.BesideContracts.{IsPrefix, Reaches}
use Rattle.composer.specs.WrittenGroups.{WrittenGroups, state_of, with_call, running_call, written_kept, number_kept}
use Rattle.composer.specs.Recomposes.{is_call_kept}
use Rattle.composer.proofs.Machine.{same_state, composed_is, part_of, longer, state_after_work, state_after_walk, skipped_is, skip_group}

-- A call that has no work inside it.
pub call_alone : (owed : List ℕ) (was : GroupForest) (there : Option Found) (d site f : ℕ) (vs : List Value)
    (runs : Bool) (new : GroupForest) (written written' : WrittenGroups) (asked mine : List ℕ) → new ≡ End
    → written' ≡ with_call d site (listed.Call f vs) runs written →
    state_of written' asked mine
    ≡ closed_group (Call f vs) (state_of written asked mine)
    (composed_beside owed was (d + 1) runs [] new
    (opened_group d runs there site (Call f vs) new (state_of written asked mine)))
call_alone owed was there d site f vs runs new written written' asked mine none e =
    ap (λ (q : WrittenGroups). state_of q asked mine) e
    ∙ ap (λ (t : GroupForest). closed_group (Call f vs) (state_of written asked mine)
    (composed_beside owed was (d + 1) runs [] t
    (opened_group d runs there site (Call f vs) t (state_of written asked mine)))) (sym none)

pub part_ran : (owed : List ℕ) (was : GroupForest) (d site f : ℕ) (vs : List Value) (new : GroupForest)
    (s : ComposerState) → IsPrefix s.asked (run_beside owed was d site (Call f vs) new s).asked
part_ran owed was d site f vs new s =
    part_of owed was (d + 1) true [] new (opened_group d true None site (Call f vs) new s)

pub longer_ran : (owed : List ℕ) (was : GroupForest) (d site f : ℕ) (vs : List Value) (new : GroupForest)
    (s : ComposerState) → length s.groups < length (run_beside owed was d site (Call f vs) new s).groups
longer_ran owed was d site f vs new s =
    let e = longer owed was (d + 1) true [] new (opened_group d true None site (Call f vs) new s) in
    omega (arith, e, length-append s.groups (flat_group d site 0 (flat_kind (Call f vs)) (asks (own_part new)) ∷ []))

-- The state after a body, after the group of its call with the reads `first`.
inner_is : (owed : List ℕ) (was : GroupForest) (d site f : ℕ) (vs : List Value) (new : GroupForest)
    (written written1 : WrittenGroups) (asked none first : List ℕ) → none ≡ []
    → written1 ≡ running_call d site (listed.Call f vs) first written →
    composed_beside owed was (d + 1) true [] new (state_of written1 asked none)
    ≡ state_after_work (d + 1) (numbered_by_siblings was [] written.next new) (work owed was [] true new)
    (asks (own_part new)) (state_of (running_call d site (listed.Call f vs) first written) asked [])
inner_is owed was d site f vs new written written1 asked none first e1 e2 =
    ap (λ (q : WrittenGroups). composed_beside owed was (d + 1) true [] new (state_of q asked none)) e2
    ∙ ap (λ (l : List ℕ). composed_beside owed was (d + 1) true [] new
    (state_of (running_call d site (listed.Call f vs) first written) asked l)) e1
    ∙ composed_is owed was (d + 1) true [] new
    (state_of (running_call d site (listed.Call f vs) first written) asked [])

outer_is : (owed : List ℕ) (was : GroupForest) (d site f : ℕ) (vs : List Value) (new : GroupForest)
    (s : ComposerState) →
    run_beside owed was d site (Call f vs) new s
    ≡ closed_group (Call f vs) s
    (state_after_work (d + 1) (numbered_by_siblings was [] s.next new) (work owed was [] true new)
    (asks (own_part new)) (opened_group d true None site (Call f vs) new s))
outer_is owed was d site f vs new s = ap (λ (q : ComposerState). closed_group (Call f vs) s q)
    (composed_is owed was (d + 1) true [] new (opened_group d true None site (Call f vs) new s))

pub body_done : (owed : List ℕ) (was : GroupForest) (d site f : ℕ) (vs : List Value) (new : GroupForest)
    (written written1 written2 written3 : WrittenGroups) (asked asked' mine theirs none first : List ℕ) → none ≡ []
    → written1 ≡ running_call d site (listed.Call f vs) first written →
    Reaches (composed_beside owed was (d + 1) true [] new (state_of written1 asked none))
    (state_of written2 asked' theirs) {U = Unit {0}} (Ok tt) →
    ((before behind : List Listed) (g : Listed) → length before ≡ length written.groups
    → written2.groups ≡ before ++ (g ∷ behind) → g.reads ≡ first
    → written3.groups ≡ before ++ (flat_group g.depth g.site g.number g.what theirs ∷ behind)) →
    (written3.next ≡ written2.next) × (written3.ran ≡ written2.ran) × (written3.calculated ≡ written2.calculated) →
    Reaches (run_beside owed was d site (Call f vs) new (state_of written asked mine)) (state_of written3 asked' mine)
    {U = Unit {0}} (Ok tt)
body_done owed was d site f vs new written written1 written2 written3 asked asked' mine theirs none first e1 e2 h set rest =
    let is = h.all ∙ inner_is owed was d site f vs new written written1 asked none first e1 e2 in
    let tail = preorder (d + 1) (numbered_by_siblings was [] written.next new).0 in
    let there : written2.groups ≡ written.groups ++ (flat_group d site 0 (flat_kind (Call f vs)) first ∷ tail) =
    ap (λ (q : ComposerState). q.groups) is
    ∙ append_assoc written.groups (flat_group d site 0 (flat_kind (Call f vs)) first ∷ []) tail in
    let groups = set written.groups tail (flat_group d site 0 (flat_kind (Call f vs)) first) refl there refl
    ∙ ap (λ r. written.groups ++ (flat_group d site 0 (flat_kind (Call f vs)) r ∷ tail))
    (ap (λ (q : ComposerState). q.own) is)
    ∙ sym (append_assoc written.groups (flat_group d site 0 (flat_kind (Call f vs)) (asks (own_part new)) ∷ []) tail) in
    record {
      all = same_state groups (rest.0 ∙ ap (λ (q : ComposerState). q.next) is)
          (rest.1 ∙ ap (λ (q : ComposerState). q.ran) is) (rest.2 ∙ ap (λ (q : ComposerState). q.calculated) is)
          (ap (λ (q : ComposerState). q.asked) is) refl
          ∙ sym (outer_is owed was d site f vs new (state_of written asked mine));
      part = tt;
      many = λ y. cc;
    }

pub body_stop : {U V : Type 0} {s' : ComposerState} (owed : List ℕ) (was : GroupForest) (d site f : ℕ) (vs : List Value)
    (new : GroupForest) (written written1 written2 : WrittenGroups) (asked asked' mine theirs none first : List ℕ)
    (x : ComposeStop) (result : Result U ComposeStop) → none ≡ [] →
    written1 ≡ running_call d site (listed.Call f vs) first written
    → Reaches (composed_beside owed was (d + 1) true [] new (state_of written1 asked none))
    (state_of written2 asked' theirs) {U = V} (Err x) → result ≡ Err x → s'.asked ≡ asked' →
    Reaches (run_beside owed was d site (Call f vs) new (state_of written asked mine)) s' result
body_stop owed was d site f vs new written written1 written2 asked asked' mine theirs none first x (Ok u) e1 e2 h is same = cc
body_stop {s' = s'} owed was d site f vs new written written1 written2 asked asked' mine theirs none first x (Err z) e1 e2 h is same =
    let inner = inner_is owed was d site f vs new written written1 asked none first e1 e2 in
    let outer = outer_is owed was d site f vs new (state_of written asked mine) in
    let tail = preorder (d + 1) (numbered_by_siblings was [] written.next new).0 in record {
      all = tt;
      part = subst (λ (l : List ℕ). IsPrefix l
          (run_beside owed was d site (Call f vs) new (state_of written asked mine)).asked) (sym same)
          (subst (λ (l : List ℕ). IsPrefix asked' l)
          (ap (λ (q : ComposerState). q.asked) inner ∙ sym (ap (λ (q : ComposerState). q.asked) outer)) h.part);
      many = λ y.
          let y0 : z ≡ x = cc in
          let y1 : z ≡ TooManyGroups = cc in
          let big = h.many (ap (λ (w : ComposeStop). Err w) (sym y0 ∙ y1)) in
          let one = ap (λ (q : ComposerState). length q.groups) inner in
          let two = ap (λ (q : ComposerState). length q.groups) outer in
          omega (
            arith,
            big,
            one,
            two,
            length-append (written.groups ++ flat_group d site 0 (flat_kind (Call f vs)) first ∷ []) tail,
            length-append (written.groups ++ flat_group d site 0 (flat_kind (Call f vs)) (asks (own_part new)) ∷ [])
                tail,
            length-append written.groups (flat_group d site 0 (flat_kind (Call f vs)) first ∷ []),
            length-append written.groups (flat_group d site 0 (flat_kind (Call f vs)) (asks (own_part new)) ∷ []),
          );
    }

-- One old group that is skipped.

abbrev pub skips_one : Map → List ℕ → List Func → ℕ → ℕ → Found → ComposerState → ComposerState
skips_one m owed fs d site f s =
    skipped_inside m owed fs d site f.number f.what (is_owed owed f.inside) f.inside (skipped_groups m owed f.inside) s

one_is : (m : Map) (owed : List ℕ) (fs : List Func) (d site : ℕ) (f : Found) (s : ComposerState) →
    skips_one m owed fs d site f s ≡ state_after_walk d (
      Group site (kept_number f.what f.number) f.what
          (renewed_inside m fs f.what (is_owed owed f.inside) f.inside s.next (renewed_groups m owed f.inside)).0 End,
      (renewed_inside m fs f.what (is_owed owed f.inside) f.inside s.next (renewed_groups m owed f.inside)).1,
    )
    (walk_work_inside m owed fs f.what (is_owed owed f.inside) f.inside (walk_work m owed f.inside)) s
one_is m owed fs d site f s =
    skip_group m owed fs d site f.number f.what f.inside s (λ gs e q. skipped_is m owed f.inside gs e q)

pub part_one : (m : Map) (owed : List ℕ) (fs : List Func) (d site : ℕ) (f : Found) (s : ComposerState)
    → IsPrefix s.asked (skips_one m owed fs d site f s).asked
part_one m owed fs d site f s =
    record {
      rest = (walk_work_inside m owed fs f.what (is_owed owed f.inside) f.inside
          (walk_work m owed f.inside)).reads;
      is = sym (ap (λ (q : ComposerState). q.asked) (one_is m owed fs d site f s));
    }

pub longer_than : (m : Map) (owed : List ℕ) (fs : List Func) (d site : ℕ) (f : Found) (s : ComposerState)
    → length s.groups < length (skips_one m owed fs d site f s).groups
longer_than m owed fs d site f s =
    let e = ap (λ (q : ComposerState). length q.groups) (one_is m owed fs d site f s) in
    let within = renewed_inside m fs f.what (is_owed owed f.inside) f.inside s.next (renewed_groups m owed f.inside) in
    omega (arith, e, length-append s.groups (preorder d (Group site (kept_number f.what f.number) f.what within.0 End)))

-- A group is a call in the table if it is one in the forest.
pub call_what : (w : GroupKind) (f : ℕ) (vs : List Value) → listed.Call f vs ≡ flat_kind w → w ≡ Call f vs
call_what (Call g ws) f vs e =
    let a : f ≡ g = cc in let b : vs ≡ ws = cc in ap (λ n. Call n ws) (sym a) ∙ ap (λ l. Call f l) (sym b)
call_what (Node kind attributes) f vs e = absurd cc
call_what (Key v) f vs e = absurd cc
call_what (Cell ks v) f vs e = absurd cc

-- A call that is owed.
pub owed_call : (m : Map) (owed : List ℕ) (fs : List Func) (d site : ℕ) (f : Found) (g : ℕ) (vs : List Value)
    (s : ComposerState) → f.what ≡ Call g vs → is_owed owed f.inside ≡ true →
    run_beside owed f.inside d site (Call g vs) (meaning_at (meanings m fs) g vs) s ≡ skips_one m owed fs d site f s
owed_call m owed fs d site f g vs s what anew =
    sym (ap (λ (w : GroupKind). skipped_inside m owed fs d site f.number w (is_owed owed f.inside) f.inside
    (skipped_groups m owed f.inside) s) what
    ∙ ap (λ (b : Bool). skipped_inside m owed fs d site f.number (Call g vs) b f.inside (skipped_groups m owed f.inside)
    s) anew)

-- A call that is kept.
pub kept_call : (m : Map) (owed : List ℕ) (fs : List Func) (d site : ℕ) (f : Found) (g : ℕ) (vs : List Value)
    (s mid : ComposerState) → f.what ≡ Call g vs → is_owed owed f.inside ≡ false →
    mid ≡ put_group (flat_group d site (number_kept (flat_kind f.what) f.number) (flat_kind f.what)
    (flat_reads f.what f.inside)) s.next s
    → skipped_groups m owed f.inside (take g fs) (d + 1) mid ≡ skips_one m owed fs d site f s
kept_call m owed fs d site f g vs s mid what quiet e =
    ap (λ (q : ComposerState). skipped_groups m owed f.inside (take g fs) (d + 1) q)
    (e ∙ ap (λ (w : GroupKind). put_group (flat_group d site (number_kept (flat_kind w) f.number) (flat_kind w)
    (flat_reads w f.inside)) s.next s) what)
    ∙ sym (ap (λ (w : GroupKind). skipped_inside m owed fs d site f.number w (is_owed owed f.inside) f.inside
    (skipped_groups m owed f.inside) s) what
    ∙ ap (λ (b : Bool). skipped_inside m owed fs d site f.number (Call g vs) b f.inside (skipped_groups m owed f.inside)
    s) quiet)

-- Another group that is kept.
pub kept_other : (m : Map) (owed : List ℕ) (fs : List Func) (d site : ℕ) (f : Found) (s mid : ComposerState)
    → is_call f.what ≡ false →
    mid ≡ put_group (flat_group d site (number_kept (flat_kind f.what) f.number) (flat_kind f.what)
    (flat_reads f.what f.inside)) s.next s
    → skipped_groups m owed f.inside fs (d + 1) mid ≡ skips_one m owed fs d site f s
kept_other m owed fs d site f s mid plain e =
    ap (λ (q : ComposerState). skipped_groups m owed f.inside fs (d + 1) q) e ∙ by f.what plain
  where
    by : (w : GroupKind) → is_call w ≡ false
        → skipped_groups m owed f.inside fs (d + 1)
        (put_group (flat_group d site (number_kept (flat_kind w) f.number) (flat_kind w) (flat_reads w f.inside))
        s.next s)
        ≡ skipped_inside m owed fs d site f.number w (is_owed owed f.inside) f.inside (skipped_groups m owed f.inside) s
    by (Call g vs) h = absurd cc
    by (Node kind attributes) h = refl
    by (Key v) h = refl
    by (Cell ks v) h = refl

-- The state after a group that is kept.
pub kept_state : (d site : ℕ) (k : KeyInfo) (f : Found) (written written' : WrittenGroups) (asked mine : List ℕ)
    → Alike d (Some k) (Some f) →
    written' ≡ written_kept d site (number_kept (old_group k).what (old_group k).number)
    (old_group k).what (old_group k).reads written →
    state_of written' asked mine
    ≡ put_group (flat_group d site (number_kept (flat_kind f.what) f.number) (flat_kind f.what)
    (flat_reads f.what f.inside)) written.next (state_of written asked mine)
kept_state d site k f written written' asked mine like is =
    ap (λ (q : WrittenGroups). state_of q asked mine) is
    ∙ same_state (ap (λ n. written.groups
    ++ flat_group d site (number_kept (old_group k).what n) (old_group k).what (old_group k).reads ∷ []) like.number
    ∙ ap (λ (w : ListedKind). written.groups ++ flat_group d site (number_kept w f.number) w (old_group k).reads ∷ [])
    like.kind
    ∙ ap (λ r. written.groups ++ flat_group d site (number_kept (flat_kind f.what) f.number) (flat_kind f.what) r ∷ [])
    like.reads) refl refl refl refl refl

-- Whether a call is owed, by its group in the table.
pub owed_is : (d : ℕ) (k : KeyInfo) (f : Found) (h : ℕ) (vs : List Value) (owed : List ℕ) → Alike d (Some k) (Some f)
    → f.what ≡ Call h vs → meets (old_group k).reads owed ≡ is_owed owed f.inside
owed_is d k f h vs owed like what =
    ap (λ l. meets l owed) (like.reads ∙ ap (λ (w : GroupKind). flat_reads w f.inside) what)

-- A group is no call in the forest if it is none in the table.
pub no_call : (d : ℕ) (k : KeyInfo) (f : Found) → Alike d (Some k) (Some f) → is_call_kept (old_group k).what ≡ false
    → is_call f.what ≡ false
no_call d k f like plain = by f.what (sym (ap is_call_kept like.kind) ∙ plain)
  where
    by : (w : GroupKind) → is_call_kept (flat_kind w) ≡ false → is_call w ≡ false
    by (Call g vs) h = absurd cc
    by (Node kind attributes) h = refl
    by (Key v) h = refl
    by (Cell ks v) h = refl

-- The reads of a body that was composed are those of its call.
pub body_part : (owed : List ℕ) (was : GroupForest) (d site f : ℕ) (vs : List Value) (new : GroupForest)
    (written written1 written2 : WrittenGroups) (asked asked' mine theirs none first : List ℕ) → none ≡ []
    → written1 ≡ running_call d site (listed.Call f vs) first written →
    Reaches (composed_beside owed was (d + 1) true [] new (state_of written1 asked none))
    (state_of written2 asked' theirs) {U = Unit {0}} (Ok tt)
    → IsPrefix asked' (run_beside owed was d site (Call f vs) new (state_of written asked mine)).asked
body_part owed was d site f vs new written written1 written2 asked asked' mine theirs none first e1 e2 h =
    let inner = h.all ∙ inner_is owed was d site f vs new written written1 asked none first e1 e2 in
    let outer = outer_is owed was d site f vs new (state_of written asked mine) in
    record {
      rest = [];
      is = append-nil asked' ∙ ap (λ (q : ComposerState). q.asked) inner
          ∙ sym (ap (λ (q : ComposerState). q.asked) outer);
    }

-- The groups after a group in the table begin with those inside it.
pub begins_after : (d : ℕ) (k : KeyInfo) (f : Found) (groups : List Listed) (i : ℕ) → groups ≡ k.groups
    → i ≡ k.index + 1 → Alike d (Some k) (Some f) → Begins (d + 1) (drop i groups) f.inside
begins_after d k f groups i e1 e2 like = subst (λ (gs : List Listed). Begins (d + 1) gs f.inside)
    (ap (λ n. drop n k.groups) (sym e2) ∙ ap (λ (gs : List Listed). drop i gs) (sym e1)) like.begins
