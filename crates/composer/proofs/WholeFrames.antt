-- The state after a whole frame, and its draft.
use Rattle.std.proofs.Common.{ℕ, ◌+◌, ◌-◌, ◌^◌, min, ◌++◌, ◌<◌, ◌≤◌, List, [], ◌∷◌, ◌≡◌, refl, ap, ◌∙◌, sym, append-nil, length, length-append, true, false, true≢false, if◌then◌else◌, Option, Some, None, Result, Ok, Err, subst, arith}
use Rattle.std.specs.Result.{IfOk, OnOk}
use Rattle.rt_values.specs.declared.value.Value.{Value}
use Rattle.rt_values.specs.Maps.{Map}
use Rattle.rt_groups.specs.declared.groups.Group.{Group as FlatGroup}
use Rattle.rt_groups.specs.GroupForest.{GroupForest, End, Read, Group, GroupKind, Call, Node, Key, Cell, is_node, asks, how_many, how_many_nodes}
use Rattle.rt_groups.specs.PreorderGroups.{preorder, flat_kind}
use Rattle.rt_groups.specs.Frames.{LastFrame, numbered_forest, ran as calls_run, calculated_cells as cells_made, reads, most_groups}
use Rattle.lang_ast.specs.Terms.{Func}
use Rattle.compose_model.specs.Composing.{meaning_at, meanings, forest}
use Rattle.rt_groups.proofs.GroupForests.{how_many-preorder}
use Rattle.composer.specs.declared.stop.ComposeStop.{ComposeStop}
use Rattle.composer.specs.declared.stop.ComposeStop.TheVariants.{TooManyGroups, NoMemory}
use Rattle.recompose_laws.specs.Work.{Work, work}
use Rattle.recompose_laws.specs.Walking.{walk_work}
use Rattle.recompose_laws.specs.Numbering.{without_numbers, numbered_by_siblings, renewed_groups}
use Rattle.recompose_laws.specs.Refreshing.{SameReads}
use Rattle.recompose_laws.proofs.Renewals.{composing_again_is_the_frame}
use Rattle.recompose_laws.proofs.Numbers.{path_numbers_are_sibling_numbers}
use Rattle.recompose_laws.proofs.Beside.{path_work_is_sibling_work}
use Rattle.recompose_laws.proofs.Plain.{kept_trail_is_the_forest}
use Rattle.recompose_laws.proofs.MadeCalls.{kept_calls_are_made}
use Rattle.recompose_laws.proofs.CalculatedCells.{kept_cells_are_calculated}
use Rattle.composer.specs.ComposerState.{ComposerState, run_beside, skipped_groups}
use Rattle.composer.specs.BesideContracts.{Reaches, IsSince, IsOldPart}
use Rattle.rt_groups.specs.declared.report.Report.{Report}
use Rattle.composer.specs.OwedObjects.{OwedObjects}
use Rattle.composer.specs.FrameDrafts.{DraftGroups, IsOwing, IsFrameDraft, ComposesFrame}
use Rattle.composer.specs.FrameStates.{IsSound, frame_state}
use Rattle.composer.specs.OldGroups.{Begins}
use Rattle.slot_table.specs.TableGroups.{is_node_kind}
use Rattle.slot_table.specs.ChangeLists.{nodes_in}
use Rattle.composer.specs.WrittenGroups.{WrittenGroups, Drafts, state_of, IsDraftOf}
use Rattle.composer.specs.Recomposes.{FitsIn}
use Rattle.composer.proofs.OldParts.{since_all}
use Rattle.composer.proofs.Machine.{same_state, composed_is, skipped_is, state_after_work, state_after_walk}
use Rattle.composer.proofs.Reaching.{reached_at}
use Rattle.recompose_laws.proofs.Idles.{how_many-without_numbers, nodes-without_numbers}

-- A frame that skips all old groups.
pub skipped_frame : (functions : List Func) (root : ℕ) (seen m : Map) (old : GroupForest) (next : ℕ) (owed : List ℕ)
    (s : ComposerState) → s.next ≡ next → without_numbers old ≡ forest functions root seen
    → SameReads owed (asks old) seen m →
    skipped_groups m owed old functions 0 s ≡ frame_state functions root owed old next m s
skipped_frame functions root seen m old next owed s e kept same =
    let is = composing_again_is_the_frame seen m owed functions root old next kept same in
    skipped_is m owed old functions 0 s
    ∙ ap (λ (k : ℕ). state_after_walk 0 (renewed_groups m owed old functions k) (walk_work m owed old functions) s) e
    ∙ ap (λ (g : GroupForest × ℕ). state_after_walk 0 g (walk_work m owed old functions) s) is.0
    ∙ ap (λ (w : Work). state_after_walk 0 (numbered_forest old [] [] next (forest functions root m)) w s) is.1

-- A frame without old groups, which runs the root.
pub anew_frame : (functions : List Func) (root : ℕ) (m : Map) (old : GroupForest) (next : ℕ) (owed : List ℕ)
    (s : ComposerState) → s.next ≡ next → old ≡ End →
    run_beside owed End 0 0 (Call root []) (meaning_at (meanings m functions) root []) s
    ≡ frame_state functions root owed old next m s
anew_frame functions root m old next owed s e none =
    let new = forest functions root m in
    composed_is owed End 0 true [] new s
    ∙ ap (λ (k : ℕ). state_after_work 0 (numbered_by_siblings End [] k new) (work owed End [] true new) [] s) e
    ∙ ap (λ (g : GroupForest × ℕ). state_after_work 0 g (work owed End [] true new) [] s)
    (sym (path_numbers_are_sibling_numbers End new next))
    ∙ ap (λ (w : Work). state_after_work 0 (numbered_forest End [] [] next new) w [] s)
    (sym (path_work_is_sibling_work owed End new))
    ∙ same_state refl refl refl refl refl (append-nil s.own)
    ∙ ap (λ (t : GroupForest). frame_state functions root owed t next m s) (sym none)

-- The number of groups.

pub frame_groups : (functions : List Func) (root : ℕ) (owed : List ℕ) (old : GroupForest) (next : ℕ) (m : Map)
    (s : ComposerState) → s.groups ≡ [] →
    length (frame_state functions root owed old next m s).groups ≡ how_many (forest functions root m)
frame_groups functions root owed old next m s e =
    ap (λ (l : List FlatGroup). length (l ++ preorder 0 (numbered_forest old [] [] next (forest functions root m)).0)) e
    ∙ how_many-preorder 0 (numbered_forest old [] [] next (forest functions root m)).0
    ∙ sym (how_many-without_numbers (numbered_forest old [] [] next (forest functions root m)).0)
    ∙ ap how_many (kept_trail_is_the_forest old next functions root m)

-- Before the first good frame there is no old forest.
pub none_kept : (functions : List Func) (root : ℕ) (seen : Option Map) (t : GroupForest) (m : Map) (owed : OwedObjects)
    → IsOwing functions root seen t m owed → owed.all ≡ true → t ≡ End
none_kept functions root None t m owed h e = h.0
none_kept functions root (Some seen) t m owed h e = absurd (true≢false (sym e ∙ h.1))

-- The last good frame in the map `seen`, and what is known of its forest.
pub record KeptFrame (functions : List Func) (p : IsSound functions) (root : ℕ) (t : GroupForest) (m : Map)
    (owed : List ℕ) : Type 0 where
  pub seen : Map
  pub kept : without_numbers t ≡ forest functions root seen
  pub part : IsOldPart (record { map = seen; functions = functions; calculation = p.calculation }) owed m t

pub some_kept : (functions : List Func) (p : IsSound functions) (root : ℕ) (seen : Option Map) (t : GroupForest)
    (m : Map) (owed : OwedObjects) → IsOwing functions root seen t m owed → owed.all ≡ false
    → KeptFrame functions p root t m owed.objects
some_kept functions p root None t m owed h e = absurd (true≢false (sym h.1 ∙ e))
some_kept functions p root (Some seen) t m owed h e = record {
  seen = seen;
  kept = h.0;
  part = record {
    made = kept_calls_are_made seen functions root t p.ordered h.0;
    cells = kept_cells_are_calculated p.calculation seen functions root t p.calculates h.0;
    same = h.3;
    numbered = h.2;
  };
}

pub since_map : (functions : List Func) (p : IsSound functions) (seen : Map)
    → IsSince (record { map = seen; functions = functions; calculation = p.calculation }) functions
since_map functions p seen =
    since_all (record { map = seen; functions = functions; calculation = p.calculation }) p.calculates

-- The whole list begins with the groups of the forest.
pub begins_whole : (gs : List FlatGroup) (t : GroupForest) → gs ≡ preorder 0 t → Begins 0 gs t
begins_whole gs t e = record { more = []; is = e ∙ sym (append-nil (preorder 0 t)); ends = tt }

-- Everything was composed.
pub anew_reached : {U : Type 0} {s' : ComposerState} {result : Result U ComposeStop} (functions : List Func) (root : ℕ)
    (seen : Option Map) (t : GroupForest) (m : Map) (owed : OwedObjects) (vs : List Value) (s : ComposerState)
    → vs ≡ [] →
    IsOwing functions root seen t m owed → owed.all ≡ true
    → Reaches (run_beside owed.objects End 0 0 (Call root vs) (meaning_at (meanings m functions) root vs) s) s'
    result →
    Reaches (frame_state functions root owed.objects t s.next m s) s' result
anew_reached functions root seen t m owed vs s e h all r =
    reached_at (ap (λ (ws : List Value). run_beside owed.objects End 0 0 (Call root ws)
    (meaning_at (meanings m functions) root ws) s) e
    ∙ anew_frame functions root m t s.next owed.objects s refl (none_kept functions root seen t m owed h all)) r

-- The old groups were skipped.
pub skipped_reached : {U : Type 0} {s' : ComposerState} {result : Result U ComposeStop} (functions : List Func)
    (p : IsSound functions) (root : ℕ) (t : GroupForest) (m : Map) (owed : List ℕ) (s : ComposerState) →
    KeptFrame functions p root t m owed → Reaches (skipped_groups m owed t functions 0 s) s' result
    → Reaches (frame_state functions root owed t s.next m s) s' result
skipped_reached functions p root t m owed s k r =
    reached_at (skipped_frame functions root k.seen m t s.next owed s refl k.kept k.part.same) r

-- The nodes among the groups of a forest.

nodes_more : (gs hs : List FlatGroup) → nodes_in (gs ++ hs) ≡ nodes_in gs + nodes_in hs
nodes_more [] hs = omega arith
nodes_more (g ∷ gs) hs = let e = nodes_more gs hs in omega (arith, e)

node_kept : (what : GroupKind) → is_node_kind (flat_kind what) ≡ is_node what
node_kept (Call f vs) = refl
node_kept (Node kind attributes) = refl
node_kept (Key v) = refl
node_kept (Cell ks v) = refl

nodes_are : (d : ℕ) (t : GroupForest) → nodes_in (preorder d t) ≡ how_many_nodes t
nodes_are d End = refl
nodes_are d (Read x rest) = nodes_are d rest
nodes_are d (Group site n what inside rest) =
    let e = nodes_are (d + 1) inside in
    let f = nodes_are d rest in
    let one = ap {B = ℕ} (λ b. if b then 1 else 0) (node_kept what) in
    omega (arith, e, f, one, nodes_more (preorder (d + 1) inside) (preorder d rest))

-- A number of reads within the limit of a report.
few_reads : (n w : ℕ) → w ≡ n → w ≤ 2 ^ 64 - 1 → w ≡ min n (2 ^ 64 - 1)
few_reads n w e most = grind arith

-- A report by its parts.
abbrev report_of : ℕ → ℕ → ℕ → ℕ → ℕ → Report
report_of ran calculated reads groups nodes =
    record { ran = ran; calculated = calculated; reads = reads; groups = groups; nodes = nodes }

same_report : {a b c d e a' b' c' d' e' : ℕ} → a ≡ a' → b ≡ b' → c ≡ c' → d ≡ d' → e ≡ e'
    → report_of a b c d e ≡ report_of a' b' c' d' e'
same_report {a} {b} {c} {d} {e} {a'} {b'} {c'} {d'} {e'} p q r s t =
    ap (λ x. report_of x b c d e) p ∙ ap (λ x. report_of a' x c d e) q ∙ ap (λ x. report_of a' b' x d e) r
    ∙ ap (λ x. report_of a' b' c' x e) s ∙ ap (λ x. report_of a' b' c' d' x) t

module _ (functions : List Func) (root : ℕ) (owed : OwedObjects) (k : LastFrame) (m : Map) (asked asked' : List ℕ)
    (written : WrittenGroups) where
  abbrev pub new : GroupForest
  new = forest functions root m

  -- Before the first group.
  abbrev pub first_written : WrittenGroups
  first_written =
      record { olds = preorder 0 k.trail; groups = []; next = k.next; ran = 0; calculated = 0; reads = 0 }

  abbrev pub start : ComposerState
  start = state_of first_written asked []

  abbrev pub target : ComposerState
  target = frame_state functions root owed.objects k.trail k.next m start

  -- A frame that was written whole, and its draft.
  pub draft_is : state_of written asked' [] ≡ target → written.reads + length asked ≡ length asked'
      → written.reads ≤ 2 ^ 64 - 1 → (d : DraftGroups) → IsDraftOf written d
      → IsFrameDraft functions root owed k m d
  draft_is is counted most d draft =
      let given = numbered_forest k.trail [] [] k.next new in
      let groups : written.groups ≡ preorder 0 given.0 = ap (λ (q : ComposerState). q.groups) is in
      let read : length asked' ≡ length asked + length (reads owed.objects k.trail new) =
      ap (λ (q : ComposerState). length q.asked) is ∙ length-append asked (reads owed.objects k.trail new) in
      let plain = kept_trail_is_the_forest k.trail k.next functions root m in
      let calls : written.ran ≡ length (calls_run owed.objects k.trail new) =
      let e = ap (λ (q : ComposerState). q.ran) is in omega (arith, e) in
      let cells : written.calculated ≡ length (cells_made owed.objects k.trail new) =
      let e = ap (λ (q : ComposerState). q.calculated) is in omega (arith, e) in
      let nodes = ap (λ (gs : List FlatGroup). nodes_in gs) groups ∙ nodes_are 0 given.0
      ∙ sym (nodes-without_numbers given.0) ∙ ap how_many_nodes plain in
      let count = ap (λ (gs : List FlatGroup). length gs) groups ∙ how_many-preorder 0 given.0
      ∙ sym (how_many-without_numbers given.0) ∙ ap how_many plain in
      record {
        groups = draft.groups ∙ groups;
        next = draft.next ∙ ap (λ (q : ComposerState). q.next) is;
        report = draft.report ∙ same_report calls cells
            (few_reads (length (reads owed.objects k.trail new)) written.reads (omega (arith, counted, read)) most)
            count nodes;
        scopes = draft.scopes;
      }

  pub frame_fits : state_of written asked' [] ≡ target → length written.groups ≤ most_groups
      → how_many new ≤ most_groups
  frame_fits is le =
      let long = ap (λ (q : ComposerState). length q.groups) is in
      let all = frame_groups functions root owed.objects k.trail k.next m start refl in
      omega (arith, long, all, le)

  pub frame_came : state_of written asked' [] ≡ target → asked' ≡ asked ++ reads owed.objects k.trail new
  frame_came is = ap (λ (q : ComposerState). q.asked) is

  pub frame_many : most_groups < length target.groups → most_groups < how_many new
  frame_many lt =
      let all = frame_groups functions root owed.objects k.trail k.next m start refl in omega (arith, all, lt)

  -- The state that is reached from a writer.
  abbrev pub target_from : WrittenGroups → ComposerState
  target_from first = frame_state functions root owed.objects k.trail first.next m (state_of first asked [])

  -- A frame that was composed.
  pub frame_made : {U : Type 0} {u : U} (first : WrittenGroups) → first ≡ first_written
      → Reaches (target_from first) (state_of written asked' []) {U = U} (Ok u) →
      written.reads + length asked ≡ first.reads + length asked' → written.reads ≤ 2 ^ 64 - 1
      → length written.groups ≤ most_groups → (d : DraftGroups) → IsDraftOf written d
      → ComposesFrame functions root owed k m asked asked' (Ok d)
  frame_made first e r counted most few d is =
      let all : state_of written asked' [] ≡ target = r.all ∙ ap target_from e in
      let none = ap (λ (w : WrittenGroups). w.reads) e in record {
        made = draft_is all (omega (arith, counted, none)) most d is;
        fits = frame_fits all few;
        came = frame_came all;
        many = λ y. cc;
        part = tt;
      }

  -- A frame that stopped.
  pub frame_stopped : {V : Type 0} (first : WrittenGroups) (x : ComposeStop) (result : Result DraftGroups ComposeStop)
      → first ≡ first_written → Reaches (target_from first) (state_of written asked' []) {U = V} (Err x)
      → result ≡ Err x →
      ComposesFrame functions root owed k m asked asked' result
  frame_stopped first x (Ok u) e r is = cc
  frame_stopped first x (Err z) e r is =
      let whole = ap (λ (w : WrittenGroups). (target_from w).asked) e in record {
        made = tt;
        fits = tt;
        came = tt;
        many = λ y.
            let y0 : z ≡ x = cc in
            let y1 : z ≡ TooManyGroups = cc in
            frame_many (subst (λ (w : WrittenGroups). most_groups < length (target_from w).groups) e
            (r.many (ap (λ (w : ComposeStop). Err w) (sym y0 ∙ y1))));
        part = record { rest = r.part.rest; is = r.part.is ∙ whole };
      }

  -- Out of memory after the last group.
  pub frame_lost : {U : Type 0} {u : U} (first : WrittenGroups) (result : Result DraftGroups ComposeStop)
      → first ≡ first_written → Reaches (target_from first) (state_of written asked' []) {U = U} (Ok u)
      → result ≡ Err NoMemory →
      ComposesFrame functions root owed k m asked asked' result
  frame_lost first (Ok u) e r is = cc
  frame_lost first (Err z) e r is = record {
    made = tt;
    fits = tt;
    came = tt;
    many = λ y. cc;
    part = record {
      rest = [];
      is = append-nil asked' ∙ ap (λ (q : ComposerState). q.asked) r.all
          ∙ ap (λ (w : WrittenGroups). (target_from w).asked) e;
    };
  }

  -- A frame after its groups were written.
  pub frame_drafted : {U : Type 0} (olds : List FlatGroup) (first : WrittenGroups) (writes : Result U ComposeStop)
      (result : Result DraftGroups ComposeStop) → first ≡ first_written
      → Reaches (target_from first) (state_of written asked' []) writes
      → OnOk writes (written.reads + length asked ≡ first.reads + length asked') → OnOk writes (FitsIn olds written)
      → Drafts written writes result → ComposesFrame functions root owed k m asked asked' result
  frame_drafted olds first (Ok u) (Ok d) e r counted fits drafts =
      frame_made first e r counted drafts.1 fits.few d drafts.0
  frame_drafted olds first (Ok u) (Err x) e r counted fits drafts =
      frame_lost first (Err x) e r (ap (λ (y : ComposeStop). Err y) drafts)
  frame_drafted olds first (Err x) (Ok d) e r counted fits drafts = absurd drafts
  frame_drafted olds first (Err x) (Err y) e r counted fits drafts =
      frame_stopped first x (Err y) e r (ap (λ (z : ComposeStop). Err z) drafts)

-- A draft changes the groups that its writer was to change.
pub drafted_olds : {U : Type 0} (olds : List FlatGroup) (written : WrittenGroups) (writes : Result U ComposeStop)
    (result : Result DraftGroups ComposeStop) → OnOk writes (FitsIn olds written) → Drafts written writes result
    → IfOk result (λ d. d.olds ≡ olds)
drafted_olds olds written (Ok u) (Ok d) fits drafts = drafts.0.olds ∙ fits.same
drafted_olds olds written (Ok u) (Err x) fits drafts = tt
drafted_olds olds written (Err x) (Ok d) fits drafts = absurd drafts
drafted_olds olds written (Err x) (Err y) fits drafts = tt

-- Nothing was composed for want of memory, and no object was read.
pub nothing_composed : (functions : List Func) (root : ℕ) (owed : OwedObjects) (k : LastFrame) (m : Map)
    (asked asked' : List ℕ) (result : Result DraftGroups ComposeStop) → asked' ≡ asked → result ≡ Err NoMemory
    → ComposesFrame functions root owed k m asked asked' result
nothing_composed functions root owed k m asked asked' (Ok d) same is = cc
nothing_composed functions root owed k m asked asked' (Err z) same is = record {
  made = tt;
  fits = tt;
  came = tt;
  many = λ y. cc;
  part = record {
    rest = reads owed.objects k.trail (forest functions root m);
    is = ap (λ l. l ++ reads owed.objects k.trail (forest functions root m)) same;
  };
}
