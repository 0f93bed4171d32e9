-- Old groups that are left inside the groups that are open.
use Rattle.std.proofs.Common.{◌≡◌, ◌≤◌, ◌<◌, ℕ, suc, ◌+◌, ◌-◌, nat_le, Bool, true, false, if◌then◌else◌, List, [], ◌∷◌, ◌++◌, length, take, drop, drop-cons, refl, ap, sym, ◌∙◌, subst, arith, append_assoc}
use Rattle.std.proofs.lemmas.Bool.{le-leb, leb-true, leb-false, true≢false}
use Rattle.rt_values.specs.Maps.{Map}
use Rattle.rt_groups.specs.declared.groups.Group.{Group as TableGroup}
use Rattle.rt_groups.specs.GroupForest.{GroupForest, End, Read, Group, GroupKind, Call, Node, Key, Cell}
use Rattle.rt_groups.specs.PreorderGroups.{flat_kind, flat_reads, flat_group, preorder}
use Rattle.rt_groups.specs.Frames.{meets}
use Rattle.lang_ast.specs.Terms.{Func}
use Rattle.recompose_laws.specs.Refreshing.{is_owed}
use Rattle.recompose_laws.specs.Numbering.{kept_number}
use Rattle.slot_table.specs.TableGroups.{group_at}
use Rattle.slot_table.specs.ReaderStates.{after_deep}
use Rattle.slot_table.specs.InnerCounts.{leading_deep}
use Rattle.composer.specs.ComposerState.{ComposerState, skipped_inside, skipped_groups}
use Rattle.composer.specs.BesideContracts.{LastComposition}
use Rattle.composer.specs.OldGroups.{Begins, Ends}
use Rattle.composer.specs.QuietRuns.{has_owed, group_run, with_run, IsLevelEnd, Layers, NoLayer, Layer, AreLayers, AreOldParts, skipped_layers, QuietWalk}
use Rattle.composer.specs.Recomposes.{is_call_kept}
use Rattle.composer.proofs.OldMatches.{ends_deeper, next_of}
use Rattle.composer.proofs.OldParts.{part_inside, part_rest, part_after_read}
use Rattle.composer.proofs.OldWalks.{past_inside, split_deep}
use Rattle.composer.proofs.QuietRuns.{none_of_both, owed_parts, run_none, run_both, quiet_inside, quiet_kept, run_is, runs_joined}

-- The first groups of a list that are deep enough.

lead_end : (d : ℕ) (gs : List TableGroup) → Ends d gs → leading_deep d gs ≡ []
lead_end d [] e = refl
lead_end d (g ∷ gs) e = by (nat_le d g.depth) refl
  where
    by : (b : Bool) → nat_le d g.depth ≡ b → (if b then g ∷ leading_deep d gs else []) ≡ []
    by false f = refl
    by true f = absurd (let le = leb-true d g.depth f in omega (arith, le, e))

lead_preorder : (d e : ℕ) (t : GroupForest) (more : List TableGroup) → d ≤ e
    → leading_deep d (preorder e t ++ more) ≡ preorder e t ++ leading_deep d more
lead_preorder d e End more le = refl
lead_preorder d e (Read x rest) more le = lead_preorder d e rest more le
lead_preorder d e (Group site n what inside rest) more le =
    let g : TableGroup = flat_group e site n (flat_kind what) (flat_reads what inside) in
    ap (λ b. if b then g ∷ leading_deep d ((preorder (e + 1) inside ++ preorder e rest) ++ more) else [])
    (le-leb d e le)
    ∙ ap (λ l. g ∷ leading_deep d l) (append_assoc (preorder (e + 1) inside) (preorder e rest) more)
    ∙ ap (λ l. g ∷ l) (lead_preorder d (e + 1) inside (preorder e rest ++ more) (omega (arith, le)))
    ∙ ap (λ l. g ∷ (preorder (e + 1) inside ++ l)) (lead_preorder d e rest more le)
    ∙ ap (λ l. g ∷ l) (sym (append_assoc (preorder (e + 1) inside) (preorder e rest) (leading_deep d more)))

-- The groups after those that are deep enough begin with one that is not.
ends_after : (d : ℕ) (gs : List TableGroup) → Ends d (after_deep d gs)
ends_after d [] = tt
ends_after d (g ∷ gs) = by (nat_le d g.depth) refl (ends_after d gs)
  where
    by : (b : Bool) → nat_le d g.depth ≡ b → Ends d (after_deep d gs)
        → Ends d (if b then after_deep d gs else g ∷ gs)
    by true f later = later
    by false f later = let shallow = leb-false d g.depth f in omega (arith, shallow)

-- Skipping layers in which no call is owed keeps them.
layers_kept : (l : LastComposition) (m : Map) (owed : List ℕ) (fs : List Func) (d : ℕ) (ls : Layers)
    (gs : List TableGroup) (s : ComposerState) → AreLayers d ls gs → AreOldParts l owed m ls
    → has_owed owed (leading_deep d gs) ≡ false
    → with_run (leading_deep d gs) s ≡ skipped_layers m owed fs ls s
layers_kept l m owed fs d NoLayer gs s a p quiet = ap (λ xs. with_run xs s) (lead_end d gs a) ∙ run_none s
layers_kept l m owed fs d (Layer e t outer) gs s a p quiet =
    let b = a.1 in
    let lead : leading_deep d gs ≡ preorder e t ++ leading_deep d b.more = ap (λ xs. leading_deep d xs) b.is
    ∙ lead_preorder d e t b.more a.0 in
    let both = owed_parts owed (preorder e t) (leading_deep d b.more)
    (sym (ap (λ xs. has_owed owed xs) lead) ∙ quiet) in
    ap (λ xs. with_run xs s) lead
    ∙ sym (run_both (preorder e t) (leading_deep d b.more) s)
    ∙ layers_kept l m owed fs d outer b.more (with_run (preorder e t) s) a.2 p.1 both.1
    ∙ ap (λ q. skipped_layers m owed fs outer q) (sym (quiet_kept m owed t e p.0.numbered both.0 fs s))

-- All groups of the layers.
pub walk_out : (owed : List ℕ) (groups : List TableGroup) (d i j : ℕ) (ls : Layers) → IsLevelEnd d groups i j
    → has_owed owed (group_run groups i j) ≡ false → AreLayers d ls (drop i groups) → QuietWalk owed d groups i j ls
walk_out owed groups d i j ls level quiet a =
    let whole : drop i groups ≡ leading_deep d (drop i groups) ++ drop j groups = split_deep d (drop i groups)
    ∙ ap (λ xs. leading_deep d (drop i groups) ++ xs) level.after in
    let run : group_run groups i j ≡ leading_deep d (drop i groups) =
    run_is groups i j (leading_deep d (drop i groups)) (drop j groups) level.order level.inside whole refl in
    let none = sym (ap (λ xs. has_owed owed xs) run) ∙ quiet in
    record {
      rest = NoLayer;
      begins = subst (λ xs. Ends d xs) level.after (ends_after d (drop i groups));
      parts = λ l m p. tt;
      kept = λ l m p fs s. ap (λ xs. with_run xs s) run ∙ layers_kept l m owed fs d ls (drop i groups) s a p none;
    }

-- The innermost layer that has a group, from its first group on.
pub record FirstLayer (owed : List ℕ) (depth : ℕ) (gs : List TableGroup) (ls : Layers) : Type 0 where
  pub at : ℕ
  pub site : ℕ
  pub number : ℕ
  pub what : GroupKind
  pub inside : GroupForest
  pub rest : GroupForest
  pub outer : Layers
  pub more : List TableGroup
  pub deep : depth ≤ at
  pub is : gs ≡ preorder at (Group site number what inside rest) ++ more
  pub ends : Ends at more
  pub begins : AreLayers depth outer more
  pub parts : (l : LastComposition) (m : Map) → AreOldParts l owed m ls
      → AreOldParts l owed m (Layer at (Group site number what inside rest) outer)
  pub same : (m : Map) (fs : List Func) (s : ComposerState) →
      skipped_layers m owed fs (Layer at (Group site number what inside rest) outer) s
      ≡ skipped_layers m owed fs ls s

pub first_layer : (owed : List ℕ) (d : ℕ) (g : TableGroup) (gs : List TableGroup) (ls : Layers)
    → AreLayers d ls (g ∷ gs) → d ≤ g.depth → FirstLayer owed d (g ∷ gs) ls
first_layer owed d g gs NoLayer a deep = absurd (omega (arith, a, deep))
first_layer owed d g gs (Layer e End outer) a deep =
    let r = first_layer owed d g gs outer (subst (λ xs. AreLayers d outer xs) (sym a.1.is) a.2) deep in
    record {
      at = r.at;
      site = r.site;
      number = r.number;
      what = r.what;
      inside = r.inside;
      rest = r.rest;
      outer = r.outer;
      more = r.more;
      deep = r.deep;
      is = r.is;
      ends = r.ends;
      begins = r.begins;
      parts = λ l m p. r.parts l m p.1;
      same = λ m fs s. r.same m fs s;
    }
first_layer owed d g gs (Layer e (Read x rest) outer) a deep =
    let b = a.1 in
    let r = first_layer owed d g gs (Layer e rest outer)
    (a.0, record { more = b.more; is = b.is; ends = b.ends }, a.2) deep in
    record {
      at = r.at;
      site = r.site;
      number = r.number;
      what = r.what;
      inside = r.inside;
      rest = r.rest;
      outer = r.outer;
      more = r.more;
      deep = r.deep;
      is = r.is;
      ends = r.ends;
      begins = r.begins;
      parts = λ l m p. r.parts l m (part_after_read x rest p.0, p.1);
      same = λ m fs s. r.same m fs s;
    }
first_layer owed d g gs (Layer e (Group site n what inside rest) outer) a deep = record {
  at = e;
  site = site;
  number = n;
  what = what;
  inside = inside;
  rest = rest;
  outer = outer;
  more = a.1.more;
  deep = a.0;
  is = a.1.is;
  ends = a.1.ends;
  begins = a.2;
  parts = λ l m p. p;
  same = λ m fs s. refl;
}

-- The first layer at an index.
pub layer_at : (owed : List ℕ) (groups : List TableGroup) (d i : ℕ) (ls : Layers) → AreLayers d ls (drop i groups)
    → i < length groups → d ≤ (group_at groups i).depth → FirstLayer owed d (drop i groups) ls
layer_at owed groups d i ls a inside deep =
    let first : drop i groups ≡ group_at groups i ∷ drop (suc i) groups = drop-cons groups i (group_at [] i) inside in
    subst (λ xs. FirstLayer owed d xs ls) (sym first)
    (first_layer owed d (group_at groups i) (drop (suc i) groups) ls (subst (λ xs. AreLayers d ls xs) first a) deep)

-- The groups of one forest are one layer.
pub one_layer : (d : ℕ) (t : GroupForest) (gs : List TableGroup) → Begins d gs t → AreLayers d (Layer d t NoLayer) gs
one_layer d t gs b = (omega arith, b, b.ends)

-- A walk over one more group and the groups inside it.
pub walk_over : (owed : List ℕ) (groups : List TableGroup) (d i j k : ℕ) (ls : Layers)
    (q : QuietWalk owed d groups i j ls) → i ≤ j → j < length groups → k ≤ length groups
    → d ≤ (group_at groups j).depth
    → ((g : TableGroup) (rest : List TableGroup) → drop j groups ≡ g ∷ rest
    → drop k groups ≡ after_deep (g.depth + 1) rest) → j ≤ k → has_owed owed (group_run groups j k) ≡ false
    → QuietWalk owed d groups i k ls
walk_over owed groups d i j k ls q low within most deep after high quiet =
    let f = layer_at owed groups d j q.rest q.begins within deep in
    let g : TableGroup = flat_group f.at f.site f.number (flat_kind f.what) (flat_reads f.what f.inside) in
    let gs : List TableGroup = (preorder (f.at + 1) f.inside ++ preorder f.at f.rest) ++ f.more in
    let later : drop k groups ≡ preorder f.at f.rest ++ f.more = after g gs f.is
    ∙ past_inside f.at f.inside f.rest f.more f.ends in
    let all : drop j groups ≡ (g ∷ preorder (f.at + 1) f.inside) ++ (preorder f.at f.rest ++ f.more) = f.is
    ∙ ap (λ l. g ∷ l) (append_assoc (preorder (f.at + 1) f.inside) (preorder f.at f.rest) f.more) in
    let run : group_run groups j k ≡ g ∷ preorder (f.at + 1) f.inside =
    run_is groups j k (g ∷ preorder (f.at + 1) f.inside) (preorder f.at f.rest ++ f.more) high most all later in
    let none = none_of_both (meets (flat_reads f.what f.inside) owed) (has_owed owed (preorder (f.at + 1) f.inside))
    (sym (ap (λ l. has_owed owed l) run) ∙ quiet) in
    let left : Layers = Layer f.at f.rest f.outer in
    record {
      rest = left;
      begins = (f.deep, record { more = f.more; is = later; ends = f.ends }, f.begins);
      parts = λ l m p. let x = f.parts l m (q.parts l m p) in
          (part_rest f.site f.number f.what f.inside f.rest x.0, x.1);
      kept = λ l m p fs s.
          let x = f.parts l m (q.parts l m p) in
          let kept = with_run (group_run groups i j) s in
          ap (λ xs. skipped_layers m owed fs left (with_run xs s)) (runs_joined groups i j k low high)
          ∙ ap (λ y. skipped_layers m owed fs left y) (sym (run_both (group_run groups i j) (group_run groups j k) s))
          ∙ ap (λ xs. skipped_layers m owed fs left (with_run xs kept)) run
          ∙ ap (λ y. skipped_layers m owed fs left y)
          (sym (quiet_inside m owed f.what f.at f.site f.number f.inside fs kept x.0.numbered.0 none.0
          (quiet_kept m owed f.inside (f.at + 1) x.0.numbered.1 none.1)))
          ∙ f.same m fs kept
          ∙ q.kept l m p fs s;
    }

-- A group that is no call is kept before the groups inside it are skipped.
opened_kept : (m : Map) (owed : List ℕ) (fs : List Func) (d site n : ℕ) (what : GroupKind) (inside : GroupForest)
    (s : ComposerState) → is_call_kept (flat_kind what) ≡ false → n ≡ kept_number what n →
    skipped_groups m owed inside fs (d + 1)
    (with_run (flat_group d site n (flat_kind what) (flat_reads what inside) ∷ []) s)
    ≡ skipped_inside m owed fs d site n what (is_owed owed inside) inside (skipped_groups m owed inside) s
opened_kept m owed fs d site n (Call f vs) inside s plain number = absurd (true≢false plain)
opened_kept m owed fs d site n (Node kind attributes) inside s plain number = refl
opened_kept m owed fs d site n (Key v) inside s plain number =
    ap (λ k. skipped_groups m owed inside fs (d + 1) (with_run (flat_group d site k (flat_kind (Key v)) [] ∷ []) s))
    number
opened_kept m owed fs d site n (Cell ks v) inside s plain number =
    ap (λ k. skipped_groups m owed inside fs (d + 1) (with_run (flat_group d site k (flat_kind (Cell ks v)) [] ∷ []) s))
    number

-- A walk into a group that is no call.
pub walk_into : (owed : List ℕ) (groups : List TableGroup) (d i j : ℕ) (ls : Layers)
    (q : QuietWalk owed d groups i j ls) → i ≤ j → j < length groups → d ≤ (group_at groups j).depth
    → is_call_kept (group_at groups j).what ≡ false → QuietWalk owed d groups i (j + 1) ls
walk_into owed groups d i j ls q low within deep plain =
    let f = layer_at owed groups d j q.rest q.begins within deep in
    let g : TableGroup = flat_group f.at f.site f.number (flat_kind f.what) (flat_reads f.what f.inside) in
    let gs : List TableGroup = (preorder (f.at + 1) f.inside ++ preorder f.at f.rest) ++ f.more in
    let here = next_of groups gs g j f.is in
    let one : suc j ≡ j + 1 = omega arith in
    let next : drop (j + 1) groups ≡ gs = ap (λ n. drop n groups) (sym one) ∙ here.1 in
    let high : j ≤ j + 1 = omega arith in
    let run : group_run groups j (j + 1) ≡ g ∷ [] =
    run_is groups j (j + 1) (g ∷ []) gs high (omega (arith, within)) f.is next in
    let no_call : is_call_kept (flat_kind f.what) ≡ false =
    sym (ap (λ (h : TableGroup). is_call_kept h.what) here.0) ∙ plain in
    let behind : List TableGroup = preorder f.at f.rest ++ f.more in
    let left : Layers = Layer (f.at + 1) f.inside (Layer f.at f.rest f.outer) in
    let deeper = f.deep in
    record {
      rest = left;
      begins = (
        omega (arith, deeper),
        record {
          more = behind;
          is = next ∙ append_assoc (preorder (f.at + 1) f.inside) (preorder f.at f.rest) f.more;
          ends = ends_deeper f.at f.rest f.more f.ends;
        },
        (f.deep, record { more = f.more; is = refl; ends = f.ends }, f.begins),
      );
      parts = λ l m p. let x = f.parts l m (q.parts l m p) in (
        part_inside f.site f.number f.what f.inside f.rest x.0,
        (part_rest f.site f.number f.what f.inside f.rest x.0, x.1),
      );
      kept = λ l m p fs s.
          let x = f.parts l m (q.parts l m p) in
          let kept = with_run (group_run groups i j) s in
          let outer : Layers = Layer f.at f.rest f.outer in
          ap (λ xs. skipped_layers m owed fs left (with_run xs s)) (runs_joined groups i j (j + 1) low high)
          ∙ ap (λ y. skipped_layers m owed fs left y)
          (sym (run_both (group_run groups i j) (group_run groups j (j + 1)) s))
          ∙ ap (λ xs. skipped_layers m owed fs left (with_run xs kept)) run
          ∙ ap (λ y. skipped_layers m owed fs outer y)
          (opened_kept m owed fs f.at f.site f.number f.what f.inside kept no_call x.0.numbered.0)
          ∙ f.same m fs kept
          ∙ q.kept l m p fs s;
    }

-- A walk that has not begun.
pub walk_none : (owed : List ℕ) (groups : List TableGroup) (d i : ℕ) (ls : Layers) → AreLayers d ls (drop i groups)
    → QuietWalk owed d groups i i ls
walk_none owed groups d i ls a =
    let none : i - i ≡ 0 = omega arith in
    let run : group_run groups i i ≡ [] = ap (λ n. take n (drop i groups)) none in
    record {
      rest = ls;
      begins = a;
      parts = λ l m p. p;
      kept = λ l m p fs s. ap (λ xs. skipped_layers m owed fs ls (with_run xs s)) run
          ∙ ap (λ y. skipped_layers m owed fs ls y) (run_none s);
    }
