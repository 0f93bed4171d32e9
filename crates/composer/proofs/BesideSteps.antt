-- Composing next to old siblings, one lemma for each way to build a forest.
use Rattle.std.proofs.Common.{ℕ, ◌+◌, ◌++◌, List, [], ◌∷◌, ◌≡◌, refl, ap, ◌∙◌, sym, subst, length, Result, Ok, Err, IsErr, OnOk, Bool, true, false, if◌then◌else◌, arith}
use Rattle.rt_values.specs.declared.value.Value.{Value}
use Rattle.rt_groups.specs.GroupForest.{GroupForest, End, Group, GroupKind, Call, Node, Key, Cell, joined_forest}
use Rattle.rt_groups.specs.Paths.{GroupKey, sibling, occurrence, matching_sibling, inside_of}
use Rattle.rt_groups.specs.Frames.{most_groups, runs_after}
use Rattle.lang_ast.specs.ResultsWithReads.{Reading}
use Rattle.compose_model.specs.Composing.{forest_after}
use Rattle.composer.specs.declared.stop.ComposeStop.{ComposeStop}
use Rattle.composer.specs.declared.stop.ComposeStop.TheVariants.{TooManyGroups, NoMemory}
use Rattle.recompose_laws.specs.Work.{siblings}
use Rattle.recompose_laws.proofs.Orders.{siblings-joined_forest}
use Rattle.composer.specs.declared.pending.Pending.{Pending}
use Rattle.composer.specs.OldGroups.{Fits}
use Rattle.composer.specs.ComposerState.{ComposerState, opened_group, closed_group, composed_beside}
use Rattle.composer.specs.BesideContracts.{IsPrefix, Reaches}
use Rattle.composer.specs.Recomposes.{ComposesBeside, BesideProgress, is_container}
use Rattle.composer.proofs.Reaching.{on_ok, reached_stop, reached_full, longer_one}
use Rattle.composer.proofs.Machine.{read_all, composed-joined, composed-reads_then, siblings-reads_then, part_of, longer, part_on}

pub beside_stop : {U : Type 0} {owed : List ℕ} {old : GroupForest} {d : ℕ} {seen : List GroupKey} {t : GroupForest}
    {s s' : ComposerState} {left : Pending} (result : Result U ComposeStop) → result ≡ Err NoMemory →
    IsPrefix s'.asked (composed_beside owed old d true seen t s).asked
    → ComposesBeside owed old d seen t s s' left result
beside_stop (Ok u) e p = cc
beside_stop (Err x) e p = record { reached = reached_stop (Err x) e p; fits = tt }

-- The contract after a stop, if nothing more was read.
pub beside_stop_here : {U : Type 0} {owed : List ℕ} {old : GroupForest} {d : ℕ} {seen : List GroupKey} {t : GroupForest}
    {s s' : ComposerState} {left : Pending} (result : Result U ComposeStop) → result ≡ Err NoMemory →
    s'.asked ≡ s.asked → ComposesBeside owed old d seen t s s' left result
beside_stop_here {owed = owed} {old = old} {d = d} {seen = seen} {t = t} {s = s} result e h =
    beside_stop result e (subst (λ (l : List ℕ). IsPrefix l (composed_beside owed old d true seen t s).asked) (sym h)
    (part_of owed old d true seen t s))

-- Reads, and then what goes on from the result.
pub beside_after : {U A : Type 0} {owed : List ℕ} {old : GroupForest} {d : ℕ} {seen : List GroupKey}
    {s s' : ComposerState} {left : Pending} {result : Result U ComposeStop} (r : Reading A) (go : A → GroupForest)
    (mid : ComposerState) →
    mid ≡ read_all r.reads s → ComposesBeside owed old d seen (go r.value) mid s' left result
    → ComposesBeside owed old d seen (forest_after r go) s s' left result
unfolding forest_after
beside_after {owed = owed} {old = old} {d = d} {seen = seen} {s = s} {s' = s'} {left = left} {result = result} r go mid e h = record {
  reached = subst (λ (q : ComposerState). Reaches q s' result)
      (ap (λ (q : ComposerState). composed_beside owed old d true seen (go r.value) q) e
      ∙ sym (composed-reads_then owed old d seen r.reads (go r.value) s)) h.reached;
  fits = subst (λ (l : List GroupKey). OnOk result (Fits d left old l))
      (sym (siblings-reads_then r.reads (go r.value) seen)) h.fits;
}

-- Out of memory after some reads.
pub beside_stop_after : {U A : Type 0} {owed : List ℕ} {old : GroupForest} {d : ℕ} {seen : List GroupKey}
    {s s' : ComposerState} {left : Pending} (r : Reading A) (go : A → GroupForest) (result : Result U ComposeStop)
    → result ≡ Err NoMemory →
    (rest : List ℕ) → s'.asked ++ rest ≡ s.asked ++ r.reads
    → ComposesBeside owed old d seen (forest_after r go) s s' left result
unfolding forest_after
beside_stop_after {owed = owed} {old = old} {d = d} {seen = seen} {s = s} {s' = s'} r go result e rest p =
    beside_stop result e (subst (λ (q : ComposerState). IsPrefix s'.asked q.asked)
    (sym (composed-reads_then owed old d seen r.reads (go r.value) s))
    (part_on (record { rest = rest; is = p }) (part_of owed old d true seen (go r.value) (read_all r.reads s))))

pub beside_full : {U : Type 0} {owed : List ℕ} {old : GroupForest} {d : ℕ} {seen : List GroupKey} {site n : ℕ}
    {what : GroupKind} {inside rest : GroupForest} {s s' : ComposerState} {left : Pending}
    (result : Result U ComposeStop) → IsErr result →
    (result ≡ Err TooManyGroups → length s.groups ≡ most_groups) → s'.asked ≡ s.asked
    → ComposesBeside owed old d seen (Group site n what inside rest) s s' left result
beside_full (Ok u) i h e = cc
beside_full {owed = owed} {old = old} {d = d} {seen = seen} {site = site} {n = n} {what = what} {inside = inside} {rest = rest} {s = s} (Err x) i h e = record {
  reached = reached_full (Err x) i
      (λ f. let one = longer_one owed old d true seen site n what inside rest s in let all = h f in
      omega (arith, one, all))
      (subst (λ (l : List ℕ). IsPrefix l (composed_beside owed old d true seen (Group site n what inside rest) s).asked)
      (sym e) (part_of owed old d true seen (Group site n what inside rest) s));
  fits = tt;
}

-- A node or a key, and the groups inside it.
pub beside_group : {U : Type 0} {owed : List ℕ} {old : GroupForest} {d : ℕ} {seen : List GroupKey} {site : ℕ}
    {inside : GroupForest} {s s' : ComposerState} {left : Pending} {result : Result U ComposeStop}
    (what : GroupKind) (mid : ComposerState) →
    let x = sibling site what in is_container what ≡ true →
    mid ≡ opened_group d true (matching_sibling x (occurrence x seen) old) site what inside s
    → OnOk result (Fits d left old (x ∷ seen)) →
    Reaches (composed_beside owed (inside_of (matching_sibling x (occurrence x seen) old)) (d + 1) true [] inside mid)
    s' result → ComposesBeside owed old d seen (Group site 0 what inside End) s s' left result
beside_group (Call function vs) mid plain e f h = absurd cc
beside_group {owed = owed} {old = old} {d = d} {seen = seen} {site = site} {inside = inside} {s' = s'} {result = result} (Node kind attributes) mid plain e f h =
    let found = matching_sibling (sibling site (Node kind attributes))
    (occurrence (sibling site (Node kind attributes)) seen) old in record {
      reached = subst (λ (q : ComposerState). Reaches (composed_beside owed (inside_of found) (d + 1) true [] inside q)
          s' result) e h;
      fits = f;
    }
beside_group {owed = owed} {old = old} {d = d} {seen = seen} {site = site} {inside = inside} {s' = s'} {result = result} (Key v) mid plain e f h =
    let found = matching_sibling (sibling site (Key v)) (occurrence (sibling site (Key v)) seen) old in record {
      reached = subst (λ (q : ComposerState). Reaches (composed_beside owed (inside_of found) (d + 1) true [] inside q)
          s' result) e h;
      fits = f;
    }
beside_group (Cell ks v) mid plain e f h = absurd cc

-- No statements are inside a group.
pub reached_none : (owed : List ℕ) (old : GroupForest) (d : ℕ) {t : GroupForest} {s : ComposerState} → t ≡ End
    → Reaches (composed_beside owed old d true [] t s) s {U = Unit {0}} (Ok tt)
reached_none owed old d {s = s} none = record {
  all = ap (λ t. composed_beside owed old d true [] t s) (sym none);
  part = tt;
  many = λ y. cc;
}

-- A cell with nothing inside, and then what follows it.
pub beside_cell : {U : Type 0} {owed : List ℕ} {old : GroupForest} {d : ℕ} {seen : List GroupKey} {site : ℕ}
    {ks : List Value} {v : Value} {rest : GroupForest} {s s' : ComposerState} {left : Pending}
    {result : Result U ComposeStop} (mid : ComposerState) →
    let x = sibling site (Cell ks v) in
    mid ≡ opened_group d true (matching_sibling x (occurrence x seen) old) site (Cell ks v) End s →
    ComposesBeside owed old d (x ∷ seen) rest mid s' left result
    → ComposesBeside owed old d seen (Group site 0 (Cell ks v) End rest) s s' left result
beside_cell {owed = owed} {old = old} {d = d} {seen = seen} {site = site} {ks = ks} {v = v} {rest = rest} {s' = s'} {result = result} mid e h = record {
  reached =
      subst (λ (q : ComposerState). Reaches (composed_beside owed old d true (sibling site (Cell ks v) ∷ seen) rest q)
      s' result) e h.reached;
  fits = h.fits;
}

-- A call, which runs or not.
pub beside_run : {U : Type 0} {owed : List ℕ} {old : GroupForest} {d : ℕ} {seen : List GroupKey} {site f : ℕ}
    {vs : List Value} {inside : GroupForest} {s s' : ComposerState} {left : Pending} {result : Result U ComposeStop}
    (runs : Bool) →
    let x = sibling site (Call f vs) in
    runs ≡ runs_after owed (matching_sibling x (occurrence x seen) old) (Call f vs) → Fits d left old (x ∷ seen) →
    Reaches (closed_group (Call f vs) s
    (composed_beside owed (inside_of (matching_sibling x (occurrence x seen) old)) (d + 1) runs [] inside
    (opened_group d runs (matching_sibling x (occurrence x seen) old) site (Call f vs) inside s))) s' result →
    ComposesBeside owed old d seen (Group site 0 (Call f vs) inside End) s s' left result
beside_run {owed = owed} {old = old} {d = d} {seen = seen} {site = site} {f = f} {vs = vs} {inside = inside} {s = s} {s' = s'} {result = result} runs e fits h =
    let found = matching_sibling (sibling site (Call f vs)) (occurrence (sibling site (Call f vs)) seen) old in record {
      reached =
          subst (λ (b : Bool). Reaches (closed_group (Call f vs) s
          (composed_beside owed (inside_of found) (d + 1) b [] inside
          (opened_group d b found site (Call f vs) inside s))) s' result) e h;
      fits = on_ok result fits;
    }

-- One of two forests.

-- One forest after another.

pub going_first : {owed : List ℕ} {old : GroupForest} {d : ℕ} {seen : List GroupKey} {t : GroupForest}
    {s : ComposerState} {left : Pending} → Fits d left old seen → BesideProgress owed old d seen t t s s left
going_first {seen = seen} f = record { now = seen; fits = f; behind = refl; going = refl }

pub going_more : {U : Type 0} {owed : List ℕ} {old : GroupForest} {d : ℕ} {seen : List GroupKey}
    {rest stmt more t : GroupForest} {s mid late : ComposerState} {left left1 : Pending} {u : U}
    → rest ≡ joined_forest stmt more →
    (g : BesideProgress owed old d seen rest t s mid left)
    → ComposesBeside owed old d g.now stmt mid late left1 {U = U} (Ok u)
    → BesideProgress owed old d seen more t s late left1
going_more {owed = owed} {old = old} {d = d} {rest = rest} {stmt = stmt} {more = more} {mid = mid} e g h = record {
  now = siblings stmt g.now;
  fits = h.fits;
  behind = sym (siblings-joined_forest stmt more g.now) ∙ ap (λ (r : GroupForest). siblings r g.now) (sym e) ∙ g.behind;
  going = ap (λ (q : ComposerState). composed_beside owed old d true (siblings stmt g.now) more q) h.reached.all
      ∙ sym (composed-joined owed old d true g.now stmt more mid)
      ∙ ap (λ (r : GroupForest). composed_beside owed old d true g.now r mid) (sym e) ∙ g.going;
}

pub going_done : {owed : List ℕ} {old : GroupForest} {d : ℕ} {seen : List GroupKey} {rest t : GroupForest}
    {s mid : ComposerState} {left : Pending} → rest ≡ End → BesideProgress owed old d seen rest t s mid left
    → ComposesBeside owed old d seen t s mid left {U = Unit {0}} (Ok tt)
going_done {owed = owed} {old = old} {d = d} {rest = rest} {mid = mid} {left = left} e g = record {
  reached = record {
    all = ap (λ (r : GroupForest). composed_beside owed old d true g.now r mid) (sym e) ∙ g.going;
    part = tt;
    many = λ y. cc;
  };
  fits = subst (λ (l : List GroupKey). Fits d left old l)
      (ap (λ (r : GroupForest). siblings r g.now) (sym e) ∙ g.behind) g.fits;
}

pub going_stop : {U V : Type 0} {owed : List ℕ} {old : GroupForest} {d : ℕ} {seen : List GroupKey}
    {rest stmt t : GroupForest} {s mid late : ComposerState} {left left1 left2 : Pending} {x : ComposeStop}
    (more : GroupForest) (result : Result U ComposeStop) → rest ≡ joined_forest stmt more →
    (g : BesideProgress owed old d seen rest t s mid left)
    → ComposesBeside owed old d g.now stmt mid late left1 {U = V} (Err x) → result ≡ Err x
    → ComposesBeside owed old d seen t s late left2 result
going_stop more (Ok u) e g h is = cc
going_stop {owed = owed} {old = old} {d = d} {stmt = stmt} {mid = mid} {late = late} {x = x} more (Err z) e g h is =
    let same = sym (composed-joined owed old d true g.now stmt more mid)
    ∙ ap (λ (r : GroupForest). composed_beside owed old d true g.now r mid) (sym e) ∙ g.going in record {
      reached = record {
        all = tt;
        part = subst (λ (q : ComposerState). IsPrefix late.asked q.asked) same
            (part_on h.reached.part (part_of owed old d true (siblings stmt g.now) more
            (composed_beside owed old d true g.now stmt mid)));
        many = λ y.
            let y0 : z ≡ x = cc in
            let y1 : z ≡ TooManyGroups = cc in
            let big = h.reached.many (ap (λ (w : ComposeStop). Err w) (sym y0 ∙ y1)) in
            let far = longer owed old d true (siblings stmt g.now) more
            (composed_beside owed old d true g.now stmt mid) in
            let len = ap (λ (q : ComposerState). length q.groups) same in
            omega (arith, big, far, len);
      };
      fits = tt;
    }

-- One of two forests.

pub beside_first : {U : Type 0} {owed : List ℕ} {old : GroupForest} {d : ℕ} {seen : List GroupKey}
    {s s' : ComposerState} {left : Pending} {result : Result U ComposeStop} (b : Bool) (t u : GroupForest) → b ≡ true →
    ComposesBeside owed old d seen t s s' left result
    → ComposesBeside owed old d seen (if b then t else u) s s' left result
beside_first true t u e h = h
beside_first false t u e h = cc

pub beside_second : {U : Type 0} {owed : List ℕ} {old : GroupForest} {d : ℕ} {seen : List GroupKey}
    {s s' : ComposerState} {left : Pending} {result : Result U ComposeStop} (b : Bool) (t u : GroupForest) → b ≡ false →
    ComposesBeside owed old d seen u s s' left result
    → ComposesBeside owed old d seen (if b then t else u) s s' left result
beside_second true t u e h = cc
beside_second false t u e h = h
