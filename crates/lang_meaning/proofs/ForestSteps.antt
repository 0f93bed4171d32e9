-- The effect of composing, one lemma for each way to build a forest.
use Rattle.std.proofs.Common.{ℕ, ◌+◌, ◌++◌, ◌≤◌, List, [], ◌∷◌, ◌≡◌, refl, ap, ◌∙◌, sym, append_assoc, append-nil, length, length-append, arith, Result, Ok, Err, IsErr, subst, Bool, true, false, if◌then◌else◌}
use Rattle.std.specs.Prelude.{IfOk, OnOk}
use Rattle.rt_values.specs.declared.value.Value.{Value}
use Rattle.rt_values.specs.Views.{Grew}
use Rattle.rt_groups.specs.GroupForest.{GroupForest, End, Read, Group, GroupKind, joined_forest, reads_then, asks, how_many, own_part, inside_own}
use Rattle.rt_groups.specs.GroupForest as trail
use Rattle.rt_groups.specs.PreorderGroups.{preorder, flat_group, flat_kind, flat_reads}
use Rattle.rt_groups.specs.Frames.{most_groups}
use Rattle.rt_groups.specs.declared.groups.Group.{Group as Listed}
use Rattle.rt_groups.proofs.GroupForests.{asks-joined_forest, asks-reads_then}
use Rattle.lang_ast.specs.ResultsWithReads.{Reading}
use Rattle.compose_model.specs.Composing.{forest_after}
use Rattle.lang_meaning.specs.ComposesForest.{ComposesForest, LoopProgress}
use Rattle.lang_meaning.specs.declared.composition.ScratchStop.{ScratchStop}
use Rattle.lang_meaning.specs.declared.composition.ScratchStop.TheVariants.{TooManyGroups, NoMemory}
use Rattle.lang_eval.proofs.Grows.{grew_front, grew_behind, grew_left}

-- The groups and the own reads of forests in sequence.

preorder-joined_forest : (d : ℕ) (t u : GroupForest) → preorder d (joined_forest t u) ≡ preorder d t ++ preorder d u
preorder-joined_forest d End u = refl
preorder-joined_forest d (Read x rest) u = preorder-joined_forest d rest u
preorder-joined_forest d (Group site n what inside rest) u =
    ap (λ l. flat_group d site n (flat_kind what) (flat_reads what inside) ∷ l)
    (ap (λ l. preorder (d + 1) inside ++ l) (preorder-joined_forest d rest u)
    ∙ sym (append_assoc (preorder (d + 1) inside) (preorder d rest) (preorder d u)))

preorder-reads_then : (d : ℕ) (xs : List ℕ) (t : GroupForest) → preorder d (reads_then xs t) ≡ preorder d t
preorder-reads_then d [] t = refl
preorder-reads_then d (x ∷ xs) t = preorder-reads_then d xs t

own-joined_forest : (t u : GroupForest) → asks (own_part (joined_forest t u)) ≡ asks (own_part t) ++ asks (own_part u)
own-joined_forest End u = refl
own-joined_forest (Read x rest) u = ap (λ l. x ∷ l) (own-joined_forest rest u)
own-joined_forest (Group site n what inside rest) u =
    ap (λ l. asks (inside_own what (own_part inside)) ++ l) (own-joined_forest rest u)
    ∙ sym (append_assoc (asks (inside_own what (own_part inside))) (asks (own_part rest)) (asks (own_part u)))

own-reads_then : (xs : List ℕ) (t : GroupForest) → asks (own_part (reads_then xs t)) ≡ xs ++ asks (own_part t)
own-reads_then [] t = refl
own-reads_then (x ∷ xs) t = ap (λ l. x ∷ l) (own-reads_then xs t)

-- The empty forest.
pub ran_end : {U : Type 0} (u : U) (d : ℕ) (out : List Listed) (asked mine : List ℕ)
    → ComposesForest d End out out asked asked mine mine {U = U} (Ok u)
ran_end u d out asked mine = record {
  made = sym (append-nil out);
  came = sym (append-nil asked);
  charged = sym (append-nil mine);
  part = tt;
  many = λ e. cc;
}

-- Out of memory after a part of the reads.
pub ran_stop : {U : Type 0} (d : ℕ) (t : GroupForest) (out out' : List Listed) (asked asked' mine mine' : List ℕ)
    (result : Result U ScratchStop) → result ≡ Err NoMemory →
    Grew asked asked' (asks t) → ComposesForest d t out out' asked asked' mine mine' result
ran_stop d t out out' asked asked' mine mine' (Ok u) e g = cc
ran_stop d t out out' asked asked' mine mine' (Err x) e g =
    record { made = tt; came = tt; charged = tt; part = g; many = λ f. cc }

-- Out of memory during the reads before a forest.
pub ran_stop_after : {U A : Type 0} (d : ℕ) (r : Reading A) (go : A → GroupForest) (out out' : List Listed)
    (asked asked' mine mine' : List ℕ) (result : Result U ScratchStop) → result ≡ Err NoMemory →
    Grew asked asked' r.reads → ComposesForest d (forest_after r go) out out' asked asked' mine mine' result
unfolding forest_after
ran_stop_after d r go out out' asked asked' mine mine' result e g =
    ran_stop d (forest_after r go) out out' asked asked' mine mine' result e
    (rw (asks-reads_then r.reads (go r.value)) (grew_front asked asked' r.reads (asks (go r.value)) g))

-- Reads, and then the forest that depends on their result.
pub ran_after : {U A : Type 0} (d : ℕ) (r : Reading A) (go : A → GroupForest) (out out' : List Listed)
    (asked mid asked' mine between mine' : List ℕ) (result : Result U ScratchStop) →
    mid ≡ asked ++ r.reads → between ≡ mine ++ r.reads
    → ComposesForest d (go r.value) out out' mid asked' between mine' result
    → ComposesForest d (forest_after r go) out out' asked asked' mine mine' result
unfolding forest_after
ran_after d r go out out' asked mid asked' mine between mine' (Ok u) e f h = record {
  made = h.made ∙ ap (λ l. out ++ l) (sym (preorder-reads_then d r.reads (go r.value)));
  came = h.came ∙ ap (λ l. l ++ asks (go r.value)) e ∙ append_assoc asked r.reads (asks (go r.value))
      ∙ ap (λ l. asked ++ l) (sym (asks-reads_then r.reads (go r.value)));
  charged = h.charged ∙ ap (λ l. l ++ asks (own_part (go r.value))) f
      ∙ append_assoc mine r.reads (asks (own_part (go r.value)))
      ∙ ap (λ l. mine ++ l) (sym (own-reads_then r.reads (go r.value)));
  part = tt;
  many = λ x. cc;
}
ran_after d r go out out' asked mid asked' mine between mine' (Err x) e f h = record {
  made = tt;
  came = tt;
  charged = tt;
  part = rw (asks-reads_then r.reads (go r.value)) (grew_behind asked mid asked' r.reads (asks (go r.value)) e h.part);
  many = λ y. rw (preorder-reads_then d r.reads (go r.value)) (h.many y);
}

-- The group could not be appended.
pub ran_full : {U : Type 0} (d site : ℕ) (what : GroupKind) (inside rest : GroupForest) (out out' : List Listed)
    (asked mine mine' : List ℕ) (result : Result U ScratchStop) → IsErr result →
    (result ≡ Err TooManyGroups → length out ≡ most_groups)
    → ComposesForest d (Group site 0 what inside rest) out out' asked asked mine mine' result
ran_full d site what inside rest out out' asked mine mine' (Ok u) i h = cc
ran_full d site what inside rest out out' asked mine mine' (Err x) i h = record {
  made = tt;
  came = tt;
  charged = tt;
  part = record { rest = asks inside ++ asks rest; is = refl };
  many = λ y. omega (arith, h y, length-append out (preorder d (Group site 0 what inside rest)));
}

-- A group without reads, and the forest inside it.
pub ran_group : {U : Type 0} (d site : ℕ) (what : GroupKind) (inside : GroupForest) (out out1 out' : List Listed)
    (asked asked' mine mine' : List ℕ) (result : Result U ScratchStop) →
    flat_reads what inside ≡ [] → inside_own what (own_part inside) ≡ own_part inside
    → out1 ≡ out ++ flat_group d site 0 (flat_kind what) [] ∷ [] →
    ComposesForest (d + 1) inside out1 out' asked asked' mine mine' result
    → ComposesForest d (Group site 0 what inside End) out out' asked asked' mine mine' result
ran_group d site what inside out out1 out' asked asked' mine mine' (Ok u) none same e h = record {
  made = h.made ∙ ap (λ l. l ++ preorder (d + 1) inside) e
      ∙ append_assoc out (flat_group d site 0 (flat_kind what) [] ∷ []) (preorder (d + 1) inside)
      ∙ ap (λ l. out ++ flat_group d site 0 (flat_kind what) [] ∷ l) (sym (append-nil (preorder (d + 1) inside)))
      ∙ ap (λ r. out ++ flat_group d site 0 (flat_kind what) r ∷ (preorder (d + 1) inside ++ [])) (sym none);
  came = h.came ∙ ap (λ l. asked ++ l) (sym (append-nil (asks inside)));
  charged = h.charged ∙ ap (λ t. mine ++ asks t) (sym same)
      ∙ ap (λ l. mine ++ l) (sym (append-nil (asks (inside_own what (own_part inside)))));
  part = tt;
  many = λ x. cc;
}
ran_group d site what inside out out1 out' asked asked' mine mine' (Err x) none same e h = record {
  made = tt;
  came = tt;
  charged = tt;
  part = rw (append-nil (asks inside)) h.part;
  many = λ y. omega (
    arith,
    h.many y,
    ap length e,
    length-append out1 (preorder (d + 1) inside),
    length-append out (flat_group d site 0 (flat_kind what) [] ∷ []),
    length-append out (preorder d (Group site 0 what inside End)),
    length-append (preorder (d + 1) inside) (preorder d End),
  );
}

-- The group of a call gets the own reads of the forest inside it. The outer call gets none of these reads.
pub ran_call : (d site function : ℕ) (arguments : List Value) (inside : GroupForest) (out out1 out2 out' : List Listed)
    (asked asked' mine theirs none : List ℕ) → none ≡ [] →
    out1 ≡ out ++ flat_group d site 0 (flat_kind (trail.Call function arguments)) [] ∷ []
    → ComposesForest (d + 1) inside out1 out2 asked asked' none theirs {U = Unit {0}} (Ok tt) →
    ((before behind : List Listed) (g : Listed) → length before ≡ length out → out2 ≡ before ++ (g ∷ behind)
    → out' ≡ before ++ (flat_group g.depth g.site g.number g.what theirs ∷ behind)) →
    ComposesForest d (Group site 0 (trail.Call function arguments) inside End) out out' asked asked' mine mine
    {U = Unit {0}} (Ok tt)
ran_call d site function arguments inside out out1 out2 out' asked asked' mine theirs none first e h set =
    let there : out2 ≡ out ++ (flat_group d site 0 (flat_kind (trail.Call function arguments)) [] ∷ preorder (d + 1) inside) =
    h.made ∙ ap (λ l. l ++ preorder (d + 1) inside) e
    ∙ append_assoc out (flat_group d site 0 (flat_kind (trail.Call function arguments)) [] ∷ [])
    (preorder (d + 1) inside) in
    record {
      made = set out (preorder (d + 1) inside) (flat_group d site 0 (flat_kind (trail.Call function arguments)) []) refl
          there
          ∙ ap (λ r. out ++ (flat_group d site 0 (flat_kind (trail.Call function arguments)) r ∷ preorder (d + 1)
          inside)) (h.charged ∙ ap (λ l. l ++ asks (own_part inside)) first)
          ∙ ap (λ l. out ++ (flat_group d site 0 (flat_kind (trail.Call function arguments))
          (asks (own_part inside)) ∷ l)) (sym (append-nil (preorder (d + 1) inside)));
      came = h.came ∙ ap (λ l. asked ++ l) (sym (append-nil (asks inside)));
      charged = sym (append-nil mine);
      part = tt;
      many = λ x. cc;
    }

-- Composing the forest inside a call failed.
pub ran_call_stop : {U V : Type 0} (d site function : ℕ) (arguments : List Value) (inside : GroupForest)
    (out out1 out2 out' : List Listed) (asked asked' mine theirs none : List ℕ) (x : ScratchStop)
    (result : Result U ScratchStop) →
    out1 ≡ out ++ flat_group d site 0 (flat_kind (trail.Call function arguments)) [] ∷ []
    → ComposesForest (d + 1) inside out1 out2 asked asked' none theirs {U = V} (Err x) → result ≡ Err x →
    ComposesForest d (Group site 0 (trail.Call function arguments) inside End) out out' asked asked' mine mine result
ran_call_stop d site function arguments inside out out1 out2 out' asked asked' mine theirs none x (Ok u) e h is = cc
ran_call_stop d site function arguments inside out out1 out2 out' asked asked' mine theirs none x (Err z) e h is =
    record {
      made = tt;
      came = tt;
      charged = tt;
      part = rw (append-nil (asks inside)) h.part;
      many = λ y.
          let y0 : z ≡ x = cc in
          let y1 : z ≡ TooManyGroups = cc in
          let big = h.many (ap (λ (w : ScratchStop). Err w) (sym y0 ∙ y1)) in
          omega (
            arith,
            big,
            ap length e,
            length-append out1 (preorder (d + 1) inside),
            length-append out (flat_group d site 0 (flat_kind (trail.Call function arguments)) [] ∷ []),
            length-append out (preorder d (Group site 0 (trail.Call function arguments) inside End)),
            length-append (preorder (d + 1) inside) (preorder d End),
          );
    }

-- A cell, which is empty, and then the forest after it.
pub ran_cell : {U : Type 0} (d site : ℕ) (what : GroupKind) (rest : GroupForest) (out out1 out' : List Listed)
    (asked asked' mine mine' : List ℕ) (result : Result U ScratchStop) →
    flat_reads what End ≡ [] → inside_own what End ≡ End → out1 ≡ out ++ flat_group d site 0 (flat_kind what) [] ∷ [] →
    ComposesForest d rest out1 out' asked asked' mine mine' result
    → ComposesForest d (Group site 0 what End rest) out out' asked asked' mine mine' result
ran_cell d site what rest out out1 out' asked asked' mine mine' (Ok u) none same e h = record {
  made = h.made ∙ ap (λ l. l ++ preorder d rest) e
      ∙ append_assoc out (flat_group d site 0 (flat_kind what) [] ∷ []) (preorder d rest)
      ∙ ap (λ r. out ++ flat_group d site 0 (flat_kind what) r ∷ preorder d rest) (sym none);
  came = h.came;
  charged = h.charged ∙ ap (λ t. mine ++ (asks t ++ asks (own_part rest))) (sym same);
  part = tt;
  many = λ x. cc;
}
ran_cell d site what rest out out1 out' asked asked' mine mine' (Err x) none same e h = record {
  made = tt;
  came = tt;
  charged = tt;
  part = h.part;
  many = λ y. omega (
    arith,
    h.many y,
    ap length e,
    length-append out1 (preorder d rest),
    length-append out (flat_group d site 0 (flat_kind what) [] ∷ []),
    length-append out (preorder d (Group site 0 what End rest)),
  );
}

pub ran_full_as : {U : Type 0} (d site : ℕ) (what : GroupKind) (inside rest : GroupForest) (out out' : List Listed)
    (asked mine mine' : List ℕ) (x : ScratchStop) (result : Result U ScratchStop) → result ≡ Err x
    → (x ≡ TooManyGroups → length out ≡ most_groups)
    → ComposesForest d (Group site 0 what inside rest) out out' asked asked mine mine' result
ran_full_as d site what inside rest out out' asked mine mine' x (Ok u) e h = cc
ran_full_as d site what inside rest out out' asked mine mine' x (Err y) e h =
    ran_full d site what inside rest out out' asked mine mine' (Err y) refl
    (λ f. let z : x ≡ TooManyGroups = cc in h z)

-- A group with nothing inside it, or the limit is reached.
pub ran_added : {U : Type 0} (d site : ℕ) (what : GroupKind) (out out1 : List Listed) (asked mine : List ℕ)
    (result : Result U ScratchStop) → flat_reads what End ≡ [] → inside_own what End ≡ End
    → OnOk result (out1 ≡ out ++ flat_group d site 0 (flat_kind what) [] ∷ [])
    → (result ≡ Err TooManyGroups → length out ≡ most_groups)
    → ComposesForest d (Group site 0 what End End) out out1 asked asked mine mine result
ran_added d site what out out1 asked mine (Ok u) none same e h =
    ran_group d site what End out out1 out1 asked asked mine mine (Ok u) none same e
    (ran_end u (d + 1) out1 asked mine)
ran_added d site what out out1 asked mine (Err x) none same e h =
    ran_full d site what End End out out1 asked mine mine (Err x) refl h

-- A group that is appended after reads, before the forest inside it or after it is composed.

record Opened (d site : ℕ) (xs : List ℕ) (what : GroupKind) (out out1 : List Listed)
    (asked asked1 mine mine1 : List ℕ) : Type 0 where
  made : out1 ≡ out ++ flat_group d site 0 (flat_kind what) [] ∷ []
  came : asked1 ≡ asked ++ xs
  charged : mine1 ≡ mine ++ xs

opened : {U : Type 0} (d site : ℕ) (xs : List ℕ) (what : GroupKind) (out out1 : List Listed)
    (asked asked1 mine mine1 : List ℕ) (u : U) → flat_reads what End ≡ [] → inside_own what End ≡ End
    → ComposesForest d (reads_then xs (Group site 0 what End End)) out out1 asked asked1 mine mine1 {U = U} (Ok u)
    → Opened d site xs what out out1 asked asked1 mine mine1
opened d site xs what out out1 asked asked1 mine mine1 u none same h = record {
  made = h.made ∙ ap (λ l. out ++ l) (preorder-reads_then d xs (Group site 0 what End End))
      ∙ ap (λ r. out ++ flat_group d site 0 (flat_kind what) r ∷ []) none;
  came = h.came ∙ ap (λ l. asked ++ l) (asks-reads_then xs (Group site 0 what End End) ∙ append-nil xs);
  charged = h.charged ∙ ap (λ l. mine ++ l) (own-reads_then xs (Group site 0 what End End)
      ∙ ap (λ t. xs ++ (asks t ++ [])) same ∙ append-nil xs);
}

pub opened_stop : {U V : Type 0} (d site : ℕ) (xs : List ℕ) (what : GroupKind) (inside rest : GroupForest)
    (out out1 out' : List Listed) (asked asked1 mine mine1 mine' : List ℕ) (x : ScratchStop)
    (result : Result V ScratchStop) →
    ComposesForest d (reads_then xs (Group site 0 what End End)) out out1 asked asked1 mine mine1 {U = U} (Err x)
    → result ≡ Err x →
    ComposesForest d (reads_then xs (Group site 0 what inside rest)) out out' asked asked1 mine mine' result
opened_stop d site xs what inside rest out out1 out' asked asked1 mine mine1 mine' x (Ok u) h is = cc
opened_stop d site xs what inside rest out out1 out' asked asked1 mine mine1 mine' x (Err z) h is = record {
  made = tt;
  came = tt;
  charged = tt;
  part = rw (asks-reads_then xs (Group site 0 what inside rest))
      (grew_front asked asked1 xs (asks (Group site 0 what inside rest))
      (subst (λ l. Grew asked asked1 l) (asks-reads_then xs (Group site 0 what End End) ∙ append-nil xs) h.part));
  many = λ y.
      let y0 : z ≡ x = cc in
      let y1 : z ≡ TooManyGroups = cc in
      let big = h.many (ap (λ (w : ScratchStop). Err w) (sym y0 ∙ y1)) in
      omega (
        arith,
        big,
        length-append out (preorder d (reads_then xs (Group site 0 what End End))),
        ap length (preorder-reads_then d xs (Group site 0 what End End)),
        length-append out (preorder d (reads_then xs (Group site 0 what inside rest))),
        ap length (preorder-reads_then d xs (Group site 0 what inside rest)),
        length-append (preorder (d + 1) inside) (preorder d rest),
      );
}

pub opened_inside : {U V : Type 0} (d site : ℕ) (xs : List ℕ) (what : GroupKind) (inside : GroupForest)
    (out out1 out' : List Listed) (asked asked1 asked' mine mine1 mine' : List ℕ) (u : U)
    (result : Result V ScratchStop) → flat_reads what End ≡ [] → inside_own what End ≡ End
    → flat_reads what inside ≡ [] → inside_own what (own_part inside) ≡ own_part inside →
    ComposesForest d (reads_then xs (Group site 0 what End End)) out out1 asked asked1 mine mine1 {U = U} (Ok u)
    → ComposesForest (d + 1) inside out1 out' asked1 asked' mine1 mine' result
    → ComposesForest d (reads_then xs (Group site 0 what inside End)) out out' asked asked' mine mine' result
unfolding forest_after
opened_inside d site xs what inside out out1 out' asked asked1 asked' mine mine1 mine' u result none same flat own h k =
    let o = opened d site xs what out out1 asked asked1 mine mine1 u none same h in
    ran_after {A = Unit {0}} d (record { value = tt; reads = xs }) (λ i. Group site 0 what inside End) out out' asked
    asked1 asked' mine mine1 mine' result o.came o.charged
    (ran_group d site what inside out out1 out' asked1 asked' mine1 mine' result flat own o.made k)

-- The group of a cell, after the reads of its keys and of its value.

reads_then-append : (xs ys : List ℕ) (t : GroupForest) → reads_then xs (reads_then ys t) ≡ reads_then (xs ++ ys) t
reads_then-append [] ys t = refl
reads_then-append (x ∷ xs) ys t = ap (λ u. Read x u) (reads_then-append xs ys t)

pub cell_stop : {U V : Type 0} (d site : ℕ) (xs ys : List ℕ) (what : GroupKind) (rest : GroupForest)
    (out out1 out' : List Listed) (asked asked1 mine mine1 mine' : List ℕ) (x : ScratchStop)
    (result : Result V ScratchStop) →
    ComposesForest d (reads_then xs (reads_then ys (Group site 0 what End End))) out out1 asked asked1 mine mine1
    {U = U} (Err x) → result ≡ Err x →
    ComposesForest d (reads_then xs (reads_then ys (Group site 0 what End rest))) out out' asked asked1 mine mine' result
cell_stop {U} d site xs ys what rest out out1 out' asked asked1 mine mine1 mine' x result h is =
    subst (λ (t : GroupForest). ComposesForest d t out out' asked asked1 mine mine' result)
    (sym (reads_then-append xs ys (Group site 0 what End rest)))
    (opened_stop d site (xs ++ ys) what End rest out out1 out' asked asked1 mine mine1 mine' x result
    (subst (λ (t : GroupForest). ComposesForest d t out out1 asked asked1 mine mine1 {U = U} (Err x))
    (reads_then-append xs ys (Group site 0 what End End)) h) is)

pub cell_rest : {U V : Type 0} (d site : ℕ) (xs ys : List ℕ) (what : GroupKind) (rest : GroupForest)
    (out out1 out' : List Listed) (asked asked1 asked' mine mine1 mine' : List ℕ) (u : U)
    (result : Result V ScratchStop) → flat_reads what End ≡ [] → inside_own what End ≡ End →
    ComposesForest d (reads_then xs (reads_then ys (Group site 0 what End End))) out out1 asked asked1 mine mine1
    {U = U} (Ok u) → ComposesForest d rest out1 out' asked1 asked' mine1 mine' result →
    ComposesForest d (reads_then xs (reads_then ys (Group site 0 what End rest))) out out' asked asked' mine mine' result
unfolding forest_after
cell_rest {U} d site xs ys what rest out out1 out' asked asked1 asked' mine mine1 mine' u result none same h k =
    let o = opened d site (xs ++ ys) what out out1 asked asked1 mine mine1 u none same
    (subst (λ (t : GroupForest). ComposesForest d t out out1 asked asked1 mine mine1 {U = U} (Ok u))
    (reads_then-append xs ys (Group site 0 what End End)) h) in
    subst (λ (t : GroupForest). ComposesForest d t out out' asked asked' mine mine' result)
    (sym (reads_then-append xs ys (Group site 0 what End rest)))
    (ran_after {A = Unit {0}} d (record { value = tt; reads = xs ++ ys }) (λ i. Group site 0 what End rest) out out'
    asked asked1 asked' mine mine1 mine' result o.came o.charged
    (ran_cell d site what rest out out1 out' asked1 asked' mine1 mine' result none same o.made k))

-- One of two forests.

pub ran_first : {U : Type 0} (d : ℕ) (b : Bool) (s t : GroupForest) (out out' : List Listed)
    (asked asked' mine mine' : List ℕ) (result : Result U ScratchStop) → b ≡ true →
    ComposesForest d s out out' asked asked' mine mine' result
    → ComposesForest d (if b then s else t) out out' asked asked' mine mine' result
ran_first d true s t out out' asked asked' mine mine' result e h = h
ran_first d false s t out out' asked asked' mine mine' result e h = cc

pub ran_second : {U : Type 0} (d : ℕ) (b : Bool) (s t : GroupForest) (out out' : List Listed)
    (asked asked' mine mine' : List ℕ) (result : Result U ScratchStop) → b ≡ false →
    ComposesForest d t out out' asked asked' mine mine' result
    → ComposesForest d (if b then s else t) out out' asked asked' mine mine' result
ran_second d true s t out out' asked asked' mine mine' result e h = cc
ran_second d false s t out out' asked asked' mine mine' result e h = h

-- Forests in sequence.

pub going_more : {U : Type 0} (d : ℕ) (rest s more t : GroupForest) (out0 out1 out2 : List Listed)
    (asked0 asked1 asked2 mine0 mine1 mine2 : List ℕ) (u : U) → rest ≡ joined_forest s more →
    LoopProgress d rest t out0 out1 asked0 asked1 mine0 mine1
    → ComposesForest d s out1 out2 asked1 asked2 mine1 mine2 {U = U} (Ok u)
    → LoopProgress d more t out0 out2 asked0 asked2 mine0 mine2
going_more d rest s more t out0 out1 out2 asked0 asked1 asked2 mine0 mine1 mine2 u e g h = record {
  made = ap (λ l. l ++ preorder d more) h.made ∙ append_assoc out1 (preorder d s) (preorder d more)
      ∙ ap (λ l. out1 ++ l) (sym (preorder-joined_forest d s more)) ∙ ap (λ r. out1 ++ preorder d r) (sym e) ∙ g.made;
  came = ap (λ l. l ++ asks more) h.came ∙ append_assoc asked1 (asks s) (asks more)
      ∙ ap (λ l. asked1 ++ l) (sym (asks-joined_forest s more)) ∙ ap (λ r. asked1 ++ asks r) (sym e) ∙ g.came;
  charged = ap (λ l. l ++ asks (own_part more)) h.charged
      ∙ append_assoc mine1 (asks (own_part s)) (asks (own_part more))
      ∙ ap (λ l. mine1 ++ l) (sym (own-joined_forest s more)) ∙ ap (λ r. mine1 ++ asks (own_part r)) (sym e)
      ∙ g.charged;
}

pub going_done : (d : ℕ) (rest t : GroupForest) (out0 out1 : List Listed) (asked0 asked1 mine0 mine1 : List ℕ)
    → rest ≡ End →
    LoopProgress d rest t out0 out1 asked0 asked1 mine0 mine1
    → ComposesForest d t out0 out1 asked0 asked1 mine0 mine1 {U = Unit {0}} (Ok tt)
going_done d rest t out0 out1 asked0 asked1 mine0 mine1 e g = record {
  made = sym (append-nil out1) ∙ ap (λ r. out1 ++ preorder d r) (sym e) ∙ g.made;
  came = sym (append-nil asked1) ∙ ap (λ r. asked1 ++ asks r) (sym e) ∙ g.came;
  charged = sym (append-nil mine1) ∙ ap (λ r. mine1 ++ asks (own_part r)) (sym e) ∙ g.charged;
  part = tt;
  many = λ y. cc;
}

pub going_stop : {U V : Type 0} (d : ℕ) (rest s more t : GroupForest) (out0 out1 out2 : List Listed)
    (asked0 asked1 asked2 mine0 mine1 mine2 : List ℕ) (x : ScratchStop) (result : Result U ScratchStop)
    → rest ≡ joined_forest s more →
    LoopProgress d rest t out0 out1 asked0 asked1 mine0 mine1
    → ComposesForest d s out1 out2 asked1 asked2 mine1 mine2 {U = V} (Err x) → result ≡ Err x
    → ComposesForest d t out0 out2 asked0 asked2 mine0 mine2 result
going_stop d rest s more t out0 out1 out2 asked0 asked1 asked2 mine0 mine1 mine2 x (Ok u) e g h is = cc
going_stop d rest s more t out0 out1 out2 asked0 asked1 asked2 mine0 mine1 mine2 x (Err z) e g h is = record {
  made = tt;
  came = tt;
  charged = tt;
  part = grew_left asked0 asked1 asked2 _ _
      (ap (λ l. asked1 ++ l) (sym (asks-joined_forest s more)) ∙ ap (λ r. asked1 ++ asks r) (sym e) ∙ g.came)
      (grew_front asked1 asked2 (asks s) (asks more) h.part);
  many = λ y.
      let y0 : z ≡ x = cc in
      let y1 : z ≡ TooManyGroups = cc in
      let big = h.many (ap (λ (w : ScratchStop). Err w) (sym y0 ∙ y1)) in
      let split = ap (λ r. length (preorder d r)) e ∙ ap length (preorder-joined_forest d s more) in
      omega (
        arith,
        big,
        split,
        ap length g.made,
        length-append out1 (preorder d s),
        length-append out1 (preorder d rest),
        length-append out0 (preorder d t),
        length-append (preorder d s) (preorder d more),
      );
}

-- A list with a group appended, after rewriting the group and the list before.
pub added_to : {X : Type 0} {later before known : List X} {x y : X} → later ≡ before ++ x ∷ [] → x ≡ y → before ≡ known
    → later ≡ known ++ y ∷ []
added_to is same start = rw (is, same, start) refl

-- An error meets every promise about good results.
pub stopped : {U : Type 0} (A : Type 0) (result : Result U ScratchStop) (x : ScratchStop) → result ≡ Err x → OnOk result A
stopped A (Ok u) x e = cc
stopped A (Err y) x e = tt

pub stopped_value : {U : Type 0} (P : U → Type 0) (result : Result U ScratchStop) (x : ScratchStop) → result ≡ Err x
    → IfOk result P
stopped_value P (Ok u) x e = cc
stopped_value P (Err y) x e = tt

-- A fact without conditions is a fact about good results.
pub on_ok : {U A : Type 0} (result : Result U ScratchStop) → A → OnOk result A
on_ok (Ok u) a = a
on_ok (Err x) a = tt

-- Two equations in sequence, of which the first is about good results.
pub then_same : {U A : Type 0} (a b c : A) (result : Result U ScratchStop) → OnOk result (a ≡ b) → b ≡ c
    → OnOk result (a ≡ c)
then_same a b c (Ok u) e f = e ∙ f
then_same a b c (Err x) e f = tt

-- The last group is appended if there is no error, and equal terms may replace it and the list before it.
pub added_on : {U : Type 0} (before start mid : List Listed) (x y : Listed) (result : Result U ScratchStop)
    → OnOk result (mid ≡ before ++ x ∷ []) → x ≡ y → before ≡ start → OnOk result (mid ≡ start ++ y ∷ [])
added_on before start mid x y (Ok u) h e f = added_to h e f
added_on before start mid x y (Err z) h e f = tt

pub one_added : {U : Type 0} (before mid : List Listed) (x : Listed) (result : Result U ScratchStop)
    → OnOk result (mid ≡ before ++ x ∷ []) → OnOk result (length mid ≡ length before + 1)
one_added before mid x (Ok u) e = omega (arith, ap length e, length-append before (x ∷ []))
one_added before mid x (Err y) e = tt

pub longer_by_one : {U : Type 0} (before mid : List Listed) (result : Result U ScratchStop)
    → OnOk result (length mid ≡ length before + 1) → OnOk result (length before ≤ length mid)
longer_by_one before mid (Ok u) e = omega (arith, e)
longer_by_one before mid (Err y) e = tt

-- Lists that grow twice.
pub longer_after : {U : Type 0} (before mid later : List Listed) (result : Result U ScratchStop)
    → length before ≤ length mid → OnOk result (length mid ≤ length later)
    → OnOk result (length before ≤ length later)
longer_after before mid later (Ok u) e h = omega (arith, e, h)
longer_after before mid later (Err y) e h = tt
