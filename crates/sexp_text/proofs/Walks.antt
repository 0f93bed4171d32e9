-- Laws on the machine that reads texts.
use Rattle.std.proofs.Common.{subst, ◌≡◌, ◌≤◌, ◌<◌, ℕ, ◌+◌, ◌==◌, suc, max, Bool, true, false, cond, List, [], ◌∷◌, ◌++◌, Some, None, refl, sym, ap, ◌∙◌, length, get_or, take, arith, nat_le}
use Rattle.std.proofs.Math.Seq.{take-suc}
use Rattle.std.proofs.lemmas.List.{length-take, take_all}
use Rattle.std.specs.declared.option.Option.{Option}
use Rattle.std.specs.Option.{option_and_then, IfSome, IsSomeAnd}
use Rattle.std.proofs.lemmas.Option.{same_Some}
use Rattle.sexp_text.specs.declared.stop.TextStop.{TextStop}
use Rattle.sexp_text.specs.declared.stop.TextStop.TheVariants as stops
use Rattle.sexp_text.specs.Forest.{Forest, empty, atom, text, list, joined_trees, list_nesting}
use Rattle.sexp_text.specs.Grammar.{is_blank, is_atom_byte}
use Rattle.sexp_text.specs.Machine.{finish, forest_at_end, all_closed, IsShallow, Stops, Refuses, Fails, GoesDeep, Mode, gap, in_comment, in_word, in_text, in_escape, OpenLists, State, close_list, start, step, next, run, first_state, state_at, depth_reached, whole}

-- A step and the steps after it can be grouped in two ways.
onward : (o : Option State) (f g h : State → Option State) → ((t : State) → f t ≡ option_and_then g (h t))
    → option_and_then f o ≡ option_and_then g (option_and_then h o)
onward None f g h e = refl
onward (Some t) f g h e = e t

-- A run over two pieces of bytes is a run over each piece in turn.
pub run-append : (xs ys : List ℕ) (s : State) (at : ℕ)
    → run s at (xs ++ ys) ≡ option_and_then (λ t. run t (at + length xs) ys) (run s at xs)
run-append [] ys s at = ap (λ k. run s k ys) (omega arith)
run-append (x ∷ xs) ys s at =
    onward (next s at x) (λ t. run t (at + 1) (xs ++ ys)) (λ t. run t (at + suc (length xs)) ys)
    (λ t. run t (at + 1) xs)
    (λ t. run-append xs ys t (at + 1) ∙ ap (λ k. option_and_then (λ u. run u k ys) (run t (at + 1) xs)) (omega arith))

-- A run over two pieces continues from the state after the first.
pub run_on : (xs ys : List ℕ) (s t : State) (at : ℕ) → run s at xs ≡ Some t
    → run s at (xs ++ ys) ≡ run t (at + length xs) ys
run_on xs ys s t at e = run-append xs ys s at ∙ ap (option_and_then (λ t. run t (at + length xs) ys)) e

-- A run over two pieces has no state if the first leads to none.
pub run_none : (xs ys : List ℕ) (s : State) (at : ℕ) → run s at xs ≡ None → run s at (xs ++ ys) ≡ None
run_none xs ys s at e = run-append xs ys s at ∙ ap (option_and_then (λ t. run t (at + length xs) ys)) e

and_then-Some : (o : Option State) → option_and_then (λ t. Some t) o ≡ o
and_then-Some None = refl
and_then-Some (Some t) = refl

-- The state after the byte at an offset.
pub walk_on : (bytes : List ℕ) (i : ℕ) (s : State) (o : Option State) → i < length bytes → state_at bytes i ≡ Some s
    → next s i (get_or bytes i 0) ≡ o
    → state_at bytes (suc i) ≡ o
walk_on bytes i s o lt here e =
    let l : 0 + length (take i bytes) ≡ i = omega (arith, length-take i bytes) in
    ap (run first_state 0) (take-suc bytes i 0 lt)
    ∙ run_on (take i bytes) (get_or bytes i 0 ∷ []) first_state s 0 here
    ∙ and_then-Some (next s (0 + length (take i bytes)) (get_or bytes i 0))
    ∙ ap (λ k. next s k (get_or bytes i 0)) l
    ∙ e

-- A case split on the outcome of a test.
pub tested : (P : Option State → Type 0) (w : Bool) (x y : Option State) → (w ≡ true → P x) → (w ≡ false → P y)
    → P (cond w x y)
tested P true x y t f = t refl
tested P false x y t f = f refl

pub nesting-joined_trees : (f g : Forest) → list_nesting (joined_trees f g) ≡ max (list_nesting f) (list_nesting g)
nesting-joined_trees empty g = omega arith
nesting-joined_trees (atom at a f) g = nesting-joined_trees f g
nesting-joined_trees (text at s f) g = nesting-joined_trees f g
nesting-joined_trees (list at i f) g = omega (arith, nesting-joined_trees f g)

pub depth_reached-joined_trees : (os : OpenLists) (f g : Forest)
    → depth_reached os (joined_trees f g) ≡ max (depth_reached os f) (length os + list_nesting g)
depth_reached-joined_trees [] f g = omega (arith, nesting-joined_trees f g)
depth_reached-joined_trees (o ∷ os) f g = omega (arith, nesting-joined_trees f g)

pub length_le-depth_reached : (os : OpenLists) (f : Forest) → length os ≤ depth_reached os f
length_le-depth_reached [] f = omega arith
length_le-depth_reached (o ∷ os) f = omega arith

-- The depth of a state grows only by the list that it opens.
abbrev Deepens : OpenLists → Forest → State → Type 0
Deepens os f t = depth_reached t.1 t.2 ≡ max (depth_reached os f) (length t.1)

kept : (m : Mode) (os : OpenLists) (f : Forest) → Deepens os f (m, os, f)
kept m os f = omega (arith, length_le-depth_reached os f)

grown : (os : OpenLists) (f g : Forest) → list_nesting g ≡ 0 → Deepens os f (gap, os, joined_trees f g)
grown os f g e = omega (arith, depth_reached-joined_trees os f g, length_le-depth_reached os f)

closed_deepens : (os : OpenLists) (f : Forest) → IfSome (close_list os f) (Deepens os f)
closed_deepens [] f = tt
closed_deepens (o ∷ os) f = omega (
  arith,
  depth_reached-joined_trees os o.1 (list o.0 f empty),
  length_le-depth_reached os o.1,
)

start_deepens : (at b : ℕ) (os : OpenLists) (f : Forest) → IfSome (start at b os f) (Deepens os f)
start_deepens at b os f =
    let P = (λ (o : Option State). IfSome o (Deepens os f)) in
    tested P (is_blank b) _ _ (λ _. kept gap os f)
    (λ _. tested P (b == 59) _ _ (λ _. kept in_comment os f)
    (λ _. tested P (b == 40) _ _ (λ _. omega arith)
    (λ _. tested P (b == 41) _ _ (λ _. closed_deepens os f)
    (λ _. tested P (b == 34) _ _ (λ _. kept (in_text at []) os f)
    (λ _. tested P (is_atom_byte b) _ _ (λ _. kept (in_word at (b ∷ [])) os f) (λ _. tt))))))

-- An appended atom or string does not change the depth.
pub reached_same : (os : OpenLists) (f g : Forest) → list_nesting g ≡ 0
    → depth_reached os (joined_trees f g) ≡ depth_reached os f
reached_same os f g e = omega (arith, depth_reached-joined_trees os f g, length_le-depth_reached os f)

start_deepens_joined : (at b : ℕ) (os : OpenLists) (f g : Forest) → list_nesting g ≡ 0
    → IfSome (start at b os (joined_trees f g)) (Deepens os f)
start_deepens_joined at b os f g e =
    subst (λ (k : ℕ). IfSome (start at b os (joined_trees f g)) (λ t. depth_reached t.1 t.2 ≡ max k (length t.1)))
    (reached_same os f g e) (start_deepens at b os (joined_trees f g))

step_deepens : (m : Mode) (os : OpenLists) (f : Forest) (at b : ℕ) → IfSome (step m os f at b) (Deepens os f)
step_deepens gap os f at b = start_deepens at b os f
step_deepens in_comment os f at b = omega (arith, length_le-depth_reached os f)
step_deepens (in_word from name) os f at b =
    tested (λ (o : Option State). IfSome o (Deepens os f)) (is_atom_byte b) _ _
    (λ _. kept (in_word from (name ++ b ∷ [])) os f)
    (λ _. start_deepens_joined at b os f (atom from name empty) refl)
step_deepens (in_text from chars) os f at b =
    let P = (λ (o : Option State). IfSome o (Deepens os f)) in
    tested P (b == 34) _ _ (λ _. grown os f (text from chars empty) refl)
    (λ _. tested P (b == 92) _ _ (λ _. kept (in_escape from chars) os f)
    (λ _. tested P (nat_le 32 b) _ _ (λ _. kept (in_text from (chars ++ b ∷ [])) os f) (λ _. tt)))
step_deepens (in_escape from chars) os f at b =
    let P = (λ (o : Option State). IfSome o (Deepens os f)) in
    tested P (b == 34) _ _ (λ _. kept (in_text from (chars ++ 34 ∷ [])) os f)
    (λ _. tested P (b == 92) _ _ (λ _. kept (in_text from (chars ++ 92 ∷ [])) os f)
    (λ _. tested P (b == 110) _ _ (λ _. kept (in_text from (chars ++ 10 ∷ [])) os f) (λ _. tt)))

-- The depth of the next state.
pub next_deepens : (s t : State) (at b : ℕ) → next s at b ≡ Some t
    → depth_reached t.1 t.2 ≡ max (depth_reached s.1 s.2) (length t.1)
next_deepens s t at b e = subst (λ (o : Option State). IfSome o (Deepens s.1 s.2)) e (step_deepens s.0 s.1 s.2 at b)

all_closed_reaches : (os : OpenLists) (f g : Forest) → all_closed os f ≡ Some g → depth_reached os f ≡ list_nesting g
all_closed_reaches [] f g e = ap list_nesting (same_Some f g e)
all_closed_reaches (o ∷ os) f g e = cc

-- The depth at the end of the input is the nesting of the forest.
pub finish_reaches : (m : Mode) (os : OpenLists) (f g : Forest) → finish m os f ≡ Some g
    → depth_reached os f ≡ list_nesting g
finish_reaches gap os f g e = all_closed_reaches os f g e
finish_reaches in_comment os f g e = all_closed_reaches os f g e
finish_reaches (in_word from name) os f g e =
    sym (reached_same os f (atom from name empty) refl)
    ∙ all_closed_reaches os (joined_trees f (atom from name empty)) g e
finish_reaches (in_text from chars) os f g e = cc
finish_reaches (in_escape from chars) os f g e = cc

-- The state at the end of the input gives the forest of the whole input.
pub whole_is : (bytes : List ℕ) (i : ℕ) (s : State) → length bytes ≤ i → state_at bytes i ≡ Some s
    → whole bytes ≡ forest_at_end s
whole_is bytes i s le e =
    ap (option_and_then forest_at_end) (ap (run first_state 0) (sym (take_all i bytes le)) ∙ e)

-- A parenthesis that opens a list inside 100 others goes too deep.
goes_deep : (bytes : List ℕ) (i : ℕ) (s : State) (o : Option State) → i < length bytes
    → state_at bytes i ≡ Some s → IsShallow s
    → next s i (get_or bytes i 0) ≡ o → get_or bytes i 0 ≡ 40 → IsSomeAnd o (λ t. 100 < length t.1) → GoesDeep bytes i
goes_deep bytes i s None lt here shallow e k h = absurd h
goes_deep bytes i s (Some t) lt here shallow e k h = record {
  before = rw here shallow;
  within = lt;
  opens = k;
  deep = rw (walk_on bytes i s (Some t) lt here e) (omega (arith, length_le-depth_reached t.1 t.2));
}

-- The machine refuses the bytes if it rejects the next byte.
pub stops_refuses : (bytes : List ℕ) (i : ℕ) (s : State) (e : TextStop) → i < length bytes
    → state_at bytes i ≡ Some s → IsShallow s
    → Stops (next s i (get_or bytes i 0)) i (get_or bytes i 0) e → Refuses bytes e
stops_refuses bytes i s stops.NoMemory lt here shallow h = tt
stops_refuses bytes i s (stops.NotUtf8 p) lt here shallow h = h
stops_refuses bytes i s (stops.Bad p) lt here shallow h =
    subst (Fails bytes) (sym h.0) (record {
      before = rw here shallow;
      within = omega arith;
      stuck = λ _. walk_on bytes i s None lt here h.1;
      unfinished = λ e. absurd (omega (arith, e));
    })
stops_refuses bytes i s (stops.TooDeep p) lt here shallow h =
    subst (GoesDeep bytes) (sym h.0) (goes_deep bytes i s (next s i (get_or bytes i 0)) lt here shallow refl h.1 h.2)
