-- Internal: the parser as a machine that takes one byte a step.
use Rattle.std.specs.Prelude.{slice_index, ◌≡◌, ◌<◌, ◌≤◌, take, ℕ, ◌+◌, ◌==◌, ◌&&◌, Bool, not, nat_le, max, suc, List, [], ◌∷◌, ◌++◌, map, reverse, length, Option, Some, None, if◌then◌else◌, Vec}
use Rattle.std.specs.Option.{option_and_then, IsSomeAnd}
use Rattle.std.specs.declared.alloc.Global.{Global}
use Rattle.sexp_text.specs.Forest.{Forest, empty, atom, text, list, joined_trees, list_nesting}
use Rattle.sexp_text.specs.Grammar.{is_blank, is_atom_byte}
use Rattle.sexp_text.specs.View.{forest_view}
use Rattle.sexp_text.specs.declared.tree.Tree.{Tree}
use Rattle.sexp_text.specs.declared.stop.TextStop.{TextStop}
use Rattle.sexp_text.specs.declared.stop.TextStop.TheVariants as stops
use Rattle.sexp_text.specs.declared.reader.Reader.{Reader}

-- The token that a byte belongs to: none, a comment, an atom or a string that began at an offset, or an escape.
pub data Mode : Type 0 where
  gap : Mode
  in_comment : Mode
  in_word : (from : ℕ) → (name : List ℕ) → Mode
  in_text : (from : ℕ) → (chars : List ℕ) → Mode
  in_escape : (from : ℕ) → (chars : List ℕ) → Mode

-- The open lists, the innermost first: the offset of the parenthesis, and the trees before it.
abbrev pub OpenLists : Type 0
OpenLists = List (ℕ × Forest)

-- The token, the open lists, and the trees so far in the innermost of them.
abbrev pub State : Type 0
State = Mode × OpenLists × Forest

-- The state after a parenthesis that closes the innermost list. None if no list is open.
abbrev pub close_list : OpenLists → Forest → Option State
close_list [] f = None
close_list (o ∷ os) f = Some (gap, os, joined_trees o.1 (list o.0 f empty))

-- The state after a byte between tokens.
abbrev pub start : ℕ → ℕ → OpenLists → Forest → Option State
start at b os f =
    if is_blank b then Some (gap, os, f)
    else if b == 59 then Some (in_comment, os, f)
    else if b == 40 then Some (gap, (at, f) ∷ os, empty)
    else if b == 41 then close_list os f
    else if b == 34 then Some (in_text at [], os, f)
    else if is_atom_byte b then Some (in_word at (b ∷ []), os, f)
    else None

-- The state after the byte `b` at the offset `at`. None if no text has it there.
abbrev pub step : Mode → OpenLists → Forest → ℕ → ℕ → Option State
step gap os f at b = start at b os f
step in_comment os f at b = Some (if b == 10 then gap else in_comment, os, f)
step (in_word from name) os f at b =
    if is_atom_byte b then Some (in_word from (name ++ b ∷ []), os, f)
    else start at b os (joined_trees f (atom from name empty))
step (in_text from chars) os f at b =
    if b == 34 then Some (gap, os, joined_trees f (text from chars empty))
    else if b == 92 then Some (in_escape from chars, os, f)
    else if nat_le 32 b then Some (in_text from (chars ++ b ∷ []), os, f)
    else None
step (in_escape from chars) os f at b =
    if b == 34 then Some (in_text from (chars ++ 34 ∷ []), os, f)
    else if b == 92 then Some (in_text from (chars ++ 92 ∷ []), os, f)
    else if b == 110 then Some (in_text from (chars ++ 10 ∷ []), os, f)
    else None

-- The state after the byte `b` at the offset `at`, from the state `s`.
abbrev pub next : State → ℕ → ℕ → Option State
next s at b = step s.0 s.1 s.2 at b

-- The state after bytes that begin at an offset.
abbrev pub run : State → ℕ → List ℕ → Option State
run s at [] = Some s
run s at (b ∷ bs) = option_and_then (λ t. run t (at + 1) bs) (next s at b)

-- The state before the first byte.
abbrev pub first_state : State
first_state = (gap, [], empty)

-- The forest, if no list is open.
abbrev pub all_closed : OpenLists → Forest → Option Forest
all_closed [] f = Some f
all_closed (o ∷ os) f = None

-- The forest at the end of the input.
abbrev pub finish : Mode → OpenLists → Forest → Option Forest
finish gap os f = all_closed os f
finish in_comment os f = all_closed os f
finish (in_word from name) os f = all_closed os (joined_trees f (atom from name empty))
finish (in_text from chars) os f = None
finish (in_escape from chars) os f = None

abbrev pub forest_at_end : State → Option Forest
forest_at_end s = finish s.0 s.1 s.2

-- The depth of nesting so far, with the open lists.
abbrev pub depth_reached : OpenLists → Forest → ℕ
depth_reached [] f = list_nesting f
depth_reached (o ∷ os) f = max (depth_reached os o.1) (suc (length os) + list_nesting f)

-- The open lists in memory, where the innermost is the last.
abbrev pub around_view : List (ℕ × Vec Tree Global) → OpenLists
around_view os = reverse (map (λ o. (o.0, forest_view o.1.items)) os)

-- The open lists of a parser, and the trees so far in the innermost.
abbrev pub lists : Reader → OpenLists
lists r = around_view r.around.items

abbrev pub trees : Reader → Forest
trees r = forest_view r.current.items

-- The state of a parser between tokens.
abbrev pub state_of : Reader → State
state_of r = (gap, lists r, trees r)

-- Why a byte is not taken: memory ran out, or the machine has no next state, or a parenthesis would open a list
-- inside 100 others.
abbrev pub Stops : Option State → ℕ → ℕ → TextStop → Type 0
Stops after at b stops.NoMemory = Unit {0}
Stops after at b (stops.Bad p) = (p ≡ at) × (after ≡ None)
Stops after at b (stops.TooDeep p) = (p ≡ at) × (b ≡ 40) × IsSomeAnd after (λ t. 100 < length t.1)
Stops after at b (stops.NotUtf8 p) = ⊥

-- The state before the byte at an offset.
abbrev pub state_at : List ℕ → ℕ → Option State
state_at bytes at = run first_state 0 (take at bytes)

-- The forest of the whole input.
abbrev pub whole : List ℕ → Option Forest
whole bytes = option_and_then forest_at_end (run first_state 0 bytes)

-- The lists of a state nest at most 100 deep.
abbrev pub IsShallow : State → Type 0
IsShallow s = depth_reached s.1 s.2 ≤ 100

-- The machine stops at an offset: there is no state after the byte there, or no forest at the end.
pub record Fails (bytes : List ℕ) (at : ℕ) : Type 0 where
  pub before : IsSomeAnd (state_at bytes at) IsShallow
  pub within : at ≤ length bytes
  pub stuck : at < length bytes → state_at bytes (suc at) ≡ None
  pub unfinished : at ≡ length bytes → whole bytes ≡ None

-- The parenthesis at the offset is the first that opens a list inside 100 others.
pub record GoesDeep (bytes : List ℕ) (at : ℕ) : Type 0 where
  pub before : IsSomeAnd (state_at bytes at) IsShallow
  pub within : at < length bytes
  pub opens : slice_index bytes at ≡ 40
  pub deep : IsSomeAnd (state_at bytes (suc at)) (λ s. 100 < depth_reached s.1 s.2)

-- Why the machine refuses bytes.
abbrev pub Refuses : List ℕ → TextStop → Type 0
Refuses bytes stops.NoMemory = Unit {0}
Refuses bytes (stops.Bad at) = Fails bytes at
Refuses bytes (stops.TooDeep at) = GoesDeep bytes at
Refuses bytes (stops.NotUtf8 at) = ⊥

-- A byte that stands for itself in a string.
abbrev pub is_plain : ℕ → Bool
is_plain c = nat_le 32 c && not (c == 34) && not (c == 92)

-- From the one mode at the one offset the machine comes to the other mode at the other offset, whatever lists are open.
abbrev pub Leads : List ℕ → ℕ → Mode → ℕ → Mode → Type 0
Leads bytes i m j n = (os : OpenLists) → (f : Forest) → state_at bytes i ≡ Some (m, os, f)
    → state_at bytes j ≡ Some (n, os, f)

-- The string that begins at the one offset has these bytes and ends before the other.
abbrev pub EndsText : List ℕ → ℕ → List ℕ → ℕ → Type 0
EndsText bytes from chars end = (os : OpenLists) → (f : Forest)
    → state_at bytes (suc from) ≡ Some (in_text from [], os, f)
    → state_at bytes end ≡ Some (gap, os, joined_trees f (text from chars empty))

-- The machine refuses the bytes if it is in the mode at the offset.
abbrev pub RefusesAfter : List ℕ → ℕ → Mode → TextStop → Type 0
RefusesAfter bytes i m stop = (os : OpenLists) → (f : Forest) → depth_reached os f ≤ 100
    → state_at bytes i ≡ Some (m, os, f) → Refuses bytes stop

-- The machine is between tokens at the offset, with these open lists and trees. The machine continues as from a gap,
-- also after the last byte of an atom, and after the last byte of a comment before its LF.
pub record Rests (bytes : List ℕ) (at : ℕ) (os : OpenLists) (f : Forest) : Type 0 where
  pub state : State
  pub here : state_at bytes at ≡ Some state
  pub reached : depth_reached state.1 state.2 ≡ depth_reached os f
  pub shallow : depth_reached os f ≤ 100
  pub goes_on : at < length bytes → next state at (slice_index bytes at) ≡ start at (slice_index bytes at) os f
  pub ends : length bytes ≤ at → forest_at_end state ≡ all_closed os f
