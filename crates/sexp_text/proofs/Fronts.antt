-- The bytes before a state of the machine are a prefix of a text.
use Rattle.std.proofs.Common.{subst, ◌≡◌, ◌⊎◌, inl, inr, ◌≤◌, ◌<◌, ℕ, ◌+◌, ◌==◌, zero, suc, Bool, true, false, cond, ◌&&◌, List, [], ◌∷◌, ◌++◌, Some, None, refl, sym, ap, ◌∙◌, length, take, get_or, arith, nat_le}
use Rattle.std.proofs.Math.Bool.{◌||◌}
use Rattle.std.proofs.Math.Seq.{take-suc}
use Rattle.std.proofs.lemmas.Bool.{eqb-true, leb-true, leb-false}
use Rattle.std.proofs.lemmas.Str.{IsUtf8-append, IsUtf8-from_ascii, IsUtf8-take, IsCharBoundary-start, IsCharBoundary-after_ascii}
use Rattle.std.specs.Str.{IsUtf8, IsCharBoundary}
use Rattle.std.specs.declared.option.Option.{Option}
use Rattle.std.specs.Option.{option_and_then, IfSome}
use Rattle.sexp_text.specs.Forest.{Forest, empty, atom, text, list, joined_trees, list_nesting}
use Rattle.sexp_text.specs.Grammar.{is_blank, is_atom_byte, Spells}
use Rattle.sexp_text.specs.Machine.{Mode, gap, in_comment, in_word, in_text, in_escape, OpenLists, State, close_list, start, step, next, run, first_state, forest_at_end, state_at, depth_reached}
use Rattle.sexp_text.proofs.Walks.{tested, run_none, run_on, walk_on, depth_reached-joined_trees, reached_same, length_le-depth_reached}
use Rattle.sexp_text.proofs.Complete.{both}
use Rattle.sexp_text.proofs.Sound.{spells-whole}

-- The parentheses that close the open lists, and the resulting forest.
abbrev closing : OpenLists → List ℕ
closing [] = []
closing (o ∷ os) = 41 ∷ closing os

abbrev closes : OpenLists → Forest → Forest
closes [] f = f
closes (o ∷ os) f = closes os (joined_trees o.1 (list o.0 f empty))

closing_on : (os : OpenLists) (f : Forest) (at : ℕ) → run (gap, os, f) at (closing os) ≡ Some (gap, [], closes os f)
closing_on [] f at = refl
closing_on (o ∷ os) f at = closing_on os (joined_trees o.1 (list o.0 f empty)) (at + 1)

nesting-closes : (os : OpenLists) (f : Forest) → list_nesting (closes os f) ≡ depth_reached os f
nesting-closes [] f = refl
nesting-closes (o ∷ os) f =
    omega (
      arith,
      nesting-closes os (joined_trees o.1 (list o.0 f empty)),
      depth_reached-joined_trees os o.1 (list o.0 f empty),
      length_le-depth_reached os o.1,
    )

-- The bytes that end a comment or a string, and the resulting trees.
abbrev ending : Mode → List ℕ
ending gap = []
ending in_comment = 10 ∷ []
ending (in_word from name) = []
ending (in_text from chars) = 34 ∷ []
ending (in_escape from chars) = 34 ∷ 34 ∷ []

abbrev ended : Mode → Forest → Forest
ended gap f = f
ended in_comment f = f
ended (in_word from name) f = joined_trees f (atom from name empty)
ended (in_text from chars) f = joined_trees f (text from chars empty)
ended (in_escape from chars) f = joined_trees f (text from (chars ++ 34 ∷ []) empty)

word_closes : (from : ℕ) (name : List ℕ) (os : OpenLists) (f : Forest) (at : ℕ)
    → option_and_then forest_at_end (run (in_word from name, os, f) at (closing os)) ≡ Some
    (closes os (joined_trees f (atom from name empty)))
word_closes from name [] f at = refl
word_closes from name (o ∷ os) f at =
    ap (option_and_then forest_at_end)
    (closing_on os (joined_trees o.1 (list o.0 (joined_trees f (atom from name empty)) empty)) (at + 1))

completes : (m : Mode) (os : OpenLists) (f : Forest) (at : ℕ)
    → option_and_then forest_at_end (run (m, os, f) at (ending m ++ closing os)) ≡ Some (closes os (ended m f))
completes gap os f at = ap (option_and_then forest_at_end) (closing_on os f at)
completes in_comment os f at = ap (option_and_then forest_at_end) (closing_on os f (at + 1))
completes (in_word from name) os f at = word_closes from name os f at
completes (in_text from chars) os f at =
    ap (option_and_then forest_at_end) (closing_on os (joined_trees f (text from chars empty)) (at + 1))
completes (in_escape from chars) os f at =
    ap (option_and_then forest_at_end)
    (closing_on os (joined_trees f (text from (chars ++ 34 ∷ []) empty)) (at + 1 + 1))

depth_reached-ended : (m : Mode) (os : OpenLists) (f : Forest) → depth_reached os (ended m f) ≡ depth_reached os f
depth_reached-ended gap os f = refl
depth_reached-ended in_comment os f = refl
depth_reached-ended (in_word from name) os f = reached_same os f (atom from name empty) refl
depth_reached-ended (in_text from chars) os f = reached_same os f (text from chars empty) refl
depth_reached-ended (in_escape from chars) os f = reached_same os f (text from (chars ++ 34 ∷ []) empty) refl

-- A single ASCII byte is UTF-8.
pub ascii_one : (b : ℕ) → b < 128 → IsUtf8 (b ∷ [])
ascii_one b lt = IsUtf8-from_ascii (b ∷ []) (each b lt) where
  each : (b : ℕ) → b < 128 → (i : ℕ) → get_or (b ∷ []) i 0 < 128
  each b lt zero = lt
  each b lt (suc i) = omega arith

closing_utf8 : (os : OpenLists) → IsUtf8 (closing os)
closing_utf8 [] = ([], (refl, refl))
closing_utf8 (o ∷ os) = IsUtf8-append (41 ∷ []) (closing os) (ascii_one 41 (omega arith)) (closing_utf8 os)

ending_utf8 : (m : Mode) → IsUtf8 (ending m)
ending_utf8 gap = ([], (refl, refl))
ending_utf8 in_comment = ascii_one 10 (omega arith)
ending_utf8 (in_word from name) = ([], (refl, refl))
ending_utf8 (in_text from chars) = ascii_one 34 (omega arith)
ending_utf8 (in_escape from chars) =
    IsUtf8-append (34 ∷ []) (34 ∷ []) (ascii_one 34 (omega arith)) (ascii_one 34 (omega arith))

-- A text that begins with the given bytes and nests no deeper than the machine so far.
pub record Completed (bytes : List ℕ) (depth : ℕ) : Type 0 where
  pub more : List ℕ
  pub forest : Forest
  pub spells : Spells (bytes ++ more) forest
  pub deep : list_nesting forest ≡ depth

-- Bytes that lead to a state are a prefix of a text.
pub completed : (bytes : List ℕ) (s : State) → IsUtf8 bytes → run first_state 0 bytes ≡ Some s
    → Completed bytes (depth_reached s.1 s.2)
completed bytes s utf8 e =
    let more = ending s.0 ++ closing s.1 in
    let f = closes s.1 (ended s.0 s.2) in
    record {
      more = more;
      forest = f;
      spells = spells-whole (bytes ++ more) f
          (IsUtf8-append bytes more utf8
          (IsUtf8-append (ending s.0) (closing s.1) (ending_utf8 s.0) (closing_utf8 s.1)))
          (ap (option_and_then forest_at_end) (run_on bytes more first_state s 0 e)
          ∙ completes s.0 s.1 s.2 (0 + length bytes));
      deep = nesting-closes s.1 (ended s.0 s.2) ∙ depth_reached-ended s.0 s.1 s.2;
    }

-- A case split on a true disjunction.
either : (P : Type 0) (u v : Bool) → (u ≡ true → P) → (v ≡ true → P) → (u || v) ≡ true → P
either P true v l r h = l refl
either P false v l r h = r h

is_ascii : (b k : ℕ) → k < 128 → b == k ≡ true → b < 128
is_ascii b k lt e = let same : b ≡ k = eqb-true b k e in omega arith

within_ascii : (b k n : ℕ) → n < 128 → (nat_le k b && nat_le b n) ≡ true → b < 128
within_ascii b k n lt e = let le : b ≤ n = leb-true b n (both (nat_le k b) (nat_le b n) e).1 in omega arith

pub blank_ascii : (b : ℕ) → is_blank b ≡ true → b < 128
blank_ascii b =
    let P : Type 0 = b < 128 in
    either P _ _ (either P _ _ (either P _ _ (is_ascii b 32 (omega arith)) (is_ascii b 9 (omega arith)))
    (is_ascii b 10 (omega arith))) (is_ascii b 13 (omega arith))

pub atom_ascii : (b : ℕ) → is_atom_byte b ≡ true → b < 128
atom_ascii b =
    let P : Type 0 = b < 128 in
    either P _ _ (either P _ _ (either P _ _
    (either P _ _ (either P _ _ (either P _ _
    (either P _ _ (either P _ _ (either P _ _
    (either P _ _ (either P _ _ (either P _ _
    (either P _ _ (within_ascii b 97 122 (omega arith)) (within_ascii b 65 90 (omega arith)))
    (within_ascii b 48 57 (omega arith)))
    (is_ascii b 43 (omega arith)))
    (is_ascii b 45 (omega arith)))
    (is_ascii b 42 (omega arith)))
    (is_ascii b 47 (omega arith)))
    (is_ascii b 37 (omega arith)))
    (is_ascii b 60 (omega arith)))
    (is_ascii b 62 (omega arith)))
    (is_ascii b 61 (omega arith)))
    (is_ascii b 33 (omega arith)))
    (is_ascii b 63 (omega arith)))
    (is_ascii b 95 (omega arith))

-- The modes that no byte of a longer character leads to.
abbrev pub IsSharp : Mode → Type 0
IsSharp gap = Unit {0}
IsSharp in_comment = ⊥
IsSharp (in_word from name) = Unit {0}
IsSharp (in_text from chars) = ⊥
IsSharp (in_escape from chars) = Unit {0}

-- A byte that leads to a mode with `IsSharp` is ASCII.
abbrev SharpAscii : ℕ → State → Type 0
SharpAscii b t = IsSharp t.0 → b < 128

closed_ascii : (b : ℕ) (os : OpenLists) (f : Forest) → b < 128 → IfSome (close_list os f) (SharpAscii b)
closed_ascii b [] f lt = tt
closed_ascii b (o ∷ os) f lt = λ _. lt

start_ascii : (at b : ℕ) (os : OpenLists) (f : Forest) → IfSome (start at b os f) (SharpAscii b)
start_ascii at b os f =
    let P = (λ (o : Option State). IfSome o (SharpAscii b)) in
    tested P (is_blank b) _ _ (λ e _. blank_ascii b e)
    (λ _. tested P (b == 59) _ _ (λ _ sharp. absurd sharp)
    (λ _. tested P (b == 40) _ _ (λ e _. is_ascii b 40 (omega arith) e)
    (λ _. tested P (b == 41) _ _ (λ e. closed_ascii b os f (is_ascii b 41 (omega arith) e))
    (λ _. tested P (b == 34) _ _ (λ _ sharp. absurd sharp)
    (λ _. tested P (is_atom_byte b) _ _ (λ e _. atom_ascii b e) (λ _. tt))))))

comment_ascii : (w : Bool) (b : ℕ) → b == 10 ≡ w → IsSharp (cond w gap in_comment) → b < 128
comment_ascii true b e sharp = is_ascii b 10 (omega arith) e
comment_ascii false b e sharp = absurd sharp

step_ascii : (m : Mode) (os : OpenLists) (f : Forest) (at b : ℕ) → IfSome (step m os f at b) (SharpAscii b)
step_ascii gap os f at b = start_ascii at b os f
step_ascii in_comment os f at b = comment_ascii (b == 10) b refl
step_ascii (in_word from name) os f at b =
    tested (λ (o : Option State). IfSome o (SharpAscii b)) (is_atom_byte b) _ _ (λ e _. atom_ascii b e)
    (λ _. start_ascii at b os (joined_trees f (atom from name empty)))
step_ascii (in_text from chars) os f at b =
    let P = (λ (o : Option State). IfSome o (SharpAscii b)) in
    tested P (b == 34) _ _ (λ e _. is_ascii b 34 (omega arith) e)
    (λ _. tested P (b == 92) _ _ (λ e _. is_ascii b 92 (omega arith) e)
    (λ _. tested P (nat_le 32 b) _ _ (λ _ sharp. absurd sharp) (λ _. tt)))
step_ascii (in_escape from chars) os f at b =
    let P = (λ (o : Option State). IfSome o (SharpAscii b)) in
    tested P (b == 34) _ _ (λ e _. is_ascii b 34 (omega arith) e)
    (λ _. tested P (b == 92) _ _ (λ e _. is_ascii b 92 (omega arith) e)
    (λ _. tested P (b == 110) _ _ (λ e _. is_ascii b 110 (omega arith) e) (λ _. tt)))

-- An offset with a mode that no byte of a longer character leads to is a character boundary.
sharp_boundary : (bytes : List ℕ) (i : ℕ) (s : State) → IsUtf8 bytes → i ≤ length bytes → state_at bytes i ≡ Some s
    → IsSharp s.0 → IsCharBoundary bytes i
sharp_boundary bytes zero s utf8 le e sharp = IsCharBoundary-start bytes utf8
sharp_boundary bytes (suc j) s utf8 le e sharp = from (state_at bytes j) refl where
  from : (o : Option State) → state_at bytes j ≡ o → IsCharBoundary bytes (suc j)
  from None n = let stuck : state_at bytes (suc j) ≡ None = ap (run first_state 0) (take-suc bytes j 0 le)
      ∙ run_none (take j bytes) (get_or bytes j 0 ∷ []) first_state 0 n in cc
  from (Some t) n =
      let moved : next t j (get_or bytes j 0) ≡ Some s =
      sym (walk_on bytes j t (next t j (get_or bytes j 0)) le n refl) ∙ e in
      let ascii : get_or bytes j 0 < 128 = subst (λ (o : Option State). IfSome o (SharpAscii (get_or bytes j 0))) moved
      (step_ascii t.0 t.1 t.2 j (get_or bytes j 0)) sharp in
      subst (IsCharBoundary bytes) (omega arith) (IsCharBoundary-after_ascii bytes j utf8 le ascii)

-- The machine rejects a byte only in a mode with `IsSharp`, or if the byte is ASCII.
stuck_boundary : (m : Mode) (os : OpenLists) (f : Forest) (at b : ℕ) → step m os f at b ≡ None → (IsSharp m) ⊎ (b < 128)
stuck_boundary gap os f at b e = inl tt
stuck_boundary in_comment os f at b e = cc
stuck_boundary (in_word from name) os f at b e = inl tt
stuck_boundary (in_text from chars) os f at b e =
    let P = (λ (o : Option State). o ≡ None → b < 128) in
    inr (tested P (b == 34) _ _ (λ _ h. cc)
    (λ _. tested P (b == 92) _ _ (λ _ h. cc) (λ _. tested P (nat_le 32 b) _ _ (λ _ h. cc)
    (λ lt _. let below : b < 32 = leb-false 32 b lt in omega arith))) e)
stuck_boundary (in_escape from chars) os f at b e = inl tt

-- The offset of a parenthesis or of a rejected byte is a character boundary.
boundary : (bytes : List ℕ) (i : ℕ) (s : State) → IsUtf8 bytes → i < length bytes → state_at bytes i ≡ Some s
    → (next s i (get_or bytes i 0) ≡ None) ⊎ (get_or bytes i 0 ≡ 40)
    → IsCharBoundary bytes i
boundary bytes i s utf8 lt e (inr k) = (omega arith, λ _ large. absurd (omega (arith, k, large)))
boundary bytes i s utf8 lt e (inl none) = from (stuck_boundary s.0 s.1 s.2 i (get_or bytes i 0) none) where
  from : (IsSharp s.0) ⊎ (get_or bytes i 0 < 128) → IsCharBoundary bytes i
  from (inl sharp) = sharp_boundary bytes i s utf8 (omega arith) e sharp
  from (inr small) = (omega arith, λ _ large. absurd (omega (arith, small, large)))

pub front_utf8 : (bytes : List ℕ) (i : ℕ) (s : State) → IsUtf8 bytes → i < length bytes → state_at bytes i ≡ Some s
    → (next s i (get_or bytes i 0) ≡ None) ⊎ (get_or bytes i 0 ≡ 40) → IsUtf8 (take i bytes)
front_utf8 bytes i s utf8 lt e h = IsUtf8-take bytes i utf8 (boundary bytes i s utf8 lt e h)
