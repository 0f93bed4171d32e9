-- The machine reads each spelling of a forest as that forest.
use Rattle.std.proofs.Common.{subst, ◌≡◌, ℕ, ◌+◌, ◌==◌, suc, Bool, true, false, cond, ◌&&◌, not, List, [], ◌∷◌, ◌++◌, Some, refl, sym, ap, ◌∙◌, length, arith, append_assoc, nat_le}
use Rattle.std.proofs.lemmas.Bool.{eqb-true, false_from_ne_true}
use Rattle.std.proofs.lemmas.List.{append-nil, length-append}
use Rattle.std.proofs.lemmas.Option.{same_Some}
use Rattle.std.proofs.Math.Bool.{or-false, ◌||◌}
use Rattle.std.specs.List.{list_all}
use Rattle.std.specs.Option.{option_and_then}
use Rattle.sexp_text.specs.Forest.{Forest, empty, atom, text, list, joined_trees}
use Rattle.rt_values.specs.Values.{escape, escape_all}
use Rattle.sexp_text.specs.Grammar.{is_blank, is_atom_byte, is_char, is_name, is_comment, is_tail, Spelling, nothing, blank, comment, word, quoted, parens, spelling_bytes, begins_with_word, is_well_spelled, forest_at, Spells}
use Rattle.sexp_text.specs.Machine.{Mode, gap, in_comment, in_word, in_text, in_escape, OpenLists, State, start, step, run, finish, forest_at_end, whole}
use Rattle.sexp_text.proofs.Trees.{joined_trees-empty, joined_trees_assoc}
use Rattle.sexp_text.proofs.Walks.{run_on}

-- A true conjunction has two true sides.
pub both : (a b : Bool) → (a && b) ≡ true → (a ≡ true) × (b ≡ true)
both true b e = (refl, e)
both false b e = cc

-- A test is false if its negation is true.
pub negated : (a : Bool) → not a ≡ true → a ≡ false
negated true e = cc
negated false e = refl

-- The modes in which a new token may begin: outside of comments and strings.
abbrev pub IsBetween : Mode → Type 0
IsBetween gap = Unit {0}
IsBetween in_comment = ⊥
IsBetween (in_word from name) = Unit {0}
IsBetween (in_text from chars) = ⊥
IsBetween (in_escape from chars) = ⊥

-- The trees before an offset, with the unfinished atom appended.
abbrev pub settled : Mode → Forest → Forest
settled gap f = f
settled in_comment f = f
settled (in_word from name) f = joined_trees f (atom from name empty)
settled (in_text from chars) f = f
settled (in_escape from chars) f = f

-- A byte that is no byte of an atom ends an atom and begins the next token.
pub begins : (m : Mode) (os : OpenLists) (f : Forest) (at b : ℕ) → IsBetween m → is_atom_byte b ≡ false
    → step m os f at b ≡ start at b os (settled m f)
begins gap os f at b h e = refl
begins in_comment os f at b h e = absurd h
begins (in_word from name) os f at b h e =
    ap (λ w. cond w (Some (in_word from (name ++ b ∷ []), os, f))
    (start at b os (joined_trees f (atom from name empty)))) e
begins (in_text from chars) os f at b h e = absurd h
begins (in_escape from chars) os f at b h e = absurd h

none_of_four : (u v w x : Bool) → u ≡ false → v ≡ false → w ≡ false → x ≡ false → (u || v || w || x) ≡ true → ⊥
none_of_four u v w x e1 e2 e3 e4 h = let k : (u || v || w || x) ≡ false = rw (e1, e2, e3, e4) refl in cc

-- White space is no byte of an atom.
pub blank_no_atom : (b : ℕ) → is_blank b ≡ true → is_atom_byte b ≡ false
blank_no_atom b h = by (b == 32) (b == 9) (b == 10) (b == 13) refl refl refl refl where
  by : (u v w x : Bool) → b == 32 ≡ u → b == 9 ≡ v → b == 10 ≡ w → b == 13 ≡ x → is_atom_byte b ≡ false
  by true v w x e1 e2 e3 e4 = ap is_atom_byte (eqb-true b 32 e1)
  by false true w x e1 e2 e3 e4 = ap is_atom_byte (eqb-true b 9 e2)
  by false false true x e1 e2 e3 e4 = ap is_atom_byte (eqb-true b 10 e3)
  by false false false true e1 e2 e3 e4 = ap is_atom_byte (eqb-true b 13 e4)
  by false false false false e1 e2 e3 e4 = absurd (none_of_four _ _ _ _ e1 e2 e3 e4 h)

-- A byte of an atom differs from each byte that is not.
other_than : (b k : ℕ) → is_atom_byte b ≡ true → is_atom_byte k ≡ false → b == k ≡ false
other_than b k e other = false_from_ne_true (b == k)
    (λ s. let p : is_atom_byte b ≡ is_atom_byte k = ap is_atom_byte (eqb-true b k s) in cc)

not_blank : (b : ℕ) → is_atom_byte b ≡ true → is_blank b ≡ false
not_blank b e = false_from_ne_true (is_blank b) (λ s. let p : is_atom_byte b ≡ false = blank_no_atom b s in cc)

-- A byte of an atom begins an atom.
pub start_word : (at b : ℕ) (os : OpenLists) (f : Forest) → is_atom_byte b ≡ true
    → start at b os f ≡ Some (in_word at (b ∷ []), os, f)
start_word at b os f e = rw (
  not_blank b e,
  other_than b 59 e refl,
  other_than b 40 e refl,
  other_than b 41 e refl,
  other_than b 34 e refl,
  e,
) refl

-- The bytes of an atom are appended to the unfinished atom.
pub name_on : (bs : List ℕ) (from : ℕ) (name : List ℕ) (os : OpenLists) (f : Forest) (at : ℕ)
    → list_all is_atom_byte bs ≡ true
    → run (in_word from name, os, f) at bs ≡ Some (in_word from (name ++ bs), os, f)
name_on [] from name os f at h = ap (λ l. Some (in_word from l, os, f)) (sym (append-nil name))
name_on (b ∷ bs) from name os f at h =
    let p = both (is_atom_byte b) (list_all is_atom_byte bs) h in
    ap (λ w. option_and_then (λ t. run t (at + 1) bs)
    (cond w (Some (in_word from (name ++ b ∷ []), os, f)) (start at b os (joined_trees f (atom from name empty)))))
    p.0
    ∙ name_on bs from (name ++ b ∷ []) os f (at + 1) p.1
    ∙ ap (λ l. Some (in_word from l, os, f)) (append_assoc name (b ∷ []) bs)

-- A comment continues until LF.
pub comment_on : (bs : List ℕ) (os : OpenLists) (f : Forest) (at : ℕ) → is_comment bs ≡ true
    → run (in_comment, os, f) at bs ≡ Some (in_comment, os, f)
comment_on [] os f at h = refl
comment_on (b ∷ bs) os f at h =
    let p = both (not (b == 10)) (is_comment bs) h in
    ap (λ w. run (cond w gap in_comment, os, f) (at + 1) bs) (negated (b == 10) p.0)
    ∙ comment_on bs os f (at + 1) p.1

-- The spelling of a character is parsed as that character.
pub escape_on : (c : ℕ) (from : ℕ) (chars : List ℕ) (os : OpenLists) (f : Forest) (at : ℕ) → is_char c ≡ true
    → run (in_text from chars, os, f) at (escape c) ≡ Some (in_text from (chars ++ c ∷ []), os, f)
escape_on c from chars os f at h = by (c == 34) (c == 92) (c == 10) refl refl refl where
  by : (u v w : Bool) → c == 34 ≡ u → c == 92 ≡ v → c == 10 ≡ w
      → run (in_text from chars, os, f) at (escape c) ≡ Some (in_text from (chars ++ c ∷ []), os, f)
  by true v w e1 e2 e3 = subst (λ (x : ℕ). run (in_text from chars, os, f) at (escape x) ≡ Some
      (in_text from (chars ++ x ∷ []), os, f)) (sym (eqb-true c 34 e1)) refl
  by false true w e1 e2 e3 = subst (λ (x : ℕ). run (in_text from chars, os, f) at (escape x) ≡ Some
      (in_text from (chars ++ x ∷ []), os, f)) (sym (eqb-true c 92 e2)) refl
  by false false true e1 e2 e3 =
      subst (λ (x : ℕ). run (in_text from chars, os, f) at (escape x) ≡ Some (in_text from (chars ++ x ∷ []), os, f))
      (sym (eqb-true c 10 e3)) refl
  by false false false e1 e2 e3 =
      let k : nat_le 32 c ≡ true = sym (or-false (nat_le 32 c)) ∙ ap (λ (w : Bool). nat_le 32 c || w) (sym e3) ∙ h in
      let plain : escape c ≡ c ∷ [] = rw (e1, e2, e3) refl in
      ap (run (in_text from chars, os, f) at) plain ∙ rw (e1, e2, k) refl

-- The spelling of a string is parsed as its characters.
pub chars_on : (cs : List ℕ) (from : ℕ) (chars : List ℕ) (os : OpenLists) (f : Forest) (at : ℕ)
    → list_all is_char cs ≡ true
    → run (in_text from chars, os, f) at (escape_all cs) ≡ Some (in_text from (chars ++ cs), os, f)
chars_on [] from chars os f at h = ap (λ l. Some (in_text from l, os, f)) (sym (append-nil chars))
chars_on (c ∷ cs) from chars os f at h =
    let p = both (is_char c) (list_all is_char cs) h in
    run_on (escape c) (escape_all cs) (in_text from chars, os, f) (in_text from (chars ++ c ∷ []), os, f) at
    (escape_on c from chars os f at p.0)
    ∙ chars_on cs from (chars ++ c ∷ []) os f (at + length (escape c)) p.1
    ∙ ap (λ l. Some (in_text from l, os, f)) (append_assoc chars (c ∷ []) cs)

-- The mode and the trees after a spelling.
abbrev pub after_spelling : Mode → Forest → ℕ → Spelling → Mode × Forest
after_spelling m f at nothing = (m, f)
after_spelling m f at (blank b s) = after_spelling gap (settled m f) (at + 1) s
after_spelling m f at (comment cs s) = after_spelling gap (settled m f) (at + length cs + 2) s
after_spelling m f at (word name s) = after_spelling (in_word at name) (settled m f) (at + length name) s
after_spelling m f at (quoted chars s) =
    after_spelling gap (joined_trees (settled m f) (text at chars empty)) (at + length (escape_all chars) + 2) s
after_spelling m f at (parens inner s) =
    after_spelling gap (joined_trees (settled m f) (list at (forest_at (at + 1) inner) empty))
    (at + length (spelling_bytes inner) + 2) s

-- Whether the spelling may come next: no atom comes directly after an atom.
abbrev pub IsApart : Mode → Spelling → Type 0
IsApart gap s = Unit {0}
IsApart in_comment s = ⊥
IsApart (in_word from name) s = begins_with_word s ≡ false
IsApart (in_text from chars) s = ⊥
IsApart (in_escape from chars) s = ⊥

pub between-apart : (m : Mode) (s : Spelling) → IsApart m s → IsBetween m
between-apart gap s h = tt
between-apart in_comment s h = h
between-apart (in_word from name) s h = tt
between-apart (in_text from chars) s h = h
between-apart (in_escape from chars) s h = h

-- The mode after a spelling is between tokens.
pub after_spelling-between : (s : Spelling) (m : Mode) (f : Forest) (at : ℕ) → IsBetween m
    → IsBetween (after_spelling m f at s).0
after_spelling-between nothing m f at h = h
after_spelling-between (blank b s) m f at h = after_spelling-between s gap (settled m f) (at + 1) tt
after_spelling-between (comment cs s) m f at h = after_spelling-between s gap (settled m f) (at + length cs + 2) tt
after_spelling-between (word name s) m f at h =
    after_spelling-between s (in_word at name) (settled m f) (at + length name) tt
after_spelling-between (quoted chars s) m f at h =
    after_spelling-between s gap (joined_trees (settled m f) (text at chars empty))
    (at + length (escape_all chars) + 2) tt
after_spelling-between (parens inner s) m f at h =
    after_spelling-between s gap (joined_trees (settled m f) (list at (forest_at (at + 1) inner) empty))
    (at + length (spelling_bytes inner) + 2) tt

-- A spelling appends its forest to the trees before it.
pub after_spelling-settled : (s : Spelling) (m : Mode) (f : Forest) (at : ℕ)
    → settled (after_spelling m f at s).0 (after_spelling m f at s).1 ≡ joined_trees (settled m f) (forest_at at s)
after_spelling-settled nothing m f at = sym (joined_trees-empty (settled m f))
after_spelling-settled (blank b s) m f at = after_spelling-settled s gap (settled m f) (at + 1)
after_spelling-settled (comment cs s) m f at = after_spelling-settled s gap (settled m f) (at + length cs + 2)
after_spelling-settled (word name s) m f at =
    after_spelling-settled s (in_word at name) (settled m f) (at + length name)
    ∙ joined_trees_assoc (settled m f) (atom at name empty) (forest_at (at + length name) s)
after_spelling-settled (quoted chars s) m f at =
    after_spelling-settled s gap (joined_trees (settled m f) (text at chars empty))
    (at + length (escape_all chars) + 2)
    ∙ joined_trees_assoc (settled m f) (text at chars empty) (forest_at (at + length (escape_all chars) + 2) s)
after_spelling-settled (parens inner s) m f at =
    after_spelling-settled s gap (joined_trees (settled m f) (list at (forest_at (at + 1) inner) empty))
    (at + length (spelling_bytes inner) + 2)
    ∙ joined_trees_assoc (settled m f) (list at (forest_at (at + 1) inner) empty)
    (forest_at (at + length (spelling_bytes inner) + 2) s)

-- The state with the open lists `os` and the mode and trees of `p`.
abbrev pub beside : OpenLists → Mode × Forest → State
beside os p = (p.0, os, p.1)

-- The first byte of a token leads to the state that `start` gives.
pub begins_on : (m : Mode) (os : OpenLists) (f : Forest) (at b : ℕ) (bs : List ℕ) (t : State) → IsBetween m
    → is_atom_byte b ≡ false → start at b os (settled m f) ≡ Some t
    → run (m, os, f) at (b ∷ bs) ≡ run t (at + 1) bs
begins_on m os f at b bs t h e k = ap (option_and_then (λ u. run u (at + 1) bs)) (begins m os f at b h e ∙ k)

-- The modes in which an atom may begin.
abbrev pub IsReady : Mode → Type 0
IsReady m = (os : OpenLists) (f : Forest) (at b : ℕ) → step m os f at b ≡ start at b os (settled m f)

word_ready : (m : Mode) (name : List ℕ) (s : Spelling) → IsApart m (word name s) → IsReady m
word_ready gap name s k = λ os f at b. refl
word_ready in_comment name s k = absurd k
word_ready (in_word from other) name s k = cc
word_ready (in_text from chars) name s k = absurd k
word_ready (in_escape from chars) name s k = absurd k

-- The first byte of an atom leads to the mode `in_word`.
word_begins : (m : Mode) (os : OpenLists) (f : Forest) (at b : ℕ) (bs : List ℕ) → IsReady m → is_atom_byte b ≡ true
    → run (m, os, f) at (b ∷ bs) ≡ run (in_word at (b ∷ []), os, settled m f) (at + 1) bs
word_begins m os f at b bs ready e =
    ap (option_and_then (λ u. run u (at + 1) bs)) (ready os f at b ∙ start_word at b os (settled m f) e)

finish-between : (m : Mode) (f : Forest) → IsBetween m → finish m [] f ≡ Some (settled m f)
finish-between gap f h = refl
finish-between in_comment f h = absurd h
finish-between (in_word from name) f h = refl
finish-between (in_text from chars) f h = absurd h
finish-between (in_escape from chars) f h = absurd h

-- The machine parses a spelling to its mode and trees.
pub spelling_on : (s : Spelling) (m : Mode) (os : OpenLists) (f : Forest) (at : ℕ) (rest : List ℕ)
    → is_well_spelled s ≡ true → IsApart m s
    → run (m, os, f) at (spelling_bytes s ++ rest) ≡ run (beside os (after_spelling m f at s))
    (at + length (spelling_bytes s)) rest
spelling_on nothing m os f at rest h k = ap (λ n. run (m, os, f) n rest) (omega arith)
spelling_on (blank b s) m os f at rest h k =
    let p = both (is_blank b) (is_well_spelled s) h in
    begins_on m os f at b (spelling_bytes s ++ rest) (gap, os, settled m f) (between-apart m (blank b s) k)
    (blank_no_atom b p.0) (rw p.0 refl)
    ∙ spelling_on s gap os (settled m f) (at + 1) rest p.1 tt
    ∙ ap (λ n. run (beside os (after_spelling gap (settled m f) (at + 1) s)) n rest) (omega arith)
spelling_on (comment cs s) m os f at rest h k =
    let p = both (is_comment cs) (is_well_spelled s) h in
    let o : State = (in_comment, os, settled m f) in
    begins_on m os f at 59 ((cs ++ 10 ∷ spelling_bytes s) ++ rest) o (between-apart m (comment cs s) k) refl refl
    ∙ ap (run o (at + 1)) (append_assoc cs (10 ∷ spelling_bytes s) rest)
    ∙ run_on cs (10 ∷ spelling_bytes s ++ rest) o o (at + 1) (comment_on cs os (settled m f) (at + 1) p.0)
    ∙ ap (λ n. run (gap, os, settled m f) n (spelling_bytes s ++ rest)) (omega arith)
    ∙ spelling_on s gap os (settled m f) (at + length cs + 2) rest p.1 tt
    ∙ ap (λ n. run (beside os (after_spelling gap (settled m f) (at + length cs + 2) s)) n rest)
    (omega (arith, length-append cs (10 ∷ spelling_bytes s)))
spelling_on (word [] s) m os f at rest h k = cc
spelling_on (word (b ∷ bs) s) m os f at rest h k =
    let p = both (is_name (b ∷ bs) && not (begins_with_word s)) (is_well_spelled s) h in
    let q = both (is_name (b ∷ bs)) (not (begins_with_word s)) p.0 in
    let r = both (is_atom_byte b) (list_all is_atom_byte bs) q.0 in
    let o : State = (in_word at (b ∷ []), os, settled m f) in
    word_begins m os f at b ((bs ++ spelling_bytes s) ++ rest) (word_ready m (b ∷ bs) s k) r.0
    ∙ ap (run o (at + 1)) (append_assoc bs (spelling_bytes s) rest)
    ∙ run_on bs (spelling_bytes s ++ rest) o (in_word at (b ∷ bs), os, settled m f) (at + 1)
    (name_on bs at (b ∷ []) os (settled m f) (at + 1) r.1)
    ∙ ap (λ n. run (in_word at (b ∷ bs), os, settled m f) n (spelling_bytes s ++ rest)) (omega arith)
    ∙ spelling_on s (in_word at (b ∷ bs)) os (settled m f) (at + suc (length bs)) rest p.1
    (negated (begins_with_word s) q.1)
    ∙ ap (λ n. run (beside os (after_spelling (in_word at (b ∷ bs)) (settled m f) (at + suc (length bs)) s)) n rest)
    (omega (arith, length-append bs (spelling_bytes s)))
spelling_on (quoted chars s) m os f at rest h k =
    let p = both (list_all is_char chars) (is_well_spelled s) h in
    let o : State = (in_text at [], os, settled m f) in
    let g : Forest = joined_trees (settled m f) (text at chars empty) in
    begins_on m os f at 34 ((escape_all chars ++ 34 ∷ spelling_bytes s) ++ rest) o
    (between-apart m (quoted chars s) k) refl refl
    ∙ ap (run o (at + 1)) (append_assoc (escape_all chars) (34 ∷ spelling_bytes s) rest)
    ∙ run_on (escape_all chars) (34 ∷ spelling_bytes s ++ rest) o (in_text at chars, os, settled m f) (at + 1)
    (chars_on chars at [] os (settled m f) (at + 1) p.0)
    ∙ ap (λ n. run (gap, os, g) n (spelling_bytes s ++ rest)) (omega arith)
    ∙ spelling_on s gap os g (at + length (escape_all chars) + 2) rest p.1 tt
    ∙ ap (λ n. run (beside os (after_spelling gap g (at + length (escape_all chars) + 2) s)) n rest)
    (omega (arith, length-append (escape_all chars) (34 ∷ spelling_bytes s)))
spelling_on (parens inner s) m os f at rest h k =
    let p = both (is_well_spelled inner) (is_well_spelled s) h in
    let around : OpenLists = (at, settled m f) ∷ os in
    let t : Mode × Forest = after_spelling gap empty (at + 1) inner in
    let g : Forest = joined_trees (settled m f) (list at (forest_at (at + 1) inner) empty) in
    begins_on m os f at 40 ((spelling_bytes inner ++ 41 ∷ spelling_bytes s) ++ rest) (gap, around, empty)
    (between-apart m (parens inner s) k) refl refl
    ∙ ap (run (gap, around, empty) (at + 1)) (append_assoc (spelling_bytes inner) (41 ∷ spelling_bytes s) rest)
    ∙ spelling_on inner gap around empty (at + 1) (41 ∷ spelling_bytes s ++ rest) p.0 tt
    ∙ begins_on t.0 around t.1 (at + 1 + length (spelling_bytes inner)) 41 (spelling_bytes s ++ rest) (gap, os, g)
    (after_spelling-between inner gap empty (at + 1) tt) refl
    (ap (λ i. Some (gap, os, joined_trees (settled m f) (list at i empty)))
    (after_spelling-settled inner gap empty (at + 1)))
    ∙ ap (λ n. run (gap, os, g) n (spelling_bytes s ++ rest)) (omega arith)
    ∙ spelling_on s gap os g (at + length (spelling_bytes inner) + 2) rest p.1 tt
    ∙ ap (λ n. run (beside os (after_spelling gap g (at + length (spelling_bytes inner) + 2) s)) n rest)
    (omega (arith, length-append (spelling_bytes inner) (41 ∷ spelling_bytes s)))

-- A comment that the end of the input ends changes no tree.
pub tail_on : (tail : List ℕ) (m : Mode) (f : Forest) (at : ℕ) → IsBetween m → is_tail tail ≡ true
    → option_and_then forest_at_end (run (m, [], f) at tail) ≡ Some (settled m f)
tail_on [] m f at h e = finish-between m f h
tail_on (b ∷ bs) m f at h e =
    let p = both (b == 59) (is_comment bs) e in
    subst (λ (x : ℕ). option_and_then forest_at_end (run (m, [], f) at (x ∷ bs)) ≡ Some (settled m f))
    (sym (eqb-true b 59 p.0))
    (ap (option_and_then forest_at_end)
    (begins_on m [] f at 59 bs (in_comment, [], settled m f) h refl refl ∙ comment_on bs [] (settled m f) (at + 1) p.1))

-- The machine parses a text as the forest that it spells.
pub whole-spells : (bytes : List ℕ) (f : Forest) → Spells bytes f → whole bytes ≡ Some f
whole-spells bytes f s =
    let t : Mode × Forest = after_spelling gap empty 0 s.spelling in
    ap whole s.bytes_are
    ∙ ap (option_and_then forest_at_end) (spelling_on s.spelling gap [] empty 0 s.tail s.well_spelled tt)
    ∙ tail_on s.tail t.0 t.1 (0 + length (spelling_bytes s.spelling))
    (after_spelling-between s.spelling gap empty 0 tt) s.ends
    ∙ ap Some (after_spelling-settled s.spelling gap empty 0)
    ∙ ap Some (sym s.forest_is)

-- A text spells at most one forest.
pub spells_one : (bytes : List ℕ) (f g : Forest) → Spells bytes f → Spells bytes g → f ≡ g
spells_one bytes f g s t = same_Some f g (sym (whole-spells bytes f s) ∙ whole-spells bytes g t)
