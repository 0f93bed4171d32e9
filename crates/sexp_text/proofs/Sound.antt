-- What the machine reads as a forest is a spelling of it.
use Rattle.std.proofs.Common.{subst, ◌≡◌, ◌⊎◌, inl, inr, ℕ, ◌+◌, ◌==◌, suc, Bool, true, false, cond, ◌&&◌, not, List, [], ◌∷◌, ◌++◌, Some, None, refl, sym, ap, ◌∙◌, length, arith, append_assoc, nat_le}
use Rattle.std.proofs.Math.Bool.{◌||◌}
use Rattle.std.proofs.lemmas.Bool.{eqb-true, false_from_ne_true}
use Rattle.std.proofs.lemmas.List.{append-nil, length-append}
use Rattle.std.proofs.lemmas.Option.{same_Some, IfSome_then}
use Rattle.std.specs.List.{list_all}
use Rattle.std.specs.Str.{IsUtf8}
use Rattle.std.specs.declared.option.Option.{Option}
use Rattle.std.specs.Option.{option_and_then, IfSome}
use Rattle.sexp_text.specs.Forest.{Forest, empty, atom, text, list, joined_trees}
use Rattle.rt_values.specs.Values.{escape, escape_all}
use Rattle.sexp_text.specs.Grammar.{is_blank, is_atom_byte, is_char, is_name, is_comment, is_tail, Spelling, nothing, blank, comment, word, quoted, parens, spelling_bytes, begins_with_word, is_well_spelled, forest_at, Spells}
use Rattle.sexp_text.specs.Machine.{Mode, gap, in_comment, in_word, in_text, in_escape, OpenLists, State, close_list, start, step, next, run, first_state, finish, forest_at_end, all_closed, whole}
use Rattle.sexp_text.proofs.Trees.{joined_trees-empty, joined_trees_assoc}
use Rattle.sexp_text.proofs.Walks.{tested}
use Rattle.sexp_text.proofs.Complete.{both}

-- The rest of the input between tokens: the trees up to the parenthesis that closes the innermost list and the rest
-- after that parenthesis, or the last trees.
abbrev pub Remains : OpenLists → Forest → ℕ → List ℕ → Forest → Type 0
Remains [] f at bs g = (s : Spelling) × (tail : List ℕ) × (is_well_spelled s ≡ true) × (is_tail tail ≡ true)
    × (bs ≡ spelling_bytes s ++ tail) × (g ≡ joined_trees f (forest_at at s))
Remains (o ∷ os) f at bs g = (s : Spelling) × (more : List ℕ) × (is_well_spelled s ≡ true)
    × (bs ≡ spelling_bytes s ++ 41 ∷ more)
    × Remains os (joined_trees o.1 (list o.0 (joined_trees f (forest_at at s)) empty))
    (at + length (spelling_bytes s) + 1) more g

-- A part before the rest of the input is parsed as the next part of the spelling.
prepend : (p : Spelling → Spelling) (at : ℕ) (front : List ℕ) (trees : Forest) (bs : List ℕ)
    → ((s : Spelling) → spelling_bytes (p s) ≡ front ++ spelling_bytes s)
    → ((s : Spelling) → forest_at at (p s) ≡ joined_trees trees (forest_at (at + length front) s))
    → ((s : Spelling) (rest : List ℕ) → is_well_spelled s ≡ true → bs ≡ spelling_bytes s ++ rest
    → is_well_spelled (p s) ≡ true)
    → (os : OpenLists) (f g : Forest) → Remains os (joined_trees f trees) (at + length front) bs g
    → Remains os f at (front ++ bs) g
prepend p at front trees bs writes reads fits [] f g r = (
  p r.0,
  r.1,
  fits r.0 r.1 r.2 r.4,
  r.3,
  ap (λ l. front ++ l) r.4 ∙ sym (append_assoc front (spelling_bytes r.0) r.1) ∙ ap (λ l. l ++ r.1) (sym (writes r.0)),
  r.5 ∙ joined_trees_assoc f trees (forest_at (at + length front) r.0) ∙ ap (joined_trees f) (sym (reads r.0)),
)
prepend p at front trees bs writes reads fits (o ∷ os) f g r =
    let trees_are : joined_trees (joined_trees f trees) (forest_at (at + length front) r.0) ≡ joined_trees f
    (forest_at at (p r.0))
    = joined_trees_assoc f trees (forest_at (at + length front) r.0) ∙ ap (joined_trees f) (sym (reads r.0)) in
    let long : length (spelling_bytes (p r.0)) ≡ length front + length (spelling_bytes r.0) =
    ap length (writes r.0) ∙ length-append front (spelling_bytes r.0) in
    let place : at + length front + length (spelling_bytes r.0) + 1 ≡ at + length (spelling_bytes (p r.0)) + 1 =
    omega arith in (
      p r.0,
      r.1,
      fits r.0 (41 ∷ r.1) r.2 r.3,
      ap (λ l. front ++ l) r.3 ∙ sym (append_assoc front (spelling_bytes r.0) (41 ∷ r.1))
          ∙ ap (λ l. l ++ 41 ∷ r.1) (sym (writes r.0)),
      subst (λ (n : ℕ). Remains os (joined_trees o.1 (list o.0 (joined_trees f (forest_at at (p r.0))) empty)) n r.1 g)
          place
          (subst (λ (h : Forest). Remains os (joined_trees o.1 (list o.0 h empty))
          (at + length front + length (spelling_bytes r.0) + 1) r.1 g) trees_are r.4),
    )

-- The rest of the input at an equal offset and with an equal forest.
moved : (os : OpenLists) (f h : Forest) (at to : ℕ) (bs : List ℕ) (g : Forest) → f ≡ h → at ≡ to → Remains os f at bs g
    → Remains os h to bs g
moved os f h at to bs g e k r =
    subst (λ (n : ℕ). Remains os h n bs g) k (subst (λ (x : Forest). Remains os x at bs g) e r)

blank_before : (b at : ℕ) (bs : List ℕ) (os : OpenLists) (f g : Forest) → is_blank b ≡ true → Remains os f (at + 1) bs g
    → Remains os f at (b ∷ bs) g
blank_before b at bs os f g e r =
    prepend (blank b) at (b ∷ []) empty bs (λ s. refl) (λ s. refl) (λ s rest h _. rw (e, h) refl) os f g
    (moved os f (joined_trees f empty) (at + 1) (at + 1) bs g (sym (joined_trees-empty f)) refl r)

comment_before : (cs : List ℕ) (at : ℕ) (bs : List ℕ) (os : OpenLists) (f g : Forest) → is_comment cs ≡ true
    → Remains os f (at + length cs + 2) bs g
    → Remains os f at (59 ∷ cs ++ 10 ∷ bs) g
comment_before cs at bs os f g e r =
    subst (λ (l : List ℕ). Remains os f at l g) (ap (λ l. 59 ∷ l) (append_assoc cs (10 ∷ []) bs))
    (prepend (comment cs) at (59 ∷ cs ++ 10 ∷ []) empty bs
    (λ s. ap (λ l. 59 ∷ l) (sym (append_assoc cs (10 ∷ []) (spelling_bytes s))))
    (λ s. ap (λ n. forest_at n s) (omega (arith, length-append cs (10 ∷ [])))) (λ s rest h _. rw (e, h) refl) os f g
    (moved os f (joined_trees f empty) (at + length cs + 2) (at + length (59 ∷ cs ++ 10 ∷ [])) bs g
    (sym (joined_trees-empty f)) (omega (arith, length-append cs (10 ∷ []))) r))

open_before : (at : ℕ) (bs : List ℕ) (os : OpenLists) (f g : Forest) → Remains ((at, f) ∷ os) empty (at + 1) bs g
    → Remains os f at (40 ∷ bs) g
open_before at bs os f g r =
    let inner = spelling_bytes r.0 in
    subst (λ (l : List ℕ). Remains os f at l g) (ap (λ l. 40 ∷ l) (append_assoc inner (41 ∷ []) r.1 ∙ sym r.3))
    (prepend (parens r.0) at (40 ∷ inner ++ 41 ∷ []) (list at (forest_at (at + 1) r.0) empty) r.1
    (λ s. ap (λ l. 40 ∷ l) (sym (append_assoc inner (41 ∷ []) (spelling_bytes s))))
    (λ s. ap (λ n. list at (forest_at (at + 1) r.0) (forest_at n s)) (omega (arith, length-append inner (41 ∷ []))))
    (λ s rest h _. rw (r.2, h) refl) os f g
    (moved os (joined_trees f (list at (forest_at (at + 1) r.0) empty))
    (joined_trees f (list at (forest_at (at + 1) r.0) empty)) (at + 1 + length inner + 1)
    (at + length (40 ∷ inner ++ 41 ∷ [])) r.1 g refl (omega (arith, length-append inner (41 ∷ []))) r.4))

close_before : (o : ℕ × Forest) (at : ℕ) (bs : List ℕ) (os : OpenLists) (f g : Forest)
    → Remains os (joined_trees o.1 (list o.0 f empty)) (at + 1) bs g → Remains (o ∷ os) f at (41 ∷ bs) g
close_before o at bs os f g r = (
  nothing,
  bs,
  refl,
  refl,
  moved os (joined_trees o.1 (list o.0 f empty)) (joined_trees o.1 (list o.0 (joined_trees f empty) empty)) (at + 1)
      (at + 0 + 1) bs g
      (ap (λ h. joined_trees o.1 (list o.0 h empty)) (sym (joined_trees-empty f))) (omega arith) r,
)

text_before : (cs : List ℕ) (at : ℕ) (bs : List ℕ) (os : OpenLists) (f g : Forest) → list_all is_char cs ≡ true
    → Remains os (joined_trees f (text at cs empty)) (at + length (escape_all cs) + 2) bs g
    → Remains os f at (34 ∷ escape_all cs ++ 34 ∷ bs) g
text_before cs at bs os f g e r =
    subst (λ (l : List ℕ). Remains os f at l g) (ap (λ l. 34 ∷ l) (append_assoc (escape_all cs) (34 ∷ []) bs))
    (prepend (quoted cs) at (34 ∷ escape_all cs ++ 34 ∷ []) (text at cs empty) bs
    (λ s. ap (λ l. 34 ∷ l) (sym (append_assoc (escape_all cs) (34 ∷ []) (spelling_bytes s))))
    (λ s. ap (λ n. text at cs (forest_at n s)) (omega (arith, length-append (escape_all cs) (34 ∷ []))))
    (λ s rest h _. rw (e, h) refl) os f g
    (moved os (joined_trees f (text at cs empty)) (joined_trees f (text at cs empty))
    (at + length (escape_all cs) + 2) (at + length (34 ∷ escape_all cs ++ 34 ∷ [])) bs g
    refl (omega (arith, length-append (escape_all cs) (34 ∷ []))) r))

abbrev starts_atom : List ℕ → Bool
starts_atom [] = false
starts_atom (b ∷ bs) = is_atom_byte b

-- Bytes that do not begin with a byte of an atom do not begin with an atom.
no_word : (s : Spelling) (rest bs : List ℕ) → is_well_spelled s ≡ true → bs ≡ spelling_bytes s ++ rest
    → starts_atom bs ≡ false → begins_with_word s ≡ false
no_word nothing rest bs h e k = refl
no_word (blank b s) rest bs h e k = refl
no_word (comment cs s) rest bs h e k = refl
no_word (word [] s) rest bs h e k = cc
no_word (word (b ∷ name) s) rest bs h e k =
    let p = both (is_name (b ∷ name) && not (begins_with_word s)) (is_well_spelled s) h in
    let q = both (is_name (b ∷ name)) (not (begins_with_word s)) p.0 in
    let t : is_atom_byte b ≡ true = (both (is_atom_byte b) (list_all is_atom_byte name) q.0).0 in
    let n : is_atom_byte b ≡ false = sym (ap starts_atom e) ∙ k in
    cc
no_word (quoted cs s) rest bs h e k = refl
no_word (parens inner s) rest bs h e k = refl

word_before : (name : List ℕ) (at : ℕ) (bs : List ℕ) (os : OpenLists) (f g : Forest) → is_name name ≡ true
    → starts_atom bs ≡ false
    → Remains os (joined_trees f (atom at name empty)) (at + length name) bs g → Remains os f at (name ++ bs) g
word_before name at bs os f g e k r =
    prepend (word name) at name (atom at name empty) bs (λ s. refl) (λ s. refl)
    (λ s rest h i. rw (e, no_word s rest bs h i k, h) refl) os f g r

-- The last trees of the input, if no list is open.
abbrev Last : OpenLists → Forest → Forest → Type 0
Last [] f g = g ≡ f
Last (o ∷ os) f g = ⊥

-- The rest of the input inside a string that has the characters `chars` so far.
abbrev TextRemains : ℕ → List ℕ → OpenLists → Forest → ℕ → List ℕ → Forest → Type 0
TextRemains from chars os f at bs g =
    (cs : List ℕ) × (more : List ℕ) × (list_all is_char cs ≡ true) × (bs ≡ escape_all cs ++ 34 ∷ more)
    × Remains os (joined_trees f (text from (chars ++ cs) empty)) (at + length (escape_all cs) + 1) more g

-- The rest of the input in each mode.
abbrev pub Follows : Mode → OpenLists → Forest → ℕ → List ℕ → Forest → Type 0
Follows gap os f at bs g = Remains os f at bs g
Follows in_comment os f at bs g = (cs : List ℕ) × (is_comment cs ≡ true)
    × (((more : List ℕ) × (bs ≡ cs ++ 10 ∷ more) × Remains os f (at + length cs + 1) more g)
    ⊎ ((bs ≡ cs) × Last os f g))
Follows (in_word from name) os f at bs g = (more : List ℕ) × (rest : List ℕ) × (list_all is_atom_byte more ≡ true)
    × (bs ≡ more ++ rest)
    × (starts_atom rest ≡ false) × Remains os (joined_trees f (atom from (name ++ more) empty))
    (at + length more) rest g
Follows (in_text from chars) os f at bs g = TextRemains from chars os f at bs g
Follows (in_escape from chars) os f at bs g =
    (c : ℕ) × (b : ℕ) × (more : List ℕ) × (escape c ≡ 92 ∷ b ∷ []) × (is_char c ≡ true) × (bs ≡ b ∷ more)
    × TextRemains from (chars ++ c ∷ []) os f (at + 1) more g

-- The rest of the input after a state.
abbrev FollowsIn : ℕ → List ℕ → Forest → State → Type 0
FollowsIn at bs g t = Follows t.0 t.1 t.2 at bs g

last_comment : (at : ℕ) (bs : List ℕ) (os : OpenLists) (f g : Forest) → is_comment bs ≡ true → Last os f g
    → Remains os f at (59 ∷ bs) g
last_comment at bs [] f g e l = (nothing, 59 ∷ bs, refl, e, refl, l ∙ sym (joined_trees-empty f))
last_comment at bs (o ∷ os) f g e l = absurd l

comment_follows : (at : ℕ) (bs : List ℕ) (os : OpenLists) (f g : Forest) → Follows in_comment os f (at + 1) bs g
    → Remains os f at (59 ∷ bs) g
comment_follows at bs os f g r = elim (r.2) [
  | inl h ↦ subst (λ (l : List ℕ). Remains os f at (59 ∷ l) g) (sym h.1)
      (comment_before r.0 at h.0 os f g r.1
      (moved os f f (at + 1 + length r.0 + 1) (at + length r.0 + 2) h.0 g refl (omega arith) h.2))
  | inr h ↦ last_comment at bs os f g (ap is_comment h.0 ∙ r.1) h.1
]

word_follows : (at b : ℕ) (bs : List ℕ) (os : OpenLists) (f g : Forest) → is_atom_byte b ≡ true
    → Follows (in_word at (b ∷ [])) os f (at + 1) bs g → Remains os f at (b ∷ bs) g
word_follows at b bs os f g e r =
    subst (λ (l : List ℕ). Remains os f at (b ∷ l) g) (sym r.3)
    (word_before (b ∷ r.0) at r.1 os f g (rw (e, r.2) refl) r.4
    (moved os (joined_trees f (atom at (b ∷ r.0) empty)) (joined_trees f (atom at (b ∷ r.0) empty))
    (at + 1 + length r.0) (at + length (b ∷ r.0)) r.1 g refl (omega arith) r.5))

text_follows : (at : ℕ) (bs : List ℕ) (os : OpenLists) (f g : Forest) → TextRemains at [] os f (at + 1) bs g
    → Remains os f at (34 ∷ bs) g
text_follows at bs os f g r =
    subst (λ (l : List ℕ). Remains os f at (34 ∷ l) g) (sym r.3)
    (text_before r.0 at r.1 os f g r.2
    (moved os (joined_trees f (text at r.0 empty)) (joined_trees f (text at r.0 empty))
    (at + 1 + length (escape_all r.0) + 1) (at + length (escape_all r.0) + 2) r.1 g refl (omega arith) r.4))

closed_follows : (at : ℕ) (bs : List ℕ) (os : OpenLists) (f g : Forest)
    → IfSome (close_list os f) (λ t. FollowsIn (at + 1) bs g t → Remains os f at (41 ∷ bs) g)
closed_follows at bs [] f g = tt
closed_follows at bs (o ∷ os) f g = close_before o at bs os f g

-- A byte between tokens and the rest after it are the rest before it.
start_follows : (at b : ℕ) (bs : List ℕ) (os : OpenLists) (f g : Forest)
    → IfSome (start at b os f) (λ t. FollowsIn (at + 1) bs g t → Remains os f at (b ∷ bs) g)
start_follows at b bs os f g =
    let P = (λ (o : Option State). IfSome o (λ t. FollowsIn (at + 1) bs g t → Remains os f at (b ∷ bs) g)) in
    tested P (is_blank b) _ _ (λ e. blank_before b at bs os f g e)
    (λ _. tested P (b == 59) _ _ (λ e r. as_byte _ e (comment_follows at bs os f g r))
    (λ _. tested P (b == 40) _ _ (λ e r. as_byte _ e (open_before at bs os f g r))
    (λ _. tested P (b == 41) _ _
    (λ e. subst (λ (x : ℕ). IfSome (close_list os f) (λ t. FollowsIn (at + 1) bs g t → Remains os f at (x ∷ bs) g))
    (sym (eqb-true b 41 e)) (closed_follows at bs os f g))
    (λ _. tested P (b == 34) _ _ (λ e r. as_byte _ e (text_follows at bs os f g r))
    (λ _. tested P (is_atom_byte b) _ _ (λ e r. word_follows at b bs os f g e r) (λ _. tt))))))
  where
    as_byte : (k : ℕ) → b == k ≡ true → Remains os f at (k ∷ bs) g → Remains os f at (b ∷ bs) g
    as_byte k e r = subst (λ (x : ℕ). Remains os f at (x ∷ bs) g) (sym (eqb-true b k e)) r

-- A byte of a comment and the rest after it are the rest of the comment.
comment_step : (w : Bool) (at b : ℕ) (bs : List ℕ) (os : OpenLists) (f g : Forest) → b == 10 ≡ w
    → Follows (cond w gap in_comment) os f (at + 1) bs g
    → Follows in_comment os f at (b ∷ bs) g
comment_step true at b bs os f g e r = (
  [],
  refl,
  inl (
    bs,
    ap (λ x. x ∷ bs) (eqb-true b 10 e),
    moved os f f (at + 1) (at + 0 + 1) bs g refl (omega arith) r,
  ),
)
comment_step false at b bs os f g e r = (
  b ∷ r.0,
  rw (e, r.1) refl,
  elim (r.2) [
    | inl h ↦ inl (
      h.0,
      ap (λ l. b ∷ l) h.1,
      moved os f f (at + 1 + length r.0 + 1) (at + suc (length r.0) + 1) h.0 g refl (omega arith) h.2,
    )
    | inr h ↦ inr (ap (λ l. b ∷ l) h.0, h.1)
  ],
)

-- A spelled character and the rest of a string after it are the rest of the string.
char_before : (c : ℕ) (front : List ℕ) (from : ℕ) (chars : List ℕ) (os : OpenLists) (f : Forest) (at : ℕ) (bs : List ℕ)
    (g : Forest) → escape c ≡ front → is_char c ≡ true
    → TextRemains from (chars ++ c ∷ []) os f (at + length front) bs g → TextRemains from chars os f at (front ++ bs) g
char_before c front from chars os f at bs g e k r =
    let long : length (escape_all (c ∷ r.0)) ≡ length front + length (escape_all r.0) =
    length-append (escape c) (escape_all r.0) ∙ ap (λ l. length l + length (escape_all r.0)) e in (
      c ∷ r.0,
      r.1,
      rw (k, r.2) refl,
      ap (λ l. front ++ l) r.3 ∙ sym (append_assoc front (escape_all r.0) (34 ∷ r.1))
          ∙ ap (λ l. (l ++ escape_all r.0) ++ 34 ∷ r.1) (sym e),
      moved os (joined_trees f (text from ((chars ++ c ∷ []) ++ r.0) empty))
          (joined_trees f (text from (chars ++ c ∷ r.0) empty)) (at + length front + length (escape_all r.0) + 1)
          (at + length (escape_all (c ∷ r.0)) + 1) r.1 g
          (ap (λ l. joined_trees f (text from l empty)) (append_assoc chars (c ∷ []) r.0)) (omega arith) r.4,
    )

-- The closing quote and the rest after it are the rest of the string.
quote_before : (b from : ℕ) (chars : List ℕ) (os : OpenLists) (f : Forest) (at : ℕ) (bs : List ℕ) (g : Forest) → b ≡ 34
    → Remains os (joined_trees f (text from chars empty)) (at + 1) bs g
    → TextRemains from chars os f at (b ∷ bs) g
quote_before b from chars os f at bs g e r = (
  [],
  bs,
  refl,
  ap (λ x. x ∷ bs) e,
  moved os (joined_trees f (text from chars empty)) (joined_trees f (text from (chars ++ []) empty)) (at + 1)
      (at + 0 + 1) bs g
      (ap (λ l. joined_trees f (text from l empty)) (sym (append-nil chars))) (omega arith) r,
)

-- A backslash and the rest of its escape are the rest of the string.
backslash_before : (b from : ℕ) (chars : List ℕ) (os : OpenLists) (f : Forest) (at : ℕ) (bs : List ℕ) (g : Forest)
    → b ≡ 92 → Follows (in_escape from chars) os f (at + 1) bs g
    → TextRemains from chars os f at (b ∷ bs) g
backslash_before b from chars os f at bs g e r =
    subst (λ (l : List ℕ). TextRemains from chars os f at l g) (sym (ap (λ x. x ∷ bs) e ∙ ap (λ l. 92 ∷ l) r.5))
    (char_before r.0 (92 ∷ r.1 ∷ []) from chars os f at r.2 g r.3 r.4
    (subst (λ (n : ℕ). TextRemains from (chars ++ r.0 ∷ []) os f n r.2 g) (omega arith) r.6))

-- A byte without an escape is its own spelling.
plain_escape : (b : ℕ) → b == 34 ≡ false → b == 92 ≡ false → nat_le 32 b ≡ true → escape b ≡ b ∷ []
plain_escape b e1 e2 k = let e3 : b == 10 ≡ false = false_from_ne_true (b == 10)
    (λ s. let n : nat_le 32 b ≡ false = ap (nat_le 32) (eqb-true b 10 s) in cc) in rw (e1, e2, e3) refl

plain_before : (b from : ℕ) (chars : List ℕ) (os : OpenLists) (f : Forest) (at : ℕ) (bs : List ℕ) (g : Forest)
    → b == 34 ≡ false → b == 92 ≡ false → nat_le 32 b ≡ true
    → TextRemains from (chars ++ b ∷ []) os f (at + 1) bs g → TextRemains from chars os f at (b ∷ bs) g
plain_before b from chars os f at bs g e1 e2 k r =
    char_before b (b ∷ []) from chars os f at bs g (plain_escape b e1 e2 k) (ap (λ w. w || b == 10) k) r

-- The byte after a backslash and the rest of the string are the rest of the escape.
escape_step : (c b from : ℕ) (chars : List ℕ) (os : OpenLists) (f : Forest) (at : ℕ) (bs : List ℕ) (g : Forest)
    → escape c ≡ 92 ∷ b ∷ [] → is_char c ≡ true
    → TextRemains from (chars ++ c ∷ []) os f (at + 1) bs g → Follows (in_escape from chars) os f at (b ∷ bs) g
escape_step c b from chars os f at bs g e k r = (c, b, bs, e, k, refl, r)

-- A byte after an atom ends the atom.
word_ends : (from : ℕ) (name : List ℕ) (os : OpenLists) (f : Forest) (at b : ℕ) (bs : List ℕ) (g : Forest)
    → is_atom_byte b ≡ false
    → Remains os (joined_trees f (atom from name empty)) at (b ∷ bs) g → Follows (in_word from name) os f at (b ∷ bs) g
word_ends from name os f at b bs g e r = (
  [],
  b ∷ bs,
  refl,
  refl,
  e,
  moved os (joined_trees f (atom from name empty)) (joined_trees f (atom from (name ++ []) empty)) at
      (at + 0) (b ∷ bs) g
      (ap (λ l. joined_trees f (atom from l empty)) (sym (append-nil name))) (omega arith) r,
)

word_goes_on : (from : ℕ) (name : List ℕ) (os : OpenLists) (f : Forest) (at b : ℕ) (bs : List ℕ) (g : Forest)
    → is_atom_byte b ≡ true
    → Follows (in_word from (name ++ b ∷ [])) os f (at + 1) bs g → Follows (in_word from name) os f at (b ∷ bs) g
word_goes_on from name os f at b bs g e r = (
  b ∷ r.0,
  r.1,
  rw (e, r.2) refl,
  ap (λ l. b ∷ l) r.3,
  r.4,
  moved os (joined_trees f (atom from ((name ++ b ∷ []) ++ r.0) empty))
      (joined_trees f (atom from (name ++ b ∷ r.0) empty)) (at + 1 + length r.0) (at + suc (length r.0)) r.1 g
      (ap (λ l. joined_trees f (atom from l empty)) (append_assoc name (b ∷ []) r.0)) (omega arith) r.5,
)

-- A byte that the machine accepts and the rest after it are the rest before it.
step_follows : (m : Mode) (os : OpenLists) (f : Forest) (at b : ℕ) (bs : List ℕ) (g : Forest)
    → IfSome (step m os f at b) (λ t. FollowsIn (at + 1) bs g t → Follows m os f at (b ∷ bs) g)
step_follows gap os f at b bs g = start_follows at b bs os f g
step_follows in_comment os f at b bs g = comment_step (b == 10) at b bs os f g refl
step_follows (in_word from name) os f at b bs g =
    tested (λ (o : Option State). IfSome o (λ t. FollowsIn (at + 1) bs g t
    → Follows (in_word from name) os f at (b ∷ bs) g)) (is_atom_byte b) _ _
    (λ e. word_goes_on from name os f at b bs g e)
    (λ e. IfSome_then (start at b os (joined_trees f (atom from name empty)))
    (start_follows at b bs os (joined_trees f (atom from name empty)) g)
    (λ t h r. word_ends from name os f at b bs g e (h r)))
step_follows (in_text from chars) os f at b bs g =
    let P = (λ (o : Option State). IfSome o (λ t. FollowsIn (at + 1) bs g t
    → Follows (in_text from chars) os f at (b ∷ bs) g)) in
    tested P (b == 34) _ _ (λ e. quote_before b from chars os f at bs g (eqb-true b 34 e))
    (λ e1. tested P (b == 92) _ _ (λ e. backslash_before b from chars os f at bs g (eqb-true b 92 e))
    (λ e2. tested P (nat_le 32 b) _ _ (λ e. plain_before b from chars os f at bs g e1 e2 e) (λ _. tt)))
step_follows (in_escape from chars) os f at b bs g =
    let P = (λ (o : Option State). IfSome o (λ t. FollowsIn (at + 1) bs g t
    → Follows (in_escape from chars) os f at (b ∷ bs) g)) in
    tested P (b == 34) _ _ (λ e. escape_step 34 b from chars os f at bs g
    (ap (λ x. 92 ∷ x ∷ []) (sym (eqb-true b 34 e))) refl)
    (λ _. tested P (b == 92) _ _ (λ e. escape_step 92 b from chars os f at bs g
    (ap (λ x. 92 ∷ x ∷ []) (sym (eqb-true b 92 e))) refl)
    (λ _. tested P (b == 110) _ _ (λ e. escape_step 10 b from chars os f at bs g
    (ap (λ x. 92 ∷ x ∷ []) (sym (eqb-true b 110 e))) refl) (λ _. tt)))

-- At the end of the input no list is open, and the forest is complete.
closed_last : (os : OpenLists) (f g : Forest) → all_closed os f ≡ Some g → Last os f g
closed_last [] f g e = sym (same_Some f g e)
closed_last (o ∷ os) f g e = cc

nothing_remains : (os : OpenLists) (f : Forest) (at : ℕ) (g : Forest) → Last os f g → Remains os f at [] g
nothing_remains [] f at g l = (nothing, [], refl, refl, refl, l ∙ sym (joined_trees-empty f))
nothing_remains (o ∷ os) f at g l = absurd l

finish_follows : (m : Mode) (os : OpenLists) (f : Forest) (at : ℕ) (g : Forest) → finish m os f ≡ Some g
    → Follows m os f at [] g
finish_follows gap os f at g e = nothing_remains os f at g (closed_last os f g e)
finish_follows in_comment os f at g e = ([], refl, inr (refl, closed_last os f g e))
finish_follows (in_word from name) os f at g e = (
  [],
  [],
  refl,
  refl,
  refl,
  moved os (joined_trees f (atom from name empty)) (joined_trees f (atom from (name ++ []) empty)) at (at + 0) [] g
      (ap (λ l. joined_trees f (atom from l empty)) (sym (append-nil name))) (omega arith)
      (nothing_remains os (joined_trees f (atom from name empty)) at g
      (closed_last os (joined_trees f (atom from name empty)) g e)),
)
finish_follows (in_text from chars) os f at g e = cc
finish_follows (in_escape from chars) os f at g e = cc

-- The bytes that the machine accepts are the rest of the input.
run_follows : (bs : List ℕ) (s : State) (at : ℕ) (g : Forest) → option_and_then forest_at_end (run s at bs) ≡ Some g
    → FollowsIn at bs g s
run_follows [] s at g e = finish_follows s.0 s.1 s.2 at g e
run_follows (b ∷ bs) s at g e =
    from (next s at b) e (step_follows s.0 s.1 s.2 at b bs g) (λ t. run_follows bs t (at + 1) g) where
      from : (o : Option State) → option_and_then forest_at_end (option_and_then (λ t. run t (at + 1) bs) o) ≡ Some g
          → IfSome o (λ t. FollowsIn (at + 1) bs g t → FollowsIn at (b ∷ bs) g s)
          → ((t : State) → option_and_then forest_at_end (run t (at + 1) bs) ≡ Some g → FollowsIn (at + 1) bs g t)
          → FollowsIn at (b ∷ bs) g s
      from None e h k = cc
      from (Some t) e h k = h (k t e)

-- The machine parses bytes as a forest that they spell.
pub spells-whole : (bytes : List ℕ) (f : Forest) → IsUtf8 bytes → whole bytes ≡ Some f → Spells bytes f
spells-whole bytes f u e =
    let r = run_follows bytes first_state 0 f e in
    record { utf8 = u; spelling = r.0; tail = r.1; well_spelled = r.2; ends = r.3; bytes_are = r.4; forest_is = r.5 }
