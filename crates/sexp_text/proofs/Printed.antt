-- Printed text spells what was printed, and what a text spells can be printed.
use Rattle.std.proofs.Common.{subst, ◌≡◌, ◌<◌, ℕ, ◌+◌, Bool, true, false, ◌&&◌, not, List, [], ◌∷◌, ◌++◌, refl, sym, ap, ◌∙◌, length, arith, append_assoc}
use Rattle.std.proofs.lemmas.List.{append-nil}
use Rattle.std.proofs.lemmas.Str.{IsUtf8-append, IsUtf8-nil}
use Rattle.std.specs.List.{list_all}
use Rattle.std.specs.Str.{IsUtf8}
use Rattle.sexp_text.specs.Forest.{Forest, empty, atom, text, list, list_nesting, without_offsets}
use Rattle.rt_values.specs.Values.{escape_all}
use Rattle.sexp_text.specs.Grammar.{is_blank, is_atom_byte, is_char, is_name, is_comment, Spelling, nothing, blank, comment, word, quoted, parens, spelling_bytes, begins_with_word, is_well_spelled, forest_at, Spells}
use Rattle.sexp_text.specs.Layout.{separator, inline_form, lines, CanBeSpelled, SpellsUnplaced}
use Rattle.sexp_text.proofs.Complete.{both}
use Rattle.sexp_text.proofs.Fronts.{ascii_one, blank_ascii, atom_ascii}
use Rattle.sexp_text.proofs.Utf8.{name_utf8, escaped_utf8, unescaped_utf8, split_utf8}

-- The spellings of rows and lines, and a blank before a spelling if it is due.
abbrev behind_blank : Bool → Spelling → Spelling
behind_blank true s = blank 32 s
behind_blank false s = s

abbrev row_spelling : Bool → Forest → Spelling
row_spelling due empty = nothing
row_spelling due (atom at a f) = behind_blank due (word a (row_spelling true f))
row_spelling due (text at s f) = behind_blank due (quoted s (row_spelling true f))
row_spelling due (list at i f) = behind_blank due (parens (row_spelling false i) (row_spelling true f))

abbrev lines_spelling : Forest → Spelling
lines_spelling empty = nothing
lines_spelling (atom at a f) = word a (blank 10 (lines_spelling f))
lines_spelling (text at s f) = quoted s (blank 10 (lines_spelling f))
lines_spelling (list at i f) = parens (row_spelling false i) (blank 10 (lines_spelling f))

written-behind_blank : (due : Bool) (s : Spelling)
    → spelling_bytes (behind_blank due s) ≡ separator due ++ spelling_bytes s
written-behind_blank true s = refl
written-behind_blank false s = refl

written-inline_form : (f : Forest) (due : Bool) → spelling_bytes (row_spelling due f) ≡ inline_form due f
written-inline_form empty due = refl
written-inline_form (atom at a f) due =
    written-behind_blank due (word a (row_spelling true f))
    ∙ ap (λ l. separator due ++ (a ++ l)) (written-inline_form f true)
    ∙ sym (append_assoc (separator due) a (inline_form true f))
written-inline_form (text at s f) due =
    written-behind_blank due (quoted s (row_spelling true f))
    ∙ ap (λ l. separator due ++ (34 ∷ escape_all s ++ 34 ∷ l)) (written-inline_form f true)
    ∙ sym (append_assoc (separator due) (34 ∷ escape_all s) (34 ∷ inline_form true f))
written-inline_form (list at i f) due =
    written-behind_blank due (parens (row_spelling false i) (row_spelling true f))
    ∙ ap (λ l. separator due ++ (40 ∷ spelling_bytes (row_spelling false i) ++ 41 ∷ l)) (written-inline_form f true)
    ∙ ap (λ l. separator due ++ (40 ∷ l ++ 41 ∷ inline_form true f)) (written-inline_form i false)
    ∙ sym (append_assoc (separator due) (40 ∷ inline_form false i) (41 ∷ inline_form true f))

written-lines : (f : Forest) → spelling_bytes (lines_spelling f) ≡ lines f
written-lines empty = refl
written-lines (atom at a f) = ap (λ l. a ++ 10 ∷ l) (written-lines f)
written-lines (text at s f) = ap (λ l. 34 ∷ escape_all s ++ 34 ∷ 10 ∷ l) (written-lines f)
written-lines (list at i f) =
    ap (λ l. 40 ∷ spelling_bytes (row_spelling false i) ++ 41 ∷ 10 ∷ l) (written-lines f)
    ∙ ap (λ l. 40 ∷ l ++ 41 ∷ 10 ∷ lines f) (written-inline_form i false)

-- A blank before a spelling keeps its forest, except for offsets.
without_offsets-behind_blank : (due : Bool) (s : Spelling) (f : Forest)
    → ((at : ℕ) → without_offsets (forest_at at s) ≡ f) → (at : ℕ)
    → without_offsets (forest_at at (behind_blank due s)) ≡ f
without_offsets-behind_blank true s f h at = h (at + 1)
without_offsets-behind_blank false s f h at = h at

without_offsets-inline_form : (f : Forest) (due : Bool) (at : ℕ)
    → without_offsets (forest_at at (row_spelling due f)) ≡ without_offsets f
without_offsets-inline_form empty due at = refl
without_offsets-inline_form (atom p a f) due at =
    without_offsets-behind_blank due (word a (row_spelling true f)) (atom 0 a (without_offsets f))
    (λ k. ap (atom 0 a) (without_offsets-inline_form f true (k + length a))) at
without_offsets-inline_form (text p s f) due at =
    without_offsets-behind_blank due (quoted s (row_spelling true f)) (text 0 s (without_offsets f))
    (λ k. ap (text 0 s) (without_offsets-inline_form f true (k + length (escape_all s) + 2))) at
without_offsets-inline_form (list p i f) due at =
    without_offsets-behind_blank due (parens (row_spelling false i) (row_spelling true f))
    (list 0 (without_offsets i) (without_offsets f))
    (λ k. ap (λ g. list 0 g (without_offsets
    (forest_at (k + length (spelling_bytes (row_spelling false i)) + 2) (row_spelling true f))))
    (without_offsets-inline_form i false (k + 1))
    ∙ ap (list 0 (without_offsets i))
    (without_offsets-inline_form f true (k + length (spelling_bytes (row_spelling false i)) + 2))) at

without_offsets-lines : (f : Forest) (at : ℕ) → without_offsets (forest_at at (lines_spelling f)) ≡ without_offsets f
without_offsets-lines empty at = refl
without_offsets-lines (atom p a f) at = ap (atom 0 a) (without_offsets-lines f (at + length a + 1))
without_offsets-lines (text p s f) at = ap (text 0 s) (without_offsets-lines f (at + length (escape_all s) + 2 + 1))
without_offsets-lines (list p i f) at =
    ap (λ g. list 0 g (without_offsets
    (forest_at (at + length (spelling_bytes (row_spelling false i)) + 2 + 1) (lines_spelling f))))
    (without_offsets-inline_form i false (at + 1))
    ∙ ap (list 0 (without_offsets i))
    (without_offsets-lines f (at + length (spelling_bytes (row_spelling false i)) + 2 + 1))

-- A blank before a spelling keeps it well spelled.
well-behind_blank : (due : Bool) (s : Spelling) → is_well_spelled s ≡ true → is_well_spelled (behind_blank due s) ≡ true
well-behind_blank true s h = h
well-behind_blank false s h = h

apart : (f : Forest) → begins_with_word (row_spelling true f) ≡ false
apart empty = refl
apart (atom at a f) = refl
apart (text at s f) = refl
apart (list at i f) = refl

well-inline_form : (f : Forest) (due : Bool) → CanBeSpelled f → is_well_spelled (row_spelling due f) ≡ true
well-inline_form empty due h = refl
well-inline_form (atom at a f) due h =
    well-behind_blank due (word a (row_spelling true f)) (rw (h.0, apart f, well-inline_form f true h.1) refl)
well-inline_form (text at s f) due h =
    well-behind_blank due (quoted s (row_spelling true f)) (rw (h.1, well-inline_form f true h.2) refl)
well-inline_form (list at i f) due h = well-behind_blank due (parens (row_spelling false i) (row_spelling true f))
    (rw (well-inline_form i false h.0, well-inline_form f true h.1) refl)

well-lines : (f : Forest) → CanBeSpelled f → is_well_spelled (lines_spelling f) ≡ true
well-lines empty h = refl
well-lines (atom at a f) h = rw (h.0, well-lines f h.1) refl
well-lines (text at s f) h = rw (h.1, well-lines f h.2) refl
well-lines (list at i f) h = rw (well-inline_form i false h.0, well-lines f h.1) refl

-- The bytes of an atom are UTF-8.
atom_utf8 : (a : List ℕ) → is_name a ≡ true → IsUtf8 a
atom_utf8 [] h = IsUtf8-nil
atom_utf8 (b ∷ bs) h = name_utf8 (b ∷ bs) h

spaced_utf8 : (due : Bool) → IsUtf8 (separator due)
spaced_utf8 true = ascii_one 32 (omega arith)
spaced_utf8 false = IsUtf8-nil

-- UTF-8 bytes between two ASCII bytes are UTF-8 with them.
around_utf8 : (b d : ℕ) (xs ys : List ℕ) → b < 128 → d < 128 → IsUtf8 xs → IsUtf8 ys → IsUtf8 (b ∷ xs ++ d ∷ ys)
around_utf8 b d xs ys small other x y = IsUtf8-append (b ∷ []) (xs ++ d ∷ ys) (ascii_one b small)
    (IsUtf8-append xs (d ∷ ys) x (IsUtf8-append (d ∷ []) ys (ascii_one d other) y))

row_utf8 : (f : Forest) (due : Bool) → CanBeSpelled f → IsUtf8 (inline_form due f)
row_utf8 empty due h = IsUtf8-nil
row_utf8 (atom at a f) due h = IsUtf8-append (separator due ++ a) (inline_form true f)
    (IsUtf8-append (separator due) a (spaced_utf8 due) (atom_utf8 a h.0)) (row_utf8 f true h.1)
row_utf8 (text at s f) due h =
    subst IsUtf8 (sym (append_assoc (separator due) (34 ∷ escape_all s) (34 ∷ inline_form true f)))
    (IsUtf8-append (separator due) (34 ∷ escape_all s ++ 34 ∷ inline_form true f) (spaced_utf8 due)
    (around_utf8 34 34 (escape_all s) (inline_form true f) (omega arith) (omega arith) (escaped_utf8 s h.0)
    (row_utf8 f true h.2)))
row_utf8 (list at i f) due h =
    subst IsUtf8 (sym (append_assoc (separator due) (40 ∷ inline_form false i) (41 ∷ inline_form true f)))
    (IsUtf8-append (separator due) (40 ∷ inline_form false i ++ 41 ∷ inline_form true f) (spaced_utf8 due)
    (around_utf8 40 41 (inline_form false i) (inline_form true f) (omega arith) (omega arith) (row_utf8 i false h.0)
    (row_utf8 f true h.1)))

line_end : (ys : List ℕ) → IsUtf8 ys → IsUtf8 (10 ∷ ys)
line_end ys y = IsUtf8-append (10 ∷ []) ys (ascii_one 10 (omega arith)) y

lines_utf8 : (f : Forest) → CanBeSpelled f → IsUtf8 (lines f)
lines_utf8 empty h = IsUtf8-nil
lines_utf8 (atom at a f) h = IsUtf8-append a (10 ∷ lines f) (atom_utf8 a h.0) (line_end (lines f) (lines_utf8 f h.1))
lines_utf8 (text at s f) h = around_utf8 34 34 (escape_all s) (10 ∷ lines f) (omega arith) (omega arith)
    (escaped_utf8 s h.0) (line_end (lines f) (lines_utf8 f h.2))
lines_utf8 (list at i f) h = around_utf8 40 41 (inline_form false i) (10 ∷ lines f) (omega arith) (omega arith)
    (row_utf8 i false h.0) (line_end (lines f) (lines_utf8 f h.1))

-- Nesting does not depend on offsets.
nesting-without_offsets : (f : Forest) → list_nesting (without_offsets f) ≡ list_nesting f
nesting-without_offsets empty = refl
nesting-without_offsets (atom at a f) = nesting-without_offsets f
nesting-without_offsets (text at s f) = nesting-without_offsets f
nesting-without_offsets (list at i f) = omega (arith, nesting-without_offsets i, nesting-without_offsets f)

-- Printed text spells the printed forest, except for offsets.
pub printed_spells : (f : Forest) → CanBeSpelled f → SpellsUnplaced (lines f) f
printed_spells f h =
    let s = lines_spelling f in
    let same : without_offsets (forest_at 0 s) ≡ without_offsets f = without_offsets-lines f 0 in
    record {
      forest = forest_at 0 s;
      spells = record {
        utf8 = lines_utf8 f h;
        spelling = s;
        tail = [];
        well_spelled = well-lines f h;
        ends = refl;
        bytes_are = sym (append-nil (spelling_bytes s) ∙ written-lines f);
        forest_is = refl;
      };
      same = same;
      deep = sym (nesting-without_offsets (forest_at 0 s)) ∙ ap list_nesting same ∙ nesting-without_offsets f;
    }

after_name : (name ys : List ℕ) → list_all is_atom_byte name ≡ true → IsUtf8 (name ++ ys) → IsUtf8 ys
after_name [] ys h u = u
after_name (b ∷ name) ys h u =
    let p = both (is_atom_byte b) (list_all is_atom_byte name) h in
    after_name name ys p.1 (split_utf8 [] b (name ++ ys) (atom_ascii b p.0) u).1

after_word : (name ys : List ℕ) → is_name name ≡ true → IsUtf8 (name ++ ys) → IsUtf8 ys
after_word [] ys h u = u
after_word (b ∷ name) ys h u = after_name (b ∷ name) ys h u

-- UTF-8 is split into the part between two ASCII bytes and the bytes after.
enclosed : (b d : ℕ) (xs ys rest : List ℕ) → b < 128 → d < 128 → IsUtf8 ((b ∷ xs ++ d ∷ ys) ++ rest)
    → IsUtf8 xs × IsUtf8 (ys ++ rest)
enclosed b d xs ys rest small other u =
    let p = split_utf8 (b ∷ xs) d (ys ++ rest) other
    (subst (λ (l : List ℕ). IsUtf8 (b ∷ l)) (append_assoc xs (d ∷ ys) rest) u) in
    ((split_utf8 [] b xs small p.0).1, p.1)

-- The trees of a spelling in UTF-8 can be spelled, and the bytes after it are UTF-8.
spelling_can : (s : Spelling) (rest : List ℕ) (at : ℕ) → is_well_spelled s ≡ true → IsUtf8 (spelling_bytes s ++ rest)
    → CanBeSpelled (forest_at at s) × IsUtf8 rest
spelling_can nothing rest at h u = (tt, u)
spelling_can (blank b s) rest at h u =
    let p = both (is_blank b) (is_well_spelled s) h in
    spelling_can s rest (at + 1) p.1 (split_utf8 [] b (spelling_bytes s ++ rest) (blank_ascii b p.0) u).1
spelling_can (comment cs s) rest at h u =
    let p = both (is_comment cs) (is_well_spelled s) h in
    spelling_can s rest (at + length cs + 2) p.1
    (enclosed 59 10 cs (spelling_bytes s) rest (omega arith) (omega arith) u).1
spelling_can (word name s) rest at h u =
    let p = both (is_name name && not (begins_with_word s)) (is_well_spelled s) h in
    let q = both (is_name name) (not (begins_with_word s)) p.0 in
    let r = spelling_can s rest (at + length name) p.1
    (after_word name (spelling_bytes s ++ rest) q.0 (subst IsUtf8 (append_assoc name (spelling_bytes s) rest) u)) in
    ((q.0, r.0), r.1)
spelling_can (quoted cs s) rest at h u =
    let p = both (list_all is_char cs) (is_well_spelled s) h in
    let e = enclosed 34 34 (escape_all cs) (spelling_bytes s) rest (omega arith) (omega arith) u in
    let r = spelling_can s rest (at + length (escape_all cs) + 2) p.1 e.1 in
    ((unescaped_utf8 cs e.0, p.0, r.0), r.1)
spelling_can (parens inner s) rest at h u =
    let p = both (is_well_spelled inner) (is_well_spelled s) h in
    let inside = (split_utf8 [] 40 ((spelling_bytes inner ++ 41 ∷ spelling_bytes s) ++ rest) (omega arith) u).1 in
    let q = spelling_can inner (41 ∷ spelling_bytes s ++ rest) (at + 1) p.0
    (subst IsUtf8 (append_assoc (spelling_bytes inner) (41 ∷ spelling_bytes s) rest) inside) in
    let r = spelling_can s rest (at + length (spelling_bytes inner) + 2) p.1
    (split_utf8 [] 41 (spelling_bytes s ++ rest) (omega arith) q.1).1 in
    ((q.0, r.0), r.1)

-- The forest that a text spells can be spelled.
pub spells_can : (bytes : List ℕ) (f : Forest) → Spells bytes f → CanBeSpelled f
spells_can bytes f s =
    subst CanBeSpelled (sym s.forest_is)
    (spelling_can s.spelling s.tail 0 s.well_spelled (subst IsUtf8 s.bytes_are s.utf8)).0
