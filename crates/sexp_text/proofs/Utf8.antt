-- Escapes and UTF-8.
use Rattle.std.proofs.Common.{subst, ◌≡◌, ◌⊎◌, inl, inr, ◌≤◌, ◌<◌, ℕ, ◌+◌, ◌==◌, suc, Bool, true, false, List, [], ◌∷◌, ◌++◌, refl, sym, ap, ◌∙◌, length, get_or, arith}
use Rattle.std.proofs.lemmas.Bool.{eqb-true, false_from_ne_true}
use Rattle.std.proofs.Math.Seq.{get_or-append_seam, take-append_seam, drop-append-add}
use Rattle.std.proofs.lemmas.List.{append-nil, length-append}
use Rattle.std.proofs.lemmas.Str.{IsUtf8-append, IsUtf8-take, IsUtf8-drop, IsUtf8-encode, IsUtf8-nil, IsCharBoundary-after_ascii, encode_ascii, inside_one, char_from_byte}
use Rattle.std.specs.List.{list_all}
use Rattle.std.specs.Char.{IsScalar, encode_utf8}
use Rattle.std.specs.Str.{IsUtf8, IsCharBoundary, all_scalars, encode_utf8_all}
use Rattle.rt_values.specs.Values.{escape, escape_all}
use Rattle.sexp_text.specs.Grammar.{is_atom_byte}
use Rattle.sexp_text.proofs.Complete.{both}
use Rattle.sexp_text.proofs.Fronts.{ascii_one, atom_ascii}
use Rattle.sexp_text.proofs.Layouts.{escape_all-append}

-- The bytes of an atom are UTF-8.
pub name_utf8 : (bs : List ℕ) → list_all is_atom_byte bs ≡ true → IsUtf8 bs
name_utf8 [] h = IsUtf8-nil
name_utf8 (b ∷ bs) h =
    let p = both (is_atom_byte b) (list_all is_atom_byte bs) h in
    IsUtf8-append (b ∷ []) bs (ascii_one b (atom_ascii b p.0)) (name_utf8 bs p.1)

small_or_large : (b : ℕ) → (b < 128) ⊎ (128 ≤ b)
small_or_large b = grind arith

-- Bytes of which none is ASCII.
abbrev pub AllLarge : List ℕ → Type 0
AllLarge [] = Unit {0}
AllLarge (b ∷ bs) = (128 ≤ b) × AllLarge bs

plain : (b : ℕ) → 128 ≤ b → escape b ≡ b ∷ []
plain b le =
    let other : (k : ℕ) → k < 128 → b == k ≡ false =
    λ k lt. false_from_ne_true (b == k) (λ e. let same : b ≡ k = eqb-true b k e in omega arith) in
    rw (other 34 (omega arith), other 92 (omega arith), other 10 (omega arith)) refl

-- Bytes that are not ASCII need no escape.
escape_all-large : (bs : List ℕ) → AllLarge bs → escape_all bs ≡ bs
escape_all-large [] h = refl
escape_all-large (b ∷ bs) h = ap (λ l. l ++ escape_all bs) (plain b h.0)
    ∙ ap (λ l. b ∷ l) (escape_all-large bs h.1)

large : (bs : List ℕ) → ((k : ℕ) → k < length bs → 128 ≤ get_or bs k 0) → AllLarge bs
large [] h = tt
large (b ∷ bs) h = (h 0 (omega arith), large bs (λ k lt. h (suc k) (omega arith)))

-- The UTF-8 bytes of a character that is not ASCII are not ASCII.
encode_large : (c : ℕ) → 128 ≤ c → AllLarge (encode_utf8 c)
encode_large c le =
    large (encode_utf8 c) (λ k lt. elim (small_or_large (get_or (encode_utf8 c) k 0)) [
      | inl small ↦ let same = inside_one c [] (encode_utf8 c) k (sym (append-nil (encode_utf8 c))) lt small in
          absurd (omega (arith, same))
      | inr h ↦ h
    ])

escape_utf8 : (c : ℕ) → c < 128 → IsUtf8 (escape c)
escape_utf8 c lt = by (c == 34) (c == 92) (c == 10) refl refl refl where
  two : (b : ℕ) → b < 128 → IsUtf8 (92 ∷ b ∷ [])
  two b small = IsUtf8-append (92 ∷ []) (b ∷ []) (ascii_one 92 (omega arith)) (ascii_one b small)

  by : (u v w : Bool) → c == 34 ≡ u → c == 92 ≡ v → c == 10 ≡ w → IsUtf8 (escape c)
  by true v w e1 e2 e3 = rw e1 (two 34 (omega arith))
  by false true w e1 e2 e3 = rw (e1, e2) (two 92 (omega arith))
  by false false true e1 e2 e3 = rw (e1, e2, e3) (two 110 (omega arith))
  by false false false e1 e2 e3 = rw (e1, e2, e3) (ascii_one c lt)

escaped_char : (c : ℕ) → IsScalar c → IsUtf8 (escape_all (encode_utf8 c))
escaped_char c h = elim (small_or_large c) [
  | inl lt ↦ subst (λ (l : List ℕ). IsUtf8 (escape_all l)) (sym (encode_ascii c lt))
      (subst IsUtf8 (sym (append-nil (escape c))) (escape_utf8 c lt))
  | inr le ↦ subst IsUtf8 (sym (escape_all-large (encode_utf8 c) (encode_large c le))) (IsUtf8-encode c h)
]

-- The spelling of a UTF-8 string is UTF-8.
escaped_chars : (cs : List ℕ) → all_scalars cs ≡ true → IsUtf8 (escape_all (encode_utf8_all cs))
escaped_chars [] h = IsUtf8-nil
escaped_chars (c ∷ cs) h =
    let p = both _ (all_scalars cs) h in
    subst IsUtf8 (sym (escape_all-append (encode_utf8 c) (encode_utf8_all cs)))
    (IsUtf8-append (escape_all (encode_utf8 c)) (escape_all (encode_utf8_all cs)) (escaped_char c p.0)
    (escaped_chars cs p.1))

pub escaped_utf8 : (s : List ℕ) → IsUtf8 s → IsUtf8 (escape_all s)
escaped_utf8 s u = subst (λ (l : List ℕ). IsUtf8 (escape_all l)) u.1.1 (escaped_chars u.0 u.1.0)

-- The bytes before and after an ASCII byte of UTF-8 are UTF-8.
pub split_utf8 : (xs : List ℕ) (b : ℕ) (ys : List ℕ) → b < 128 → IsUtf8 (xs ++ b ∷ ys) → IsUtf8 xs × IsUtf8 ys
split_utf8 xs b ys lt u =
    let text = xs ++ b ∷ ys in
    let at = length xs in
    let long : length text ≡ at + suc (length ys) = length-append xs (b ∷ ys) in
    let byte : get_or text at 0 ≡ b = get_or-append_seam xs b ys 0 in
    let front : IsCharBoundary text at = (omega arith, λ _ large. absurd (omega (arith, large))) in (
      subst IsUtf8 (take-append_seam xs (b ∷ ys)) (IsUtf8-take text at u front),
      subst IsUtf8 (drop-append-add xs (b ∷ ys) 1)
          (IsUtf8-drop text (at + 1) u (IsCharBoundary-after_ascii text at u (omega arith) (omega arith))),
    )

-- The spelling of a byte: that byte itself, or an escape.
record Escaped (b : ℕ) : Type 0 where
  letter : ℕ
  is : escape b ≡ 92 ∷ letter ∷ []
  letter_small : letter < 128
  small : b < 128

escape_shape : (b : ℕ) → (escape b ≡ b ∷ []) ⊎ Escaped b
escape_shape b = by (b == 34) (b == 92) (b == 10) refl refl refl where
  by : (u v w : Bool) → b == 34 ≡ u → b == 92 ≡ v → b == 10 ≡ w → (escape b ≡ b ∷ []) ⊎ Escaped b
  by true v w e1 e2 e3 = let k : b ≡ 34 = eqb-true b 34 e1 in
      inr (record { letter = 34; is = rw e1 refl; letter_small = omega arith; small = omega arith })
  by false true w e1 e2 e3 = let k : b ≡ 92 = eqb-true b 92 e2 in
      inr (record { letter = 92; is = rw (e1, e2) refl; letter_small = omega arith; small = omega arith })
  by false false true e1 e2 e3 = let k : b ≡ 10 = eqb-true b 10 e3 in
      inr (record { letter = 110; is = rw (e1, e2, e3) refl; letter_small = omega arith; small = omega arith })
  by false false false e1 e2 e3 = inl (rw (e1, e2, e3) refl)

-- A string whose spelling begins with bytes that are not ASCII begins with these bytes.
record Unescaped (front rest s : List ℕ) : Type 0 where
  more : List ℕ
  is : s ≡ front ++ more
  behind : rest ≡ escape_all more

unescaped_large : (front rest s : List ℕ) → AllLarge front → front ++ rest ≡ escape_all s → Unescaped front rest s
unescaped_large [] rest s h e = record { more = s; is = refl; behind = e }
unescaped_large (x ∷ front) rest [] h e = cc
unescaped_large (x ∷ front) rest (b ∷ s) h e = elim (escape_shape b) [
  | inl p ↦
      let all : x ∷ (front ++ rest) ≡ b ∷ escape_all s = e ∙ ap (λ l. l ++ escape_all s) p in
      let same : b ≡ x = cc in
      let r = unescaped_large front rest s h.1 cc in
      record { more = r.more; is = ap (λ y. y ∷ s) same ∙ ap (λ l. x ∷ l) r.is; behind = r.behind }
  | inr p ↦
      let all : x ∷ (front ++ rest) ≡ 92 ∷ p.letter ∷ escape_all s = e ∙ ap (λ l. l ++ escape_all s) p.is in
      let same : x ≡ 92 = cc in
      absurd (omega (arith, h.0))
]

-- A string whose spelling begins with an ASCII character is UTF-8 if the rest is.
small_char : (c : ℕ) (rest s : List ℕ) → c < 128 → ((t : List ℕ) → rest ≡ escape_all t → IsUtf8 t)
    → ((x : ℕ) (t : List ℕ) → x < 128 → rest ≡ x ∷ escape_all t → IsUtf8 t)
    → c ∷ rest ≡ escape_all s → IsUtf8 s
small_char c rest [] lt one two e = cc
small_char c rest (b ∷ s) lt one two e = elim (escape_shape b) [
  | inl p ↦
      let all : c ∷ rest ≡ b ∷ escape_all s = e ∙ ap (λ l. l ++ escape_all s) p in
      let same : c ≡ b = cc in
      IsUtf8-append (b ∷ []) s (ascii_one b (omega arith)) (one s cc)
  | inr p ↦
      let all : c ∷ rest ≡ 92 ∷ p.letter ∷ escape_all s = e ∙ ap (λ l. l ++ escape_all s) p.is in
      IsUtf8-append (b ∷ []) s (ascii_one b p.small) (two p.letter s p.letter_small cc)
]

-- A string whose spelling begins with a character is UTF-8 if the rest is.
any_char : (c : ℕ) (rest s : List ℕ) → IsScalar c → ((t : List ℕ) → rest ≡ escape_all t → IsUtf8 t)
    → ((x : ℕ) (t : List ℕ) → x < 128 → rest ≡ x ∷ escape_all t → IsUtf8 t)
    → encode_utf8 c ++ rest ≡ escape_all s → IsUtf8 s
any_char c rest s scalar one two e = elim (small_or_large c) [
  | inl lt ↦ small_char c rest s lt one two (ap (λ l. l ++ rest) (sym (encode_ascii c lt)) ∙ e)
  | inr le ↦
      let r = unescaped_large (encode_utf8 c) rest s (encode_large c le) e in
      subst IsUtf8 (sym r.is) (IsUtf8-append (encode_utf8 c) r.more (IsUtf8-encode c scalar) (one r.more r.behind))
]

past_letter : (d x : ℕ) (rest more : List ℕ) → x < 128 → encode_utf8 d ++ rest ≡ x ∷ more → rest ≡ more
past_letter d x rest more lt e =
    let same : d ≡ x = char_from_byte (x ∷ more) rest d (sym e) lt (omega arith) in
    let all : d ∷ rest ≡ x ∷ more = ap (λ l. l ++ rest) (sym (encode_ascii d (omega arith))) ∙ e in
    cc

unescaped_chars : (cs s : List ℕ) → all_scalars cs ≡ true → encode_utf8_all cs ≡ escape_all s → IsUtf8 s
unescaped_chars [] [] h e = IsUtf8-nil
unescaped_chars [] (b ∷ s) h e = elim (escape_shape b) [
  | inl p ↦ let all : [] ≡ b ∷ escape_all s = e ∙ ap (λ l. l ++ escape_all s) p in cc
  | inr p ↦ let all : [] ≡ 92 ∷ p.letter ∷ escape_all s = e ∙ ap (λ l. l ++ escape_all s) p.is in cc
]
unescaped_chars (c ∷ []) s h e =
    let p = both _ (all_scalars []) h in
    any_char c [] s p.0 (λ t k. unescaped_chars [] t refl k) (λ x t lt k. cc) e
unescaped_chars (c ∷ d ∷ cs) s h e =
    let p = both _ (all_scalars (d ∷ cs)) h in
    let q = both _ (all_scalars cs) p.1 in
    any_char c (encode_utf8_all (d ∷ cs)) s p.0 (λ t k. unescaped_chars (d ∷ cs) t p.1 k)
    (λ x t lt k. unescaped_chars cs t q.1 (past_letter d x (encode_utf8_all cs) (escape_all t) lt k)) e

-- A string whose spelling is UTF-8 is UTF-8.
pub unescaped_utf8 : (s : List ℕ) → IsUtf8 (escape_all s) → IsUtf8 s
unescaped_utf8 s u = unescaped_chars u.0 s u.1.0 u.1.1
