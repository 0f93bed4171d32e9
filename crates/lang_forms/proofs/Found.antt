-- The first trees that are parsed have the forms.
use Rattle.std.proofs.Common.{◌≡◌, ◌⊎◌, inl, inr, ℕ, List, ◌∷◌, length, Option, Some, None, Bool, true, false, cond, ℤ, refl, sym, ap, ◌∙◌, subst, codes}
use Rattle.std.specs.Fmt.{signed_decimal}
use Rattle.std.specs.Option.{option_map}
use Rattle.std.specs.Str.{bytes_eq}
use Rattle.std.proofs.lemmas.Bool.{and_from}
use Rattle.std.proofs.lemmas.Option.{cond_some}
use Rattle.sexp_text.specs.Forest.{Forest, empty, atom, text, list}
use Rattle.rt_values.specs.declared.value.Value.{Value}
use Rattle.rt_values.specs.declared.value.Value.TheVariants as value
use Rattle.rt_values.specs.Values.{truth_text}
use Rattle.lang_ast.specs.declared.syntax.Ident.{Ident}
use Rattle.lang_limits.specs.Tokens.{fits}
use Rattle.lang_forms.specs.Names.{is_name, all_fit, is_string, is_list_long}
use Rattle.lang_forms.specs.Sketch.{Sketch, Fits, IsAtOffset}
use Rattle.lang_forms.specs.Forms.{numbers, literal, literal_fits, plain_fits}
use Rattle.lang_forms.specs.Readings.{◌>>=◌, choose, Seen, seen_trees, is_end, word_of, name_of, keyword_of, int_of, truth_of, plain_of, string_of, number_of_first, ints_of, literal_form, literal_of}
use Rattle.lang_forms.proofs.Ints.{decimal-int}
use Rattle.lang_forms.proofs.KeywordTables.{IsTable, bytes_same}

pub inject : {A : Type 0} {a b : A} → Some a ≡ Some b → a ≡ b
inject h = cc

pub bind_some : {A B : Type 0} (o : Option A) (f : A → Option B) (y : B) → (o >>= f) ≡ Some y
    → (x : A) × (o ≡ Some x) × (f x ≡ Some y)
bind_some None f y h = absurd (cc)
bind_some (Some x) f y h = (x, refl, h)

pub map_some : {A B : Type 0} (o : Option A) (f : A → B) (y : B) → option_map f o ≡ Some y
    → (x : A) × (o ≡ Some x) × (f x ≡ y)
map_some None f y h = absurd (cc)
map_some (Some x) f y h = (x, refl, cc)

pub choose_some : {A B : Type 0} (o : Option A) (f : A → Option B) (other : Option B) (y : B)
    → choose o f other ≡ Some y → ((x : A) × (o ≡ Some x) × (f x ≡ Some y)) ⊎ ((o ≡ None) × (other ≡ Some y))
choose_some None f other y h = inr (refl, h)
choose_some (Some x) f other y h = inl (x, refl, h)

-- Words and names.

-- A first tree that is a keyword, and the trees after it.
pub record Worded (i : Forest) (w : List ℕ) (ss : List Seen) : Type 0 where
  pub at : ℕ
  pub rest : Forest
  pub is : i ≡ atom at w rest
  pub behind : ss ≡ seen_trees rest

pub word_found : (w : List ℕ) (i : Forest) (ss : List Seen) → word_of w (seen_trees i) ≡ Some ss → Worded i w ss
unfolding word_of
word_found w empty ss h = absurd (cc)
word_found w (atom b v r) ss h =
    let c = cond_some (bytes_eq v w) (seen_trees r) ss h in
    record { at = b; rest = r; is = ap (λ (x : List ℕ). atom b x r) (bytes_same v w c.0); behind = sym c.1 }
word_found w (text b v r) ss h = absurd (cc)
word_found w (list b j r) ss h = absurd (cc)

-- A first tree that is a name, and the trees after it.
pub record NamedBy (i : Forest) (n : Ident × List Seen) : Type 0 where
  pub rest : Forest
  pub is : i ≡ atom n.0.at n.0.text rest
  pub behind : n.1 ≡ seen_trees rest
  pub good : is_name n.0.text ≡ true

name_found : (i : Forest) (n : Ident × List Seen) → name_of (seen_trees i) ≡ Some n → NamedBy i n
unfolding name_of
name_found empty n h = absurd (cc)
name_found (atom b v r) n h =
    let c = cond_some (is_name v) (record { at = b; text = v }, seen_trees r) n h in
    subst (λ (m : Ident × List Seen). NamedBy (atom b v r) m) c.1
    (record { rest = r; is = refl; behind = refl; good = c.0 })
name_found (text b v r) n h = absurd (cc)
name_found (list b j r) n h = absurd (cc)

pub name_next : (i : Forest) (rs : List Seen) (n : Ident × List Seen) → rs ≡ seen_trees i → name_of rs ≡ Some n
    → NamedBy i n
name_next i rs n is h = name_found i n (ap name_of (sym is) ∙ h)

-- A first tree that is the keyword of a value, and the trees after it.
pub record KeywordFirst {A : Type 0} (word : A → List ℕ) (i : Forest) (v : A × List Seen) : Type 0 where
  pub at : ℕ
  pub rest : Forest
  pub is : i ≡ atom at (word v.0) rest
  pub behind : v.1 ≡ seen_trees rest

pub keyword_next : {A : Type 0} {word : A → List ℕ} {table : List ℕ → Option A} → IsTable word table
    → (i : Forest) (rs : List Seen) (v : A × List Seen) → rs ≡ seen_trees i → keyword_of table rs ≡ Some v
    → KeywordFirst word i v
unfolding keyword_of
keyword_next {table = table} t empty rs v is h = absurd (cc (ap (keyword_of table) (sym is) ∙ h))
keyword_next {A = A} {word = word} {table = table} t (atom b w r) rs v is h =
    let c = bind_some (table w) (λ x. Some (x, seen_trees r)) v (ap (keyword_of table) (sym is) ∙ h) in
    let same : (c.0, seen_trees r) ≡ v = inject c.2 in
    subst (λ (m : A × List Seen). KeywordFirst word (atom b w r) m) same
    (record { at = b; rest = r; is = ap (λ (x : List ℕ). atom b x r) (t.found w c.0 c.1); behind = refl })
keyword_next {table = table} t (text b w r) rs v is h = absurd (cc (ap (keyword_of table) (sym is) ∙ h))
keyword_next {table = table} t (list b j r) rs v is h = absurd (cc (ap (keyword_of table) (sym is) ∙ h))

end_found : (i : Forest) → is_end (seen_trees i) ≡ true → i ≡ empty
end_found empty h = refl
end_found (atom b v r) h = absurd (cc)
end_found (text b v r) h = absurd (cc)
end_found (list b j r) h = absurd (cc)

pub end_next : (i : Forest) (rs : List Seen) → rs ≡ seen_trees i → is_end rs ≡ true → i ≡ empty
end_next i rs is h = end_found i (ap is_end (sym is) ∙ h)

-- Literals.

-- An atom that is a literal.
pub record Plain (a : List ℕ) (v : Value) : Type 0 where
  pub fit : (p : Option ℕ) (at : ℕ) (r : Forest) (g : Sketch) → IsAtOffset p at → Fits r g
      → Fits (atom at a r) (literal p v g)
  pub plain : plain_fits v ≡ true
  pub whole : literal_fits v ≡ true

truth_found : (a : List ℕ) (v : Value) → truth_of a ≡ Some v → Plain a v
unfolding truth_of
truth_found a v h = by (bytes_eq a (codes "true")) (bytes_eq a (codes "false")) refl refl h
  where
    is_truth : (b : Bool) → a ≡ truth_text b → value.Bool b ≡ v → Plain a v
    is_truth b e i = subst (λ (x : Value). Plain a x) i
        (record {
          fit = λ p at r g told rest. (at, r, ap (λ (x : List ℕ). atom at x r) e, told, rest);
          plain = refl;
          whole = refl;
        })

    by : (t u : Bool) → bytes_eq a (codes "true") ≡ t → bytes_eq a (codes "false") ≡ u → cond t (Some (value.Bool true)) (cond u (Some (value.Bool false)) None) ≡ Some v → Plain a v
    by true u x y i = is_truth true (bytes_same a _ x) (inject i)
    by false true x y i = is_truth false (bytes_same a _ y) (inject i)
    by false false x y i = absurd (cc)

pub plain_found : (a : List ℕ) (v : Value) → plain_of a ≡ Some v → Plain a v
unfolding plain_of
plain_found a v h = elim (choose_some (int_of a) (λ z. Some (value.Int z)) (truth_of a) v h) [
  | inl x ↦
      let d = decimal-int a x.0 x.1 in
      let is : value.Int x.0 ≡ v = inject x.2 in
      subst (λ (y : Value). Plain a y) is
      (record {
        fit = λ p at r g told rest. (at, r, ap (λ (y : List ℕ). atom at y r) d.0, told, rest);
        plain = d.1;
        whole = d.1;
      })
  | inr x ↦ truth_found a v x.1
]

-- A string that is a literal.
pub record Quoted (s : List ℕ) (v : Value) : Type 0 where
  pub is : value.Text s ≡ v
  pub good : is_string s ≡ true

pub string_found : (s : List ℕ) (v : Value) → string_of s ≡ Some v → Quoted s v
unfolding string_of
string_found s v h = let c = cond_some (is_string s) (value.Text s) v h in record { is = c.1; good = c.0 }

-- A first tree that is a number, and the trees after it.
pub record Numbered (i : Forest) (z : ℤ × List Seen) : Type 0 where
  pub at : ℕ
  pub rest : Forest
  pub is : i ≡ atom at (signed_decimal z.0) rest
  pub behind : z.1 ≡ seen_trees rest
  pub good : fits z.0 ≡ true

number_found : (i : Forest) (z : ℤ × List Seen) → number_of_first (seen_trees i) ≡ Some z → Numbered i z
number_found empty z h = absurd (cc)
number_found (atom b v r) z h =
    let x = map_some (int_of v) (λ (y : ℤ). (y, seen_trees r)) z h in
    let d = decimal-int v x.0 x.1 in
    subst (λ (m : ℤ × List Seen). Numbered (atom b v r) m) x.2
    (record { at = b; rest = r; is = ap (λ (y : List ℕ). atom b y r) d.0; behind = refl; good = d.1 })
number_found (text b v r) z h = absurd (cc)
number_found (list b j r) z h = absurd (cc)

pub number_next : (i : Forest) (rs : List Seen) (z : ℤ × List Seen) → rs ≡ seen_trees i → number_of_first rs ≡ Some z
    → Numbered i z
number_next i rs z is h = number_found i z (ap number_of_first (sym is) ∙ h)

ints_found : (f : Forest) (zs : List ℤ) → ints_of (seen_trees f) ≡ Some zs → Fits f (numbers zs) × (all_fit zs ≡ true)
unfolding ints_of
ints_found empty zs h = rw (← inject h) (refl, refl)
ints_found (atom at a f) zs h =
    let z = bind_some (int_of a) _ zs h in
    let rest = map_some (ints_of (seen_trees f)) (λ (ys : List ℤ). z.0 ∷ ys) zs z.2 in
    let d = decimal-int a z.0 z.1 in
    let all = ints_found f rest.0 rest.1 in
    subst (λ (l : List ℤ). Fits (atom at a f) (numbers l) × (all_fit l ≡ true)) rest.2
    ((at, f, ap (λ (y : List ℕ). atom at y f) d.0, tt, all.0), and_from (fits z.0) (all_fit rest.0) d.1 all.1)
ints_found (text at s f) zs h = absurd (cc)
ints_found (list at i f) zs h = absurd (cc)

-- A list that is a literal.
record Listed (i : Forest) (v : Value) : Type 0 where
  fit : (at : ℕ) (r : Forest) (g : Sketch) → Fits r g → Fits (list at i r) (literal None v g)
  whole : literal_fits v ≡ true

list_found : (i : Forest) (v : Value) → literal_form (seen_trees i) ≡ Some v → Listed i v
unfolding literal_form
list_found i v h =
    let w = bind_some (word_of (codes "ints") (seen_trees i)) _ v h in
    let zs = bind_some (ints_of w.0) _ v w.2 in
    let c = cond_some (is_list_long (length zs.0)) (value.Ints zs.0) v zs.2 in
    let word = word_found (codes "ints") i w.0 w.1 in
    let all = ints_found word.rest zs.0 (ap ints_of (sym word.behind) ∙ zs.1) in
    subst (λ (x : Value). Listed i x) c.1
    (record {
      fit = λ at r g rest. (at, i, r, refl, tt, (word.at, word.rest, word.is, tt, all.0), rest);
      whole = and_from (is_list_long (length zs.0)) (all_fit zs.0) c.0 all.1;
    })

-- The trees after the first.
abbrev pub tail : Forest → Forest
tail empty = empty
tail (atom at a f) = f
tail (text at s f) = f
tail (list at i f) = f

-- A first tree that is a literal, and the trees after it.
pub record LiteralFirst (f : Forest) (v : Value × List Seen) : Type 0 where
  pub behind : v.1 ≡ seen_trees (tail f)
  pub fit : (g : Sketch) → Fits (tail f) g → Fits f (literal None v.0 g)
  pub whole : literal_fits v.0 ≡ true

literal_found : (f : Forest) (v : Value × List Seen) → literal_of (seen_trees f) ≡ Some v → LiteralFirst f v
literal_found empty v h = absurd (cc)
literal_found (atom at a f) v h =
    let x = map_some (plain_of a) (λ (y : Value). (y, seen_trees f)) v h in
    let p = plain_found a x.0 x.1 in
    subst (λ (y : Value × List Seen). LiteralFirst (atom at a f) y) x.2
    (record { behind = refl; fit = λ g rest. p.fit None at f g tt rest; whole = p.whole })
literal_found (text at s f) v h =
    let x = map_some (string_of s) (λ (y : Value). (y, seen_trees f)) v h in
    let q = string_found s x.0 x.1 in
    subst (λ (y : Value × List Seen). LiteralFirst (text at s f) y) (ap (λ (y : Value). (y, seen_trees f)) q.is ∙ x.2)
    (record { behind = refl; fit = λ g rest. (at, f, refl, tt, rest); whole = q.good })
literal_found (list at i f) v h =
    let x = map_some (literal_form (seen_trees i)) (λ (y : Value). (y, seen_trees f)) v h in
    let l = list_found i x.0 x.1 in
    subst (λ (y : Value × List Seen). LiteralFirst (list at i f) y) x.2
    (record { behind = refl; fit = λ g rest. l.fit at f g rest; whole = l.whole })

pub literal_next : (f : Forest) (rs : List Seen) (v : Value × List Seen) → rs ≡ seen_trees f → literal_of rs ≡ Some v
    → LiteralFirst f v
literal_next f rs v is h = literal_found f v (ap literal_of (sym is) ∙ h)
