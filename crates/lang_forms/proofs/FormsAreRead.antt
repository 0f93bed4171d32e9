-- Trees with the forms of a part are parsed as it.
use Rattle.std.proofs.Common.{◌≡◌, ℕ, suc, ◌+◌, List, [], ◌∷◌, length, Option, Some, None, Bool, true, false, true≢false, ℤ, refl, sym, ap, ◌∙◌, subst, codes}
use Rattle.std.specs.Fmt.{signed_decimal}
use Rattle.std.proofs.lemmas.Bool.{and_parts}
use Rattle.sexp_text.specs.Forest.{Forest, empty, atom, text, list}
use Rattle.rt_values.specs.declared.value.Value.{Value}
use Rattle.rt_values.specs.declared.value.Value.TheVariants as value
use Rattle.rt_values.specs.Values.{truth_text}
use Rattle.lang_ast.specs.Terms.{Expr, Literal, Variable, Get, Apply, Exprs, none, more, Named, Head, Node, Key, For, Let, Remember, Stmt, Call, If, Block, Stmts, done, next, exprs, stmts, operand_count}
use Rattle.lang_ast.specs.declared.syntax.Ident.{Ident}
use Rattle.lang_ast.specs.declared.syntax.Operator.{Operator}
use Rattle.lang_ast.specs.declared.syntax.Operator.TheVariants as operator
use Rattle.lang_ast.specs.declared.syntax.Source.{Source}
use Rattle.lang_ast.specs.declared.syntax.Source.TheVariants as sources
use Rattle.lang_limits.specs.Tokens.{fits}
use Rattle.lang_forms.specs.declared.statement_heads.BodyWord.{BodyWord}
use Rattle.lang_forms.specs.declared.statement_heads.BodyWord.TheVariants as body
use Rattle.lang_forms.specs.declared.statement_heads.StatementWord.TheVariants as statement
use Rattle.lang_forms.specs.Names.{is_name, all_fit, is_string, is_list_long, number_of_name}
use Rattle.lang_forms.specs.Words.{operator_word, takes}
use Rattle.lang_forms.specs.Sketch.{Sketch, nothing, Fits}
use Rattle.lang_forms.specs.Forms.{numbers, literal, expr_forms, exprs_forms, pairs_forms, head_forms, stmt_forms, stmts_forms, literal_fits, KnownNames, Spelled, AllSpelled, SpelledPairs, site_after, site_after_all, SpelledHead, SpelledStmt, SpelledStmts}
use Rattle.lang_forms.specs.Readings.{Seen, seen_trees, form, roles, word_of, name_of, truth_of, plain_of, string_of, number_of_first, ints_of, literal_form, literal_at, literal_of, leaf_of, expr_at, expr_of, exprs_of, get_form, apply_form, expr_form, pair_form, pairs_form, stmt_at, stmts_of, block_of, binding_of, named_pairs_of, body_word, head_of, block_form, branches_of, call_form, if_form, stmt_form}
use Rattle.lang_forms.proofs.KeywordTables.{operator_table, statement_table, keyword_there}
use Rattle.lang_forms.proofs.Ints.{int-decimal, letters_no_int, decimal_no_name}

-- A first tree that is parsed as a part, and the trees after it.
pub record First {A : Type 0} (f : Forest) (read : Seen → Option A) (a : A) (g : Sketch) : Type 0 where
  pub tree : Seen
  pub rest : Forest
  pub is : seen_trees f ≡ tree ∷ seen_trees rest
  pub as_read : read tree ≡ Some a
  pub behind : Fits rest g

-- A first tree that is a list of these trees.
pub one_list : {A : Type 0} (read : Seen → Option A) (at p : ℕ) (f i r : Forest) (a : A) (g : Sketch) → f ≡ list at i r
    → at ≡ p → read (form p (roles p (seen_trees i))) ≡ Some a → Fits r g → First f read a g
one_list read at p f i r a g is told h rest =
    subst (λ (x : Forest). First x read a g) (sym is)
    (record {
      tree = form at (roles at (seen_trees i));
      rest = r;
      is = refl;
      as_read = ap (λ (q : ℕ). read (form q (roles q (seen_trees i)))) told ∙ h;
      behind = rest;
    })

-- A first tree that is an atom.
one_atom : {A : Type 0} (read : Seen → Option A) (at p : ℕ) (f r : Forest) (w : List ℕ) (a : A) (g : Sketch)
    → f ≡ atom at w r → at ≡ p → read (Seen.word p w) ≡ Some a → Fits r g → First f read a g
one_atom read at p f r w a g is told h rest =
    subst (λ (x : Forest). First x read a g) (sym is)
    (record {
      tree = Seen.word at w;
      rest = r;
      is = refl;
      as_read = ap (λ (q : ℕ). read (Seen.word q w)) told ∙ h;
      behind = rest;
    })

-- A first tree that is a string.
one_string : {A : Type 0} (read : Seen → Option A) (at p : ℕ) (f r : Forest) (s : List ℕ) (a : A) (g : Sketch)
    → f ≡ text at s r → at ≡ p → read (Seen.chars p s) ≡ Some a → Fits r g → First f read a g
one_string read at p f r s a g is told h rest =
    subst (λ (x : Forest). First x read a g) (sym is)
    (record {
      tree = Seen.chars at s;
      rest = r;
      is = refl;
      as_read = ap (λ (q : ℕ). read (Seen.chars q s)) told ∙ h;
      behind = rest;
    })

pub name_there : (n : Ident) (r : Forest) → is_name n.text ≡ true
    → name_of (seen_trees (atom n.at n.text r)) ≡ Some (n, seen_trees r)
unfolding name_of
name_there n r h = rw h

operator_no_get : (o : Operator) (a : ℕ) (r : Forest) → word_of (codes "get") (seen_trees (atom a (operator_word o) r)) ≡ None
unfolding word_of
operator_no_get operator.Add a r = refl
operator_no_get _ a r = refl

-- Literals.

int_read : (z : ℤ) → fits z ≡ true → plain_of (signed_decimal z) ≡ Some (value.Int z)
unfolding plain_of
int_read z h = rw (int-decimal z h)

-- A first tree that is a number.
pub number_there : (z : ℤ) (a : ℕ) (r : Forest) → fits z ≡ true
    → number_of_first (seen_trees (atom a (signed_decimal z) r)) ≡ Some (z, seen_trees r)
number_there z a r h = rw (int-decimal z h)

truth_read : (b : Bool) → plain_of (truth_text b) ≡ Some (value.Bool b)
unfolding plain_of truth_of
truth_read true = rw (letters_no_int (codes "true") refl)
truth_read false = rw (letters_no_int (codes "false") refl)

string_read : (cs : List ℕ) → is_string cs ≡ true → string_of cs ≡ Some (value.Text cs)
unfolding string_of
string_read cs h = rw h

ints_read : (zs : List ℤ) (f : Forest) → all_fit zs ≡ true → Fits f (numbers zs) → ints_of (seen_trees f) ≡ Some zs
unfolding ints_of
ints_read [] f s h = rw h
ints_read (z ∷ zs) f s h =
    let fit = and_parts (fits z) (all_fit zs) s in
    ap (λ (x : Forest). ints_of (seen_trees x)) h.2 ∙ rw (int-decimal z fit.0, ints_read zs h.1 fit.1 h.4)

list_read : (zs : List ℤ) (a : ℕ) (f : Forest) → is_list_long (length zs) ≡ true → ints_of (seen_trees f) ≡ Some zs → literal_form (seen_trees (atom a (codes "ints") f)) ≡ Some (value.Ints zs)
unfolding literal_form word_of
list_read zs a f h r = rw (r, h)

-- A first tree that is a literal, at any offset.
pub literal_read : (v : Value) (f : Forest) (g : Sketch) → literal_fits v ≡ true → Fits f (literal None v g)
    → First f literal_at v g
literal_read (value.Int z) f g s h = one_atom literal_at h.0 h.0 f h.1 _ (value.Int z) g h.2 refl (int_read z s) h.4
literal_read (value.Bool b) f g s h = one_atom literal_at h.0 h.0 f h.1 _ (value.Bool b) g h.2 refl (truth_read b) h.4
literal_read (value.Text cs) f g s h =
    one_string literal_at h.0 h.0 f h.1 cs (value.Text cs) g h.2 refl (string_read cs s) h.4
literal_read (value.Ints zs) f g s h =
    let fit = and_parts (is_list_long (length zs)) (all_fit zs) s in
    let w = h.5 in
    let read : literal_form (seen_trees h.1) ≡ Some (value.Ints zs) =
    ap (λ (i : Forest). literal_form (seen_trees i)) w.2
    ∙ list_read zs w.0 w.1 fit.0 (ints_read zs w.1 fit.1 w.4) in
    one_list literal_at h.0 h.0 f h.1 h.2 (value.Ints zs) g h.3 refl read h.6

pub literal_there : (v : Value) (f : Forest) (g : Sketch) → (one : First f literal_at v g)
    → literal_of (seen_trees f) ≡ Some (v, seen_trees one.rest)
literal_there v f g one = ap literal_of one.is ∙ rw one.as_read

-- Expressions.

pub record ReadsAll (m : List (List ℕ)) (f : Forest) (es : Exprs) : Type 0 where
  pub found : List Expr
  pub read : exprs_of m (seen_trees f) ≡ Some found
  pub is : exprs found ≡ es

variable_read : (n : Ident) → is_name n.text ≡ true → leaf_of n.at n.text ≡ Some (Variable n)
unfolding leaf_of
variable_read n h = rw h

int_leaf : (at : ℕ) (z : ℤ) → fits z ≡ true → leaf_of at (signed_decimal z) ≡ Some (Literal at (value.Int z))
unfolding leaf_of
int_leaf at z h = rw (decimal_no_name z h, int_read z h)

truth_leaf : (at : ℕ) (b : Bool) → leaf_of at (truth_text b) ≡ Some (Literal at (value.Bool b))
unfolding leaf_of
truth_leaf at true = rw (truth_read true)
truth_leaf at false = rw (truth_read false)

get_read : (m : List (List ℕ)) (at a : ℕ) (n : Ident) → is_name n.text ≡ true → expr_form m at (seen_trees (atom a (codes "get") (atom n.at n.text empty))) ≡ Some (Get at n (sources.State (number_of_name n.text m)))
unfolding expr_form get_form word_of
get_read m at a n h = rw (name_there n empty h)

pub count_is : (es : List Expr) → operand_count (exprs es) ≡ length es
count_is [] = refl
count_is (e ∷ es) = ap suc (count_is es)

apply_read : (m : List (List ℕ)) (at a : ℕ) (o : Operator) (es : Exprs) (f : Forest) → takes o (operand_count es) ≡ true
    → ReadsAll m f es → expr_form m at (seen_trees (atom a (operator_word o) f)) ≡ Some (Apply at o es)
unfolding expr_form apply_form
apply_read m at a o es f h r =
    let enough : takes o (length r.found) ≡ true = ap (takes o) (sym (count_is r.found) ∙ ap operand_count r.is) ∙ h in
    rw (operator_no_get o a f, keyword_there operator_table o a f, r.read, enough, r.is)

none_read : (m : List (List ℕ)) (f : Forest) → f ≡ empty → ReadsAll m f none
unfolding exprs_of
none_read m f h = subst (λ (x : Forest). ReadsAll m x none) (sym h) (record { found = []; read = refl; is = refl })

more_read : (m : List (List ℕ)) (f : Forest) (e : Expr) (es : Exprs) → (one : First f (expr_at m) e (exprs_forms es))
    → ReadsAll m one.rest es → ReadsAll m f (more e es)
unfolding exprs_of
more_read m f e es one r = record {
  found = e ∷ r.found;
  read = ap (exprs_of m) one.is ∙ rw (one.as_read, r.read);
  is = ap (more e) r.is;
}

-- The keyword and the name at the beginning of a form.
pub list_with_word : (i j r : Forest) (a b : ℕ) (w : List ℕ) (n : Ident) → i ≡ atom a w j → j ≡ atom b n.text r
    → b ≡ n.at → i ≡ atom a w (atom n.at n.text r)
list_with_word i j r a b w n e f g = e ∙ ap (atom a w) (f ∙ ap (λ (p : ℕ). atom p n.text r) g)

mutual
  expr_read : (m : List (List ℕ)) (e : Expr) (f : Forest) (g : Sketch) → Spelled m e → Fits f (expr_forms e g)
      → First f (expr_at m) e g
  expr_read m (Literal at (value.Int z)) f g s h =
      one_atom (expr_at m) h.0 at f h.1 _ (Literal at (value.Int z)) g h.2 h.3 (int_leaf at z s) h.4
  expr_read m (Literal at (value.Bool b)) f g s h =
      one_atom (expr_at m) h.0 at f h.1 _ (Literal at (value.Bool b)) g h.2 h.3 (truth_leaf at b) h.4
  expr_read m (Literal at (value.Text cs)) f g s h =
      one_string (expr_at m) h.0 at f h.1 cs (Literal at (value.Text cs)) g h.2 h.3 (rw (string_read cs s)) h.4
  expr_read m (Literal at (value.Ints zs)) f g s h = absurd (true≢false (sym s))
  expr_read m (Variable n) f g s h =
      one_atom (expr_at m) h.0 n.at f h.1 n.text (Variable n) g h.2 h.3 (variable_read n s) h.4
  expr_read m (Get at n source) f g s h =
      let w = h.5 in
      let k = w.4 in
      let is : h.1 ≡ atom w.0 (codes "get") (atom n.at n.text empty) = list_with_word h.1 w.1 k.1 w.0 k.0 (codes "get") n w.2 k.2 k.3 ∙ ap (λ (x : Forest). atom w.0 (codes "get") (atom n.at n.text x)) k.4 in
      let read : expr_form m at (seen_trees h.1) ≡ Some (Get at n source) =
      ap (λ (i : Forest). expr_form m at (seen_trees i)) is ∙ get_read m at w.0 n s.0
      ∙ ap (λ (x : Source). Some (Get at n x)) (sym s.1) in
      one_list (expr_at m) h.0 at f h.1 h.2 (Get at n source) g h.3 h.4 read h.6
  expr_read m (Apply at o es) f g s h =
      let w = h.5 in
      let read : expr_form m at (seen_trees h.1) ≡ Some (Apply at o es) =
      ap (λ (i : Forest). expr_form m at (seen_trees i)) w.2
      ∙ apply_read m at w.0 o es w.1 s.0 (exprs_read m es w.1 s.1 w.4) in
      one_list (expr_at m) h.0 at f h.1 h.2 (Apply at o es) g h.3 h.4 read h.6

  exprs_read : (m : List (List ℕ)) (es : Exprs) (f : Forest) → AllSpelled m es → Fits f (exprs_forms es)
      → ReadsAll m f es
  exprs_read m none f s h = none_read m f h
  exprs_read m (more e es) f s h =
      let one = expr_read m e f (exprs_forms es) s.0 h in
      more_read m f e es one (exprs_read m es one.rest s.1 one.behind)

expr_there : (m : List (List ℕ)) (f : Forest) (e : Expr) (g : Sketch) → (one : First f (expr_at m) e g)
    → expr_of m (seen_trees f) ≡ Some (e, seen_trees one.rest)
expr_there m f e g one = ap (expr_of m) one.is ∙ rw one.as_read

pair_read : (m : List (List ℕ)) (n : Ident) (e : Expr) (f : Forest) → is_name n.text ≡ true
    → First f (expr_at m) e nothing
    → pair_form m (seen_trees (atom n.at n.text f)) ≡ Some (record { name = n; value = e })
unfolding pair_form
pair_read m n e f h one = rw (name_there n f h, expr_there m f e nothing one, one.behind)

pairs_read : (m : List (List ℕ)) (ks : List Named) (f : Forest) → SpelledPairs m ks → Fits f (pairs_forms ks)
    → pairs_form m (seen_trees f) ≡ Some ks
unfolding pairs_form
pairs_read m [] f s h = rw h
pairs_read m (k ∷ ks) f s h =
    let n = h.5 in
    let one = expr_read m k.value n.1 nothing s.1 n.4 in
    let read : pair_form m (seen_trees h.1) ≡ Some k =
    ap (λ (i : Forest). pair_form m (seen_trees i)) (n.2 ∙ ap (λ (p : ℕ). atom p k.name.text n.1) n.3)
    ∙ pair_read m k.name k.value n.1 s.0 one in
    ap (λ (x : Forest). pairs_form m (seen_trees x)) h.3 ∙ rw (read, pairs_read m ks h.2 s.2 h.6)

-- Statements.

pub record ReadsBody (m : KnownNames) (k : ℕ) (f : Forest) (b : Stmts) : Type 0 where
  pub found : List Stmt
  pub read : stmts_of m k (seen_trees f) ≡ Some (found, site_after_all k b)
  pub is : stmts found ≡ b

-- A first tree that is a statement, and the number of the next.
abbrev pub ReadsStmt : KnownNames → ℕ → Forest → Stmt → Sketch → Type 0
ReadsStmt m k f t g = First f (stmt_at m k) (t, site_after k t) g

done_read : (m : KnownNames) (k : ℕ) (f : Forest) → f ≡ empty → ReadsBody m k f done
unfolding stmts_of
done_read m k f h = subst (λ (x : Forest). ReadsBody m k x done) (sym h) (record { found = []; read = refl; is = refl })

next_read : (m : KnownNames) (k : ℕ) (f : Forest) (t : Stmt) (ts : Stmts) → (one : ReadsStmt m k f t (stmts_forms ts))
    → ReadsBody m (site_after k t) one.rest ts → ReadsBody m k f (next t ts)
unfolding stmts_of
next_read m k f t ts one r = record {
  found = t ∷ r.found;
  read = ap (stmts_of m k) one.is ∙ rw (one.as_read, r.read);
  is = ap (next t) r.is;
}

-- Heads.

-- The keyword of a head.
head_word : Head → BodyWord
head_word (Node n ns) = body.Node
head_word (Key e) = body.Key
head_word (For n e) = body.For
head_word (Let n e) = body.Let
head_word (Remember n ks e) = body.Remember

-- A keyword and a head, and the trees after it.
record ReadsHead (m : List (List ℕ)) (h : Head) (f : Forest) (g : Sketch) : Type 0 where
  at : ℕ
  after : Forest
  rest : Forest
  is : f ≡ atom at (body_word (head_word h)) after
  as_read : head_of m (head_word h) (seen_trees after) ≡ Some (h, seen_trees rest)
  behind : Fits rest g

name_first : (i r : Forest) (b : ℕ) (n : Ident) → i ≡ atom b n.text r → b ≡ n.at → i ≡ atom n.at n.text r
name_first i r b n is told = is ∙ ap (λ (p : ℕ). atom p n.text r) told

-- NAME ((NAME EXPR)..)
pairs_there : (m : List (List ℕ)) (n : Ident) (ks : List Named) (p : ℕ) (f i r : Forest)
    → f ≡ atom n.at n.text (list p i r) → is_name n.text ≡ true → pairs_form m (seen_trees i) ≡ Some ks
    → named_pairs_of m (seen_trees f) ≡ Some ((n, ks), seen_trees r)
unfolding named_pairs_of
pairs_there m n ks p f i r is h read = rw (is, name_there n (list p i r) h, read)

-- NAME EXPR
binding_there : (m : List (List ℕ)) (n : Ident) (e : Expr) (f i : Forest) (g : Sketch) → f ≡ atom n.at n.text i
    → is_name n.text ≡ true → (one : First i (expr_at m) e g)
    → binding_of m (seen_trees f) ≡ Some ((n, e), seen_trees one.rest)
unfolding binding_of
binding_there m n e f i g is h one = rw (is, name_there n i h, expr_there m i e g one)

head_read : (m : List (List ℕ)) (h : Head) (f : Forest) (g : Sketch) → SpelledHead m h → Fits f (head_forms h g)
    → ReadsHead m h f g
unfolding head_word head_of
head_read m (Node n ns) f g s w =
    let v = w.4 in
    let l = v.4 in
    let first = name_first w.1 v.1 v.0 n v.2 v.3 ∙ ap (atom n.at n.text) l.3 in
    record {
      at = w.0;
      after = w.1;
      rest = l.2;
      is = w.2;
      as_read = rw (pairs_there m n ns l.0 w.1 l.1 l.2 first s.0 (pairs_read m ns l.1 s.1 l.5)) refl;
      behind = l.6;
    }
head_read m (Key e) f g s w =
    let one = expr_read m e w.1 g s w.4 in
    record {
      at = w.0;
      after = w.1;
      rest = one.rest;
      is = w.2;
      as_read = rw (expr_there m w.1 e g one) refl;
      behind = one.behind;
    }
head_read m (For n e) f g s w =
    let v = w.4 in
    let one = expr_read m e v.1 g s.1 v.4 in
    record {
      at = w.0;
      after = w.1;
      rest = one.rest;
      is = w.2;
      as_read = rw (binding_there m n e w.1 v.1 g (name_first w.1 v.1 v.0 n v.2 v.3) s.0 one) refl;
      behind = one.behind;
    }
head_read m (Let n e) f g s w =
    let v = w.4 in
    let one = expr_read m e v.1 g s.1 v.4 in
    record {
      at = w.0;
      after = w.1;
      rest = one.rest;
      is = w.2;
      as_read = rw (binding_there m n e w.1 v.1 g (name_first w.1 v.1 v.0 n v.2 v.3) s.0 one) refl;
      behind = one.behind;
    }
head_read m (Remember n ks e) f g s w =
    let v = w.4 in
    let l = v.4 in
    let first = name_first w.1 v.1 v.0 n v.2 v.3 ∙ ap (atom n.at n.text) l.3 in
    let one = expr_read m e l.2 g s.2 l.6 in
    record {
      at = w.0;
      after = w.1;
      rest = one.rest;
      is = w.2;
      as_read = rw (
        pairs_there m n ks l.0 w.1 l.1 l.2 first s.0 (pairs_read m ks l.1 s.1 l.5),
        expr_there m l.2 e g one,
      ) refl;
      behind = one.behind;
    }

-- A head and a body.
block_read : (m : KnownNames) (k at : ℕ) (h : Head) (b : Stmts) (f : Forest) (g : Sketch)
    → (one : ReadsHead m.states h f g) → ReadsBody m (k + 1) one.rest b →
    stmt_form m k at (seen_trees f) ≡ Some (Block at k h b, site_after_all (k + 1) b)
unfolding stmt_form block_form
block_read m k at h b f g one r =
    rw (one.is, keyword_there statement_table (statement.WithBody (head_word h)) one.at one.after, one.as_read, r.read, r.is)

call_read : (m : KnownNames) (k at a : ℕ) (n : Ident) (es : Exprs) (f : Forest) → is_name n.text ≡ true
    → ReadsAll m.states f es →
    stmt_form m k at (seen_trees (atom a (codes "call") (atom n.at n.text f))) ≡ Some (Call at k n (number_of_name n.text m.functions) es, k + 1)
unfolding stmt_form call_form
call_read m k at a n es f h r =
    rw (keyword_there statement_table statement.Call a (atom n.at n.text f), name_there n f h, r.read, r.is)

-- The statements of a first tree that is a list.
block_there : (m : KnownNames) (k p : ℕ) (f i r : Forest) (b : Stmts) → f ≡ list p i r → (all : ReadsBody m k i b)
    → block_of m k (seen_trees f) ≡ Some ((all.found, site_after_all k b), seen_trees r)
block_there m k p f i r b is all = ap (λ (x : Forest). block_of m k (seen_trees x)) is ∙ rw all.read

if_read : (m : KnownNames) (k at w p q : ℕ) (e : Expr) (a b : Stmts) (f i j r : Forest) (g : Sketch)
    → (one : First f (expr_at m.states) e g) → one.rest ≡ list p i r → r ≡ list q j empty →
    ReadsBody m (k + 1) i a → ReadsBody m (site_after_all (k + 1) a) j b →
    stmt_form m k at (seen_trees (atom w (codes "if") f)) ≡ Some (If at k e a b, site_after_all (site_after_all (k + 1) a) b)
unfolding stmt_form if_form branches_of
if_read m k at w p q e a b f i j r g one x y s t =
    rw (
      keyword_there statement_table statement.If w f,
      expr_there m.states f e g one,
      block_there m (k + 1) p one.rest i r a x s,
      block_there m (site_after_all (k + 1) a) q r j empty b y t,
      s.is,
      t.is,
    )

-- A list that is parsed as a statement, with its number.
one_stmt : (m : KnownNames) (k site at p x : ℕ) (f i r : Forest) (t : ℕ → Stmt) (g : Sketch) → site ≡ k
    → f ≡ list at i r → at ≡ p → stmt_form m k p (seen_trees i) ≡ Some (t k, x) → Fits r g
    → First f (stmt_at m k) (t site, x) g
one_stmt m k site at p x f i r t g same is told h rest =
    one_list (stmt_at m k) at p f i r (t site, x) g is told (h ∙ ap (λ (j : ℕ). Some (t j, x)) (sym same)) rest

mutual
  stmt_read : (m : KnownNames) (k : ℕ) (t : Stmt) (f : Forest) (g : Sketch) → SpelledStmt m k t
      → Fits f (stmt_forms t g) → ReadsStmt m k f t g
  stmt_read m k (Call at site n function es) f g s h =
      let w = h.5 in
      let v = w.4 in
      let is = list_with_word h.1 w.1 v.1 w.0 v.0 (codes "call") n w.2 v.2 v.3 in
      one_stmt m k site h.0 at _ f h.1 h.2 (λ j. Call at j n function es) g s.0 h.3 h.4
      (ap (λ (i : Forest). stmt_form m k at (seen_trees i)) is
      ∙ call_read m k at w.0 n es v.1 s.1 (exprs_read m.states es v.1 s.3 v.4)
      ∙ ap (λ (c : ℕ). Some (Call at k n c es, k + 1)) (sym s.2)) h.6
  stmt_read m k (If at site e a b) f g s h =
      let w = h.5 in
      let one = expr_read m.states e w.1 _ s.1 w.4 in
      let x = one.behind in
      let y = x.6 in
      one_stmt m k site h.0 at _ f h.1 h.2 (λ j. If at j e a b) g s.0 h.3 h.4
      (ap (λ (i : Forest). stmt_form m k at (seen_trees i)) w.2
      ∙ if_read m k at w.0 x.0 y.0 e a b w.1 x.1 y.1 x.2 _ one x.3 (y.3 ∙ ap (list y.0 y.1) y.6)
      (stmts_read m (k + 1) a x.1 s.2 x.5) (stmts_read m (site_after_all (k + 1) a) b y.1 s.3 y.5)) h.6
  stmt_read m k (Block at site head b) f g s h =
      let one = head_read m.states head h.1 (stmts_forms b) s.1 h.5 in
      one_stmt m k site h.0 at _ f h.1 h.2 (λ j. Block at j head b) g s.0 h.3 h.4
      (block_read m k at head b h.1 (stmts_forms b) one (stmts_read m (k + 1) b one.rest s.2 one.behind)) h.6

  pub stmts_read : (m : KnownNames) (k : ℕ) (b : Stmts) (f : Forest) → SpelledStmts m k b → Fits f (stmts_forms b)
      → ReadsBody m k f b
  stmts_read m k done f s h = done_read m k f h
  stmts_read m k (next t ts) f s h =
      let one = stmt_read m k t f (stmts_forms ts) s.0 h in
      next_read m k f t ts one (stmts_read m (site_after k t) ts one.rest s.1 one.behind)
