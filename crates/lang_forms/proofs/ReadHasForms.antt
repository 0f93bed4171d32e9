-- Trees that are parsed as expressions and statements have their forms.
use Rattle.std.proofs.Common.{◌≡◌, inl, inr, ℕ, ◌+◌, List, [], ◌∷◌, length, Option, Some, None, Bool, true, false, cond, refl, sym, ap, ◌∙◌, subst, codes}
use Rattle.std.specs.Option.{option_map}
use Rattle.std.proofs.lemmas.Option.{cond_some}
use Rattle.sexp_text.specs.Forest.{Forest, empty, atom, text, list}
use Rattle.rt_values.specs.declared.value.Value.{Value}
use Rattle.rt_values.specs.declared.value.Value.TheVariants as value
use Rattle.lang_ast.specs.Terms.{Expr, Literal, Variable, Get, Apply, Named, Head, Stmt, If, exprs, stmts}
use Rattle.lang_ast.specs.declared.syntax.Ident.{Ident}
use Rattle.lang_ast.specs.declared.syntax.Source.TheVariants as sources
use Rattle.lang_forms.specs.declared.statement_heads.BodyWord.{BodyWord}
use Rattle.lang_forms.specs.declared.statement_heads.BodyWord.TheVariants as body
use Rattle.lang_forms.specs.declared.statement_heads.StatementWord.{StatementWord}
use Rattle.lang_forms.specs.declared.statement_heads.StatementWord.TheVariants as statement
use Rattle.lang_forms.specs.Names.{is_name, number_of_name}
use Rattle.lang_forms.specs.Words.{takes, operator_for_word}
use Rattle.lang_forms.specs.Sketch.{Sketch, nothing, group, Fits}
use Rattle.lang_forms.specs.Forms.{name, expr_forms, exprs_forms, pairs_forms, head_forms, stmt_forms, stmts_forms, KnownNames, Spelled, AllSpelled, SpelledPairs, site_after, site_after_all, SpelledHead, SpelledStmt, SpelledStmts, plain_fits}
use Rattle.lang_forms.specs.Readings.{choose, Seen, seen_trees, is_end, word_of, name_of, plain_of, string_of, leaf_of, expr_at, expr_of, exprs_of, get_form, apply_form, expr_form, pair_form, pairs_form, pairs_of, binding_of, named_pairs_of, stmts_of, block_of, body_word, statement_word, statement_for_word, head_of, block_form, branches_of, call_form, if_form, form_after, stmt_form, keyword_of}
use Rattle.lang_forms.proofs.KeywordTables.{operator_table, statement_table}
use Rattle.lang_forms.proofs.Found.{inject, bind_some, map_some, choose_some, Worded, word_found, name_next, keyword_next, end_next, plain_found, string_found, tail}
use Rattle.lang_forms.proofs.FormsAreRead.{count_is}

-- The forms of statements that are parsed.
pub record BodyFits (m : KnownNames) (k : ℕ) (f : Forest) (b : List Stmt × ℕ) : Type 0 where
  pub fits : Fits f (stmts_forms (stmts b.0))
  pub spelled : SpelledStmts m k (stmts b.0)
  pub next : b.1 ≡ site_after_all k (stmts b.0)

-- The forms of all trees of a forest.
pub record Claims (f : Forest) : Type 0 where
  pub exprs_fit : (m : List (List ℕ)) (es : List Expr) → exprs_of m (seen_trees f) ≡ Some es
      → Fits f (exprs_forms (exprs es)) × AllSpelled m (exprs es)
  pub pairs_fit : (m : List (List ℕ)) (ks : List Named) → pairs_form m (seen_trees f) ≡ Some ks
      → Fits f (pairs_forms ks) × SpelledPairs m ks
  pub stmts_fit : (m : KnownNames) (k : ℕ) (b : List Stmt × ℕ) → stmts_of m k (seen_trees f) ≡ Some b → BodyFits m k f b

-- The forms of the trees after each tree and of those inside it.
abbrev pub Good : Forest → Type 0
Good empty = Unit {0}
Good (atom at a f) = Claims f × Good f
Good (text at s f) = Claims f × Good f
Good (list at i f) = Claims i × Good i × Claims f × Good f

no_exprs : (m : List (List ℕ)) (es : List Expr) → exprs_of m [] ≡ Some es
    → Fits empty (exprs_forms (exprs es)) × AllSpelled m (exprs es)
unfolding exprs_of
no_exprs m [] h = (refl, tt)
no_exprs m (e ∷ es) h = absurd (cc)

no_pairs : (m : List (List ℕ)) (ks : List Named) → pairs_form m [] ≡ Some ks
    → Fits empty (pairs_forms ks) × SpelledPairs m ks
unfolding pairs_form
no_pairs m [] h = (refl, tt)
no_pairs m (k ∷ ks) h = absurd (cc)

no_stmts : (m : KnownNames) (k : ℕ) (b : List Stmt × ℕ) → stmts_of m k [] ≡ Some b → BodyFits m k empty b
unfolding stmts_of
no_stmts m k b h =
    subst (λ (c : List Stmt × ℕ). BodyFits m k empty c) (inject h) (record { fits = refl; spelled = tt; next = refl })

nothing_claimed : Claims empty
nothing_claimed = record { exprs_fit = no_exprs; pairs_fit = no_pairs; stmts_fit = no_stmts }

-- The forms of the trees after the first.
tail_claims : (f : Forest) → Good f → Claims (tail f)
tail_claims empty good = nothing_claimed
tail_claims (atom at a f) good = good.0
tail_claims (text at s f) good = good.0
tail_claims (list at i f) good = good.2

tail_good : (f : Forest) → Good f → Good (tail f)
tail_good empty good = tt
tail_good (atom at a f) good = good.1
tail_good (text at s f) good = good.1
tail_good (list at i f) good = good.3

-- The forms of the trees after an atom.
pub behind_good : (i : Forest) (a : ℕ) (w : List ℕ) (r : Forest) → i ≡ atom a w r → Good i → Good r
behind_good i a w r is good = let all : Good (atom a w r) = subst Good is good in all.1

behind_claims : (i : Forest) (a : ℕ) (w : List ℕ) (r : Forest) → i ≡ atom a w r → Good i → Claims r
behind_claims i a w r is good = let all : Good (atom a w r) = subst Good is good in all.0

-- Expressions.

-- A first tree that is an expression, and the trees after it.
record ExprFirst (m : List (List ℕ)) (f : Forest) (e : Expr × List Seen) : Type 0 where
  behind : e.1 ≡ seen_trees (tail f)
  fit : (g : Sketch) → Fits (tail f) g → Fits f (expr_forms e.0 g)
  spelled : Spelled m e.0

-- A list that is an expression.
record ListExpr (m : List (List ℕ)) (at : ℕ) (i : Forest) (e : Expr) : Type 0 where
  fit : (r : Forest) (g : Sketch) → Fits r g → Fits (list at i r) (expr_forms e g)
  spelled : Spelled m e

-- An atom that is an expression.
record AtomExpr (m : List (List ℕ)) (at : ℕ) (a : List ℕ) (e : Expr) : Type 0 where
  fit : (r : Forest) (g : Sketch) → Fits r g → Fits (atom at a r) (expr_forms e g)
  spelled : Spelled m e

-- A value that fits in an expression.
literal_spelled : (m : List (List ℕ)) (at : ℕ) (v : Value) → plain_fits v ≡ true → Spelled m (Literal at v)
literal_spelled m at v h = h

leaf_found : (m : List (List ℕ)) (at : ℕ) (a : List ℕ) (e : Expr) → leaf_of at a ≡ Some e → AtomExpr m at a e
unfolding leaf_of
leaf_found m at a e h = by (is_name a) refl h
  where
    by : (b : Bool) → is_name a ≡ b
        → cond b (Some (Variable (record { at = at; text = a }))) (option_map (Literal at) (plain_of a)) ≡ Some e
        → AtomExpr m at a e
    by true good i = subst (λ (x : Expr). AtomExpr m at a x) (inject i)
        (record { fit = λ r g rest. (at, r, refl, refl, rest); spelled = good })
    by false bad i =
        let v = map_some (plain_of a) (Literal at) e i in
        let p = plain_found a v.0 v.1 in
        subst (λ (x : Expr). AtomExpr m at a x) v.2
        (record { fit = λ r g rest. p.fit (Some at) at r g refl rest; spelled = literal_spelled m at v.0 p.plain })

get_found : (m : List (List ℕ)) (at : ℕ) (i : Forest) (e : Expr) (ss : List Seen) → Worded i (codes "get") ss → get_form m at ss ≡ Some e → ListExpr m at i e
unfolding get_form
get_found m at i e ss w h =
    let n = bind_some (name_of ss) _ e h in
    let c = cond_some (is_end n.0.1) (Get at n.0.0 (sources.State (number_of_name n.0.0.text m))) e n.2 in
    let x = name_next w.rest ss n.0 w.behind n.1 in
    let over = end_next x.rest n.0.1 x.behind c.0 in
    subst (λ (d : Expr). ListExpr m at i d) c.1
    (record {
      fit = λ r g rest. (
        at,
        i,
        r,
        refl,
        refl,
        (w.at, w.rest, w.is, tt, (n.0.0.at, x.rest, x.is, refl, over)),
        rest,
      );
      spelled = (x.good, refl);
    })

apply_found : (m : List (List ℕ)) (at : ℕ) (i : Forest) (e : Expr) → Good i → apply_form m at (seen_trees i) ≡ Some e
    → ListExpr m at i e
unfolding apply_form
apply_found m at i e good h =
    let o = bind_some (keyword_of operator_for_word (seen_trees i)) _ e h in
    let w = keyword_next operator_table i (seen_trees i) o.0 refl o.1 in
    let es = bind_some (exprs_of m o.0.1) _ e o.2 in
    let c = cond_some (takes o.0.0 (length es.0)) (Apply at o.0.0 (exprs es.0)) e es.2 in
    let all = (behind_claims i _ _ w.rest w.is good).exprs_fit m es.0 (ap (exprs_of m) (sym w.behind) ∙ es.1) in
    subst (λ (d : Expr). ListExpr m at i d) c.1
    (record {
      fit = λ r g rest. (at, i, r, refl, refl, (w.at, w.rest, w.is, tt, all.0), rest);
      spelled = (ap (takes o.0.0) (count_is es.0) ∙ c.0, all.1);
    })

list_found : (m : List (List ℕ)) (at : ℕ) (i : Forest) (e : Expr) → Good i → expr_form m at (seen_trees i) ≡ Some e
    → ListExpr m at i e
unfolding expr_form
list_found m at i e good h = elim (choose_some (word_of (codes "get") (seen_trees i)) (get_form m at) (apply_form m at (seen_trees i)) e h) [
  | inl x ↦ get_found m at i e x.0 (word_found (codes "get") i x.0 x.1) x.2
  | inr x ↦ apply_found m at i e good x.1
]

expr_found : (m : List (List ℕ)) (f : Forest) (e : Expr × List Seen) → Good f → expr_of m (seen_trees f) ≡ Some e
    → ExprFirst m f e
expr_found m empty e good h = absurd (cc)
expr_found m (atom at a f) e good h =
    let x = map_some (leaf_of at a) (λ (d : Expr). (d, seen_trees f)) e h in
    let l = leaf_found m at a x.0 x.1 in
    subst (λ (p : Expr × List Seen). ExprFirst m (atom at a f) p) x.2
    (record { behind = refl; fit = λ g rest. l.fit f g rest; spelled = l.spelled })
expr_found m (text at s f) e good h =
    let x = map_some (option_map (Literal at) (string_of s)) (λ (d : Expr). (d, seen_trees f)) e h in
    let v = map_some (string_of s) (Literal at) x.0 x.1 in
    let q = string_found s v.0 v.1 in
    let is : (Literal at (value.Text s), seen_trees f) ≡ e = ap (λ (y : Value). (Literal at y, seen_trees f)) q.is
    ∙ ap (λ (y : Expr). (y, seen_trees f)) v.2 ∙ x.2 in
    subst (λ (p : Expr × List Seen). ExprFirst m (text at s f) p) is
    (record { behind = refl; fit = λ g rest. (at, f, refl, refl, rest); spelled = q.good })
expr_found m (list at i f) e good h =
    let x = map_some (expr_form m at (seen_trees i)) (λ (d : Expr). (d, seen_trees f)) e h in
    let l = list_found m at i x.0 good.1 x.1 in
    subst (λ (p : Expr × List Seen). ExprFirst m (list at i f) p) x.2
    (record { behind = refl; fit = λ g rest. l.fit f g rest; spelled = l.spelled })

expr_next : (m : List (List ℕ)) (f : Forest) (rs : List Seen) (e : Expr × List Seen) → Good f → rs ≡ seen_trees f
    → expr_of m rs ≡ Some e → ExprFirst m f e
expr_next m f rs e good is h = expr_found m f e good (ap (expr_of m) (sym is) ∙ h)

exprs_step : (m : List (List ℕ)) (f : Forest) (s : Seen) → seen_trees f ≡ s ∷ seen_trees (tail f) → Good f
    → (es : List Expr) → exprs_of m (seen_trees f) ≡ Some es → Fits f (exprs_forms (exprs es)) × AllSpelled m (exprs es)
unfolding exprs_of
exprs_step m f s is good es h =
    let e = bind_some (expr_at m s)
    (λ (e : Expr). option_map (λ (es : List Expr). e ∷ es) (exprs_of m (seen_trees (tail f)))) es
    (ap (exprs_of m) (sym is) ∙ h) in
    let rest = map_some (exprs_of m (seen_trees (tail f))) (λ (es : List Expr). e.0 ∷ es) es e.2 in
    let first = expr_found m f (e.0, seen_trees (tail f)) good
    (ap (expr_of m) is ∙ ap (option_map (λ (d : Expr). (d, seen_trees (tail f)))) e.1) in
    let all = (tail_claims f good).exprs_fit m rest.0 rest.1 in
    subst (λ (l : List Expr). Fits f (exprs_forms (exprs l)) × AllSpelled m (exprs l)) rest.2
    (first.fit (exprs_forms (exprs rest.0)) all.0, (first.spelled, all.1))

exprs_claim : (f : Forest) → Good f → (m : List (List ℕ)) (es : List Expr) → exprs_of m (seen_trees f) ≡ Some es
    → Fits f (exprs_forms (exprs es)) × AllSpelled m (exprs es)
exprs_claim empty good m es h = no_exprs m es h
exprs_claim (atom at a f) good m es h = exprs_step m (atom at a f) _ refl good es h
exprs_claim (text at a f) good m es h = exprs_step m (text at a f) _ refl good es h
exprs_claim (list at i f) good m es h = exprs_step m (list at i f) _ refl good es h

-- NAME EXPR
record PairFits (m : List (List ℕ)) (i : Forest) (k : Named) : Type 0 where
  fits : Fits i (name k.name (expr_forms k.value nothing))
  good : is_name k.name.text ≡ true
  spelled : Spelled m k.value

pair_found : (m : List (List ℕ)) (i : Forest) (k : Named) → Good i → pair_form m (seen_trees i) ≡ Some k
    → PairFits m i k
unfolding pair_form
pair_found m i k good h =
    let n = bind_some (name_of (seen_trees i)) _ k h in
    let x = name_next i (seen_trees i) n.0 refl n.1 in
    let e = bind_some (expr_of m n.0.1) _ k n.2 in
    let first = expr_next m x.rest n.0.1 e.0 (behind_good i _ _ x.rest x.is good) x.behind e.1 in
    let made : Named = record { name = n.0.0; value = e.0.0 } in
    let c = cond_some (is_end e.0.1) made k e.2 in
    let over = end_next (tail x.rest) e.0.1 first.behind c.0 in
    subst (λ (y : Named). PairFits m i y) c.1
    (record {
      fits = (n.0.0.at, x.rest, x.is, refl, first.fit nothing over);
      good = x.good;
      spelled = first.spelled;
    })

pairs_claim : (f : Forest) → Good f → (m : List (List ℕ)) (ks : List Named) → pairs_form m (seen_trees f) ≡ Some ks
    → Fits f (pairs_forms ks) × SpelledPairs m ks
unfolding pairs_form
pairs_claim empty good m ks h = no_pairs m ks h
pairs_claim (atom at a f) good m ks h = absurd (cc)
pairs_claim (text at a f) good m ks h = absurd (cc)
pairs_claim (list at i f) good m ks h =
    let k = bind_some (pair_form m (seen_trees i)) _ ks h in
    let rest = map_some (pairs_form m (seen_trees f)) (λ (l : List Named). k.0 ∷ l) ks k.2 in
    let all = good.2.pairs_fit m rest.0 rest.1 in
    let one = pair_found m i k.0 good.1 k.1 in
    subst (λ (l : List Named). Fits (list at i f) (pairs_forms l) × SpelledPairs m l) rest.2
    ((at, i, f, refl, tt, one.fits, all.0), (one.good, one.spelled, all.1))

-- A first tree that is a list of pairs.
record PairsFirst (m : List (List ℕ)) (f : Forest) (k : List Named × List Seen) : Type 0 where
  at : ℕ
  inner : Forest
  rest : Forest
  is : f ≡ list at inner rest
  behind : k.1 ≡ seen_trees rest
  fits : Fits inner (pairs_forms k.0)
  spelled : SpelledPairs m k.0
  good : Good rest
  claims : Claims rest

pairs_found : (m : List (List ℕ)) (f : Forest) (k : List Named × List Seen) → Good f
    → pairs_of m (seen_trees f) ≡ Some k → PairsFirst m f k
pairs_found m empty k good h = absurd (cc)
pairs_found m (atom at a f) k good h = absurd (cc)
pairs_found m (text at a f) k good h = absurd (cc)
pairs_found m (list at i f) k good h =
    let x = map_some (pairs_form m (seen_trees i)) (λ (ns : List Named). (ns, seen_trees f)) k h in
    let all = good.0.pairs_fit m x.0 x.1 in
    subst (λ (p : List Named × List Seen). PairsFirst m (list at i f) p) x.2
    (record {
      at = at;
      inner = i;
      rest = f;
      is = refl;
      behind = refl;
      fits = all.0;
      spelled = all.1;
      good = good.3;
      claims = good.2;
    })

pairs_next : (m : List (List ℕ)) (f : Forest) (rs : List Seen) (k : List Named × List Seen) → Good f → rs ≡ seen_trees f
    → pairs_of m rs ≡ Some k → PairsFirst m f k
pairs_next m f rs k good is h = pairs_found m f k good (ap (pairs_of m) (sym is) ∙ h)

-- NAME EXPR, and the trees after it.
record BindingFirst (m : List (List ℕ)) (f : Forest) (x : (Ident × Expr) × List Seen) : Type 0 where
  rest : Forest
  behind : x.1 ≡ seen_trees rest
  fit : (g : Sketch) → Fits rest g → Fits f (name x.0.0 (expr_forms x.0.1 g))
  good : is_name x.0.0.text ≡ true
  spelled : Spelled m x.0.1
  claims : Claims rest

binding_next : (m : List (List ℕ)) (f : Forest) (rs : List Seen) (x : (Ident × Expr) × List Seen) → Good f
    → rs ≡ seen_trees f → binding_of m rs ≡ Some x → BindingFirst m f x
unfolding binding_of
binding_next m f rs x good is h =
    let n = bind_some (name_of rs) _ x h in
    let e = bind_some (expr_of m n.0.1) _ x n.2 in
    let w = name_next f rs n.0 is n.1 in
    let inside = behind_good f _ _ w.rest w.is good in
    let first = expr_next m w.rest n.0.1 e.0 inside w.behind e.1 in
    subst (λ (y : (Ident × Expr) × List Seen). BindingFirst m f y) (inject e.2) (record {
      rest = tail w.rest;
      behind = first.behind;
      fit = λ g r. (n.0.0.at, w.rest, w.is, refl, first.fit g r);
      good = w.good;
      spelled = first.spelled;
      claims = tail_claims w.rest inside;
    })

-- NAME ((NAME EXPR)..), and the trees after it.
record NamedPairsFirst (m : List (List ℕ)) (f : Forest) (x : (Ident × List Named) × List Seen) : Type 0 where
  rest : Forest
  behind : x.1 ≡ seen_trees rest
  fit : (g : Sketch) → Fits rest g → Fits f (name x.0.0 (group None (pairs_forms x.0.1) g))
  good : is_name x.0.0.text ≡ true
  spelled : SpelledPairs m x.0.1
  inner : Good rest
  claims : Claims rest

named_pairs_next : (m : List (List ℕ)) (f : Forest) (rs : List Seen) (x : (Ident × List Named) × List Seen) → Good f
    → rs ≡ seen_trees f → named_pairs_of m rs ≡ Some x → NamedPairsFirst m f x
unfolding named_pairs_of
named_pairs_next m f rs x good is h =
    let n = bind_some (name_of rs) _ x h in
    let ns = bind_some (pairs_of m n.0.1) _ x n.2 in
    let w = name_next f rs n.0 is n.1 in
    let l = pairs_next m w.rest n.0.1 ns.0 (behind_good f _ _ w.rest w.is good) w.behind ns.1 in
    subst (λ (y : (Ident × List Named) × List Seen). NamedPairsFirst m f y) (inject ns.2) (record {
      rest = l.rest;
      behind = l.behind;
      fit = λ g r. (n.0.0.at, w.rest, w.is, refl, (l.at, l.inner, l.rest, l.is, tt, l.fits, r));
      good = w.good;
      spelled = l.spelled;
      inner = l.good;
      claims = l.claims;
    })

-- The head of a statement with a body after its keyword, and the trees after it.
record HeadFirst (m : List (List ℕ)) (i : Forest) (h : Head × List Seen) : Type 0 where
  rest : Forest
  behind : h.1 ≡ seen_trees rest
  fit : (g : Sketch) → Fits rest g → Fits i (head_forms h.0 g)
  spelled : SpelledHead m h.0
  claims : Claims rest

head_found : (m : List (List ℕ)) (i : Forest) (w : BodyWord) (ss : List Seen) (h : Head × List Seen) → Good i
    → Worded i (body_word w) ss → head_of m w ss ≡ Some h → HeadFirst m i h
unfolding head_of
head_found m i body.Node ss h good w e =
    let x = bind_some (named_pairs_of m ss) _ h e in
    let p = named_pairs_next m w.rest ss x.0 (behind_good i _ _ w.rest w.is good) w.behind x.1 in
    subst (λ (y : Head × List Seen). HeadFirst m i y) (inject x.2) (record {
      rest = p.rest;
      behind = p.behind;
      fit = λ g r. (w.at, w.rest, w.is, tt, p.fit g r);
      spelled = (p.good, p.spelled);
      claims = p.claims;
    })
head_found m i body.Key ss h good w e =
    let inside = behind_good i _ _ w.rest w.is good in
    let x = bind_some (expr_of m ss) _ h e in
    let p = expr_next m w.rest ss x.0 inside w.behind x.1 in
    subst (λ (y : Head × List Seen). HeadFirst m i y) (inject x.2) (record {
      rest = tail w.rest;
      behind = p.behind;
      fit = λ g r. (w.at, w.rest, w.is, tt, p.fit g r);
      spelled = p.spelled;
      claims = tail_claims w.rest inside;
    })
head_found m i body.For ss h good w e =
    let x = bind_some (binding_of m ss) _ h e in
    let p = binding_next m w.rest ss x.0 (behind_good i _ _ w.rest w.is good) w.behind x.1 in
    subst (λ (y : Head × List Seen). HeadFirst m i y) (inject x.2) (record {
      rest = p.rest;
      behind = p.behind;
      fit = λ g r. (w.at, w.rest, w.is, tt, p.fit g r);
      spelled = (p.good, p.spelled);
      claims = p.claims;
    })
head_found m i body.Let ss h good w e =
    let x = bind_some (binding_of m ss) _ h e in
    let p = binding_next m w.rest ss x.0 (behind_good i _ _ w.rest w.is good) w.behind x.1 in
    subst (λ (y : Head × List Seen). HeadFirst m i y) (inject x.2) (record {
      rest = p.rest;
      behind = p.behind;
      fit = λ g r. (w.at, w.rest, w.is, tt, p.fit g r);
      spelled = (p.good, p.spelled);
      claims = p.claims;
    })
head_found m i body.Remember ss h good w e =
    let x = bind_some (named_pairs_of m ss) _ h e in
    let p = named_pairs_next m w.rest ss x.0 (behind_good i _ _ w.rest w.is good) w.behind x.1 in
    let y = bind_some (expr_of m x.0.1) _ h x.2 in
    let q = expr_next m p.rest x.0.1 y.0 p.inner p.behind y.1 in
    subst (λ (y : Head × List Seen). HeadFirst m i y) (inject y.2) (record {
      rest = tail p.rest;
      behind = q.behind;
      fit = λ g r. (w.at, w.rest, w.is, tt, p.fit _ (q.fit g r));
      spelled = (p.good, p.spelled, q.spelled);
      claims = tail_claims p.rest p.inner;
    })

-- Statements.

-- Statements after the parsed trees.
body_next : (m : KnownNames) (k : ℕ) (f : Forest) (rs : List Seen) (b : List Stmt × ℕ) → Claims f → rs ≡ seen_trees f
    → stmts_of m k rs ≡ Some b → BodyFits m k f b
body_next m k f rs b claims is h = claims.stmts_fit m k b (ap (stmts_of m k) (sym is) ∙ h)

-- A list that is a statement.
record StmtFits (m : KnownNames) (k at : ℕ) (i : Forest) (t : Stmt × ℕ) : Type 0 where
  fit : (r : Forest) (g : Sketch) → Fits r g → Fits (list at i r) (stmt_forms t.0 g)
  spelled : SpelledStmt m k t.0
  next : t.1 ≡ site_after k t.0

block_found : (m : KnownNames) (k at : ℕ) (i : Forest) (t : Stmt × ℕ) (w : BodyWord) (ss : List Seen) → Good i
    → Worded i (body_word w) ss → block_form m k at w ss ≡ Some t → StmtFits m k at i t
unfolding block_form
block_found m k at i t w ss good word h =
    let x = bind_some (head_of m.states w ss) _ t h in
    let head = head_found m.states i w ss x.0 good word x.1 in
    let b = bind_some (stmts_of m (k + 1) x.0.1) _ t x.2 in
    let body = body_next m (k + 1) head.rest x.0.1 b.0 head.claims head.behind b.1 in
    subst (λ (d : Stmt × ℕ). StmtFits m k at i d) (inject b.2) (record {
      fit = λ r g y. (at, i, r, refl, refl, head.fit (stmts_forms (stmts b.0.0)) body.fits, y);
      spelled = (refl, head.spelled, body.spelled);
      next = body.next;
    })

call_found : (m : KnownNames) (k at : ℕ) (i : Forest) (t : Stmt × ℕ) (ss : List Seen) → Good i → Worded i (codes "call") ss → call_form m k at ss ≡ Some t → StmtFits m k at i t
unfolding call_form
call_found m k at i t ss good w h =
    let n = bind_some (name_of ss) _ t h in
    let x = name_next w.rest ss n.0 w.behind n.1 in
    let es = bind_some (exprs_of m.states n.0.1) _ t n.2 in
    let all = (behind_claims w.rest _ _ x.rest x.is (behind_good i _ _ w.rest w.is good)).exprs_fit m.states es.0
    (ap (exprs_of m.states) (sym x.behind) ∙ es.1) in
    subst (λ (d : Stmt × ℕ). StmtFits m k at i d) (inject es.2) (record {
      fit = λ r g y. (at, i, r, refl, refl, (w.at, w.rest, w.is, tt, (n.0.0.at, x.rest, x.is, refl, all.0)), y);
      spelled = (refl, x.good, refl, all.1);
      next = refl;
    })

-- A first tree that is a list of statements.
record ListFirst (m : KnownNames) (k : ℕ) (f : Forest) (b : (List Stmt × ℕ) × List Seen) : Type 0 where
  at : ℕ
  inner : Forest
  rest : Forest
  is : f ≡ list at inner rest
  behind : b.1 ≡ seen_trees rest
  body : BodyFits m k inner b.0
  good : Good rest

statements_found : (m : KnownNames) (k : ℕ) (f : Forest) (b : (List Stmt × ℕ) × List Seen) → Good f
    → block_of m k (seen_trees f) ≡ Some b → ListFirst m k f b
statements_found m k empty b good h = absurd (cc)
statements_found m k (atom at a f) b good h = absurd (cc)
statements_found m k (text at a f) b good h = absurd (cc)
statements_found m k (list at i f) b good h =
    let x = map_some (stmts_of m k (seen_trees i)) (λ (c : List Stmt × ℕ). (c, seen_trees f)) b h in
    subst (λ (p : (List Stmt × ℕ) × List Seen). ListFirst m k (list at i f) p) x.2
    (record {
      at = at;
      inner = i;
      rest = f;
      is = refl;
      behind = refl;
      body = good.0.stmts_fit m k x.0 x.1;
      good = good.3;
    })

statements_next : (m : KnownNames) (k : ℕ) (f : Forest) (rs : List Seen) (b : (List Stmt × ℕ) × List Seen) → Good f
    → rs ≡ seen_trees f → block_of m k rs ≡ Some b → ListFirst m k f b
statements_next m k f rs b good is h = statements_found m k f b good (ap (block_of m k) (sym is) ∙ h)

-- An if with these branches, and the number after it.
abbrev if_with : ℕ → ℕ → Expr → (List Stmt × List Stmt) × ℕ → Stmt × ℕ
if_with at k e b = (If at k e (stmts b.0.0) (stmts b.0.1), b.1)

if_found : (m : KnownNames) (k at : ℕ) (i : Forest) (t : Stmt × ℕ) (ss : List Seen) → Good i → Worded i (codes "if") ss → if_form m k at ss ≡ Some t → StmtFits m k at i t
unfolding if_form branches_of
if_found m k at i t ss good w h =
    let inside = behind_good i _ _ w.rest w.is good in
    let e = bind_some (expr_of m.states ss) _ t h in
    let first = expr_next m.states w.rest ss e.0 inside w.behind e.1 in
    let both = bind_some (branches_of m (k + 1) e.0.1) _ t e.2 in
    let a = bind_some (block_of m (k + 1) e.0.1) _ both.0 both.1 in
    let yes = statements_next m (k + 1) (tail w.rest) e.0.1 a.0 (tail_good w.rest inside) first.behind a.1 in
    let b = bind_some (block_of m a.0.0.1 a.0.1) _ both.0 a.2 in
    let other = statements_next m a.0.0.1 yes.rest a.0.1 b.0 yes.good yes.behind b.1 in
    let c = cond_some (is_end b.0.1) ((a.0.0.0, b.0.0.0), b.0.0.1) both.0 b.2 in
    let over = end_next other.rest b.0.1 other.behind c.0 in
    subst (λ (d : Stmt × ℕ). StmtFits m k at i d) (inject both.2)
    (subst (λ (x : (List Stmt × List Stmt) × ℕ). StmtFits m k at i (if_with at k e.0.0 x)) c.1 (record {
      fit = λ r g y. (
        at,
        i,
        r,
        refl,
        refl,
        (
          w.at,
          w.rest,
          w.is,
          tt,
          first.fit _ (
            yes.at,
            yes.inner,
            yes.rest,
            yes.is,
            tt,
            yes.body.fits,
            (other.at, other.inner, other.rest, other.is, tt, other.body.fits, over),
          ),
        ),
        y,
      );
      spelled = (
        refl,
        first.spelled,
        yes.body.spelled,
        subst (λ (j : ℕ). SpelledStmts m j (stmts b.0.0.0)) yes.body.next other.body.spelled,
      );
      next = other.body.next ∙ ap (λ (j : ℕ). site_after_all j (stmts b.0.0.0)) yes.body.next;
    }))

-- One of two readings.
pub either : {A B : Type 0} (C : Type 0) (o : Option A) (f : A → Option B) (other : Option B) (y : B)
    → choose o f other ≡ Some y → ((x : A) → o ≡ Some x → f x ≡ Some y → C) → (other ≡ Some y → C) → C
either C None f other y h one two = two h
either C (Some x) f other y h one two = one x refl h

-- The trees after the keyword of a statement.
form_found : (m : KnownNames) (k at : ℕ) (i : Forest) (t : Stmt × ℕ) (w : StatementWord) (ss : List Seen) → Good i
    → Worded i (statement_word w) ss → form_after m k at w ss ≡ Some t → StmtFits m k at i t
form_found m k at i t statement.Call ss good word h = call_found m k at i t ss good word h
form_found m k at i t statement.If ss good word h = if_found m k at i t ss good word h
form_found m k at i t (statement.WithBody w) ss good word h = block_found m k at i t w ss good word h

stmt_found : (m : KnownNames) (k at : ℕ) (i : Forest) (t : Stmt × ℕ) → Good i → stmt_form m k at (seen_trees i) ≡ Some t
    → StmtFits m k at i t
unfolding stmt_form
stmt_found m k at i t good h =
    let w = bind_some (keyword_of statement_for_word (seen_trees i)) _ t h in
    let x = keyword_next statement_table i (seen_trees i) w.0 refl w.1 in
    let word : Worded i (statement_word w.0.0) w.0.1 =
    record { at = x.at; rest = x.rest; is = x.is; behind = x.behind } in
    form_found m k at i t w.0.0 w.0.1 good word w.2

stmts_claim : (f : Forest) → Good f → (m : KnownNames) (k : ℕ) (b : List Stmt × ℕ)
    → stmts_of m k (seen_trees f) ≡ Some b → BodyFits m k f b
unfolding stmts_of
stmts_claim empty good m k b h = no_stmts m k b h
stmts_claim (atom at a f) good m k b h = absurd (cc)
stmts_claim (text at a f) good m k b h = absurd (cc)
stmts_claim (list at i f) good m k b h =
    let t = bind_some (stmt_form m k at (seen_trees i)) _ b h in
    let rest = map_some (stmts_of m t.0.1 (seen_trees f)) (λ (ts : List Stmt × ℕ). (t.0.0 ∷ ts.0, ts.1)) b t.2 in
    let all = good.2.stmts_fit m t.0.1 rest.0 rest.1 in
    let one = stmt_found m k at i t.0 good.1 t.1 in
    subst (λ (c : List Stmt × ℕ). BodyFits m k (list at i f) c) rest.2 (record {
      fits = one.fit f (stmts_forms (stmts rest.0.0)) all.fits;
      spelled = (one.spelled, subst (λ (j : ℕ). SpelledStmts m j (stmts rest.0.0)) one.next all.spelled);
      next = all.next ∙ ap (λ (j : ℕ). site_after_all j (stmts rest.0.0)) one.next;
    })

claims : (f : Forest) → Good f → Claims f
claims f good =
    record { exprs_fit = exprs_claim f good; pairs_fit = pairs_claim f good; stmts_fit = stmts_claim f good }

pub all_good : (f : Forest) → Good f
all_good empty = tt
all_good (atom at a f) = (claims f (all_good f), all_good f)
all_good (text at a f) = (claims f (all_good f), all_good f)
all_good (list at i f) = (claims i (all_good i), all_good i, claims f (all_good f), all_good f)

-- Trees that are parsed as a body have its forms.
pub body_found : (m : KnownNames) (k : ℕ) (f : Forest) (rs : List Seen) (b : List Stmt × ℕ) → rs ≡ seen_trees f
    → stmts_of m k rs ≡ Some b → BodyFits m k f b
body_found m k f rs b is h = body_next m k f rs b (claims f (all_good f)) is h
