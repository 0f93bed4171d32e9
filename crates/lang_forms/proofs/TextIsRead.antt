-- Trees with the forms of a text are parsed as it.
use Rattle.std.proofs.Common.{true, ◌≡◌, ℕ, List, [], ◌∷◌, ◌++◌, map, Some, Ok, refl, sym, ap, ◌∙◌, subst, codes}
use Rattle.std.proofs.lemmas.List.{append-nil, append_assoc, map-append}
use Rattle.sexp_text.specs.Forest.{Forest, empty, atom, list}
use Rattle.lang_ast.specs.Terms.{Func}
use Rattle.lang_ast.specs.declared.syntax.Parameter.{Parameter}
use Rattle.lang_ast.specs.declared.program.State.{State}
use Rattle.lang_ast.specs.declared.program.Version.{Version}
use Rattle.lang_ast.specs.declared.script.DoForm.{DoForm}
use Rattle.lang_forms.specs.Names.{is_name}
use Rattle.rt_values.specs.Keywords.{type_word}
use Rattle.lang_forms.specs.Words.{version_word, policy_word}
use Rattle.lang_forms.specs.Sketch.{Sketch, nothing, Fits}
use Rattle.lang_forms.specs.Sources.{Source}
use Rattle.lang_forms.specs.Forms.{parameters_forms, states_forms, functions_forms, scripts_forms, KnownNames, site_after_all, state_name, function_name, SpelledParameters, SpelledStates, SpelledFunctions, SpelledScripts, HasForms}
use Rattle.lang_forms.specs.Readings.{Top, StateTop, FunctionTop, DoTop, seen_trees, word_of, literal_at, actor_steps_of, parameter_form, parameters_form, state_form, function_form, do_form, top_form, header_form}
use Rattle.lang_forms.specs.TextReading.{PartialSource, known_names, source_with_form, tops_of, text_of, start, source_of, source_or_offset}
use Rattle.lang_forms.proofs.KeywordTables.{version_table, type_table, policy_table, keyword_there}
use Rattle.lang_forms.proofs.FormsAreRead.{First, ReadsBody, name_there, literal_read, literal_there, stmts_read, list_with_word}
use Rattle.lang_forms.proofs.StepsAreRead.{actor_read}

-- Parameters, states, functions and scripts.

parameter_read : (p : Parameter) (b : ℕ) → is_name p.name.text ≡ true
    → parameter_form (seen_trees (atom p.name.at p.name.text (atom b (type_word p.ty) empty))) ≡ Some p
unfolding parameter_form
parameter_read p b h = rw (name_there p.name _ h, keyword_there type_table p.ty b empty)

parameters_read : (ps : List Parameter) (f : Forest) → SpelledParameters ps → Fits f (parameters_forms ps)
    → parameters_form (seen_trees f) ≡ Some ps
unfolding parameters_form
parameters_read [] f s h = rw h
parameters_read (p ∷ ps) f s h =
    let n = h.5 in
    let t = n.4 in
    let is : h.1 ≡ atom p.name.at p.name.text (atom t.0 (type_word p.ty) empty) =
    n.2 ∙ ap (λ (q : ℕ). atom q p.name.text n.1) n.3
    ∙ ap (atom p.name.at p.name.text) (t.2 ∙ ap (atom t.0 (type_word p.ty)) t.4) in
    let read : parameter_form (seen_trees h.1) ≡ Some p = ap (λ (i : Forest). parameter_form (seen_trees i)) is
    ∙ parameter_read p t.0 s.0 in
    ap (λ (x : Forest). parameters_form (seen_trees x)) h.3 ∙ rw (read, parameters_read ps h.2 s.1 h.6)

state_inside : (b c : ℕ) (s : State) (f : Forest) → is_name s.name.text ≡ true → First f literal_at s.initial nothing →
    state_form s.at (seen_trees (atom s.name.at s.name.text
    (atom b (type_word s.ty) (atom c (policy_word s.policy) f)))) ≡ Some s
unfolding state_form word_of
state_inside b c s f h one = rw (
  name_there s.name _ h,
  keyword_there type_table s.ty b _,
  keyword_there policy_table s.policy c _,
  literal_there s.initial f nothing one,
  one.behind,
)

state_read : (m : KnownNames) (k a b c : ℕ) (s : State) (f : Forest) → is_name s.name.text ≡ true
    → First f literal_at s.initial nothing →
    top_form m k s.at (seen_trees (atom a (codes "state") (atom s.name.at s.name.text (atom b (type_word s.ty) (atom c (policy_word s.policy) f))))) ≡ Some (StateTop s, k)
unfolding top_form word_of
state_read m k a b c s f h one = rw (state_inside b c s f h one)

function_inside : (m : KnownNames) (k q : ℕ) (c : Func) (i f : Forest) → is_name c.name.text ≡ true
    → parameters_form (seen_trees i) ≡ Some c.parameters → ReadsBody m k f c.body →
    function_form m k c.at (seen_trees (atom c.name.at c.name.text (list q i f))) ≡ Some (c, site_after_all k c.body)
unfolding function_form
function_inside m k q c i f h ps r = rw (name_there c.name _ h, ps, r.read, r.is)

function_read : (m : KnownNames) (k a q : ℕ) (c : Func) (i f : Forest) → is_name c.name.text ≡ true
    → parameters_form (seen_trees i) ≡ Some c.parameters → ReadsBody m k f c.body →
    top_form m k c.at (seen_trees (atom a (codes "fun") (atom c.name.at c.name.text (list q i f)))) ≡ Some (FunctionTop c, site_after_all k c.body)
unfolding top_form word_of
function_read m k a q c i f h ps r = rw (function_inside m k q c i f h ps r)

do_inside : (m : List (List ℕ)) (d : DoForm) (f : Forest) → is_name d.actor.text ≡ true
    → actor_steps_of m (seen_trees f) ≡ Some d.steps
    → do_form m d.at (seen_trees (atom d.actor.at d.actor.text f)) ≡ Some d
unfolding do_form
do_inside m d f h r = rw (name_there d.actor _ h, r)

do_read : (m : KnownNames) (k a : ℕ) (d : DoForm) (f : Forest) → is_name d.actor.text ≡ true
    → actor_steps_of m.states (seen_trees f) ≡ Some d.steps →
    top_form m k d.at (seen_trees (atom a (codes "do") (atom d.actor.at d.actor.text f))) ≡ Some (DoTop d, k)
unfolding top_form word_of
do_read m k a d f h r = rw (do_inside m.states d f h r)

-- The top forms after the parsed ones.

-- The parser after some trees.
record GoesOn (f : Forest) (p q : PartialSource) (g : Sketch) : Type 0 where
  rest : Forest
  fits : Fits rest g
  same : tops_of p (seen_trees f) ≡ tops_of q (seen_trees rest)

-- A list that is a top form is taken.
one_top : (f i r : Forest) (at x : ℕ) (p q : PartialSource) (t : Top) (k : ℕ) → f ≡ list at i r → at ≡ x
    → top_form (known_names p) p.site x (seen_trees i) ≡ Some (t, k) → source_with_form p t k ≡ Some q →
    tops_of p (seen_trees f) ≡ tops_of q (seen_trees r)
unfolding tops_of
one_top f i r at x p q t k is told read put =
    let here : top_form (known_names p) p.site at (seen_trees i) ≡ Some (t, k) =
    ap (λ (y : ℕ). top_form (known_names p) p.site y (seen_trees i)) told ∙ read in
    ap (λ (y : Forest). tops_of p (seen_trees y)) is ∙ rw (here, put)

-- The parsed part.
abbrev so_far : ℕ → Version → List State → List Func → List DoForm → ℕ → PartialSource
so_far at v ss cs ds k = record { header = at; version = v; states = ss; functions = cs; script = ds; site = k }

states_read : (at : ℕ) (v : Version) (k : ℕ) (front ss : List State) (f : Forest) (g : Sketch) → SpelledStates ss
    → Fits f (states_forms ss g) → GoesOn f (so_far at v front [] [] k) (so_far at v (front ++ ss) [] [] k) g
states_read at v k front [] f g s h = record {
  rest = f;
  fits = h;
  same = ap (λ (l : List State). tops_of (so_far at v l [] [] k) (seen_trees f)) (sym (append-nil front));
}
states_read at v k front (t ∷ ss) f g s h =
    let w = h.5 in
    let n = w.4 in
    let y = n.4 in
    let p = y.4 in
    let one = literal_read t.initial p.1 nothing s.1 p.4 in
    let is : h.1 ≡ atom w.0 (codes "state") (atom t.name.at t.name.text (atom y.0 (type_word t.ty) (atom p.0 (policy_word t.policy) p.1))) =
    list_with_word h.1 w.1 n.1 w.0 n.0 (codes "state") t.name w.2 n.2 n.3 ∙ ap (λ (x : Forest). atom w.0 (codes "state") (atom t.name.at t.name.text x)) (y.2 ∙ ap (atom y.0 (type_word t.ty)) p.2) in
    let before = so_far at v front [] [] k in
    let read : top_form (known_names before) k t.at (seen_trees h.1) ≡ Some (StateTop t, k) =
    ap (λ (i : Forest). top_form (known_names before) k t.at (seen_trees i)) is
    ∙ state_read (known_names before) k w.0 y.0 p.0 t p.1 s.0 one in
    let next = so_far at v (front ++ t ∷ []) [] [] k in
    let more = states_read at v k (front ++ t ∷ []) ss h.2 g s.2 h.6 in
    record {
      rest = more.rest;
      fits = more.fits;
      same = one_top f h.1 h.2 h.0 t.at before next (StateTop t) k h.3 h.4 read refl ∙ more.same
          ∙ ap (λ (l : List State). tops_of (so_far at v l [] [] k) (seen_trees more.rest))
          (append_assoc front (t ∷ []) ss);
    }

-- The number of the statement after those of functions.
abbrev behind_all : ℕ → List Func → ℕ
behind_all k [] = k
behind_all k (c ∷ cs) = behind_all (site_after_all k c.body) cs

functions_read : (at : ℕ) (v : Version) (k : ℕ) (ss : List State) (front cs : List Func) (f : Forest) (g : Sketch)
    → SpelledFunctions (record { states = map state_name ss; functions = map function_name front }) k cs
    → Fits f (functions_forms cs g)
    → GoesOn f (so_far at v ss front [] k) (so_far at v ss (front ++ cs) [] (behind_all k cs)) g
functions_read at v k ss front [] f g s h = record {
  rest = f;
  fits = h;
  same = ap (λ (l : List Func). tops_of (so_far at v ss l [] k) (seen_trees f)) (sym (append-nil front));
}
functions_read at v k ss front (c ∷ cs) f g s h =
    let w = h.5 in
    let n = w.4 in
    let l = n.4 in
    let before = so_far at v ss front [] k in
    let is : h.1 ≡ atom w.0 (codes "fun") (atom c.name.at c.name.text (list l.0 l.1 l.2)) =
    list_with_word h.1 w.1 n.1 w.0 n.0 (codes "fun") c.name w.2 n.2 n.3 ∙ ap (λ (x : Forest). atom w.0 (codes "fun") (atom c.name.at c.name.text x)) l.3 in
    let read : top_form (known_names before) k c.at (seen_trees h.1) ≡ Some (FunctionTop c, site_after_all k c.body) =
    ap (λ (i : Forest). top_form (known_names before) k c.at (seen_trees i)) is
    ∙ function_read (known_names before) k w.0 l.0 c l.1 l.2 s.0 (parameters_read c.parameters l.1 s.1 l.5)
    (stmts_read (known_names before) k c.body l.2 s.2 l.6) in
    let next = so_far at v ss (front ++ c ∷ []) [] (site_after_all k c.body) in
    let spelled : SpelledFunctions (known_names next) (site_after_all k c.body) cs =
    subst (λ (ns : List (List ℕ)). SpelledFunctions (record { states = map state_name ss; functions = ns })
    (site_after_all k c.body) cs) (sym (map-append function_name front (c ∷ []))) s.3 in
    let more = functions_read at v (site_after_all k c.body) ss (front ++ c ∷ []) cs h.2 g spelled h.6 in
    record {
      rest = more.rest;
      fits = more.fits;
      same =
          one_top f h.1 h.2 h.0 c.at before next (FunctionTop c) (site_after_all k c.body) h.3 h.4 read refl ∙ more.same
          ∙ ap (λ (x : List Func). tops_of (so_far at v ss x [] (behind_all (site_after_all k c.body) cs))
          (seen_trees more.rest)) (append_assoc front (c ∷ []) cs);
    }

scripts_read : (at : ℕ) (v : Version) (k : ℕ) (ss : List State) (cs : List Func) (front ds : List DoForm) (f : Forest)
    → SpelledScripts (map state_name ss) ds → Fits f (scripts_forms ds)
    → tops_of (so_far at v ss cs front k) (seen_trees f) ≡ Ok (so_far at v ss cs (front ++ ds) k)
unfolding tops_of
scripts_read at v k ss cs front [] f s h = ap (λ (x : Forest). tops_of (so_far at v ss cs front k) (seen_trees x)) h
    ∙ ap (λ (l : List DoForm). Ok (so_far at v ss cs l k)) (sym (append-nil front))
scripts_read at v k ss cs front (d ∷ ds) f s h =
    let w = h.5 in
    let n = w.4 in
    let before = so_far at v ss cs front k in
    let is = list_with_word h.1 w.1 n.1 w.0 n.0 (codes "do") d.actor w.2 n.2 n.3 in
    let read : top_form (known_names before) k d.at (seen_trees h.1) ≡ Some (DoTop d, k) =
    ap (λ (i : Forest). top_form (known_names before) k d.at (seen_trees i)) is
    ∙ do_read (known_names before) k w.0 d n.1 s.0 (actor_read (map state_name ss) d.steps n.1 s.1 n.4) in
    one_top f h.1 h.2 h.0 d.at before (so_far at v ss cs (front ++ d ∷ []) k) (DoTop d) k h.3 h.4 read refl
    ∙ scripts_read at v k ss cs (front ++ d ∷ []) ds h.2 s.2 h.6
    ∙ ap (λ (l : List DoForm). Ok (so_far at v ss cs l k)) (append_assoc front (d ∷ []) ds)

header_read : (end at x a b : ℕ) (v : Version) (f i r : Forest) → f ≡ list at i r → at ≡ x → i ≡ atom a (codes "compose") (atom b (version_word v) empty) → text_of end (seen_trees f) ≡ tops_of (start x v) (seen_trees r)
unfolding text_of header_form word_of
header_read end at x a b v f i r is told inner = rw (is, told, inner, keyword_there version_table v b empty)

-- Trees with the forms of a text are parsed as that text, whatever the length of the input.
pub text_read : (end : ℕ) (f : Forest) (t : Source) → HasForms f t → source_of end (seen_trees f) ≡ Ok t
text_read end f t h =
    let g = h.fits in
    let w = g.5 in
    let o = w.4 in
    let p = t.program in
    let head = header_read end g.0 p.header w.0 o.0 p.version f g.1 g.2 g.3 g.4 (w.2 ∙ ap (atom w.0 (codes "compose")) (o.2 ∙ ap (atom o.0 (version_word p.version)) o.4)) in
    let ss = states_read p.header p.version 1 [] p.states g.2 _ h.spelled.states g.6 in
    let cs = functions_read p.header p.version 1 p.states [] p.functions ss.rest _ h.spelled.functions ss.fits in
    let ds = scripts_read p.header p.version (behind_all 1 p.functions) p.states p.functions [] t.script cs.rest h.spelled.script
    cs.fits in
    ap source_or_offset (head ∙ ss.same ∙ cs.same ∙ ds)
