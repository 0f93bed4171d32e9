-- Trees that are parsed as a text have its forms.
use Rattle.std.proofs.Common.{◌≡◌, ℕ, List, [], ◌∷◌, ◌++◌, map, Option, Some, None, Result, Ok, Err, Bool, true, false, true≢false, refl, sym, ap, ◌∙◌, subst, codes, ◌&&◌}
use Rattle.std.specs.Option.{option_map}
use Rattle.std.proofs.lemmas.Bool.{and_parts}
use Rattle.std.proofs.lemmas.List.{append-nil, append_assoc, map-append}
use Rattle.std.proofs.lemmas.Option.{cond_some}
use Rattle.sexp_text.specs.Forest.{Forest, empty, atom, text, list}
use Rattle.lang_ast.specs.Terms.{Func}
use Rattle.lang_ast.specs.declared.syntax.Parameter.{Parameter}
use Rattle.lang_ast.specs.declared.program.State.{State}
use Rattle.lang_ast.specs.declared.program.Version.{Version}
use Rattle.lang_ast.specs.declared.script.DoForm.{DoForm}
use Rattle.lang_forms.specs.Names.{is_name}
use Rattle.lang_forms.specs.Sketch.{Sketch, nothing, Fits}
use Rattle.lang_forms.specs.Sources.{Source}
use Rattle.lang_forms.specs.Forms.{parameters_forms, state_forms, function_forms, do_forms, top_forms, KnownNames, site_after_all, state_name, function_name, literal_fits, SpelledStmts, SpelledParameters, SpelledStates, SpelledFunctions, SpelledActor, SpelledScripts, HasForms}
use Rattle.lang_forms.specs.Words.{version_word, version_for_word, type_for_word, policy_for_word}
use Rattle.lang_forms.specs.Readings.{Top, StateTop, FunctionTop, DoTop, Seen, seen_trees, is_end, word_of, name_of, keyword_of, literal_of, actor_steps_of, parameter_form, parameters_form, parameters_of, stmts_of, state_form, function_form, do_form, top_form, header_form}
use Rattle.lang_forms.specs.TextReading.{PartialSource, known_names, source, is_none, source_with_form, source_with_rest, tops_of, text_of, start, source_of, source_or_offset}
use Rattle.lang_forms.proofs.KeywordTables.{version_table, type_table, policy_table}
use Rattle.lang_forms.proofs.Found.{inject, bind_some, map_some, Worded, word_found, name_next, keyword_next, literal_next, end_next, tail}
use Rattle.lang_forms.proofs.ReadHasForms.{either, body_found}
use Rattle.lang_forms.proofs.StepsHaveForms.{actor_found}

-- Parameters, states, functions and scripts.

-- NAME TYPE
record ParameterFits (i : Forest) (p : Parameter) : Type 0 where
  fits : (at : ℕ) (f : Forest) (ps : List Parameter) → Fits f (parameters_forms ps)
      → Fits (list at i f) (parameters_forms (p ∷ ps))
  good : is_name p.name.text ≡ true

parameter_found : (i : Forest) (p : Parameter) → parameter_form (seen_trees i) ≡ Some p → ParameterFits i p
unfolding parameter_form
parameter_found i p h =
    let n = bind_some (name_of (seen_trees i)) _ p h in
    let x = name_next i (seen_trees i) n.0 refl n.1 in
    let t = bind_some (keyword_of type_for_word n.0.1) _ p n.2 in
    let y = keyword_next type_table x.rest n.0.1 t.0 x.behind t.1 in
    let made : Parameter = record { name = n.0.0; ty = t.0.0 } in
    let c = cond_some (is_end t.0.1) made p t.2 in
    let over = end_next y.rest t.0.1 y.behind c.0 in
    subst (λ (q : Parameter). ParameterFits i q) c.1
    (record {
      fits = λ at f ps rest. (
        at,
        i,
        f,
        refl,
        tt,
        (n.0.0.at, x.rest, x.is, refl, (y.at, y.rest, y.is, tt, over)),
        rest,
      );
      good = x.good;
    })

parameters_found : (f : Forest) (ps : List Parameter) → parameters_form (seen_trees f) ≡ Some ps
    → Fits f (parameters_forms ps) × SpelledParameters ps
unfolding parameters_form
parameters_found empty ps h = rw (← inject h) (refl, tt)
parameters_found (atom at a f) ps h = absurd (cc)
parameters_found (text at s f) ps h = absurd (cc)
parameters_found (list at i f) ps h =
    let p = bind_some (parameter_form (seen_trees i)) _ ps h in
    let rest = map_some (parameters_form (seen_trees f)) (λ (l : List Parameter). p.0 ∷ l) ps p.2 in
    let all = parameters_found f rest.0 rest.1 in
    let one = parameter_found i p.0 p.1 in
    subst (λ (l : List Parameter). Fits (list at i f) (parameters_forms l) × SpelledParameters l) rest.2
    (one.fits at f rest.0 all.0, (one.good, all.1))

-- A first tree that is a list of parameters.
record ParametersFirst (f : Forest) (ps : List Parameter × List Seen) : Type 0 where
  at : ℕ
  inner : Forest
  rest : Forest
  is : f ≡ list at inner rest
  behind : ps.1 ≡ seen_trees rest
  fits : Fits inner (parameters_forms ps.0)
  spelled : SpelledParameters ps.0

parameters_first : (f : Forest) (ps : List Parameter × List Seen) → parameters_of (seen_trees f) ≡ Some ps
    → ParametersFirst f ps
parameters_first empty ps h = absurd (cc)
parameters_first (atom at a f) ps h = absurd (cc)
parameters_first (text at s f) ps h = absurd (cc)
parameters_first (list at i f) ps h =
    let x = map_some (parameters_form (seen_trees i)) (λ (l : List Parameter). (l, seen_trees f)) ps h in
    let all = parameters_found i x.0 x.1 in
    subst (λ (p : List Parameter × List Seen). ParametersFirst (list at i f) p) x.2
    (record { at = at; inner = i; rest = f; is = refl; behind = refl; fits = all.0; spelled = all.1 })

-- Top forms.

-- The forms of a state, a function and a script, with the number of the next statement.
abbrev TopFits : KnownNames → ℕ → ℕ → Forest → Top → ℕ → Type 0
TopFits m k at i (StateTop s) x = ((f : Forest) (g : Sketch) → Fits f g → Fits (list at i f) (state_forms s g))
    × (is_name s.name.text ≡ true) × (literal_fits s.initial ≡ true) × (x ≡ k)
TopFits m k at i (FunctionTop c) x =
    ((f : Forest) (g : Sketch) → Fits f g → Fits (list at i f) (function_forms c g)) × (is_name c.name.text ≡ true)
    × SpelledParameters c.parameters × SpelledStmts m k c.body × (x ≡ site_after_all k c.body)
TopFits m k at i (DoTop d) x = ((f : Forest) (g : Sketch) → Fits f g → Fits (list at i f) (do_forms d g))
    × (is_name d.actor.text ≡ true) × SpelledActor m.states d.steps × (x ≡ k)

abbrev Topped : KnownNames → ℕ → ℕ → Forest → Top × ℕ → Type 0
Topped m k at i t = TopFits m k at i t.0 t.1

state_found : (m : KnownNames) (k at : ℕ) (i : Forest) (s : State) (ss : List Seen) → Worded i (codes "state") ss → state_form at ss ≡ Some s → TopFits m k at i (StateTop s) k
unfolding state_form
state_found m k at i s ss w h =
    let n = bind_some (name_of ss) _ s h in
    let x = name_next w.rest ss n.0 w.behind n.1 in
    let t = bind_some (keyword_of type_for_word n.0.1) _ s n.2 in
    let y = keyword_next type_table x.rest n.0.1 t.0 x.behind t.1 in
    let o = bind_some (keyword_of policy_for_word t.0.1) _ s t.2 in
    let p = keyword_next policy_table y.rest t.0.1 o.0 y.behind o.1 in
    let v = bind_some (literal_of o.0.1) _ s o.2 in
    let z = literal_next p.rest o.0.1 v.0 p.behind v.1 in
    let made : State = record { at = at; name = n.0.0; ty = t.0.0; policy = o.0.0; initial = v.0.0 } in
    let c = cond_some (is_end v.0.1) made s v.2 in
    let over = end_next (tail p.rest) v.0.1 z.behind c.0 in
    subst (λ (q : State). TopFits m k at i (StateTop q) k) c.1 (
      (λ f g rest. (
        at,
        i,
        f,
        refl,
        refl,
        (
          w.at,
          w.rest,
          w.is,
          tt,
          (
            n.0.0.at,
            x.rest,
            x.is,
            refl,
            (y.at, y.rest, y.is, tt, (p.at, p.rest, p.is, tt, z.fit nothing over)),
          ),
        ),
        rest,
      )),
      x.good,
      z.whole,
      refl,
    )

function_found : (m : KnownNames) (k at : ℕ) (i : Forest) (c : Func × ℕ) (ss : List Seen) → Worded i (codes "fun") ss → function_form m k at ss ≡ Some c → TopFits m k at i (FunctionTop c.0) c.1
unfolding function_form
function_found m k at i c ss w h =
    let n = bind_some (name_of ss) _ c h in
    let x = name_next w.rest ss n.0 w.behind n.1 in
    let ps = bind_some (parameters_of n.0.1) _ c n.2 in
    let l = parameters_first x.rest ps.0 (ap parameters_of (sym x.behind) ∙ ps.1) in
    let b = bind_some (stmts_of m k ps.0.1) _ c ps.2 in
    let body = body_found m k l.rest ps.0.1 b.0 l.behind b.1 in
    subst (λ (q : Func × ℕ). TopFits m k at i (FunctionTop q.0) q.1) (inject b.2) (
      (λ f g rest. (
        at,
        i,
        f,
        refl,
        refl,
        (w.at, w.rest, w.is, tt, (n.0.0.at, x.rest, x.is, refl, (l.at, l.inner, l.rest, l.is, tt, l.fits, body.fits))),
        rest,
      )),
      x.good,
      l.spelled,
      body.spelled,
      body.next,
    )

do_found : (m : KnownNames) (k at : ℕ) (i : Forest) (d : DoForm) (ss : List Seen) → Worded i (codes "do") ss → do_form m.states at ss ≡ Some d → TopFits m k at i (DoTop d) k
unfolding do_form
do_found m k at i d ss w h =
    let n = bind_some (name_of ss) _ d h in
    let x = name_next w.rest ss n.0 w.behind n.1 in
    let ts = bind_some (actor_steps_of m.states n.0.1) _ d n.2 in
    let all = actor_found m.states x.rest ts.0 (ap (actor_steps_of m.states) (sym x.behind) ∙ ts.1) in
    subst (λ (q : DoForm). TopFits m k at i (DoTop q) k) (inject ts.2) (
      (λ f g rest. (at, i, f, refl, refl, (w.at, w.rest, w.is, tt, (n.0.0.at, x.rest, x.is, refl, all.0)), rest)),
      x.good,
      all.1,
      refl,
    )

top_found : (m : KnownNames) (k at : ℕ) (i : Forest) (t : Top × ℕ) → top_form m k at (seen_trees i) ≡ Some t
    → Topped m k at i t
unfolding top_form
top_found m k at i t h =
    let C = Topped m k at i t in
    either C (word_of (codes "state") (seen_trees i)) (λ r. option_map (λ s. (StateTop s, k)) (state_form at r)) _ t h
    (λ ss w x. let s = map_some (state_form at ss) (λ (s : State). (StateTop s, k)) t x in subst (Topped m k at i) s.2 (state_found m k at i s.0 ss (word_found (codes "state") i ss w) s.1)) (λ h1.
    either C (word_of (codes "fun") (seen_trees i)) (λ r. option_map (λ c. (FunctionTop c.0, c.1)) (function_form m k at r)) _ t h1
    (λ ss w x. let c = map_some (function_form m k at ss) (λ (c : Func × ℕ). (FunctionTop c.0, c.1)) t x in subst (Topped m k at i) c.2 (function_found m k at i c.0 ss (word_found (codes "fun") i ss w) c.1)) (λ h2.
    either C (word_of (codes "do") (seen_trees i)) (λ r. option_map (λ d. (DoTop d, k)) (do_form m.states at r)) None t h2
    (λ ss w x. let d = map_some (do_form m.states at ss) (λ (d : DoForm). (DoTop d, k)) t x in subst (Topped m k at i) d.2 (do_found m k at i d.0 ss (word_found (codes "do") i ss w) d.1))
    (λ h3. absurd (cc (h3)))))

-- The top forms after the parsed ones.

-- The forms of the trees that lead from p to q.
record Leads (f : Forest) (p q : PartialSource) : Type 0 where
  states : List State
  functions : List Func
  script : List DoForm
  header : q.header ≡ p.header
  version : q.version ≡ p.version
  all_states : p.states ++ states ≡ q.states
  all_functions : p.functions ++ functions ≡ q.functions
  all_script : p.script ++ script ≡ q.script
  fits : Fits f (top_forms states functions script)
  good_states : SpelledStates states
  good_functions : SpelledFunctions (record {
    states = map state_name q.states;
    functions = map function_name p.functions;
  }) p.site functions
  good_script : SpelledScripts (map state_name q.states) script
  no_states : is_none p.functions && is_none p.script ≡ false → states ≡ []
  no_functions : is_none p.script ≡ false → functions ≡ []

nothing_more : (p q : PartialSource) → p ≡ q → Leads empty p q
nothing_more p q is = subst (λ (x : PartialSource). Leads empty p x) is (record {
  states = [];
  functions = [];
  script = [];
  header = refl;
  version = refl;
  all_states = append-nil p.states;
  all_functions = append-nil p.functions;
  all_script = append-nil p.script;
  fits = refl;
  good_states = tt;
  good_functions = tt;
  good_script = tt;
  no_states = λ h. refl;
  no_functions = λ h. refl;
})

some_there : {A : Type 0} (front : List A) (b : A) → is_none (front ++ b ∷ []) ≡ false
some_there [] b = refl
some_there (a ∷ front) b = refl

no_more : (b c : Bool) → b ≡ true → c ≡ true → b && c ≡ false → ⊥
no_more b c x y h = true≢false (sym (and_true b c x y) ∙ h)
  where
    and_true : (b c : Bool) → b ≡ true → c ≡ true → b && c ≡ true
    and_true true c x y = y
    and_true false c x y = absurd (cc)

-- A state, and the trees after it.
state_leads : (at : ℕ) (i f : Forest) (p q r : PartialSource) (s : State) (k : ℕ)
    → TopFits (known_names p) p.site at i (StateTop s) k → source_with_form p (StateTop s) k ≡ Some r → Leads f r q
    → Leads (list at i f) p q
state_leads at i f p q r s k top put more =
    let made : PartialSource = record {
      header = p.header;
      version = p.version;
      states = p.states ++ s ∷ [];
      functions = p.functions;
      script = p.script;
      site = k;
    } in
    let c = cond_some (is_none p.functions && is_none p.script) made r put in
    let early = and_parts (is_none p.functions) (is_none p.script) c.0 in
    let rest : Leads f made q = subst (λ (x : PartialSource). Leads f x q) (sym c.1) more in
    record {
      states = s ∷ rest.states;
      functions = rest.functions;
      script = rest.script;
      header = rest.header;
      version = rest.version;
      all_states = sym (append_assoc p.states (s ∷ []) rest.states) ∙ rest.all_states;
      all_functions = rest.all_functions;
      all_script = rest.all_script;
      fits = top.0 f (top_forms rest.states rest.functions rest.script) rest.fits;
      good_states = (top.1, top.2, rest.good_states);
      good_functions =
          subst (λ (j : ℕ). SpelledFunctions (record {
            states = map state_name q.states;
            functions = map function_name p.functions;
          }) j rest.functions) top.3 rest.good_functions;
      good_script = rest.good_script;
      no_states = λ h. absurd (no_more (is_none p.functions) (is_none p.script) early.0 early.1 h);
      no_functions = rest.no_functions;
    }

-- A function, and the trees after it.
function_leads : (at : ℕ) (i f : Forest) (p q r : PartialSource) (c : Func) (k : ℕ)
    → TopFits (known_names p) p.site at i (FunctionTop c) k → source_with_form p (FunctionTop c) k ≡ Some r
    → Leads f r q
    → Leads (list at i f) p q
function_leads at i f p q r c k top put more =
    let made : PartialSource = record {
      header = p.header;
      version = p.version;
      states = p.states;
      functions = p.functions ++ c ∷ [];
      script = p.script;
      site = k;
    } in
    let t = cond_some (is_none p.script) made r put in
    let rest : Leads f made q = subst (λ (x : PartialSource). Leads f x q) (sym t.1) more in
    let alone : rest.states ≡ [] =
    rest.no_states (ap (λ (b : Bool). b && is_none p.script) (some_there p.functions c)) in
    let same_states : p.states ≡ q.states = sym (append-nil p.states)
    ∙ ap (λ (l : List State). p.states ++ l) (sym alone) ∙ rest.all_states in
    let m : KnownNames = record { states = map state_name q.states; functions = map function_name p.functions } in
    let body : SpelledStmts m p.site c.body =
    subst (λ (l : List State). SpelledStmts (record {
      states = map state_name l;
      functions = map function_name p.functions;
    }) p.site c.body) same_states top.3 in
    let behind : SpelledFunctions (record { states = map state_name q.states; functions = map function_name p.functions ++ function_name c ∷ [] }) (site_after_all p.site c.body) rest.functions =
    subst (λ (j : ℕ). SpelledFunctions (record {
      states = map state_name q.states;
      functions = map function_name p.functions ++ function_name c ∷ [];
    }) j rest.functions) top.4
    (subst (λ (ns : List (List ℕ)). SpelledFunctions (record { states = map state_name q.states; functions = ns }) k
    rest.functions) (map-append function_name p.functions (c ∷ [])) rest.good_functions) in
    record {
      states = [];
      functions = c ∷ rest.functions;
      script = rest.script;
      header = rest.header;
      version = rest.version;
      all_states = append-nil p.states ∙ same_states;
      all_functions = sym (append_assoc p.functions (c ∷ []) rest.functions) ∙ rest.all_functions;
      all_script = rest.all_script;
      fits = top.0 f (top_forms [] rest.functions rest.script)
          (subst (λ (l : List State). Fits f (top_forms l rest.functions rest.script)) alone rest.fits);
      good_states = tt;
      good_functions = (top.1, top.2, body, behind);
      good_script = rest.good_script;
      no_states = λ h. refl;
      no_functions = λ h. absurd (true≢false (sym t.0 ∙ h));
    }

-- A script, and the trees after it.
do_leads : (at : ℕ) (i f : Forest) (p q r : PartialSource) (d : DoForm) (k : ℕ)
    → TopFits (known_names p) p.site at i (DoTop d) k → source_with_form p (DoTop d) k ≡ Some r → Leads f r q
    → Leads (list at i f) p q
do_leads at i f p q r d k top put more =
    let made : PartialSource = record {
      header = p.header;
      version = p.version;
      states = p.states;
      functions = p.functions;
      script = p.script ++ d ∷ [];
      site = k;
    } in
    let rest : Leads f made q = subst (λ (x : PartialSource). Leads f x q) (sym (inject put)) more in
    let late : is_none (p.script ++ d ∷ []) ≡ false = some_there p.script d in
    let no_states : rest.states ≡ [] = rest.no_states (and_false (is_none p.functions) _ late) in
    let no_functions : rest.functions ≡ [] = rest.no_functions late in
    let same_states : p.states ≡ q.states = sym (append-nil p.states)
    ∙ ap (λ (l : List State). p.states ++ l) (sym no_states) ∙ rest.all_states in
    let same_functions : p.functions ≡ q.functions = sym (append-nil p.functions)
    ∙ ap (λ (l : List Func). p.functions ++ l) (sym no_functions) ∙ rest.all_functions in
    let fits : Fits f (top_forms [] [] rest.script) =
    subst (λ (l : List Func). Fits f (top_forms [] l rest.script)) no_functions
    (subst (λ (l : List State). Fits f (top_forms l rest.functions rest.script)) no_states rest.fits) in
    record {
      states = [];
      functions = [];
      script = d ∷ rest.script;
      header = rest.header;
      version = rest.version;
      all_states = append-nil p.states ∙ same_states;
      all_functions = append-nil p.functions ∙ same_functions;
      all_script = sym (append_assoc p.script (d ∷ []) rest.script) ∙ rest.all_script;
      fits = top.0 f (top_forms [] [] rest.script) fits;
      good_states = tt;
      good_functions = tt;
      good_script = (
        top.1,
        subst (λ (l : List State). SpelledActor (map state_name l) d.steps) same_states top.2,
        rest.good_script,
      );
      no_states = λ h. refl;
      no_functions = λ h. refl;
    }
  where
    and_false : (b c : Bool) → c ≡ false → b && c ≡ false
    and_false true c h = h
    and_false false c h = refl

top_leads : (at : ℕ) (i f : Forest) (p q r : PartialSource) (t : Top) (k : ℕ) → TopFits (known_names p) p.site at i t k
    → source_with_form p t k ≡ Some r → Leads f r q → Leads (list at i f) p q
top_leads at i f p q r (StateTop s) k top put more = state_leads at i f p q r s k top put more
top_leads at i f p q r (FunctionTop c) k top put more = function_leads at i f p q r c k top put more
top_leads at i f p q r (DoTop d) k top put more = do_leads at i f p q r d k top put more

followed_ok : (at : ℕ) (o : Option PartialSource) (go : PartialSource → Result PartialSource ℕ) (q : PartialSource)
    → source_with_rest at o go ≡ Ok q → (r : PartialSource) × (o ≡ Some r) × (go r ≡ Ok q)
followed_ok at None go q h = absurd (cc)
followed_ok at (Some r) go q h = (r, refl, h)

abbrev pub good : {A : Type 0} → A → Result A ℕ
good a = Ok a

pub ok_same : {A : Type 0} (a b : A) → good a ≡ good b → a ≡ b
ok_same a b h = cc

tops_found : (f : Forest) (p q : PartialSource) → tops_of p (seen_trees f) ≡ Ok q → Leads f p q
unfolding tops_of
tops_found empty p q h = nothing_more p q (ok_same p q h)
tops_found (atom at a f) p q h = absurd (cc)
tops_found (text at s f) p q h = absurd (cc)
tops_found (list at i f) p q h =
    let r = followed_ok at _ (λ x. tops_of x (seen_trees f)) q h in
    let t = bind_some (top_form (known_names p) p.site at (seen_trees i)) (λ x. source_with_form p x.0 x.1) r.0 r.1 in
    top_leads at i f p q r.0 t.0.0 t.0.1 (top_found (known_names p) p.site at i t.0 t.1) t.2 (tops_found f r.0 q r.2)

-- The header `compose VERSION`.
record Headed (i : Forest) (v : Version) : Type 0 where
  at : ℕ
  rest : Forest
  is : i ≡ atom at (codes "compose") rest
  number : ℕ
  number_is : rest ≡ atom number (version_word v) empty

header_found : (i : Forest) (v : Version) → header_form (seen_trees i) ≡ Some v → Headed i v
unfolding header_form
header_found i v h =
    let c = bind_some (word_of (codes "compose") (seen_trees i)) _ v h in
    let w = word_found (codes "compose") i c.0 c.1 in
    let o = bind_some (keyword_of version_for_word c.0) _ v c.2 in
    let x = keyword_next version_table w.rest c.0 o.0 w.behind o.1 in
    let d = cond_some (is_end o.0.1) o.0.0 v o.2 in
    record {
      at = w.at;
      rest = w.rest;
      is = w.is;
      number = x.at;
      number_is = x.is ∙ ap (atom x.at (version_word o.0.0)) (end_next x.rest o.0.1 x.behind d.0)
          ∙ ap (λ (y : Version). atom x.at (version_word y) empty) d.1;
    }

whole : (at : ℕ) (i f : Forest) (v : Version) (q : PartialSource) → Headed i v → Leads f (start at v) q
    → HasForms (list at i f) (source q)
whole at i f v q head all =
    let t : Source = record {
      program = record { header = at; version = v; states = all.states; functions = all.functions };
      script = all.script;
    } in
    let is : source q ≡ t = rw (all.header, all.version, ← all.all_states, ← all.all_functions, ← all.all_script) in
    subst (λ (s : Source). HasForms (list at i f) s) (sym is) (record {
      fits = (
        at,
        i,
        f,
        refl,
        refl,
        (head.at, head.rest, head.is, tt, (head.number, empty, head.number_is, tt, refl)),
        all.fits,
      );
      spelled = record {
        states = all.good_states;
        functions = subst (λ (l : List State). SpelledFunctions (record { states = map state_name l; functions = [] }) 1
            all.functions) (sym all.all_states) all.good_functions;
        script = subst (λ (l : List State). SpelledScripts (map state_name l) all.script) (sym all.all_states)
            all.good_script;
      };
    })

text_found : (end : ℕ) (f : Forest) (q : PartialSource) → text_of end (seen_trees f) ≡ Ok q → HasForms f (source q)
unfolding text_of
text_found end empty q h = absurd (cc)
text_found end (atom at a f) q h = absurd (cc)
text_found end (text at s f) q h = absurd (cc)
text_found end (list at i f) q h = by (header_form (seen_trees i)) refl h
  where
    by : (o : Option Version) → header_form (seen_trees i) ≡ o
        → source_with_rest at o (λ v. tops_of (start at v) (seen_trees f)) ≡ Ok q → HasForms (list at i f) (source q)
    by (Some v) e k = whole at i f v q (header_found i v e) (tops_found f (start at v) q k)
    by None e k = absurd (cc)

-- Trees that are parsed as a text have its forms.
pub source_found : (end : ℕ) (f : Forest) (t : Source) → source_of end (seen_trees f) ≡ Ok t → HasForms f t
source_found end f t h = by (text_of end (seen_trees f)) refl h
  where
    by : (r : Result PartialSource ℕ) → text_of end (seen_trees f) ≡ r → source_or_offset r ≡ Ok t → HasForms f t
    by (Ok q) e k = subst (HasForms f) (ok_same (source q) t k) (text_found end f q e)
    by (Err at) e k = absurd (cc)
