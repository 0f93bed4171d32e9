-- The effect of clamping on the forms of a text: only literals change.
use Rattle.std.proofs.Common.{arith, ◌≡◌, ◌∙◌, ◌≤◌, ℕ, zero, suc, nat_lt, nat_le, List, [], ◌∷◌, ◌++◌, Bool, true, false, true≢false, ◌&&◌, ◌||◌, ◌==◌, not, refl, sym, ap, subst, codes, if◌then◌else◌, ℤ, None, Option}
use Rattle.std.specs.List.{list_all}
use Rattle.std.specs.Str.{bytes_eq}
use Rattle.std.specs.Prelude.{slice_index}
use Rattle.std.proofs.lemmas.Bool.{and_parts, and_from, ltb-true, leb-true, le-leb, eqb-true}
use Rattle.std.proofs.lemmas.Slice.Eq.{bytes_eq-Decides}
use Rattle.std.specs.Char.{is_ascii_digit}
use Rattle.rt_values.specs.Limits.{most_items}
use Rattle.rt_values.specs.declared.value.Ty.{Ty}
use Rattle.rt_values.specs.declared.value.Ty.TheVariants as ty
use Rattle.rt_values.specs.declared.value.Value.{Value}
use Rattle.rt_values.specs.declared.value.Value.TheVariants as value
use Rattle.sexp_text.specs.Forest.{Forest, empty, atom, text, list}
use Rattle.sexp_text.proofs.Complete.{negated}
use Rattle.lang_ast.specs.Terms.{Expr, Literal, Variable, Get, Apply, Exprs, none, more, Named, Head, Node, Key, For, Let, Remember, Stmt, Call, If, Block, Stmts, done, next, Func}
use Rattle.lang_ast.specs.declared.syntax.Operator.{Operator}
use Rattle.lang_ast.specs.declared.syntax.Operator.TheVariants as operator
use Rattle.lang_ast.specs.declared.syntax.Parameter.{Parameter}
use Rattle.lang_ast.specs.declared.program.State.{State}
use Rattle.lang_ast.specs.declared.program.Version.{Version}
use Rattle.lang_ast.specs.declared.program.Version.TheVariants as version
use Rattle.lang_limits.specs.Tokens.{is_counting, is_int, is_oversized_int, tree_count}
use Rattle.lang_limits.specs.Clamped.{nearest_int, clamped_atom, clamped_string, are_ints, is_oversized_ints, first_trees, clamped_list, clamped_trees}
use Rattle.lang_ast.specs.declared.script.SnapshotRef.{SnapshotRef}
use Rattle.lang_ast.specs.declared.script.SnapshotRef.TheVariants.{Global, Named as NamedSnapshot}
use Rattle.lang_ast.specs.declared.script.CallForm.{CallForm}
use Rattle.lang_ast.specs.declared.script.CallForm.TheVariants as call
use Rattle.lang_ast.specs.declared.script.StepForm.{StepForm}
use Rattle.lang_ast.specs.declared.script.StepForm.TheVariants as step
use Rattle.lang_ast.specs.declared.script.ScriptForm.{ScriptForm}
use Rattle.lang_ast.specs.declared.script.ScriptForm.TheVariants.{Once, Repeat}
use Rattle.lang_ast.specs.declared.script.DoForm.{DoForm}
use Rattle.rt_values.specs.declared.names.Kind.{Kind}
use Rattle.rt_values.specs.declared.names.Kind.TheVariants as kind
use Rattle.snap_policy.specs.declared.policy.BuiltIn.{BuiltIn}
use Rattle.snap_policy.specs.declared.policy.BuiltIn.TheVariants as policy
use Rattle.lang_forms.specs.Names.{is_letter, is_name}
use Rattle.rt_values.specs.Keywords.{kind_word, type_word}
use Rattle.lang_forms.specs.Words.{version_word, policy_word, operator_word}
use Rattle.lang_forms.specs.Sketch.{Sketch, nothing, leaf, numeral, string, group, sequence, Fits, FitsUnlimited}
use Rattle.lang_forms.specs.Sources.{Source}
use Rattle.lang_forms.specs.Forms.{numbers, literal, expr_forms, exprs_forms, pairs_forms, head_forms, stmt_forms, stmts_forms, parameters_forms, snapshot_forms, call_forms, calls_forms, step_forms, steps_forms, actor_step_forms, actor_forms, states_forms, functions_forms, scripts_forms, text_forms, KnownNames, Spelled, AllSpelled, SpelledPairs, SpelledHead, SpelledStmt, SpelledStmts, SpelledParameters, SpelledStates, SpelledFunctions, is_snapshot, SpelledCall, SpelledCalls, SpelledStep, SpelledSteps, SpelledActorStep, SpelledActor, SpelledScripts, SpelledSource, site_after_all, function_name, HasForms, HasUnlimitedForms}
use Rattle.lang_forms.proofs.Ints.{digit_no_letter}

-- Clamped forests, tree by tree.

first_within : (n : ℕ) (f : Forest) → clamped_trees (first_trees n f) ≡ first_trees n (clamped_trees f)
first_within zero f = refl
first_within (suc n) empty = refl
first_within (suc n) (atom at a f) = ap (atom at (clamped_atom a)) (first_within n f)
first_within (suc n) (text at s f) = ap (text at (clamped_string s)) (first_within n f)
first_within (suc n) (list at i f) = ap (list at (clamped_list (clamped_trees i))) (first_within n f)

count_within : (f : Forest) → tree_count (clamped_trees f) ≡ tree_count f
count_within empty = refl
count_within (atom at a f) = ap suc (count_within f)
count_within (text at s f) = ap suc (count_within f)
count_within (list at i f) = ap suc (count_within f)

-- What holds of the least number and of the greatest holds of the nearest.
nearest_by : (P : List ℕ → Type 0) (a : List ℕ) → P (codes "-9223372036854775808") → P (codes "9223372036854775807") → P (nearest_int a)
nearest_by P a low high = by (slice_index a 0 == 45)
  where
    by : (b : Bool) → P (if b then codes "-9223372036854775808" else codes "9223372036854775807")
    by true = low
    by false = high

abbrev clamped : List ℕ → Bool → List ℕ
clamped a b = if b then nearest_int a else a

int_within : (a : List ℕ) → is_int (clamped_atom a) ≡ is_int a
int_within a = by (is_oversized_int a) refl
  where
    by : (b : Bool) → is_oversized_int a ≡ b → is_int (clamped a b) ≡ is_int a
    by true e = nearest_by (λ (x : List ℕ). is_int x ≡ true) a refl refl ∙ sym (and_parts (is_int a) _ e).0
    by false e = refl

word_within : (a : List ℕ) → bytes_eq (clamped_atom a) (codes "ints") ≡ bytes_eq a (codes "ints")
word_within a = by (is_oversized_int a) (bytes_eq a (codes "ints")) refl refl
  where
    by : (b c : Bool) → is_oversized_int a ≡ b → bytes_eq a (codes "ints") ≡ c → bytes_eq (clamped a b) (codes "ints") ≡ c
    by true true e h = absurd (true≢false (sym e ∙ ap is_oversized_int ((bytes_eq-Decides a (codes "ints")).0 h)))
    by true false e h = nearest_by (λ (x : List ℕ). bytes_eq x (codes "ints") ≡ false) a refl refl
    by false c e h = h

ints_within : (f : Forest) → are_ints (clamped_trees f) ≡ are_ints f
ints_within empty = refl
ints_within (atom at a f) =
    ap (λ (b : Bool). b && are_ints (clamped_trees f)) (int_within a) ∙ ap (λ (b : Bool). is_int a && b) (ints_within f)
ints_within (text at s f) = refl
ints_within (list at i f) = refl

cut_within : (f : Forest) → is_oversized_ints (clamped_trees f) ≡ is_oversized_ints f
cut_within empty = refl
cut_within (atom at a f) =
    ap (λ (b : Bool). (b && nat_lt most_items (tree_count (clamped_trees f))) && are_ints (clamped_trees f))
    (word_within a)
    ∙ ap (λ (n : ℕ). (bytes_eq a (codes "ints") && nat_lt most_items n) && are_ints (clamped_trees f)) (count_within f)
    ∙ ap (λ (b : Bool). (bytes_eq a (codes "ints") && nat_lt most_items (tree_count f)) && b) (ints_within f)
cut_within (text at s f) = refl
cut_within (list at i f) = refl

-- A list is cut before or after its trees are clamped.
list_same : (j : Forest) → clamped_list (clamped_trees j) ≡ clamped_trees (clamped_list j)
list_same j =
    ap (λ (b : Bool). if b then first_trees 3 (clamped_trees j) else clamped_trees j) (cut_within j)
    ∙ by (is_oversized_ints j)
  where
    by : (b : Bool) → (if b then first_trees 3 (clamped_trees j) else clamped_trees j)
        ≡ clamped_trees (if b then first_trees 3 j else j)
    by true = sym (first_within 3 j)
    by false = refl

list_uncut : (j : Forest) → is_oversized_ints j ≡ false → clamped_list j ≡ j
list_uncut j e = ap (λ (b : Bool). if b then first_trees 3 j else j) e

-- The forest before clamping.

abbrev FromAtom : Forest → ℕ → List ℕ → Forest → Type 0
FromAtom f x a r = (b : List ℕ) × (s : Forest) × (f ≡ atom x b s) × (clamped_atom b ≡ a) × (clamped_trees s ≡ r)

from_atom : (f : Forest) (x : ℕ) (a : List ℕ) (r : Forest) → clamped_trees f ≡ atom x a r → FromAtom f x a r
from_atom empty x a r h = absurd (cc)
from_atom (atom y b s) x a r h = let same : y ≡ x = cc in (b, s, ap (λ (z : ℕ). atom z b s) same, cc, cc)
from_atom (text y b s) x a r h = absurd (cc)
from_atom (list y b s) x a r h = absurd (cc)

abbrev FromText : Forest → ℕ → List ℕ → Forest → Type 0
FromText f x a r = (b : List ℕ) × (s : Forest) × (f ≡ text x b s) × (clamped_string b ≡ a) × (clamped_trees s ≡ r)

from_text : (f : Forest) (x : ℕ) (a : List ℕ) (r : Forest) → clamped_trees f ≡ text x a r → FromText f x a r
from_text empty x a r h = absurd (cc)
from_text (atom y b s) x a r h = absurd (cc)
from_text (text y b s) x a r h = let same : y ≡ x = cc in (b, s, ap (λ (z : ℕ). text z b s) same, cc, cc)
from_text (list y b s) x a r h = absurd (cc)

abbrev FromList : Forest → ℕ → Forest → Forest → Type 0
FromList f x i r =
    (j : Forest) × (s : Forest) × (f ≡ list x j s) × (clamped_list (clamped_trees j) ≡ i) × (clamped_trees s ≡ r)

from_list : (f : Forest) (x : ℕ) (i r : Forest) → clamped_trees f ≡ list x i r → FromList f x i r
from_list empty x i r h = absurd (cc)
from_list (atom y b s) x i r h = absurd (cc)
from_list (text y b s) x i r h = absurd (cc)
from_list (list y b s) x i r h = let same : y ≡ x = cc in (b, s, ap (λ (z : ℕ). list z b s) same, cc, cc)

from_empty : (f : Forest) → clamped_trees f ≡ empty → f ≡ empty
from_empty empty h = refl
from_empty (atom y b s) h = absurd (cc)
from_empty (text y b s) h = absurd (cc)
from_empty (list y b s) h = absurd (cc)

-- Lists that are cut begin with ints and two more trees, which no plain group does.

begins : Forest → Bool
begins empty = false
begins (atom at a f) = bytes_eq a (codes "ints") && nat_le 2 (tree_count f)
begins (text at s f) = false
begins (list at i f) = false

abbrev count : Sketch → ℕ
count nothing = 0
count (leaf p a g) = suc (count g)
count (numeral p z g) = suc (count g)
count (string p s g) = suc (count g)
count (group p i g) = suc (count g)
count (sequence p i g) = suc (count g)

abbrev shows_ints : Sketch → Bool
shows_ints nothing = false
shows_ints (leaf p a g) = bytes_eq a (codes "ints") && nat_le 2 (count g)
shows_ints (numeral p z g) = true
shows_ints (string p s g) = false
shows_ints (group p i g) = false
shows_ints (sequence p i g) = false

fits_count : (f : Forest) (g : Sketch) → Fits f g → tree_count f ≡ count g
fits_count f nothing h = ap tree_count h
fits_count f (leaf p a g) h = ap tree_count h.2 ∙ ap suc (fits_count h.1 g h.4)
fits_count f (numeral p z g) h = ap tree_count h.2 ∙ ap suc (fits_count h.1 g h.4)
fits_count f (string p s g) h = ap tree_count h.2 ∙ ap suc (fits_count h.1 g h.4)
fits_count f (group p i g) h = ap tree_count h.3 ∙ ap suc (fits_count h.2 g h.6)
fits_count f (sequence p i g) h = ap tree_count h.3 ∙ ap suc (fits_count h.2 g h.6)

shown : (f : Forest) (g : Sketch) → Fits f g → begins f ≡ true → shows_ints g ≡ true
unfolding begins
shown f nothing h b = absurd (true≢false (sym b ∙ ap begins h))
shown f (leaf p a g) h b = ap (λ (n : ℕ). bytes_eq a (codes "ints") && nat_le 2 n) (sym (fits_count h.1 g h.4)) ∙ sym (ap begins h.2) ∙ b
shown f (numeral p z g) h b = refl
shown f (string p s g) h b = absurd (true≢false (sym b ∙ ap begins h.2))
shown f (group p i g) h b = absurd (true≢false (sym b ∙ ap begins h.3))
shown f (sequence p i g) h b = absurd (true≢false (sym b ∙ ap begins h.3))

cut_begins : (f : Forest) → is_oversized_ints f ≡ true → begins f ≡ true
unfolding begins
cut_begins empty h = absurd (cc)
cut_begins (atom at a f) h =
    let both = and_parts (bytes_eq a (codes "ints") && nat_lt most_items (tree_count f)) (are_ints f) h in
    let parts = and_parts (bytes_eq a (codes "ints")) (nat_lt most_items (tree_count f)) both.0 in
    let many = ltb-true most_items (tree_count f) parts.1 in
    and_from (bytes_eq a (codes "ints")) (nat_le 2 (tree_count f)) parts.0 (le-leb 2 (tree_count f) (omega (arith, many)))
cut_begins (text at s f) h = absurd (cc)
cut_begins (list at i f) h = absurd (cc)

count_first : (n : ℕ) (f : Forest) → n ≤ tree_count f → tree_count (first_trees n f) ≡ n
count_first zero f h = refl
count_first (suc n) empty h = absurd (omega (arith, h))
count_first (suc n) (atom at a f) h = ap suc (count_first n f (omega (arith, h)))
count_first (suc n) (text at s f) h = ap suc (count_first n f (omega (arith, h)))
count_first (suc n) (list at i f) h = ap suc (count_first n f (omega (arith, h)))

begins_first : (f : Forest) → begins f ≡ true → begins (first_trees 3 f) ≡ true
unfolding begins
begins_first empty h = absurd (cc)
begins_first (atom at a f) h =
    let parts = and_parts (bytes_eq a (codes "ints")) (nat_le 2 (tree_count f)) h in
    ap (λ (n : ℕ). bytes_eq a (codes "ints") && nat_le 2 n) (count_first 2 f (leb-true 2 (tree_count f) parts.1)) ∙ and_from (bytes_eq a (codes "ints")) true parts.0 refl
begins_first (text at s f) h = absurd (cc)
begins_first (list at i f) h = absurd (cc)

-- A list that has the trees of a plain group is not cut.
whole : (j : Forest) (i : Sketch) → Fits j i → shows_ints i ≡ false → is_oversized_ints j ≡ false
whole j i h plain = by (is_oversized_ints j) refl
  where
    by : (b : Bool) → is_oversized_ints j ≡ b → b ≡ false
    by true e = absurd (true≢false (sym (shown j i h (cut_begins j e)) ∙ plain))
    by false e = refl

-- A list that has the trees of a plain group when it is clamped is not cut.
uncut : (j : Forest) (i : Sketch) → Fits (clamped_list j) i → shows_ints i ≡ false → is_oversized_ints j ≡ false
uncut j i h plain = by (is_oversized_ints j) refl
  where
    by : (b : Bool) → is_oversized_ints j ≡ b → b ≡ false
    by true e =
        let three : Fits (first_trees 3 j) i =
        subst (λ (f : Forest). Fits f i) (ap (λ (b : Bool). if b then first_trees 3 j else j) e) h in
        absurd (true≢false (sym (shown (first_trees 3 j) i three (begins_first j (cut_begins j e))) ∙ plain))
    by false e = refl

-- Sketches whose words and names are none of the tokens that are clamped.

-- The numbers that oversized ones become.
abbrev is_nearest : List ℕ → Bool
is_nearest a = bytes_eq a (codes "-9223372036854775808") || bytes_eq a (codes "9223372036854775807")

abbrev is_token : List ℕ → Bool
is_token a = not (is_nearest a) && not (is_oversized_int a)

nearest_no_token : (a : List ℕ) → is_token (nearest_int a) ≡ false
nearest_no_token a = nearest_by (λ (x : List ℕ). is_token x ≡ false) a refl refl

abbrev Clean : Sketch → Type 0
Clean nothing = Unit {0}
Clean (leaf p a g) = (is_token a ≡ true) × Clean g
Clean (numeral p z g) = Clean g
Clean (string p s g) = Clean g
Clean (group p i g) = (shows_ints i ≡ false) × Clean i × Clean g
Clean (sequence p i g) = Clean i × Clean g

leaf_back : (b a : List ℕ) → is_token a ≡ true → clamped_atom b ≡ a → b ≡ a
leaf_back b a tok h = by (is_oversized_int b) refl
  where
    by : (t : Bool) → is_oversized_int b ≡ t → b ≡ a
    by true e = absurd (true≢false (sym tok ∙ ap is_token (sym h ∙ ap (clamped b) e) ∙ nearest_no_token b))
    by false e = sym (ap (clamped b) e) ∙ h

leaf_stays : (a : List ℕ) → is_token a ≡ true → clamped_atom a ≡ a
leaf_stays a tok =
    let parts = and_parts (not (is_nearest a)) _ tok in ap (clamped a) (negated (is_oversized_int a) parts.1)

-- Clamped trees that have the forms of a sketch have them without the limits of literals.
unlimited : (g : Sketch) (f : Forest) → Clean g → Fits (clamped_trees f) g → FitsUnlimited f g
unlimited nothing f c h = from_empty f h
unlimited (leaf p a g) f c h =
    let w = from_atom f h.0 a h.1 h.2 in (
      h.0,
      w.1,
      w.2 ∙ ap (λ (x : List ℕ). atom h.0 x w.1) (leaf_back w.0 a c.0 w.3),
      h.3,
      unlimited g w.1 c.1 (subst (λ (x : Forest). Fits x g) (sym w.4) h.4),
    )
unlimited (numeral p z g) f c h =
    let w = from_atom f h.0 _ h.1 h.2 in
    (h.0, w.0, w.1, w.2, w.3, h.3, unlimited g w.1 c (subst (λ (x : Forest). Fits x g) (sym w.4) h.4))
unlimited (string p s g) f c h =
    let w = from_text f h.0 s h.1 h.2 in
    (h.0, w.0, w.1, w.2, w.3, h.3, unlimited g w.1 c (subst (λ (x : Forest). Fits x g) (sym w.4) h.4))
unlimited (group p i g) f c h =
    let w = from_list f h.0 h.1 h.2 h.3 in
    let inner : Fits (clamped_list (clamped_trees w.0)) i = subst (λ (x : Forest). Fits x i) (sym w.3) h.5 in
    let plain : Fits (clamped_trees w.0) i =
    subst (λ (x : Forest). Fits x i) (list_uncut (clamped_trees w.0) (uncut (clamped_trees w.0) i inner c.0)) inner in (
      h.0,
      w.0,
      w.1,
      w.2,
      h.4,
      unlimited i w.0 c.1 plain,
      unlimited g w.1 c.2 (subst (λ (x : Forest). Fits x g) (sym w.4) h.6),
    )
unlimited (sequence p i g) f c h =
    let w = from_list f h.0 h.1 h.2 h.3 in
    let inner : Fits (clamped_trees (clamped_list w.0)) i =
    subst (λ (x : Forest). Fits x i) (sym w.3 ∙ list_same w.0) h.5 in (
      h.0,
      w.0,
      w.1,
      w.2,
      h.4,
      unlimited i (clamped_list w.0) c.0 inner,
      unlimited g w.1 c.1 (subst (λ (x : Forest). Fits x g) (sym w.4) h.6),
    )

-- Forests that have the forms of a sketch without the limits of literals have them when they are clamped.
limited : (g : Sketch) (f : Forest) → Clean g → FitsUnlimited f g → Fits (clamped_trees f) g
limited nothing f c h = ap clamped_trees h
limited (leaf p a g) f c h = (
  h.0,
  clamped_trees h.1,
  ap clamped_trees h.2
      ∙ ap (λ (x : List ℕ). atom h.0 x (clamped_trees h.1)) (leaf_stays a c.0),
  h.3,
  limited g h.1 c.1 h.4,
)
limited (numeral p z g) f c h = (
  h.0,
  clamped_trees h.2,
  ap clamped_trees h.3 ∙ ap (λ (x : List ℕ). atom h.0 x (clamped_trees h.2)) h.4,
  h.5,
  limited g h.2 c h.6,
)
limited (string p s g) f c h = (
  h.0,
  clamped_trees h.2,
  ap clamped_trees h.3 ∙ ap (λ (x : List ℕ). text h.0 x (clamped_trees h.2)) h.4,
  h.5,
  limited g h.2 c h.6,
)
limited (group p i g) f c h =
    let inner = limited i h.1 c.1 h.5 in
    let same = list_uncut (clamped_trees h.1) (whole (clamped_trees h.1) i inner c.0) in (
      h.0,
      clamped_list (clamped_trees h.1),
      clamped_trees h.2,
      ap clamped_trees h.3,
      h.4,
      subst (λ (x : Forest). Fits x i) (sym same) inner,
      limited g h.2 c.2 h.6,
    )
limited (sequence p i g) f c h =
    let inner = limited i (clamped_list h.1) c.0 h.5 in (
      h.0,
      clamped_list (clamped_trees h.1),
      clamped_trees h.2,
      ap clamped_trees h.3,
      h.4,
      subst (λ (x : Forest). Fits x i) (sym (list_same h.1)) inner,
      limited g h.2 c.1 h.6,
    )

-- The forms of a text are such a sketch.

-- What is written as a number does not begin with a letter.
int_no_letter : (a : List ℕ) → is_int a ≡ true → is_letter (slice_index a 0) ≡ false
int_no_letter [] h = absurd (cc)
int_no_letter (b ∷ bs) h = by (b == 45) refl h
  where
    counting : is_counting (b ∷ bs) ≡ true → is_letter b ≡ false
    counting k =
        let p = and_parts (is_ascii_digit b && not (b == 48)) (list_all is_ascii_digit bs) k in
        let q = and_parts (is_ascii_digit b) (not (b == 48)) p.0 in
        let r = and_parts (nat_le 48 b) (nat_le b 57) q.0 in
        digit_no_letter b (leb-true 48 b r.0) (leb-true b 57 r.1)

    zero_or : (c : Bool) → bytes_eq (b ∷ bs) (codes "0") ≡ c → (c || is_counting (b ∷ bs)) ≡ true → is_letter b ≡ false
    zero_or true e k = ap (λ (l : List ℕ). is_letter (slice_index l 0)) ((bytes_eq-Decides (b ∷ bs) (codes "0")).0 e)
    zero_or false e k = counting k

    by : (m : Bool) → (b == 45) ≡ m → (if m then is_counting bs else bytes_eq (b ∷ bs) (codes "0") || is_counting (b ∷ bs)) ≡ true → is_letter b ≡ false
    by true e k = ap is_letter (eqb-true b 45 e)
    by false e k = zero_or (bytes_eq (b ∷ bs) (codes "0")) refl k

name_token : (a : List ℕ) → is_name a ≡ true → is_token a ≡ true
name_token a h = by (bytes_eq a (codes "-9223372036854775808")) (bytes_eq a (codes "9223372036854775807")) (is_oversized_int a) refl refl refl
  where
    letter : is_letter (slice_index a 0) ≡ true
    letter = (and_parts (is_letter (slice_index a 0)) _ (and_parts _ _ h).0).0

    first_of : (w : List ℕ) → bytes_eq a w ≡ true → is_letter (slice_index w 0) ≡ true
    first_of w e = sym (ap (λ (l : List ℕ). is_letter (slice_index l 0)) ((bytes_eq-Decides a w).0 e)) ∙ letter

    by : (b c d : Bool) → bytes_eq a (codes "-9223372036854775808") ≡ b → bytes_eq a (codes "9223372036854775807") ≡ c → is_oversized_int a ≡ d
        → (not (b || c) && not d) ≡ true
    by true c d e k l = absurd (true≢false (sym (first_of (codes "-9223372036854775808") e)))
    by false true d e k l = absurd (true≢false (sym (first_of (codes "9223372036854775807") k)))
    by false false true e k l = absurd (true≢false (sym letter ∙ int_no_letter a (and_parts (is_int a) _ l).0))
    by false false false e k l = refl

operator_token : (o : Operator) → is_token (operator_word o) ≡ true
operator_token operator.Add = refl
operator_token _ = refl

version_token : (v : Version) → is_token (version_word v) ≡ true
version_token version.One = refl

type_token : (t : Ty) → is_token (type_word t) ≡ true
type_token ty.Int = refl
type_token _ = refl

policy_token : (p : BuiltIn) → is_token (policy_word p) ≡ true
policy_token policy.Structural = refl
policy_token _ = refl

kind_token : (k : Kind) → is_token (kind_word k) ≡ true
kind_token kind.Mutable = refl
kind_token _ = refl

clean_numbers : (zs : List ℤ) → Clean (numbers zs)
clean_numbers [] = tt
clean_numbers (z ∷ zs) = clean_numbers zs

clean_literal : (p : Option ℕ) (v : Value) (g : Sketch) → Clean g → Clean (literal p v g)
clean_literal p (value.Int z) g c = c
clean_literal p (value.Bool true) g c = (refl, c)
clean_literal p (value.Bool false) g c = (refl, c)
clean_literal p (value.Text cs) g c = c
clean_literal p (value.Ints zs) g c = ((refl, clean_numbers zs), c)

mutual
  clean_expr : (m : List (List ℕ)) (e : Expr) (g : Sketch) → Spelled m e → Clean g → Clean (expr_forms e g)
  clean_expr m (Literal at v) g s c = clean_literal _ v g c
  clean_expr m (Variable n) g s c = (name_token n.text s, c)
  clean_expr m (Get at n source) g s c = (refl, (refl, (name_token n.text s.0, tt)), c)
  clean_expr m (Apply at o es) g s c = ((operator_token o, clean_exprs m es s.1), c)

  clean_exprs : (m : List (List ℕ)) (es : Exprs) → AllSpelled m es → Clean (exprs_forms es)
  clean_exprs m none s = tt
  clean_exprs m (more e es) s = clean_expr m e (exprs_forms es) s.0 (clean_exprs m es s.1)

one_expr : (e : Expr) → count (expr_forms e nothing) ≡ 1
one_expr (Literal at (value.Int z)) = refl
one_expr (Literal at (value.Bool b)) = refl
one_expr (Literal at (value.Text cs)) = refl
one_expr (Literal at (value.Ints zs)) = refl
one_expr (Variable n) = refl
one_expr (Get at n source) = refl
one_expr (Apply at o es) = refl

and_false : (b : Bool) → (b && false) ≡ false
and_false true = refl
and_false false = refl

-- A name and one tree are no list that is cut.
pair_whole : (a : List ℕ) (n : ℕ) → n ≡ 1 → (bytes_eq a (codes "ints") && nat_le 2 n) ≡ false
pair_whole a n e = ap (λ (x : ℕ). bytes_eq a (codes "ints") && nat_le 2 x) e ∙ and_false (bytes_eq a (codes "ints"))

clean_pairs : (m : List (List ℕ)) (ks : List Named) → SpelledPairs m ks → Clean (pairs_forms ks)
clean_pairs m [] s = tt
clean_pairs m (k ∷ ks) s = (
  pair_whole k.name.text _ (one_expr k.value),
  (name_token k.name.text s.0, clean_expr m k.value nothing s.1 tt),
  clean_pairs m ks s.2,
)

pairs_whole : (ks : List Named) → shows_ints (pairs_forms ks) ≡ false
pairs_whole [] = refl
pairs_whole (k ∷ ks) = refl

stmts_whole : (ss : Stmts) → shows_ints (stmts_forms ss) ≡ false
stmts_whole done = refl
stmts_whole (next (Call at site n f es) ss) = refl
stmts_whole (next (If at site e a b) ss) = refl
stmts_whole (next (Block at site h body) ss) = refl

head_whole : (h : Head) (g : Sketch) → shows_ints (head_forms h g) ≡ false
head_whole (Node n ns) g = refl
head_whole _ g = refl

clean_head : (m : List (List ℕ)) (h : Head) (g : Sketch) → SpelledHead m h → Clean g → Clean (head_forms h g)
clean_head m (Node n ns) g s c = (refl, (name_token n.text s.0, (pairs_whole ns, clean_pairs m ns s.1, c)))
clean_head m (Key e) g s c = (refl, clean_expr m e g s c)
clean_head m (For n e) g s c = (refl, (name_token n.text s.0, clean_expr m e g s.1 c))
clean_head m (Let n e) g s c = (refl, (name_token n.text s.0, clean_expr m e g s.1 c))
clean_head m (Remember n ks e) g s c =
    (refl, (name_token n.text s.0, (pairs_whole ks, clean_pairs m ks s.1, clean_expr m e g s.2 c)))

mutual
  clean_stmt : (m : KnownNames) (k : ℕ) (t : Stmt) (g : Sketch) → SpelledStmt m k t → Clean g → Clean (stmt_forms t g)
  clean_stmt m k (Call at site n f es) g s c = (refl, (refl, (name_token n.text s.1, clean_exprs m.states es s.3)), c)
  clean_stmt m k (If at site e a b) g s c = (
    refl,
    (
      refl,
      clean_expr m.states e _ s.1
          (stmts_whole a, clean_stmts m _ a s.2, (stmts_whole b, clean_stmts m _ b s.3, tt)),
    ),
    c,
  )
  clean_stmt m k (Block at site h body) g s c =
      (head_whole h _, clean_head m.states h _ s.1 (clean_stmts m _ body s.2), c)

  clean_stmts : (m : KnownNames) (k : ℕ) (ss : Stmts) → SpelledStmts m k ss → Clean (stmts_forms ss)
  clean_stmts m k done s = tt
  clean_stmts m k (next t ss) s = clean_stmt m k t (stmts_forms ss) s.0 (clean_stmts m _ ss s.1)

clean_parameters : (ps : List Parameter) → SpelledParameters ps → Clean (parameters_forms ps)
clean_parameters [] s = tt
clean_parameters (p ∷ ps) s =
    (pair_whole p.name.text 1 refl, (name_token p.name.text s.0, (type_token p.ty, tt)), clean_parameters ps s.1)

parameters_whole : (ps : List Parameter) → shows_ints (parameters_forms ps) ≡ false
parameters_whole [] = refl
parameters_whole (p ∷ ps) = refl

clean_states : (ss : List State) (g : Sketch) → SpelledStates ss → Clean g → Clean (states_forms ss g)
clean_states [] g s c = c
clean_states (t ∷ ss) g s c = (
  refl,
  (
    refl,
    (
      name_token t.name.text s.0,
      (type_token t.ty, (policy_token t.policy, clean_literal None t.initial nothing tt)),
    ),
  ),
  clean_states ss g s.2 c,
)

clean_functions : (m : KnownNames) (k : ℕ) (cs : List Func) (g : Sketch) → SpelledFunctions m k cs → Clean g
    → Clean (functions_forms cs g)
clean_functions m k [] g s c = c
clean_functions m k (f ∷ cs) g s c = (
  refl,
  (
    refl,
    (
      name_token f.name.text s.0,
      (parameters_whole f.parameters, clean_parameters f.parameters s.1, clean_stmts m k f.body s.2),
    ),
  ),
  clean_functions (record { states = m.states; functions = m.functions ++ function_name f ∷ [] })
      (site_after_all k f.body) cs g s.3 c,
)

clean_snapshot : (s : SnapshotRef) (g : Sketch) → is_snapshot s ≡ true → Clean g → Clean (snapshot_forms s g)
clean_snapshot Global g s c = (refl, c)
clean_snapshot (NamedSnapshot n) g s c = (name_token n.text s, c)

clean_call : (m : List (List ℕ)) (t : CallForm) (g : Sketch) → SpelledCall m t → Clean g → Clean (call_forms t g)
clean_call m (call.Take at n k parent) g s c =
    (refl, (refl, (name_token n.text s.0, (kind_token k, clean_snapshot parent nothing s.1 tt))), c)
clean_call m (call.Read at x n object) g s c = (refl, (refl, clean_snapshot x _ s.0 (name_token n.text s.1, tt)), c)
clean_call m (call.Write at x n object v) g s c =
    (refl, (refl, clean_snapshot x _ s.0 (name_token n.text s.1, clean_literal None v nothing tt)), c)
clean_call m (call.Add at x n object amount) g s c =
    (refl, (refl, clean_snapshot x _ s.0 (name_token n.text s.1, tt)), c)
clean_call m (call.Apply at x) g s c = (refl, (refl, clean_snapshot x nothing s tt), c)
clean_call m (call.Dispose at x) g s c = (refl, (refl, clean_snapshot x nothing s tt), c)

clean_calls : (m : List (List ℕ)) (ts : List CallForm) → SpelledCalls m ts → Clean (calls_forms ts)
clean_calls m [] s = tt
clean_calls m (t ∷ ts) s = clean_call m t (calls_forms ts) s.0 (clean_calls m ts s.1)

clean_step : (m : List (List ℕ)) (t : StepForm) (g : Sketch) → SpelledStep m t → Clean g → Clean (step_forms t g)
clean_step m (step.Call t) g s c = clean_call m t g s c
clean_step m (step.Frame at) g s c = (refl, (refl, tt), c)
clean_step m (step.FrameDuring at during) g s c = (refl, (refl, (refl, (refl, clean_calls m during s), tt)), c)

clean_steps : (m : List (List ℕ)) (ts : List StepForm) → SpelledSteps m ts → Clean (steps_forms ts)
clean_steps m [] s = tt
clean_steps m (t ∷ ts) s = clean_step m t (steps_forms ts) s.0 (clean_steps m ts s.1)

clean_script : (m : List (List ℕ)) (t : ScriptForm) (g : Sketch) → SpelledActorStep m t → Clean g
    → Clean (actor_step_forms t g)
clean_script m (Once t) g s c = clean_step m t g s c
clean_script m (Repeat at times steps) g s c = (refl, (refl, clean_steps m steps s.1), c)

clean_actor : (m : List (List ℕ)) (ts : List ScriptForm) → SpelledActor m ts → Clean (actor_forms ts)
clean_actor m [] s = tt
clean_actor m (t ∷ ts) s = clean_script m t (actor_forms ts) s.0 (clean_actor m ts s.1)

clean_scripts : (m : List (List ℕ)) (ds : List DoForm) → SpelledScripts m ds → Clean (scripts_forms ds)
clean_scripts m [] s = tt
clean_scripts m (d ∷ ds) s =
    (refl, (refl, (name_token d.actor.text s.0, clean_actor m d.steps s.1)), clean_scripts m ds s.2)

clean_text : (t : Source) → SpelledSource t → Clean (text_forms t)
clean_text t s = (
  refl,
  (refl, (version_token t.program.version, tt)),
  clean_states t.program.states _ s.states
      (clean_functions _ 1 t.program.functions _ s.functions (clean_scripts _ t.script s.script)),
)

pub unlimited_forms : (f : Forest) (t : Source) → HasForms (clamped_trees f) t → HasUnlimitedForms f t
unlimited_forms f t h =
    record { fits = unlimited (text_forms t) f (clean_text t h.spelled) h.fits; spelled = h.spelled }

pub clamped_forms : (f : Forest) (t : Source) → HasUnlimitedForms f t → HasForms (clamped_trees f) t
clamped_forms f t h = record { fits = limited (text_forms t) f (clean_text t h.spelled) h.fits; spelled = h.spelled }
