-- The tables of keywords: each keyword is found as its value, and each value has its keyword in the table.
use Rattle.std.proofs.Common.{◌≡◌, ◌⊎◌, inl, inr, ℕ, List, [], ◌∷◌, Option, Some, None, Bool, true, false, cond, refl, ap, ◌∙◌}
use Rattle.std.specs.Option.{option_or}
use Rattle.std.specs.Str.{bytes_eq}
use Rattle.std.proofs.lemmas.Slice.Eq.{bytes_eq-Decides}
use Rattle.rt_values.specs.declared.names.Kind.{Kind}
use Rattle.rt_values.specs.declared.names.Kind.TheVariants as kind
use Rattle.rt_values.specs.declared.value.Ty.{Ty}
use Rattle.rt_values.specs.declared.value.Ty.TheVariants as ty
use Rattle.rt_values.specs.Keywords.{kind_word, type_word}
use Rattle.snap_policy.specs.declared.policy.BuiltIn.{BuiltIn}
use Rattle.snap_policy.specs.declared.policy.BuiltIn.TheVariants as policy
use Rattle.sexp_text.specs.Forest.{Forest, atom}
use Rattle.lang_ast.specs.declared.program.Version.{Version}
use Rattle.lang_ast.specs.declared.program.Version.TheVariants as version
use Rattle.lang_ast.specs.declared.syntax.Operator.{Operator}
use Rattle.lang_ast.specs.declared.syntax.Operator.TheVariants as operator
use Rattle.lang_forms.specs.declared.statement_heads.BodyWord.TheVariants as body
use Rattle.lang_forms.specs.declared.statement_heads.StatementWord.{StatementWord}
use Rattle.lang_forms.specs.declared.statement_heads.StatementWord.TheVariants as statement
use Rattle.lang_forms.specs.Words.{version_word, policy_word, operator_word, value_with, all_versions, all_types, all_policies, all_kinds, number_operators, truth_operators, list_operators, version_for_word, type_for_word, policy_for_word, kind_for_word, number_operator, truth_operator, list_operator, operator_for_word}
use Rattle.lang_forms.specs.Readings.{seen_trees, keyword_of, statement_word, all_statements, statement_for_word}

-- A table that has the value of each keyword and nothing else.
pub record IsTable {A : Type 0} (word : A → List ℕ) (table : List ℕ → Option A) : Type 0 where
  pub found : (w : List ℕ) (v : A) → table w ≡ Some v → w ≡ word v
  pub there : (v : A) → table (word v) ≡ Some v

pub bytes_same : (a b : List ℕ) → bytes_eq a b ≡ true → a ≡ b
bytes_same a b h = (bytes_eq-Decides a b).0 h

-- The keyword of one value, or of another.
named_some : {A : Type 0} (word : A → List ℕ) (a v : A) (w : List ℕ) (other : Option A) → (other ≡ Some v → w ≡ word v)
    → cond (bytes_eq w (word a)) (Some a) other ≡ Some v → w ≡ word v
named_some word a v w other rest h = by (bytes_eq w (word a)) refl h
  where
    by : (t : Bool) → bytes_eq w (word a) ≡ t → cond t (Some a) other ≡ Some v → w ≡ word v
    by true e i = let same : a ≡ v = cc in bytes_same w (word a) e ∙ ap word same
    by false e i = rest i

has_word : {A : Type 0} (word : A → List ℕ) (all : List A) (w : List ℕ) (v : A) → value_with word all w ≡ Some v
    → w ≡ word v
has_word word [] w v h = absurd (cc)
has_word word (a ∷ more) w v h = named_some word a v w _ (has_word word more w v) h

version_there : (v : Version) → version_for_word (version_word v) ≡ Some v
unfolding version_for_word
version_there version.One = refl

pub version_table : IsTable version_word version_for_word
unfolding version_for_word
version_table = record { found = has_word version_word all_versions; there = version_there }

type_there : (t : Ty) → type_for_word (type_word t) ≡ Some t
unfolding type_for_word
type_there ty.Int = refl
type_there _ = refl

pub type_table : IsTable type_word type_for_word
unfolding type_for_word
type_table = record { found = has_word type_word all_types; there = type_there }

policy_there : (p : BuiltIn) → policy_for_word (policy_word p) ≡ Some p
unfolding policy_for_word
policy_there policy.Structural = refl
policy_there _ = refl

pub policy_table : IsTable policy_word policy_for_word
unfolding policy_for_word
policy_table = record { found = has_word policy_word all_policies; there = policy_there }

kind_there : (k : Kind) → kind_for_word (kind_word k) ≡ Some k
unfolding kind_for_word
kind_there kind.Mutable = refl
kind_there _ = refl

pub kind_table : IsTable kind_word kind_for_word
unfolding kind_for_word
kind_table = record { found = has_word kind_word all_kinds; there = kind_there }

statement_there : (w : StatementWord) → statement_for_word (statement_word w) ≡ Some w
unfolding statement_for_word
statement_there statement.Call = refl
statement_there statement.If = refl
statement_there (statement.WithBody body.Node) = refl
statement_there (statement.WithBody _) = refl

pub statement_table : IsTable statement_word statement_for_word
unfolding statement_for_word
statement_table = record { found = has_word statement_word all_statements; there = statement_there }

either : {A : Type 0} (o other : Option A) (a : A) → option_or o other ≡ Some a → (o ≡ Some a) ⊎ (other ≡ Some a)
either None other a h = inr h
either (Some b) other a h = inl h

operator_found : (w : List ℕ) (o : Operator) → operator_for_word w ≡ Some o → w ≡ operator_word o
unfolding operator_for_word number_operator truth_operator list_operator
operator_found w o h = elim (either (number_operator w) _ o h) [
  | inl x ↦ has_word operator_word number_operators w o x
  | inr x ↦ elim (either (truth_operator w) (list_operator w) o x) [
    | inl y ↦ has_word operator_word truth_operators w o y
    | inr y ↦ has_word operator_word list_operators w o y
  ]
]

operator_there : (o : Operator) → operator_for_word (operator_word o) ≡ Some o
unfolding operator_for_word number_operator truth_operator list_operator
operator_there operator.Add = refl
operator_there _ = refl

pub operator_table : IsTable operator_word operator_for_word
operator_table = record { found = operator_found; there = operator_there }

-- A first tree that is the keyword of a value is parsed as that value.
pub keyword_there : {A : Type 0} {word : A → List ℕ} {table : List ℕ → Option A} → IsTable word table
    → (v : A) (a : ℕ) (r : Forest) → keyword_of table (seen_trees (atom a (word v) r)) ≡ Some (v, seen_trees r)
unfolding keyword_of
keyword_there t v a r = rw (t.there v) refl
