-- Trusted: the keywords of versions, types, policies, kinds of snapshots and operators, and how many operands an
-- operator has.
use Rattle.std.specs.Prelude.{ℕ, ◌==◌, List, [], ◌∷◌, Bool, true, Option, Some, None, codes, if◌then◌else◌}
use Rattle.std.specs.Option.{option_or}
use Rattle.std.specs.Str.{bytes_eq}
use Rattle.rt_values.specs.declared.value.Ty.{Ty}
use Rattle.rt_values.specs.declared.value.Ty.TheVariants as ty
use Rattle.rt_values.specs.declared.names.Kind.{Kind}
use Rattle.rt_values.specs.declared.names.Kind.TheVariants as kind
use Rattle.rt_values.specs.Keywords.{type_word, kind_word}
use Rattle.snap_policy.specs.declared.policy.BuiltIn.{BuiltIn}
use Rattle.snap_policy.specs.declared.policy.BuiltIn.TheVariants as policy
use Rattle.lang_ast.specs.declared.program.Version.{Version}
use Rattle.lang_ast.specs.declared.program.Version.TheVariants as version
use Rattle.lang_ast.specs.declared.syntax.Operator.{Operator}
use Rattle.lang_ast.specs.declared.syntax.Operator.TheVariants as operator

-- The word of a version in the header.
abbrev pub version_word : Version → List ℕ
version_word version.One = codes "1"

-- The keyword of a policy.
abbrev pub policy_word : BuiltIn → List ℕ
policy_word policy.Structural = codes "Structural"
policy_word policy.Never = codes "Never"
policy_word policy.Counter = codes "Counter"
policy_word policy.Largest = codes "Largest"
policy_word policy.Append = codes "Append"

-- The keyword of an operator.
abbrev pub operator_word : Operator → List ℕ
operator_word operator.Add = codes "+"
operator_word operator.Subtract = codes "-"
operator_word operator.Multiply = codes "*"
operator_word operator.Divide = codes "/"
operator_word operator.Remainder = codes "%"
operator_word operator.Equal = codes "="
operator_word operator.Less = codes "<"
operator_word operator.Not = codes "not"
operator_word operator.And = codes "and"
operator_word operator.Or = codes "or"
operator_word operator.Pick = codes "pick"
operator_word operator.Join = codes "join"
operator_word operator.Text = codes "text"
operator_word operator.Ints = codes "ints"
operator_word operator.Range = codes "range"
operator_word operator.Push = codes "push"
operator_word operator.Concat = codes "concat"
operator_word operator.Length = codes "len"
operator_word operator.At = codes "at"

-- Whether an operator has n operands.
abbrev pub takes : Operator → ℕ → Bool
takes operator.Add n = n == 2
takes operator.Subtract n = n == 2
takes operator.Multiply n = n == 2
takes operator.Divide n = n == 2
takes operator.Remainder n = n == 2
takes operator.Equal n = n == 2
takes operator.Less n = n == 2
takes operator.Not n = n == 1
takes operator.And n = n == 2
takes operator.Or n = n == 2
takes operator.Pick n = n == 3
takes operator.Join n = n == 2
takes operator.Text n = n == 1
takes operator.Ints n = true
takes operator.Range n = n == 2
takes operator.Push n = n == 2
takes operator.Concat n = n == 2
takes operator.Length n = n == 1
takes operator.At n = n == 2

-- The first of these values that has the keyword w.
abbrev pub value_with : {A : Type 0} → (A → List ℕ) → List A → List ℕ → Option A
value_with word [] w = None
value_with word (a ∷ more) w = if bytes_eq w (word a) then Some a else value_with word more w

abbrev pub all_versions : List Version
all_versions = version.One ∷ []

abbrev pub all_types : List Ty
all_types = ty.Int ∷ ty.Bool ∷ ty.Text ∷ ty.Ints ∷ []

abbrev pub all_policies : List BuiltIn
all_policies = policy.Structural ∷ policy.Never ∷ policy.Counter ∷ policy.Largest ∷ policy.Append ∷ []

abbrev pub all_kinds : List Kind
all_kinds = kind.Mutable ∷ kind.Readonly ∷ []

-- The operators on numbers.
abbrev pub number_operators : List Operator
number_operators = operator.Add ∷ operator.Subtract ∷ operator.Multiply ∷ operator.Divide ∷ operator.Remainder ∷ []

-- The operators that compare and choose.
abbrev pub truth_operators : List Operator
truth_operators = operator.Equal ∷ operator.Less ∷ operator.Not ∷ operator.And ∷ operator.Or ∷ operator.Pick ∷ []

-- The operators on texts and lists.
abbrev pub list_operators : List Operator
list_operators = operator.Join ∷ operator.Text ∷ operator.Ints ∷ operator.Range ∷ operator.Push ∷ operator.Concat
    ∷ operator.Length ∷ operator.At ∷ []

-- The version of a word.
unfoldable pub version_for_word : List ℕ → Option Version
version_for_word = value_with version_word all_versions

-- The type of a keyword.
unfoldable pub type_for_word : List ℕ → Option Ty
type_for_word = value_with type_word all_types

-- The policy of a keyword.
unfoldable pub policy_for_word : List ℕ → Option BuiltIn
policy_for_word = value_with policy_word all_policies

-- The kind of snapshots of a keyword.
unfoldable pub kind_for_word : List ℕ → Option Kind
kind_for_word = value_with kind_word all_kinds

unfoldable pub number_operator : List ℕ → Option Operator
number_operator = value_with operator_word number_operators

unfoldable pub truth_operator : List ℕ → Option Operator
truth_operator = value_with operator_word truth_operators

unfoldable pub list_operator : List ℕ → Option Operator
list_operator = value_with operator_word list_operators

-- The operator of a keyword.
unfoldable pub operator_for_word : List ℕ → Option Operator
operator_for_word w = option_or (number_operator w) (option_or (truth_operator w) (list_operator w))
