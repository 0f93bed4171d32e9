-- Trusted: the keywords of types and of kinds of snapshots.
use Rattle.std.specs.Prelude.{ℕ, List, codes}
use Rattle.rt_values.specs.declared.value.Ty.{Ty}
use Rattle.rt_values.specs.declared.value.Ty.TheVariants as ty
use Rattle.rt_values.specs.declared.names.Kind.{Kind}
use Rattle.rt_values.specs.declared.names.Kind.TheVariants as kind

abbrev pub type_word : Ty → List ℕ
type_word ty.Int = codes "Int"
type_word ty.Bool = codes "Bool"
type_word ty.Text = codes "Text"
type_word ty.Ints = codes "Ints"

abbrev pub kind_word : Kind → List ℕ
kind_word kind.Mutable = codes "mutable"
kind_word kind.Readonly = codes "readonly"
