-- Internal: the program of the tests of frames, a state that the root shows as a key.
use Rattle.std.specs.Prelude.{ℕ, List, [], ◌∷◌, pos, codes}
use Rattle.rt_values.specs.declared.value.Ty.TheVariants as ty
use Rattle.rt_values.specs.declared.value.Value.TheVariants as value
use Rattle.snap_policy.specs.declared.policy.BuiltIn.TheVariants as policy
use Rattle.lang_ast.specs.declared.program.State.{State}
use Rattle.lang_ast.specs.declared.syntax.Ident.{Ident}
use Rattle.lang_ast.specs.declared.syntax.Source.TheVariants as source
use Rattle.lang_ast.specs.Terms.{Get, Key, Stmt, Block, done, next, Func}

abbrev pub ident : List ℕ → Ident
ident name = record { at = 0; text = name }

-- `(state total Int Counter 0)`
abbrev total : State
total = record {
  at = 0;
  name = ident (codes "total");
  ty = ty.Int;
  policy = policy.Counter;
  initial = value.Int (pos 0);
}

abbrev pub counter_states : List State
counter_states = total ∷ []

-- `(key (get total))`
abbrev pub key_statement : Stmt
key_statement = Block 0 1 (Key (Get 0 (ident (codes "total")) (source.State 0))) done

-- `(fun root () (key (get total)))`
abbrev pub counter_functions : List Func
counter_functions =
    record { at = 0; name = ident (codes "root"); parameters = []; body = next key_statement done } ∷ []
