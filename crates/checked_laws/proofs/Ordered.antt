-- The functions of a checked program call only earlier functions.
use Rattle.std.proofs.Common.{arith, ◌≡◌, ◌<◌, ◌+◌, ℕ, List, [], ◌∷◌, Bool, true, false, Option, Some, None, refl, slice_get, if◌then◌else◌}
use Rattle.std.specs.Str.{bytes_eq}
use Rattle.std.proofs.lemmas.Bool.{ltb-true}
use Rattle.rt_values.specs.declared.value.Ty.{Ty}
use Rattle.lang_ast.specs.Terms.{Stmt, Call, Func}
use Rattle.lang_ast.specs.Programs.{statements_in}
use Rattle.lang_ast.proofs.Statements.{each_of_both}
use Rattle.lang_checks.specs.Scopes.{first_named, numbered_or, named_function}
use Rattle.lang_checks.specs.Statements.{StatementContext, callee_faults}
use Rattle.lang_checks.specs.Numbers.{HasItsNumber, CallHasItsNumber, FunctionsCalls}
use Rattle.lang_ast.proofs.Limits.{none_in}
use Rattle.lang_checks.proofs.Fine.{held}
use Rattle.lang_ast.specs.declared.program.State.{State}
use Rattle.recompose_laws.specs.MadeCalls.{CallsBelow, AreOrdered}
use Rattle.checked_laws.specs.CheckedPrograms.{ProgramIsOrdered}
use Rattle.checked_laws.proofs.Parts.{parts, IsFine, all_are_fine, context, BodiesAreFine, bodies}

-- The function that a call refers to is an earlier one.
refers_below : (me at : ℕ) (ts : List Ty) (p : ℕ × Func) → callee_faults me at ts (Some p) ≡ [] → p.0 < me
refers_below me at ts p h = ltb-true _ _ (held _ _ _ (none_in _ _ h).0)

first_below : (me at number : ℕ) (ts : List Ty) (functions : List Func) (name : List ℕ)
    → HasItsNumber functions me name number → callee_faults me at ts (first_named functions name 0) ≡ [] → number < me
first_below me at number ts functions name has h = by (first_named functions name 0) refl h
  where
    by : (o : Option (ℕ × Func)) → first_named functions name 0 ≡ o → callee_faults me at ts o ≡ [] → number < me
    by None e g = absurd cc
    by (Some p) e g = let below = refers_below me at ts p g in let is = has p.0 p.1 e below in omega (arith, below, is)

call_below : (me at number : ℕ) (ts : List Ty) (functions : List Func) (name : List ℕ)
    → HasItsNumber functions me name number → callee_faults me at ts (named_function functions name number) ≡ []
    → number < me
call_below me at number ts functions name has h = by (slice_get functions number) h
  where
    named : (b : Bool) (f : Func)
        → callee_faults me at ts (if b then Some (number, f) else first_named functions name 0) ≡ [] → number < me
    named true f g = refers_below me at ts (number, f) g
    named false f g = first_below me at number ts functions name has g

    by : (o : Option Func) → callee_faults me at ts (numbered_or name number o (first_named functions name 0)) ≡ []
        → number < me
    by None g = first_below me at number ts functions name has g
    by (Some f) g = named (bytes_eq f.name.text name) f g

below : (p : StatementContext) (s : Stmt) → CallHasItsNumber p.functions p.me s → IsFine p s → CallsBelow p.me s
below p (Call at site name function arguments) h fine =
    call_below p.me at function _ p.functions name.text h
    (parts p fine.scope (Call at site name function arguments) fine.none).1
below p _ h fine = tt

ordered_from : (states : List State) (functions : List Func) (me : ℕ) (fs : List Func) → FunctionsCalls functions me fs
    → BodiesAreFine states functions me fs → AreOrdered me fs
ordered_from states functions me [] h e = tt
ordered_from states functions me (f ∷ fs) h e = (
  each_of_both (CallHasItsNumber functions me) (IsFine (context states functions me)) (CallsBelow me)
      (statements_in f.body) (λ s has fine. below (context states functions me) s has fine) h.0
      (all_are_fine (context states functions me) _ f.body e.0),
  ordered_from states functions (me + 1) fs h.1 e.1,
)

pub program_is_ordered : ProgramIsOrdered
program_is_ordered p h e = ordered_from p.states p.functions 0 p.functions h.calls (bodies p e)
