-- Threads may share a checked program with its script, and what a closure borrows. A search through all types of a program
-- at once ends at its limits, so there is a lemma for each type.
use denote.Enum.Declared as enum
use denote.Struct.Declared as struct
use denote.RattleType.{RattleType}
use denote.Struct.Tuple.{TupleAt, type_at}
use Rattle.std.proofs.Common.{ℕ, List, [], ◌∷◌}
use denote.Param.Send.{IsSync, sendable, recorded_sync, struct_sync, enum_sync}
use Rattle.std.proofs.Crossing.{crosses}
use Rattle.lang_ast.specs.contracts.syntax.Expression as Expression
use Rattle.lang_ast.specs.contracts.syntax.Named as Named
use Rattle.lang_ast.specs.contracts.syntax.Head as Head
use Rattle.lang_ast.specs.contracts.syntax.Statement as Statement
use Rattle.lang_ast.specs.contracts.syntax.Function as Function
use Rattle.lang_ast.specs.contracts.program.Program as Program
use Rattle.lang_checks.specs.contracts.checks.Checked as Checked
use Rattle.play_run.specs.contracts.job.Job as Job
use Rattle.lang_script.proofs.scripts.Script.TheSendSync as script
use Rattle.lang_ast.proofs.syntax.Parameter.TheSendSync as parameter
use Rattle.lang_ast.proofs.program.State.TheSendSync as state
use Rattle.lang_ast.proofs.syntax.Ident.TheSendSync as ident
use Rattle.lang_ast.proofs.syntax.Expression.TheLaws.TheKnot.{sync-Expression}
use Rattle.lang_ast.proofs.syntax.Statement.TheLaws.TheKnot.{sync-Statement}

expression_field : IsSync (Expression.the_field).row
expression_field = search (sendable, crosses, sync-Expression) depth 60 fits 10000

expression_sync : IsSync Expression.the_row
expression_sync = recorded_sync (Expression.the_field).row _ _ (Expression.the_type).to_one expression_field

named_field : IsSync (Named.the_field).row
named_field = struct_sync (struct.shape Named.the_type) (ident.the_field_sync, (expression_field, tt))

named_sync : IsSync Named.the_row
named_sync = recorded_sync (Named.the_field).row _ _ (Named.the_type).to_one named_field

head_field : IsSync (Head.the_field).row
head_field = enum_sync (enum.shape Head.the_type) (
  (ident.the_field_sync, (search (sendable, crosses, named_sync) depth 20, tt)),
  (
    (expression_field, tt),
    (
      (ident.the_field_sync, (expression_field, tt)),
      (
        (ident.the_field_sync, (expression_field, tt)),
        (
          (ident.the_field_sync, (search (sendable, crosses, named_sync) depth 20, (expression_field, tt))),
          tt,
        ),
      ),
    ),
  ),
)

statement_field : IsSync (Statement.the_field).row
statement_field =
    search (sendable, crosses, sync-Statement, ident.the_field_sync, expression_field, expression_sync, head_field)
    depth 60 fits 10000

statement_sync : IsSync Statement.the_row
statement_sync = recorded_sync (Statement.the_field).row _ _ (Statement.the_type).to_one statement_field

function_sync : IsSync Function.the_row
function_sync = search (sendable, crosses, parameter.the_sync, ident.the_field_sync, statement_sync) depth 60 fits 10000

program_field : IsSync (Program.the_field).row
program_field = search (sendable, crosses, state.the_sync, function_sync) depth 60 fits 10000

program_sync : IsSync Program.the_row
program_sync = recorded_sync (Program.the_field).row _ _ (Program.the_type).to_one program_field

checked_field : IsSync (Checked.the_field).row
checked_field = search (sendable, crosses, program_field) depth 60 fits 10000

checked_sync : IsSync Checked.the_row
checked_sync = search (sendable, crosses, checked_field) depth 60 fits 10000

job_field : IsSync (Job.the_field).row
job_field = search (sendable, crosses, checked_field, script.the_field_sync) depth 20

pub job_sync : IsSync Job.the_row
job_sync = recorded_sync (Job.the_field).row _ _ (Job.the_type).to_one job_field

-- What a closure borrows may be shared, if each part of it may.
pub seven_sync : (ν : List ℕ) (a b c d e f g : RattleType) → IsSync a → IsSync b → IsSync c → IsSync d → IsSync e
    → IsSync f → IsSync g → IsSync (TupleAt ν (a ∷ b ∷ c ∷ d ∷ e ∷ f ∷ g ∷ []))
seven_sync ν a b c d e f g a' b' c' d' e' f' g' =
    recorded_sync _ _ _ (type_at ν (a ∷ b ∷ c ∷ d ∷ e ∷ f ∷ g ∷ [])).to_one
    (struct_sync (struct.shape (type_at ν (a ∷ b ∷ c ∷ d ∷ e ∷ f ∷ g ∷ [])))
    (a', (b', (c', (d', (e', (f', (g', tt))))))))
