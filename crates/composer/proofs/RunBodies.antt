-- The body of a call that runs, composed next to the groups of an old call.
use Rattle.std.proofs.Common.{ℕ, ◌+◌, ◌<◌, List, [], ◌≡◌, refl, ap, sym, length, take, get_or, true, Option, Result}
use Rattle.rt_values.specs.declared.value.Value.{Value}
use Rattle.rt_values.specs.Maps.{Map}
use Rattle.rt_groups.specs.GroupForest.{GroupForest}
use Rattle.rt_groups.specs.Paths.{GroupKey, Found, inside_of}
use Rattle.lang_ast.specs.SyntaxView.{functions_view, stmts_view}
use Rattle.lang_ast.specs.Evaluation.{Bindings}
use Rattle.lang_ast.specs.declared.syntax.Parameter.{Parameter}
use Rattle.lang_ast.specs.declared.syntax.Function.{Function}
use Rattle.lang_ast.specs.declared.syntax.Statement.{Statement}
use Rattle.compose_model.specs.Composing.{bind, meaning_at, meanings}
use Rattle.compose_model.specs.StatementForests.{body_forest}
use Rattle.recompose_laws.specs.CalculatedCells.{StmtsCalculate}
use Rattle.composer.specs.declared.stop.ComposeStop.{ComposeStop}
use Rattle.composer.specs.declared.pending.Pending.{Pending}
use Rattle.composer.specs.OldSiblings.{KeyInfo, found_siblings}
use Rattle.composer.specs.Waiting.{waiting_siblings}
use Rattle.composer.specs.OldGroups.{Alike}
use Rattle.composer.specs.ComposerState.{ComposerState, composed_beside}
use Rattle.composer.specs.BesideContracts.{Reaches, LastComposition, IsSince, OldSiblings, IsOldPart}
use Rattle.composer.specs.Recomposes.{ComposesBeside, IsBeside}
use Rattle.composer.proofs.Reaching.{reached_at}
use Rattle.composer.proofs.OldMatches.{fits_inside}
use Rattle.composer.proofs.CalledFunctions.{since_slice, body_calculates, body_is}

-- The statements of the function were composed in a scope of its parameters only, so the meaning of the call was.
pub body_reached : {U : Type 0} {result : Result U ComposeStop} {s s' : ComposerState} {left : Pending} (m : Map)
    (fs : List Function) (j : ℕ) (vs : List Value) (f : Function) (slice : List Statement) (names : List Parameter)
    (env : Bindings) (owed : List ℕ) (d : ℕ) (l : LastComposition) (there : Option Found) (found : Option KeyInfo)
    (p : Pending) → j < length fs → f ≡ get_or fs j f → slice ≡ f.body.items → names ≡ f.parameters.items
    → env ≡ bind names vs → IsSince l (functions_view fs) → IsOldPart l owed m (inside_of there) → Alike d found there
    → ((k : GroupKey) → waiting_siblings p k ≡ found_siblings found k) →
    ((o : OldSiblings) → IsBeside o owed m (functions_view (take j fs)) (d + 1) p
    → StmtsCalculate o.last.calculation (stmts_view slice) →
    ComposesBeside owed o.old (d + 1) o.seen (body_forest m (take j fs) (stmts_view slice) env) s s' left result) →
    Reaches (composed_beside owed (inside_of there) (d + 1) true [] (meaning_at (meanings m (functions_view fs)) j vs) s)
    s' result
body_reached {s = s} m fs j vs f slice names env owed d l there found p below is body named bound since part like waiting ran =
    let r = ran (record { last = l; old = inside_of there; seen = [] })
    (record {
      since = since_slice fs (take j fs) j refl since;
      part = part;
      fits = fits_inside d p found there waiting like;
    }) (body_calculates fs j f slice since below is body) in
    reached_at (ap (λ (t : GroupForest). composed_beside owed (inside_of there) (d + 1) true [] t s)
    (sym (body_is m fs j vs f slice names env below is body named bound))) r.reached
