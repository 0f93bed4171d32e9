-- Trusted: what calls on a state by its name promise.
use Rattle.std.specs.Prelude.{ℕ, List, length, nat_lt, if◌then◌else◌, Option, Some, None, Bool, Result, Ok, Err}
use Rattle.rt_values.specs.declared.value.Value.{Value}
use Rattle.rt_groups.specs.Frames.{LastFrame}
use Rattle.lang_script.specs.Scripts.{index_of}
use Rattle.snap_policy.specs.declared.policy.BuiltIn.{BuiltIn}
use Rattle.snap_policy.specs.Table.{table}
use Rattle.snap_api.specs.Calls.{Calls}
use Rattle.snap_api.specs.World.{World}
use Rattle.snap_api.specs.declared.data.Reply.{Reply}
use Rattle.snap_api.specs.declared.data.Reply.TheVariants as reply
use Rattle.snap_api.specs.declared.data.Request.{Request}
use Rattle.compose_app.specs.declared.stops.StateStop.{StateStop}
use Rattle.compose_app.specs.declared.stops.StateStop.TheVariants.{NoState, Refused}

-- The number of the state with this name, if there is one.
abbrev pub state_number : List ℕ → List (List ℕ) → Option ℕ
state_number name names =
    if nat_lt (index_of name names) (length names) then Some (index_of name names) else None

-- The reply of a read, or nothing if there is no such state.
abbrev pub read_answer : Result Value StateStop → Option Reply
read_answer (Ok value) = Some (reply.Got value)
read_answer (Err NoState) = None
read_answer (Err (Refused e)) = Some (reply.Refused e)

-- The reply of a write, or nothing if there is no such state.
abbrev pub write_answer : Result Bool StateStop → Option Reply
write_answer (Ok changed) = Some (reply.Wrote changed)
write_answer (Err NoState) = None
write_answer (Err (Refused e)) = Some (reply.Refused e)

-- A call on a state that was found has the plain world's reply and effect. Without such a state there is no reply, and
-- nothing changes. `before` and `after` are the worlds that are represented.
abbrev pub AnswersFor : (World BuiltIn → Type 0) → (World BuiltIn → Type 0) → (ℕ → Request) → Option ℕ → Option Reply
    → Type 0
AnswersFor before after request (Some x) (Some r) = Calls table before after 0 (request x) r
AnswersFor before after request None None = (w : World BuiltIn) → before w → after w
AnswersFor before after request (Some x) None = ⊥
AnswersFor before after request None (Some r) = ⊥

-- A call on the state of this name of a screen, in each state `k` of its last good frame.
abbrev pub CallsState : (LastFrame → World BuiltIn → Type 0) → (LastFrame → World BuiltIn → Type 0) → List (List ℕ)
    → List ℕ → (ℕ → Request) → Option Reply → Type 0
CallsState before after names name request answer =
    (k : LastFrame) → AnswersFor (before k) (after k) request (state_number name names) answer
