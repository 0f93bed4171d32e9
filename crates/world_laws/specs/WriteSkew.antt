-- Law: write skew is allowed, as three histories show that are computed.
use Rattle.std.specs.Prelude.{ℕ, pos, [], ◌∷◌, true}
use Rattle.rt_values.specs.declared.names.Kind.TheVariants.{Mutable}
use Rattle.rt_values.specs.declared.value.Ty.TheVariants as ty
use Rattle.rt_values.specs.declared.value.Value.{Value}
use Rattle.rt_values.specs.declared.value.Value.TheVariants as value
use Rattle.snap_policy.specs.Table.{table}
use Rattle.snap_policy.specs.declared.policy.BuiltIn.{BuiltIn}
use Rattle.snap_policy.specs.declared.policy.BuiltIn.TheVariants.{Structural}
use Rattle.snap_api.specs.World.{World, start, world_after_make, IsLegal, History}
use Rattle.snap_api.specs.declared.data.Entry.{Entry}
use Rattle.snap_api.specs.declared.data.Reply.{Reply}
use Rattle.snap_api.specs.declared.data.Reply.TheVariants as reply
use Rattle.snap_api.specs.declared.data.Request.{Request}
use Rattle.snap_api.specs.declared.data.Request.TheVariants as request

-- A world with two objects, numbers that are 0.
abbrev pub two_zeros : World BuiltIn
two_zeros =
    let zero : Value = value.Int (pos 0) in
    world_after_make (world_after_make (start 0) ty.Int Structural zero) ty.Int Structural zero

-- A call of a caller with its reply.
abbrev pub entry : ℕ → Request → Reply → Entry
entry caller request reply = record { caller = caller; request = request; reply = reply }

-- Caller 1 takes snapshot 1, and caller 2 takes snapshot 2. Each reads the object that the other writes, and gets 0. Both
-- applies succeed.
abbrev pub write_skew : History
write_skew =
    entry 1 (request.Take 0 Mutable) (reply.Taken 1) ∷ entry 2 (request.Take 0 Mutable) (reply.Taken 2)
    ∷ entry 1 (request.Read 1 1) (reply.Got (value.Int (pos 0)))
    ∷ entry 2 (request.Read 2 0) (reply.Got (value.Int (pos 0)))
    ∷ entry 1 (request.Write 1 0 (value.Int (pos 1))) (reply.Wrote true)
    ∷ entry 2 (request.Write 2 1 (value.Int (pos 1))) (reply.Wrote true) ∷ entry 1 (request.Apply 1) reply.Applied
    ∷ entry 2 (request.Apply 2) reply.Applied ∷ []

-- Caller `first` makes its calls on snapshot 1 up to the apply, then caller `second` on snapshot 2. The first reads
-- object `y` and writes `x`, the second reads `x` and writes `y`.
abbrev pub serial_history : (first second x y : ℕ) (read : Value) → History
serial_history first second x y read =
    entry first (request.Take 0 Mutable) (reply.Taken 1) ∷ entry first (request.Read 1 y) (reply.Got (value.Int (pos 0)))
    ∷ entry first (request.Write 1 x (value.Int (pos 1))) (reply.Wrote true)
    ∷ entry first (request.Apply 1) reply.Applied ∷ entry second (request.Take 0 Mutable) (reply.Taken 2)
    ∷ entry second (request.Read 2 x) (reply.Got read)
    ∷ entry second (request.Write 2 y (value.Int (pos 1))) (reply.Wrote true)
    ∷ entry second (request.Apply 2) reply.Applied ∷ []

-- If the calls of two callers are woven, both read 0, and both applies succeed. If one caller goes after the other, in
-- either order, the second reads 1.
pub record WriteSkewIsAllowed : Type 0 where
  pub woven : IsLegal table two_zeros write_skew
  pub one_first : IsLegal table two_zeros (serial_history 1 2 0 1 (value.Int (pos 1)))
  pub two_first : IsLegal table two_zeros (serial_history 2 1 1 0 (value.Int (pos 1)))
