use mir.Syntax.{named}
use denote.Exit.{no}
use denote.Param.{param}
use denote.Struct.Field.{shr_ref_field, u64-field}
use denote.Param.Send.{sendable, param_sync, arg_sync}
use Rattle.std.proofs.Crossing.{crosses, sync}
use Rattle.core.specs.contracts.atomic.AtomicUsize as AtomicUsize
use Rattle.std.specs.contracts.alloc.Global as Global
use Rattle.snap_policy.specs.contracts.policy.BuiltIn as BuiltIn
use Rattle.snap_policy.specs.contracts.policy.BuiltInPolicy.TheImpl as policy
use Rattle.snap_shared.specs.contracts.shared.Shared as Shared
use Rattle.snap_shared.proofs.shared.Shared.TheSendSync as shared
use Rattle.play_run.specs.contracts.job.Job as Job
use Rattle.play_threads.proofs.Crossing.{job_sync, seven_sync}
use Rattle.play_threads.proofs.actors.run_together.Goals as goal

-- The closure borrows the count of actors that have started, their number, the threads, the allocator, the job, the shared
-- world and the gate.
pub for_each_mut-requires-sync-F : goal.for_each_mut-requires-sync-F
for_each_mut-requires-sync-F g c κs within =
    param_sync _ _ (arg_sync _ no _ (seven_sync _
    (shr_ref_field (record { mir = named 6; lft = κs.1.1.1.1.1.1.0 }) AtomicUsize.the_row tt).row
    (shr_ref_field (record { mir = named 7; lft = κs.1.1.1.1.1.1.1.0 }) u64-field.row tt).row
    (shr_ref_field (record { mir = named 8; lft = κs.1.1.1.1.1.1.1.1.0 }) (param 1 g.row.R) tt).row
    (shr_ref_field (record { mir = named 9; lft = κs.1.1.1.1.1.1.1.1.1.0 }) Global.the_row tt).row
    (shr_ref_field (record { mir = named 10; lft = κs.1.1.1.1.1.1.1.1.1.1.0 }) Job.the_row tt).row
    (shr_ref_field (record { mir = named 11; lft = κs.1.1.1.1.1.1.1.1.1.1.1.0 })
    (Shared.the_row (param 0 g.row.V) BuiltIn.the_row g.V.Versions policy.ghosts) tt).row
    (shr_ref_field (record { mir = named 12; lft = κs.1.1.1.1.1.1.1.1.1.1.1.1.0 }) (param 2 g.row.G) tt).row
    (search (sendable, crosses) depth 20)
    (search sendable depth 20)
    (search (sendable, c.type_bounds.sync-R) depth 20)
    (search (sendable, crosses, sync) depth 20)
    (search (sendable, job_sync) depth 20)
    (search (sendable, shared.the_sync, c.type_bounds.send-V) depth 20)
    (search (sendable, c.type_bounds.sync-G) depth 20)))
