use Rattle.std.proofs.Crossing.{crosses}
use denote.Param.Send.{sendable}
use Rattle.table_stress.proofs.Sends.{pass_send, plan_sync, shared_sync}
use Rattle.table_stress.proofs.crews.both.Goals as goal

pub join-requires-send-F : goal.join-requires-send-F
join-requires-send-F g c κs within =
    let name_send = c.type_bounds.send-N in
    let name_sync = c.type_bounds.sync-N in
    let base_send = c.type_bounds.send-B in
    let base_sync = c.type_bounds.sync-B in
    let gate_sync = c.type_bounds.sync-G in
    let jobs_sync = c.type_bounds.sync-J in
    let handle_sync = c.type_bounds.sync-R in
    search (sendable, crosses, pass_send, plan_sync, shared_sync) depth 200 fits 1000000
