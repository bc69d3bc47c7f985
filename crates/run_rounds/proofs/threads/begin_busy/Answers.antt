use Rattle.std.proofs.Common.{refl}
use Rattle.std.proofs.Crossing.{crosses}
use denote.Param.Send.{sendable}
use Rattle.run_shares.proofs.Sends.{pass_send, shared_sync}
use Rattle.run_rounds.proofs.threads.begin_busy.Goals as goal

pub spawn_with-requires-send-F : goal.spawn_with-requires-send-F
spawn_with-requires-send-F g c κs within =
    let name_send = c.type_bounds.send-N in
    let name_sync = c.type_bounds.sync-N in
    let base_send = c.type_bounds.send-B in
    let base_sync = c.type_bounds.sync-B in
    let jobs_sync = c.type_bounds.sync-J in
    let gate_sync = c.type_bounds.sync-G in
    let handle_sync = c.type_bounds.sync-R in
    search (sendable, crosses, pass_send, shared_sync) depth 200 fits 1000000

pub spawn_with-requires-clause-runs : goal.spawn_with-requires-clause-runs
spawn_with-requires-clause-runs g c κs within =
    (c.requires.may, c.requires.now, c.requires.in_time)

pub spawn_with-requires-clause-keeps : goal.spawn_with-requires-clause-keeps
spawn_with-requires-clause-keeps g c κs within share done =
    rw (c.of-2.ensures, c.of.ensures, c.cpu.ensures) done

pub returns-in-Ok : goal.returns-in-Ok
returns-in-Ok g c =
    rw c.in-Ok.ensures.ok (record {
      cpu_is = c.cpu.ensures;
      due_is = refl;
      ops_are = rw c.of.ensures refl;
      jobs_are = rw c.of-2.ensures refl;
    })
