-- for crates above: a run may be lent to other threads
use denote.RattleType.{RattleType}
use denote.Param.Send.{Frees, IsSend, IsSync, part_keyless, sendable, struct_sync}
use Rattle.std.proofs.Crossing.{crosses, frees, send}
use denote.Struct.Struct.{Struct}
use denote.Struct.Owning.{shape}
use denote.Struct.Declared as declared
use Rattle.atomic_table.specs.declared.shared.TableRule.{Ghosts}
use Rattle.std.specs.declared.alloc.Allocator as allocators
use Rattle.atomic_table.specs.contracts.send_lease.SendLease as Lease
use Rattle.atomic_table.proofs.Rights.{right_send}
use Rattle.atomic_table.proofs.Sent.{seat_keyless, shares_keyless}
use Rattle.atomic_table.specs.contracts.shared.Seat as Seat
use Rattle.atomic_table.specs.contracts.shared.Shared as Table
use Rattle.wheel_core.specs.declared.base.TimerBase as base
use Rattle.cpu_bases.specs.contracts.bases.Bases as Bases
use Rattle.cpu_bases.specs.contracts.trio.Trio as Trio
use Rattle.cpu_bases.specs.contracts.journal.Journal as Journal
use Rattle.idle_wakeup.specs.core_parts.contracts.cpu.CoreCpu as CoreCpu
use Rattle.idle_wakeup.specs.core_parts.contracts.status.CpuStatus as CpuStatus
use Rattle.idle_wakeup.specs.core_parts.contracts.group.CoreGroup as CoreGroup
use Rattle.idle_wakeup.specs.core_state.contracts.tally.Tally as Tally
use Rattle.tree_plan.specs.contracts.hierarchy.Tree as Tree
use Rattle.idle_wakeup.specs.shared_rule.declared.run.RunName as name
use Rattle.idle_wakeup.specs.shared_rule.contracts.pass.Pass as Pass
use Rattle.idle_wakeup.specs.shared_rule.contracts.run.Run as Run
use Rattle.idle_wakeup.specs.shared_rule.contracts.box_part.BoxPart as BoxPart
use Rattle.idle_wakeup.specs.shared_rule.contracts.box_part.Guest as Guest
use Rattle.idle_wakeup.specs.shared_table.contracts.cpu_box.CpuBox as CpuBox
use Rattle.idle_wakeup.specs.shared_table.contracts.shared.Rooms as Rooms
use Rattle.idle_wakeup.specs.shared_table.contracts.shared.Shared as Shared

-- a seat may go there, and the words may be lent
seat_send : (S V : RattleType) → IsSend S → IsSend (Seat.the_row S V)
seat_send S V s = record {
  owned = λ d vs. (
    (λ vss. (tt, ((λ uss. (tt, tt)), tt))),
    seat_keyless S s V.coded.code d.table_id d.id d.me,
  );
  leaving = λ k f vs. tt;
}

seat_sync : (S V : RattleType) → IsSend S → IsSync (Seat.the_row S V)
seat_sync S V s = record {
  shared = λ d b o ν q. part_keyless (Seat.the_row S V) (seat_send S V s) q d b o;
}

lease_sync : (T A : RattleType) (g : allocators.Ghosts A.Denot) → IsSend A
    → Frees g g.dealloc_token → IsSync (Lease.the_row T A g)
lease_sync T A g s f = record {
  shared = λ d b o ν q. part_keyless (Lease.the_row T A g) (right_send T A g f) q d b o;
}

table_sync : (S V K P : RattleType) (g : Ghosts P.Denot S.Denot V.Denot K.Denot) → IsSend S
    → IsSync (Table.the_row S V K P g)
table_sync S V K P g s =
    let fields : IsSync (Struct (shape (Table.the_type S V K P g))) = search sendable depth 20 in
    record {
      shared = λ d b o ν. (
        fields.shared (d.words, (d.slots, (tt, tt))) b o ν,
        shares_keyless S s V.coded.code d.table_id (g.holds d.key) d.words d.slots ν,
      );
    }

journal_send : IsSend Journal.the_row
journal_send = search (sendable, crosses) depth 100 fits 100000

journal_sync : IsSync Journal.the_row
journal_sync = search (sendable, crosses) depth 100 fits 100000

status_send : IsSend CpuStatus.the_row
status_send = search (sendable, crosses) depth 100 fits 100000

status_sync : IsSync CpuStatus.the_row
status_sync = search (sendable, crosses) depth 100 fits 100000

group_send : IsSend CoreGroup.the_row
group_send = search (sendable, crosses) depth 100 fits 100000

group_sync : IsSync CoreGroup.the_row
group_sync = search (sendable, crosses) depth 100 fits 100000

tally_send : IsSend Tally.the_row
tally_send = search (sendable, crosses) depth 100 fits 100000

tally_sync : IsSync Tally.the_row
tally_sync = search (sendable, crosses) depth 100 fits 100000

tree_send : IsSend Tree.the_row
tree_send = search (sendable, crosses) depth 100 fits 100000

tree_sync : IsSync Tree.the_row
tree_sync = search (sendable, crosses) depth 100 fits 100000

guest_send : IsSend Guest.the_row
guest_send = search (sendable, crosses) depth 100 fits 100000

guest_sync : IsSync Guest.the_row
guest_sync = search (sendable, crosses) depth 100 fits 100000

pub pass_send : IsSend Pass.the_row
pass_send = search (sendable, crosses, seat_send) depth 100 fits 100000

module _ (N B : RattleType) (n : name.Ghosts N.Denot) (b : base.Ghosts B.Denot)
    (name_send : IsSend N) (name_sync : IsSync N) (base_send : IsSend B) (base_sync : IsSync B)
  where
    trio_send : IsSend (Trio.the_row B b)
    trio_send = search (sendable, crosses) depth 100 fits 100000

    bases_send : IsSend (Bases.the_row B b)
    bases_send = search (sendable, crosses, trio_send, journal_send) depth 100 fits 100000

    part_send : IsSend (BoxPart.the_row N B n b)
    part_send = search (sendable, crosses, seat_send, bases_send, guest_send) depth 100 fits 100000

    box_send : IsSend (CpuBox.the_row N B n b)
    box_send = search (sendable, crosses, part_send) depth 100 fits 100000

    trio_sync : IsSync (Trio.the_row B b)
    trio_sync = search (sendable, crosses) depth 100 fits 100000

    bases_sync : IsSync (Bases.the_row B b)
    bases_sync = search (sendable, crosses, trio_sync, journal_sync) depth 100 fits 100000

    part_sync : IsSync (BoxPart.the_row N B n b)
    part_sync = search (sendable, crosses, bases_sync, guest_sync, seat_sync) depth 100 fits 100000

    box_sync : IsSync (CpuBox.the_row N B n b)
    box_sync = search (sendable, crosses, part_sync) depth 100 fits 100000

    cpu_sync : IsSync (CoreCpu.the_row B b)
    cpu_sync = search (sendable, crosses, bases_sync) depth 100 fits 100000

    rooms_sync : IsSync (Rooms.the_field N B n b).row
    rooms_sync =
        search (sendable, crosses, cpu_sync, box_sync, group_sync, tally_sync) depth 100 fits 100000

    run_sync : IsSync (Run.the_field N B n b).row
    run_sync =
        search (sendable, crosses, table_sync, tree_sync, lease_sync, send, frees)
        depth 100 fits 100000

    fields_sync : IsSync (Struct (declared.shape (Shared.the_type N B n b)))
    fields_sync = struct_sync (declared.shape (Shared.the_type N B n b)) (
      search (sendable, crosses, run_sync) depth 40 fits 10000,
      (
        search (sendable, crosses, box_send) depth 40 fits 10000,
        (
          search (sendable, crosses, rooms_sync) depth 40 fits 10000,
          (search (sendable, crosses, seat_sync) depth 40 fits 10000, tt),
        ),
      ),
    )

    pub shared_sync : IsSync (Shared.the_row N B n b)
    shared_sync = search (sendable, crosses, fields_sync) depth 40 fits 10000
