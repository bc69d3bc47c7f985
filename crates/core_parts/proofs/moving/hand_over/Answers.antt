use Rattle.std.proofs.Common.{ap, refl, sym, ◌∙◌, subst, ◌<◌, ◌^◌, ◌+◌, ◌≡◌, Some, None}
use Rattle.std.specs.Prelude.{IfSome, option_map}
use Rattle.std.proofs.lemmas.Result.{err_from_is_err_and}
use Rattle.wheel_core.specs.declared.item.Item.{Item}
use Rattle.wheel_core.specs.PlainBase.{NoneBehind}
use Rattle.core_world.specs.cpu_bases.CpuBases.{CpuBases, RoomyBases, base_of, class_in}
use Rattle.core_world.specs.cpu_bases.CpuBases.{item_queued, moved_in}
use Rattle.core_world.specs.cpu_bases.CpuBases.{moved_out, oldest_in}
use Rattle.core_world.specs.Steps.{with_bases}
use Rattle.core_parts.specs.Moves.{taken_in, wheel_in}
use Rattle.core_parts.specs.Status.{record_of}
use Rattle.core_parts.proofs.Oldest.{oldest_in_time, oldest_narrow}
use Rattle.core_parts.proofs.Rooms.{done_so, entry_room, queue_room, same_bases, still}
use Rattle.core_parts.proofs.moving.hand_over.Goals as goal

pub timer_of-timer-requires : goal.timer_of-timer-requires
timer_of-timer-requires g c =
    let is = c.in-Some.ensures.item
    ∙ ap (λ (b : RoomyBases). oldest_in (base_of c.args.class b.plain).items)
    c.in_ok-reserve.ensures.ok in
    let low = subst (λ o. IfSome o (λ (item : Item). item.id < 2 ^ 16)) (sym is)
    (oldest_narrow c.from.inside.bases.plain c.args.class c.journal.ensures.consistent) in
    low

pub move_in-wheel-requires-clause-expires_in_time :
    goal.move_in-wheel-requires-clause-expires_in_time
move_in-wheel-requires-clause-expires_in_time g c =
    let is = c.in-Some.ensures.item
    ∙ ap (λ (b : RoomyBases). oldest_in (base_of c.args.class b.plain).items)
    c.in_ok-reserve.ensures.ok in
    subst (λ o. IfSome o (λ (item : Item). item.expires < 2 ^ 47)) (sym is)
    (oldest_in_time c.from.inside.bases.plain c.args.class c.journal.ensures.consistent)

pub returns-in_err-reserve-clause-wheel : goal.returns-in_err-reserve-clause-wheel
returns-in_err-reserve-clause-wheel g c =
    let p = err_from_is_err_and c.from_residual.result c.from_residual.ensures.1 in rw p.1 tt

pub returns-in_err-reserve-clause-given : goal.returns-in_err-reserve-clause-given
returns-in_err-reserve-clause-given g c =
    let p = err_from_is_err_and c.from_residual.result c.from_residual.ensures.1 in rw p.1 tt

pub returns-in_err-reserve-clause-taken : goal.returns-in_err-reserve-clause-taken
returns-in_err-reserve-clause-taken g c =
    let p = err_from_is_err_and c.from_residual.result c.from_residual.ensures.1 in rw p.1 tt

pub returns-in_err-reserve-clause-err_from : goal.returns-in_err-reserve-clause-err_from
returns-in_err-reserve-clause-err_from g c =
    let p = err_from_is_err_and c.from_residual.result c.from_residual.ensures.1 in
    rw p.1 (ap (λ (b : RoomyBases). record_of c.from.inside.status b.plain) c.in_err-reserve.ensures.err
    ∙ c.from.view_is)

pub returns-in_err-reserve-clause-err_to : goal.returns-in_err-reserve-clause-err_to
returns-in_err-reserve-clause-err_to g c =
    let p = err_from_is_err_and c.from_residual.result c.from_residual.ensures.1 in rw p.1 refl

pub returns-in_err-reserve-2-clause-wheel : goal.returns-in_err-reserve-2-clause-wheel
returns-in_err-reserve-2-clause-wheel g c =
    let p = err_from_is_err_and c.from_residual-in_err-reserve-2.result c.from_residual-in_err-reserve-2.ensures.1 in rw p.1 tt

pub returns-in_err-reserve-2-clause-given : goal.returns-in_err-reserve-2-clause-given
returns-in_err-reserve-2-clause-given g c =
    let p = err_from_is_err_and c.from_residual-in_err-reserve-2.result c.from_residual-in_err-reserve-2.ensures.1 in rw p.1 tt

pub returns-in_err-reserve-2-clause-taken : goal.returns-in_err-reserve-2-clause-taken
returns-in_err-reserve-2-clause-taken g c =
    let p = err_from_is_err_and c.from_residual-in_err-reserve-2.result c.from_residual-in_err-reserve-2.ensures.1 in rw p.1 tt

pub returns-in_err-reserve-2-clause-err_from : goal.returns-in_err-reserve-2-clause-err_from
returns-in_err-reserve-2-clause-err_from g c =
    let p = err_from_is_err_and c.from_residual-in_err-reserve-2.result c.from_residual-in_err-reserve-2.ensures.1 in
    rw p.1 (still 0 c.from.inside.status c.args.from.now c.from.inside.bases c.reserve.new.self
    c.from.view_is c.in_ok-reserve.ensures.ok)

pub returns-in_err-reserve-2-clause-err_to : goal.returns-in_err-reserve-2-clause-err_to
returns-in_err-reserve-2-clause-err_to g c =
    let p = err_from_is_err_and c.from_residual-in_err-reserve-2.result c.from_residual-in_err-reserve-2.ensures.1 in
    rw p.1 (ap (λ (b : RoomyBases). record_of c.to.inside.status b.plain) c.in_err-reserve-2.ensures.err
    ∙ c.to.view_is)

pub move_out-requires-clause-entry_room : goal.move_out-requires-clause-entry_room
move_out-requires-clause-entry_room g c =
    entry_room 0 c.from.inside.bases c.reserve.new.self c.in_ok-reserve.ensures.ok

pub move_in-wheel-requires-clause-room : goal.move_in-wheel-requires-clause-room
move_in-wheel-requires-clause-room g c =
    queue_room c.args.class c.to.inside.bases c.reserve-2.new.self c.in_ok-reserve-2.ensures.ok

pub move_in-wheel-requires-clause-entry_room : goal.move_in-wheel-requires-clause-entry_room
move_in-wheel-requires-clause-entry_room g c =
    entry_room 1 c.to.inside.bases c.reserve-2.new.self c.in_ok-reserve-2.ensures.ok

pub move_in-wheel-requires-clause-not_queued : goal.move_in-wheel-requires-clause-not_queued
move_in-wheel-requires-clause-not_queued g c =
    let is =
    c.in-Some.ensures.item
    ∙ ap (λ (b : CpuBases). oldest_in (base_of c.args.class b).items)
    (same_bases 0 c.from.inside.status c.args.from.now c.from.inside.bases c.reserve.new.self
    c.from.view_is c.in_ok-reserve.ensures.ok) in
    let apart =
    subst (λ o. IfSome o (λ (item : Item). class_in item.id c.args.to.now.bases ≡ None)) (sym is)
    c.requires.may.not_queued in
    let bases =
    same_bases 1 c.to.inside.status c.args.to.now c.to.inside.bases c.reserve-2.new.self
    c.to.view_is c.in_ok-reserve-2.ensures.ok in
    (λ i. class_in (c.timer_of-timer.ensures i) (bases i)) ∙ apart

pub move_in-wheel-requires-clause-none_behind : goal.move_in-wheel-requires-clause-none_behind
move_in-wheel-requires-clause-none_behind g c =
    subst (λ (b : CpuBases). NoneBehind (base_of c.args.class b))
    (sym
    (same_bases 1 c.to.inside.status c.args.to.now c.to.inside.bases c.reserve-2.new.self
    c.to.view_is c.in_ok-reserve-2.ensures.ok))
    c.requires.may.none_behind

pub returns-in_default-clause-wheel : goal.returns-in_default-clause-wheel
returns-in_default-clause-wheel g c =
    let is =
    c.in_default.ensures.item
    ∙ ap (λ (b : CpuBases). oldest_in (base_of c.args.class b).items)
    (same_bases 0 c.from.inside.status c.args.from.now c.from.inside.bases c.reserve.new.self
    c.from.view_is c.in_ok-reserve.ensures.ok) in
    ap (option_map (wheel_in c.args.now c.args.class c.args.to.now.bases)) is

pub returns-in_default-clause-given : goal.returns-in_default-clause-given
returns-in_default-clause-given g c =
    done_so 0 c.from.inside.status c.args.from.now c.from.inside.bases c.reserve.new.self
    c.from.view_is c.in_ok-reserve.ensures.ok (moved_out c.args.now c.args.class c.args.by)
    c.move_out.new.self c.move_out.ensures.after

pub returns-in_default-clause-taken : goal.returns-in_default-clause-taken
returns-in_default-clause-taken g c =
    let is =
    c.in_default.ensures.item
    ∙ ap (λ (b : CpuBases). oldest_in (base_of c.args.class b).items)
    (same_bases 0 c.from.inside.status c.args.from.now c.from.inside.bases c.reserve.new.self
    c.from.view_is c.in_ok-reserve.ensures.ok) in
    still 1 c.to.inside.status c.args.to.now c.to.inside.bases c.reserve-2.new.self c.to.view_is
    c.in_ok-reserve-2.ensures.ok
    ∙ ap (λ o. with_bases c.args.to.now
    (taken_in c.args.now c.args.class c.args.by o c.args.to.now.bases)) is

pub returns-clause-wheel : goal.returns-clause-wheel
returns-clause-wheel g c =
    let is =
    c.in-Some.ensures.item
    ∙ ap (λ (b : CpuBases). oldest_in (base_of c.args.class b).items)
    (same_bases 0 c.from.inside.status c.args.from.now c.from.inside.bases c.reserve.new.self
    c.from.view_is c.in_ok-reserve.ensures.ok) in
    let bases =
    same_bases 1 c.to.inside.status c.args.to.now c.to.inside.bases c.reserve-2.new.self
    c.to.view_is c.in_ok-reserve-2.ensures.ok in
    ap Some
    (c.move_in-wheel.ensures.wheel
    ∙ (λ i. (item_queued (c.args.now + 1) c.args.class (c.timer_of-timer.ensures i)
    c.in-Some.item.expires c.in-Some.item.job c.in-Some.item.arg (bases i)).wheel))
    ∙ ap (option_map (wheel_in c.args.now c.args.class c.args.to.now.bases)) is

pub returns-clause-given : goal.returns-clause-given
returns-clause-given g c =
    done_so 0 c.from.inside.status c.args.from.now c.from.inside.bases c.reserve.new.self
    c.from.view_is c.in_ok-reserve.ensures.ok (moved_out c.args.now c.args.class c.args.by)
    c.move_out.new.self c.move_out.ensures.after

pub returns-clause-taken : goal.returns-clause-taken
returns-clause-taken g c =
    let is =
    c.in-Some.ensures.item
    ∙ ap (λ (b : CpuBases). oldest_in (base_of c.args.class b).items)
    (same_bases 0 c.from.inside.status c.args.from.now c.from.inside.bases c.reserve.new.self
    c.from.view_is c.in_ok-reserve.ensures.ok) in
    let item = c.in-Some.item in
    done_so 1 c.to.inside.status c.args.to.now c.to.inside.bases c.reserve-2.new.self c.to.view_is
    c.in_ok-reserve-2.ensures.ok
    (moved_in c.args.now c.args.class c.timer_of-timer.result.0 item.expires item.job item.arg
    c.args.by)
    c.move_in-wheel.new.self c.move_in-wheel.ensures.after
    ∙ (ap (λ id. with_bases c.args.to.now
    (moved_in c.args.now c.args.class id item.expires item.job item.arg c.args.by
    c.args.to.now.bases)) c.timer_of-timer.ensures
    ∙ ap (λ o. with_bases c.args.to.now
    (taken_in c.args.now c.args.class c.args.by o c.args.to.now.bases)) is)
