use Rattle.std.proofs.Common.{◌≡◌, ◌+◌, ◌<◌, ◌∙◌, ap, subst, sym, arith}
use Rattle.tm_base.specs.declared.names.TheConstants.{TIME_LIMIT}
use Rattle.wheel_core.specs.declared.item.Item.{Item}
use Rattle.wheel_core.specs.WheelExpiry.{KeepsTime}
use Rattle.wheel_core.specs.PlainBase.{NoneBehind, PlainBase, added, forwarded, item_added, item_of}
use Rattle.cpu_bases.specs.declared.entry.Act.TheVariants.{MovedIn}
use Rattle.cpu_bases.specs.CpuBases.{IsConsistent, on_bases, moved_in}
use Rattle.cpu_bases.specs.Laws.{CallKeeps, MayQueue}
use Rattle.cpu_bases.specs.Trio.{plain_of}
use Rattle.cpu_bases.proofs.Consistent.{base_none}
use Rattle.cpu_bases.proofs.Keeping.{moving_in_keeps}
use Rattle.cpu_bases.proofs.Seen.{base_seen, became_so, entry_fits, room_fits}
use Rattle.cpu_bases.proofs.Steps.{kept_so, plain_base, stored_queued}
use Rattle.cpu_bases.proofs.bases.Bases.move_in.Goals as goal

-- the bases as they were, and what was done to them
law : (g : _) (c : goal.After-write g)
    → let old = plain_of c.self.inside.trio c.self.inside.journal.entries in
    let new = moved_in c.args.now c.args.class c.from-id.result c.args.expires c.args.job c.args.arg
    c.args.by old in
    IsConsistent new × CallKeeps c.args.now old new
law g c =
    let asked : MayQueue c.args.now c.args.class c.args.timer.0 c.args.expires
    c.args.self.now.plain = record {
      now_in_time = c.requires.now_in_time;
      expires_in_time = c.requires.expires_in_time;
      timer_fits = omega arith;
      not_queued = c.requires.not_queued;
      none_behind = c.requires.none_behind;
    } in
    let may =
    subst (λ b. MayQueue c.args.now c.args.class c.from-id.result c.args.expires b.plain)
    (sym c.self.view_is)
    (subst (λ t. MayQueue c.args.now c.args.class t c.args.expires c.args.self.now.plain)
    (sym c.from-id.ensures) asked) in
    moving_in_keeps c.args.now c.args.class c.from-id.result c.args.expires c.args.job c.args.arg
    c.args.by
    (plain_of c.self.inside.trio c.self.inside.journal.entries) c.self.invariant.consistent may

became : (g : _) (c : goal.After-write g)
    → plain_of c.queue-item.new.self c.write.new.self.entries
    ≡ moved_in c.args.now c.args.class c.from-id.result c.args.expires c.args.job c.args.arg
    c.args.by
    (plain_of c.self.inside.trio c.self.inside.journal.entries)
became g c =
    stored_queued MovedIn 0 c.args.now (c.args.now + 1) c.args.class c.from-id.result c.args.expires
    c.args.job c.args.arg c.args.by c.self.inside.trio c.queue-item.new.self
    c.self.inside.journal.entries c.write.new.self.entries c.queue-item.result c.entry_for.result
    c.queue-item.ensures.item c.queue-item.ensures.after c.entry_for.ensures c.write.ensures.entries

pub invariant_of-self : goal.invariant_of-self
invariant_of-self g c =
    kept_so c.self.inside.timers c.args.class
    (λ b. added c.from-id.result c.args.expires c.args.job c.args.arg
    (forwarded (c.args.now + 1) b))
    c.self.inside.trio c.queue-item.new.self
    c.self.inside.journal.entries c.write.new.self.entries _ c.self.invariant
    c.queue-item.ensures.after (became g c) (law g c).0

pub returns-clause-keeps : goal.returns-clause-keeps
returns-clause-keeps g c =
    subst (λ b. CallKeeps c.args.now b.plain (plain_of c.queue-item.new.self c.write.new.self.entries))
    c.self.view_is
    (subst (CallKeeps c.args.now (plain_of c.self.inside.trio c.self.inside.journal.entries))
    (sym (became g c)) (law g c).1)

pub queue-item-requires-clause-room : goal.queue-item-requires-clause-room
queue-item-requires-clause-room g c =
    room_fits c.self.inside.trio c.self.inside.timers c.self.inside.journal c.args.self.now
    c.self.view_is c.args.class c.self.invariant.room c.requires.room

pub queue-item-requires-clause-not_queued : goal.queue-item-requires-clause-not_queued
queue-item-requires-clause-not_queued g c =
    let base =
    base_seen c.self.inside.trio c.self.inside.timers c.self.inside.journal c.args.self.now
    c.self.view_is c.args.class in
    (λ i. item_of (c.from-id.ensures i) (base i).items)
    ∙ base_none c.args.self.now.plain c.args.timer.0 c.requires.not_queued c.args.class

pub queue-item-requires-clause-clock_in_time : goal.queue-item-requires-clause-clock_in_time
queue-item-requires-clause-clock_in_time g c =
    subst (λ (b : PlainBase). b.clock < TIME_LIMIT) (plain_base c.args.class c.self.inside.trio)
    (c.self.invariant.consistent.fits c.args.class).clock

pub queue-item-requires-clause-none_behind : goal.queue-item-requires-clause-none_behind
queue-item-requires-clause-none_behind g c =
    subst (λ (b : PlainBase). NoneBehind b)
    (sym
    (base_seen c.self.inside.trio c.self.inside.timers c.self.inside.journal c.args.self.now
    c.self.view_is c.args.class))
    c.requires.none_behind

pub write-requires : goal.write-requires
write-requires g c =
    entry_fits c.self.inside.trio c.self.inside.timers c.self.inside.journal c.args.self.now
    c.self.view_is c.requires.entry_room

pub returns-clause-wheel : goal.returns-clause-wheel
returns-clause-wheel g c =
    ap (λ (item : Item). item.wheel) c.queue-item.ensures.item
    ∙ ap (λ (b : PlainBase). (item_added (forwarded (c.args.now + 1) b).clock c.args.timer.0
    c.args.expires c.args.job c.args.arg).wheel)
    (base_seen c.self.inside.trio c.self.inside.timers c.self.inside.journal c.args.self.now
    c.self.view_is c.args.class)

pub returns-clause-keeps_time : goal.returns-clause-keeps_time
returns-clause-keeps_time g c =
    subst (λ (b : PlainBase). KeepsTime c.args.expires (forwarded (c.args.now + 1) b).clock)
    (base_seen c.self.inside.trio c.self.inside.timers c.self.inside.journal c.args.self.now
    c.self.view_is c.args.class)
    c.queue-item.ensures.keeps_time

pub returns-clause-after : goal.returns-clause-after
returns-clause-after g c =
    became_so c.self.inside.trio c.self.inside.timers c.self.inside.journal c.args.self.now
    c.self.view_is
    (moved_in c.args.now c.args.class c.from-id.result c.args.expires
    c.args.job c.args.arg c.args.by)
    c.queue-item.new.self c.write.new.self (became g c) c.write.ensures.capacity
    ∙ ap (λ id. on_bases (moved_in c.args.now c.args.class id c.args.expires
    c.args.job c.args.arg c.args.by) c.args.self.now) c.from-id.ensures
