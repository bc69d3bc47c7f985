use Rattle.std.proofs.Common.{◌≡◌, Some, None, ap, subst, sym, ◌∙◌}
use Rattle.wheel_core.specs.PlainBase.{NoneBehind, OneFewer, OutIsDue, PlainBase, next_out, taken}
use Rattle.cpu_bases.specs.ByClass.{of_class}
use Rattle.cpu_bases.specs.CpuBases.{NotAhead, base_of, handed_out}
use Rattle.cpu_bases.specs.Laws.{HandsOut}
use Rattle.cpu_bases.specs.Trio.{plain_of}
use Rattle.cpu_bases.proofs.Keeping.{behind_drained, handing_out_keeps}
use Rattle.cpu_bases.proofs.Seen.{base_seen, became_so, entry_fits}
use Rattle.cpu_bases.proofs.Steps.{id_fits, kept_so, plain_base, stored_taken}
use Rattle.cpu_bases.proofs.bases.Bases.take_due.Goals as goal

-- nothing is due
drained : (g : _) (c : goal.After-write g)
    → plain_of c.take_next.new.self c.write.new.self.entries
    ≡ handed_out c.args.now c.args.class c.args.by
    (plain_of c.self.inside.trio c.self.inside.journal.entries)
drained g c =
    stored_taken c.args.now c.args.class c.args.by c.self.inside.trio c.take_next.new.self
    c.self.inside.journal.entries c.write.new.self.entries None c.ticked.result
    c.in_default.ensures.item c.in_default.ensures.after c.ticked.ensures c.write.ensures.entries

pub invariant_of-self : goal.invariant_of-self
invariant_of-self g c =
    let cpu = plain_of c.self.inside.trio c.self.inside.journal.entries in
    kept_so c.self.inside.timers c.args.class (taken c.args.now) c.self.inside.trio
    c.take_next.new.self c.self.inside.journal.entries c.write.new.self.entries _ c.self.invariant
    c.in_default.ensures.after (drained g c)
    (handing_out_keeps c.args.now c.args.class c.args.by cpu c.requires.now_in_time
    c.self.invariant.consistent).0

pub returns-in_default-clause-none_behind : goal.returns-in_default-clause-none_behind
returns-in_default-clause-none_behind g c =
    let cpu = plain_of c.self.inside.trio c.self.inside.journal.entries in
    let none =
    ap (next_out c.args.now) (plain_base c.args.class c.self.inside.trio)
    ∙ sym c.in_default.ensures.item in
    subst
    (λ b. NotAhead c.args.now (base_of c.args.class b.plain)
    → NoneBehind (base_of c.args.class (plain_of c.take_next.new.self c.write.new.self.entries)))
    c.self.view_is
    (subst (λ b. NotAhead c.args.now (base_of c.args.class cpu)
    → NoneBehind (base_of c.args.class b))
    (sym (drained g c))
    (behind_drained c.args.now c.args.class c.args.by cpu c.self.invariant.consistent none))

pub returns-in_default-clause-keeps : goal.returns-in_default-clause-keeps
returns-in_default-clause-keeps g c =
    let cpu = plain_of c.self.inside.trio c.self.inside.journal.entries in
    subst
    (λ b. HandsOut c.args.now c.args.class c.args.by.0 b.plain
    (plain_of c.take_next.new.self c.write.new.self.entries)) c.self.view_is
    (subst (HandsOut c.args.now c.args.class c.args.by.0 cpu) (sym (drained g c))
    (handing_out_keeps c.args.now c.args.class c.args.by cpu c.requires.now_in_time
    c.self.invariant.consistent).1)

-- a timer is due
pub entry_for-requires : goal.entry_for-requires
entry_for-requires g c =
    id_fits c.args.class c.in-Some.item c.self.inside.trio c.self.inside.journal.entries
    c.self.invariant.consistent c.in-Some.ensures.due.queued

handed : (g : _) (c : goal.After-write-2 g)
    → plain_of c.take_next.new.self c.write-2.new.self.entries
    ≡ handed_out c.args.now c.args.class c.args.by
    (plain_of c.self.inside.trio c.self.inside.journal.entries)
handed g c =
    stored_taken c.args.now c.args.class c.args.by c.self.inside.trio c.take_next.new.self
    c.self.inside.journal.entries c.write-2.new.self.entries (Some c.in-Some.item)
    c.entry_for.result c.in-Some.ensures.item c.in-Some.ensures.after c.entry_for.ensures
    c.write-2.ensures.entries

pub invariant_of-self-2 : goal.invariant_of-self-2
invariant_of-self-2 g c =
    let cpu = plain_of c.self.inside.trio c.self.inside.journal.entries in
    kept_so c.self.inside.timers c.args.class (taken c.args.now) c.self.inside.trio
    c.take_next.new.self c.self.inside.journal.entries c.write-2.new.self.entries _
    c.self.invariant c.in-Some.ensures.after (handed g c)
    (handing_out_keeps c.args.now c.args.class c.args.by cpu c.requires.now_in_time
    c.self.invariant.consistent).0

pub returns-clause-keeps : goal.returns-clause-keeps
returns-clause-keeps g c =
    let cpu = plain_of c.self.inside.trio c.self.inside.journal.entries in
    subst
    (λ b. HandsOut c.args.now c.args.class c.args.by.0 b.plain
    (plain_of c.take_next.new.self c.write-2.new.self.entries)) c.self.view_is
    (subst (HandsOut c.args.now c.args.class c.args.by.0 cpu) (sym (handed g c))
    (handing_out_keeps c.args.now c.args.class c.args.by cpu c.requires.now_in_time
    c.self.invariant.consistent).1)

pub write-requires : goal.write-requires
write-requires g c =
    entry_fits c.self.inside.trio c.self.inside.timers c.self.inside.journal c.args.self.now
    c.self.view_is c.requires.entry_room

pub returns-in_default-clause-item : goal.returns-in_default-clause-item
returns-in_default-clause-item g c =
    c.in_default.ensures.item
    ∙ ap (next_out c.args.now) (base_seen c.self.inside.trio c.self.inside.timers c.self.inside.journal c.args.self.now
    c.self.view_is c.args.class)

pub returns-in_default-clause-due : goal.returns-in_default-clause-due
returns-in_default-clause-due g c =
    subst (λ (b : PlainBase). OutIsDue c.args.now b.items None)
    (base_seen c.self.inside.trio c.self.inside.timers c.self.inside.journal c.args.self.now
    c.self.view_is c.args.class)
    c.in_default.ensures.due

pub returns-in_default-clause-after : goal.returns-in_default-clause-after
returns-in_default-clause-after g c =
    became_so c.self.inside.trio c.self.inside.timers c.self.inside.journal c.args.self.now
    c.self.view_is (handed_out c.args.now c.args.class c.args.by) c.take_next.new.self
    c.write.new.self (drained g c) c.write.ensures.capacity

pub write-requires-2 : goal.write-requires-2
write-requires-2 g c =
    entry_fits c.self.inside.trio c.self.inside.timers c.self.inside.journal c.args.self.now
    c.self.view_is c.requires.entry_room

pub returns-clause-item : goal.returns-clause-item
returns-clause-item g c =
    c.in-Some.ensures.item
    ∙ ap (next_out c.args.now) (base_seen c.self.inside.trio c.self.inside.timers c.self.inside.journal c.args.self.now
    c.self.view_is c.args.class)

pub returns-clause-due : goal.returns-clause-due
returns-clause-due g c =
    subst (λ (b : PlainBase). OutIsDue c.args.now b.items (Some c.in-Some.item))
    (base_seen c.self.inside.trio c.self.inside.timers c.self.inside.journal c.args.self.now
    c.self.view_is c.args.class)
    c.in-Some.ensures.due

pub returns-clause-one_fewer : goal.returns-clause-one_fewer
returns-clause-one_fewer g c =
    subst (λ (b : PlainBase). OneFewer b
    (base_of c.args.class (plain_of c.take_next.new.self c.write-2.new.self.entries)))
    (base_seen c.self.inside.trio c.self.inside.timers c.self.inside.journal c.args.self.now
    c.self.view_is c.args.class)
    (subst (λ (b : PlainBase). OneFewer (of_class c.args.class c.self.inside.trio).plain b)
    (sym (plain_base c.args.class c.take_next.new.self)) c.in-Some.ensures.one_fewer)

pub returns-clause-after : goal.returns-clause-after
returns-clause-after g c =
    became_so c.self.inside.trio c.self.inside.timers c.self.inside.journal c.args.self.now
    c.self.view_is (handed_out c.args.now c.args.class c.args.by) c.take_next.new.self
    c.write-2.new.self (handed g c) c.write-2.ensures.capacity
