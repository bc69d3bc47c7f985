use Rattle.std.proofs.Common.{◌≡◌, ◌∙◌, ap, refl, subst, sym}
use Rattle.cpu_bases.specs.CpuBases.{moved_out, oldest_in}
use Rattle.cpu_bases.specs.ByClass.{of_class}
use Rattle.cpu_bases.specs.Laws.{CallKeeps}
use Rattle.cpu_bases.specs.Trio.{IsKept, plain_of}
use Rattle.wheel_core.specs.PlainBase.{PlainBase, removed}
use Rattle.cpu_bases.proofs.Classes.{with_itself}
use Rattle.cpu_bases.proofs.Keeping.{moving_out_keeps, oldest_found}
use Rattle.cpu_bases.proofs.Seen.{base_seen, became_so, entry_fits, none_stored}
use Rattle.cpu_bases.proofs.Steps.{id_fits, kept_so, stored_oldest}
use Rattle.cpu_bases.proofs.bases.Bases.move_out.Goals as goal

pub entry_for-requires : goal.entry_for-requires
entry_for-requires g c =
    id_fits c.args.class c.in-Some.item c.self.inside.trio c.self.inside.journal.entries
    c.self.invariant.consistent
    (oldest_found (of_class c.args.class c.self.inside.trio).plain.items c.in-Some.item
    (sym c.in-Some.ensures.item))

became : (g : _) (c : goal.After-write g)
    → plain_of c.take_oldest.new.self c.write.new.self.entries
    ≡ moved_out c.args.now c.args.class c.args.by
    (plain_of c.self.inside.trio c.self.inside.journal.entries)
became g c =
    stored_oldest c.args.now c.args.class c.args.by c.self.inside.trio c.take_oldest.new.self
    c.self.inside.journal.entries c.write.new.self.entries c.in-Some.item c.entry_for.result
    c.in-Some.ensures.item c.in-Some.ensures.after c.entry_for.ensures c.write.ensures.entries

pub invariant_of-self-2 : goal.invariant_of-self-2
invariant_of-self-2 g c =
    let cpu = plain_of c.self.inside.trio c.self.inside.journal.entries in
    kept_so c.self.inside.timers c.args.class (removed c.in-Some.item.id) c.self.inside.trio
    c.take_oldest.new.self c.self.inside.journal.entries c.write.new.self.entries _
    c.self.invariant c.in-Some.ensures.after (became g c)
    (moving_out_keeps c.args.now c.args.class c.args.by cpu c.self.invariant.consistent).0

pub returns-clause-keeps : goal.returns-clause-keeps
returns-clause-keeps g c =
    let cpu = plain_of c.self.inside.trio c.self.inside.journal.entries in
    subst (λ b. CallKeeps c.args.now b.plain (plain_of c.take_oldest.new.self c.write.new.self.entries))
    c.self.view_is
    (subst (CallKeeps c.args.now cpu) (sym (became g c))
    (moving_out_keeps c.args.now c.args.class c.args.by cpu c.self.invariant.consistent).1)

pub invariant_of-self : goal.invariant_of-self
invariant_of-self g c =
    subst (λ t. IsKept t c.self.inside.journal.entries c.self.inside.timers)
    (sym (c.in_default.ensures.after ∙ with_itself c.args.class c.self.inside.trio))
    c.self.invariant

pub returns-in_default-clause-item : goal.returns-in_default-clause-item
returns-in_default-clause-item g c =
    c.in_default.ensures.item
    ∙ ap (λ (b : PlainBase). oldest_in b.items)
    (base_seen c.self.inside.trio c.self.inside.timers c.self.inside.journal c.args.self.now
    c.self.view_is c.args.class)

pub returns-in_default-clause-after : goal.returns-in_default-clause-after
returns-in_default-clause-after g c =
    became_so c.self.inside.trio c.self.inside.timers c.self.inside.journal c.args.self.now
    c.self.view_is (moved_out c.args.now c.args.class c.args.by) c.take_oldest.new.self
    c.self.inside.journal
    (none_stored c.args.now c.args.class c.args.by c.self.inside.trio c.take_oldest.new.self
    c.self.inside.journal.entries c.in_default.ensures.item c.in_default.ensures.after)
    refl

pub returns-in_default-clause-keeps : goal.returns-in_default-clause-keeps
returns-in_default-clause-keeps g c =
    let cpu = plain_of c.self.inside.trio c.self.inside.journal.entries in
    subst
    (λ b. CallKeeps c.args.now b.plain
    (plain_of c.take_oldest.new.self c.self.inside.journal.entries)) c.self.view_is
    (subst (CallKeeps c.args.now cpu)
    (sym
    (none_stored c.args.now c.args.class c.args.by c.self.inside.trio c.take_oldest.new.self
    c.self.inside.journal.entries c.in_default.ensures.item c.in_default.ensures.after))
    (moving_out_keeps c.args.now c.args.class c.args.by cpu c.self.invariant.consistent).1)

pub returns-clause-item : goal.returns-clause-item
returns-clause-item g c =
    c.in-Some.ensures.item
    ∙ ap (λ (b : PlainBase). oldest_in b.items)
    (base_seen c.self.inside.trio c.self.inside.timers c.self.inside.journal c.args.self.now
    c.self.view_is c.args.class)

pub write-requires : goal.write-requires
write-requires g c =
    entry_fits c.self.inside.trio c.self.inside.timers c.self.inside.journal c.args.self.now
    c.self.view_is c.requires.entry_room

pub returns-clause-after : goal.returns-clause-after
returns-clause-after g c =
    became_so c.self.inside.trio c.self.inside.timers c.self.inside.journal c.args.self.now
    c.self.view_is (moved_out c.args.now c.args.class c.args.by) c.take_oldest.new.self
    c.write.new.self (became g c) c.write.ensures.capacity
