use Rattle.std.proofs.Common.{◌≡◌, Some, None, subst, sym, ◌∙◌}
use Rattle.cpu_bases.specs.CpuBases.{cancelled, class_in, on_bases}
use Rattle.cpu_bases.specs.Laws.{CallKeeps}
use Rattle.cpu_bases.specs.Trio.{plain_of}
use Rattle.wheel_core.specs.PlainBase.{item_of, removed}
use Rattle.cpu_bases.proofs.Keeping.{cancelled_gone, cancelling_keeps, found_at}
use Rattle.cpu_bases.proofs.Steps.{id_fits, kept_so, plain_base, stored_found}
use Rattle.cpu_bases.proofs.bases.Bases.cancel.Goals as goal

pub entry_for-requires : goal.entry_for-requires
entry_for-requires g c =
    let trio = c.self.inside.trio in
    let journal = c.self.inside.journal.entries in
    let at = found_at c.from.result c.in-Some.class c.in-Some.item (plain_of trio journal)
    (sym c.in-Some.ensures.found) in
    id_fits c.in-Some.class c.in-Some.item trio journal c.self.invariant.consistent
    (subst (λ b. item_of c.in-Some.item.id b.items ≡ Some c.in-Some.item)
    (plain_base c.in-Some.class trio) at.itself)

became : (g : _) (c : goal.After-write g)
    → plain_of c.take_out.new.self c.write.new.self.entries
    ≡ cancelled c.args.now c.from.result c.args.line c.args.by
    (plain_of c.self.inside.trio c.self.inside.journal.entries)
became g c =
    stored_found c.args.now c.from.result c.args.line c.in-Some.class c.args.by c.self.inside.trio
    c.take_out.new.self c.self.inside.journal.entries c.write.new.self.entries c.in-Some.item
    c.entry_for.result c.in-Some.ensures.found c.in-Some.ensures.after c.entry_for.ensures
    c.write.ensures.entries

pub invariant_of-self-2 : goal.invariant_of-self-2
invariant_of-self-2 g c =
    let cpu = plain_of c.self.inside.trio c.self.inside.journal.entries in
    kept_so c.self.inside.timers c.in-Some.class (removed c.from.result) c.self.inside.trio
    c.take_out.new.self c.self.inside.journal.entries c.write.new.self.entries _ c.self.invariant
    c.in-Some.ensures.after (became g c)
    (cancelling_keeps c.args.now c.from.result c.args.line c.args.by cpu
    c.self.invariant.consistent).0

pub returns-clause-gone : goal.returns-clause-gone
returns-clause-gone g c =
    let cpu = plain_of c.self.inside.trio c.self.inside.journal.entries in
    subst (λ t. class_in t (plain_of c.take_out.new.self c.write.new.self.entries) ≡ None)
    c.from.ensures
    (subst (λ b. class_in c.from.result b ≡ None) (sym (became g c))
    (cancelled_gone c.args.now c.from.result c.args.line c.args.by cpu c.self.invariant.consistent))

pub returns-clause-after : goal.returns-clause-after
returns-clause-after g c =
    let became = became g c in
    let capacity = c.write.ensures.capacity in
    (λ i. record {
      plain = became i;
      room = record { timers = c.self.inside.timers; entries = capacity i };
    })
    ∙ (λ i. on_bases (cancelled c.args.now (c.from.ensures i) c.args.line c.args.by)
    (c.self.view_is i))

pub returns-clause-keeps : goal.returns-clause-keeps
returns-clause-keeps g c =
    let cpu = plain_of c.self.inside.trio c.self.inside.journal.entries in
    subst (λ b. CallKeeps c.args.now b.plain (plain_of c.take_out.new.self c.write.new.self.entries))
    c.self.view_is
    (subst (CallKeeps c.args.now cpu) (sym (became g c))
    (cancelling_keeps c.args.now c.from.result c.args.line c.args.by cpu
    c.self.invariant.consistent).1)
