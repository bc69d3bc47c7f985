use Rattle.std.proofs.Common.{ℕ, ◌≡◌, ◌+◌, ◌-◌, ◌<◌, length, suc, ap, sym, subst, ◌∙◌, arith}
use Rattle.std.proofs.Common.{List, ◌∷◌, drop, slice_index_or}
use Rattle.std.proofs.lemmas.List.{drop_more}
use Rattle.std.specs.Vec.Iter.{into_iter_items}
use Rattle.core_world.specs.World.{CpuRecord, World, cpu_of, no_cpu}
use Rattle.shared_words.specs.declared.layout.Layout.{Layout}
use Rattle.shared_rule.specs.Rule.{Me, seat_of, tail_of}
use Rattle.shared_table.specs.Begun.{boxes_from}
use Rattle.shared_table.proofs.shared.fill_boxes.Goals as goal

pub push_box-requires-clause-may : goal.push_box-requires-clause-may
push_box-requires-clause-may g c = c.requires.may

pub push_box-requires-clause-groups : goal.push_box-requires-clause-groups
push_box-requires-clause-groups g c = c.requires.groups

pub push_box-requires-clause-cpu : goal.push_box-requires-clause-cpu
push_box-requires-clause-cpu g c =
    subst (λ n. c.loop-cpu.cpu < n) (ap (λ (l : Layout). l.cpus) c.args.run.now.fits.places)
    c.loop-cpu-test.true

pub push_box-requires-clause-room : goal.push_box-requires-clause-room
push_box-requires-clause-room g c =
    let all = ap (λ (l : Layout). l.cpus) c.args.run.now.fits.places in
    let made = c.loop-cpu.invariant.made_are in
    let room = c.loop-cpu.invariant.room in
    omega (arith, all, made, room, c.loop-cpu-test.true)

pub push_box-requires-clause-table : goal.push_box-requires-clause-table
push_box-requires-clause-table g c = c.loop-cpu.invariant.seated

pub push_box-requires-clause-first : goal.push_box-requires-clause-first
push_box-requires-clause-first g c =
    let o : World = g.N.RunName.opening in
    let cpu = c.loop-cpu.cpu in
    let n = length o.cpus in
    let all = ap (λ (l : Layout). l.cpus) c.args.run.now.fits.places in
    let more : n - cpu ≡ suc (n - (cpu + 1)) = omega (arith, all, c.loop-cpu-test.true) in
    let knows = c.loop-cpu.invariant.knows
    ∙ ap (λ k. seat_of (boxes_from o cpu k) c.args.seat.now.me.0.passes) more in (
      n - (cpu + 1),
      knows ∙ ap (seat_of (boxes_from o cpu (suc (n - (cpu + 1)))))
          (sym (ap (λ (m : Me). m.0.passes) knows)),
    )

pub loop-cpu-smaller : goal.loop-cpu-smaller
loop-cpu-smaller g c = omega (arith, c.loop-cpu-test.true)

pub returns-clause-each : goal.returns-clause-each
returns-clause-each g c =
    let all = ap (λ (l : Layout). l.cpus) c.args.run.now.fits.places in
    let made = c.loop-cpu.invariant.made_are in
    omega (arith, all, made, c.loop-cpu-test.false, c.loop-cpu.auto.cpu-end)

pub returns-clause-table : goal.returns-clause-table
returns-clause-table g c = c.loop-cpu.invariant.seated

pub returns-clause-left : goal.returns-clause-left
returns-clause-left g c =
    let o : World = g.N.RunName.opening in
    let cpu = c.loop-cpu.cpu in
    let all = ap (λ (l : Layout). l.cpus) c.args.run.now.fits.places in
    let none : length o.cpus - cpu ≡ 0 =
    omega (arith, all, c.loop-cpu-test.false, c.loop-cpu.auto.cpu-end) in
    c.loop-cpu.invariant.knows
    ∙ ap (λ (k : ℕ). seat_of (boxes_from o cpu k) c.args.seat.now.me.0.passes) none

pub loop-cpu-init : goal.loop-cpu-init
loop-cpu-init g c =
    let o : World = g.N.RunName.opening in
    let all = ap (λ (l : List CpuRecord). length l) c.requires.cpus in
    let none_off : length o.cpus ≡ length o.cpus - 0 = omega arith in record {
      seated = c.requires.table;
      knows = c.requires.all
          ∙ ap (λ k. seat_of (boxes_from o 0 k) c.args.seat.now.me.0.passes) none_off;
      rest_are = c.into_iter-rest.ensures.rest ∙ c.requires.cpus;
      left_are = c.into_iter-rest.ensures.len ∙ omega (arith, all, c.args.cpus.ok.0);
      made_are = c.requires.room.0;
      room = c.requires.room.1;
    }

pub push_box-requires-clause-own : goal.push_box-requires-clause-own
push_box-requires-clause-own g c =
    let o : World = g.N.RunName.opening in
    let cpu = c.loop-cpu.cpu in
    let all = ap (λ (l : Layout). l.cpus) c.args.run.now.fits.places in
    let low : cpu < length o.cpus = omega (arith, all, c.loop-cpu-test.true) in
    let next : c.in-Some.own ∷ into_iter_items c.next.new.self
    ≡ cpu_of o cpu ∷ drop (cpu + 1) o.cpus
    = sym c.in-Some.ensures.items
    ∙ (c.loop-cpu.invariant.rest_are ∙ drop_more o.cpus cpu no_cpu low) in
    ap (λ l. slice_index_or l 0 no_cpu) next

pub loop-cpu-preserved : goal.loop-cpu-preserved
loop-cpu-preserved g c =
    let o : World = g.N.RunName.opening in
    let cpu = c.loop-cpu.cpu in
    let n = length o.cpus in
    let before = c.loop-cpu.invariant in
    let after = c.push_box.ensures in
    let all = ap (λ (l : Layout). l.cpus) c.args.run.now.fits.places in
    let low : cpu < n = omega (arith, all, c.loop-cpu-test.true) in
    let more : n - cpu ≡ suc (n - (cpu + 1)) = omega (arith, low) in
    let knows : c.loop-cpu.seat.me
    ≡ seat_of (boxes_from o cpu (suc (n - (cpu + 1)))) c.args.seat.now.me.0.passes
    = before.knows ∙ ap (λ k. seat_of (boxes_from o cpu k) c.args.seat.now.me.0.passes) more in
    let next : c.in-Some.own ∷ into_iter_items c.next.new.self
    ≡ cpu_of o cpu ∷ drop (cpu + 1) o.cpus
    = sym c.in-Some.ensures.items ∙ (before.rest_are ∙ drop_more o.cpus cpu no_cpu low) in record {
      seated = after.table;
      knows = subst (λ (m : Me). c.push_box.new.seat.me ≡ seat_of (tail_of m.0.boxes) m.0.passes)
          knows after.left;
      rest_are = ap (drop 1) next;
      left_are = omega (arith, more, before.left_are, c.in-Some.ensures.len);
      made_are = omega (arith, after.one, before.made_are);
      room = omega (arith, before.room, after.room);
    }
