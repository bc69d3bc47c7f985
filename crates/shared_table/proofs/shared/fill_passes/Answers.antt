use Rattle.std.proofs.Common.{◌≡◌, ◌+◌, ◌-◌, ◌++◌, ◌∷◌, [], length, suc, ap, sym, ◌∙◌, arith, map}
use Rattle.std.proofs.Common.{List}
use Rattle.std.specs.List.{range_with_len}
use Rattle.core_world.specs.World.{World}
use Rattle.shared_words.specs.declared.layout.Layout.{Layout}
use Rattle.shared_rule.specs.Rule.{Me, seat_of, tail_of}
use Rattle.shared_rule.specs.Passes.{HeldPass}
use Rattle.shared_table.specs.Begun.{begun_pass, passes_from}
use Rattle.shared_table.proofs.Rows.{row_end}
use Rattle.shared_table.proofs.shared.fill_passes.Goals as goal

pub pass_off-pass-requires-clause-first : goal.pass_off-pass-requires-clause-first
pass_off-pass-requires-clause-first g c =
    let o : World = g.N.RunName.opening in
    let cpu = c.loop-cpu.cpu in
    let n = length o.cpus in
    let all = ap (λ (l : Layout). l.cpus) c.args.run.now.fits.places in
    let more : n - cpu ≡ suc (n - (cpu + 1)) = omega (arith, all, c.loop-cpu-test.true) in (
      n - (cpu + 1),
      c.loop-cpu.invariant.knows ∙ ap (λ k. seat_of [] (passes_from o c.args.made cpu k)) more,
    )

pub loop-cpu-preserved : goal.loop-cpu-preserved
loop-cpu-preserved g c =
    let o : World = g.N.RunName.opening in
    let cpu = c.loop-cpu.cpu in
    let n = length o.cpus in
    let all = ap (λ (l : Layout). l.cpus) c.args.run.now.fits.places in
    let more : n - cpu ≡ suc (n - (cpu + 1)) = omega (arith, all, c.loop-cpu-test.true) in
    let f = begun_pass g.N.RunName.table o c.args.made in
    let pushed : c.push.new.self.items
    ≡ c.loop-cpu.passes.items ++ c.pass_off-pass.result ∷ []
    = rw c.unwrap.ensures at c.push.ensures.items in
    let longer = rw c.unwrap.ensures at c.push.ensures.len in
    let z : 0 + cpu ≡ cpu = omega arith in
    let next : suc cpu ≡ cpu + 1 = omega arith in record {
      seated = c.pass_off-pass.ensures.table;
      knows = c.pass_off-pass.ensures.left
          ∙ ap (λ (m : Me). seat_of [] (tail_of m.0.passes)) (c.loop-cpu.invariant.knows
          ∙ ap (λ k. seat_of [] (passes_from o c.args.made cpu k)) more);
      made_are = pushed
          ∙ (ap (λ l. l ++ c.pass_off-pass.result ∷ []) c.loop-cpu.invariant.made_are
          ∙ (ap (λ p. map f (range_with_len 0 cpu) ++ p ∷ []) (c.pass_off-pass.ensures.pass
          ∙ ap f (sym z))
          ∙ (sym (row_end f 0 cpu) ∙ ap (λ k. map f (range_with_len 0 k)) next)));
      count_is = omega (arith, longer, c.loop-cpu.invariant.count_is);
      room = omega (arith, c.loop-cpu.invariant.room, c.push.ensures.capacity);
    }

pub loop-cpu-init : goal.loop-cpu-init
loop-cpu-init g c =
    let o : World = g.N.RunName.opening in
    let none_off : length o.cpus ≡ length o.cpus - 0 = omega arith in record {
      seated = c.requires.table;
      knows = c.requires.all ∙ ap (λ k. seat_of [] (passes_from o c.args.made 0 k)) none_off;
      made_are = c.requires.none;
      count_is = c.args.passes.now.ok.0 ∙ ap (λ (l : List HeldPass). length l) c.requires.none;
      room = c.requires.room;
    }

pub loop-cpu-smaller : goal.loop-cpu-smaller
loop-cpu-smaller g c = omega (arith, c.loop-cpu-test.true)

pub pass_off-pass-requires-clause-table : goal.pass_off-pass-requires-clause-table
pass_off-pass-requires-clause-table g c = c.loop-cpu.invariant.seated

pub unwrap-requires : goal.unwrap-requires
unwrap-requires g c =
    let all = ap (λ (l : Layout). l.cpus) c.args.run.now.fits.places in
    let count = c.loop-cpu.invariant.count_is in
    let room = c.loop-cpu.invariant.room in
    c.push.ensures.succeeds (omega (arith, all, count, room, c.loop-cpu-test.true))

pub returns-clause-passes : goal.returns-clause-passes
returns-clause-passes g c =
    let o : World = g.N.RunName.opening in
    let all = ap (λ (l : Layout). l.cpus) c.args.run.now.fits.places in
    let each : c.loop-cpu.cpu ≡ length o.cpus
    = omega (arith, all, c.loop-cpu-test.false, c.loop-cpu.auto.cpu-end) in
    c.loop-cpu.invariant.made_are
    ∙ ap (λ k. map (begun_pass g.N.RunName.table o c.args.made) (range_with_len 0 k)) each

pub returns-clause-table : goal.returns-clause-table
returns-clause-table g c = c.loop-cpu.invariant.seated

pub returns-clause-left : goal.returns-clause-left
returns-clause-left g c =
    let o : World = g.N.RunName.opening in
    let cpu = c.loop-cpu.cpu in
    let all = ap (λ (l : Layout). l.cpus) c.args.run.now.fits.places in
    let none : length o.cpus - cpu ≡ 0
    = omega (arith, all, c.loop-cpu-test.false, c.loop-cpu.auto.cpu-end) in
    c.loop-cpu.invariant.knows ∙ ap (λ k. seat_of [] (passes_from o c.args.made cpu k)) none
