use Rattle.std.proofs.Common.{ap, arith, drop, subst, sym, take, ◌∙◌, get_or}
use Rattle.std.specs.Prelude.{slice_set}
use Rattle.core_world.specs.World.{CpuRecord, no_cpu}
use Rattle.core_parts.specs.Moves.{MayTakeIn}
use Rattle.core_parts.proofs.Pairs.{err_any, high_read, left_is, low_read, ok_down, unmoved}
use Rattle.core_parts.proofs.moving.move_down.Goals as goal

pub returns-clause-ok : goal.returns-clause-ok
returns-clause-ok g c =
    ok_down c.args.cpus.now.items c.args.now c.args.class c.args.from c.args.to c.take_over.result _
    c.take_over.new.from c.take_over.new.to
    (get_or c.split_at_mut-low.result.1.now 0 c.index-high-0.result)
    (get_or c.split_at_mut-low.result.0.now c.from-taker.result c.index-low-taker.result)
    (left_is c.args.cpus.now.items c.split_at_mut-low.result.0.now
    c.split_at_mut-low.result.1.now c.args.cpus.now.len c.from-taker.result c.from-giver.result
    c.index-low-taker.result c.index-high-0.result c.take_over.new.to c.take_over.new.from
    c.args.cpus.now.ok.0
    (c.split_at_mut-low.ensures.front ∙ ap (take c.from-giver.result) c.deref_mut.ensures.value)
    (c.split_at_mut-low.ensures.back ∙ ap (drop c.from-giver.result) c.deref_mut.ensures.value)
    (let d = c.from-giver.ensures in let e = c.from-taker.ensures in let r = c.requires.below in
    omega (arith, d, e, r))
    (let e = c.from-giver.ensures in let low = c.requires.from in let ok = c.args.cpus.now.ok.0 in
    omega (arith, e, low, ok)) c.index-low-taker.is c.index-high-0.is
    ∙ (λ k. slice_set (slice_set c.args.cpus.now.items (c.from-taker.ensures k) c.take_over.new.to)
    (c.from-giver.ensures k) c.take_over.new.from))
    (λ e. (let r = c.requires.below in absurd (omega (arith, e, r))))
    (sym c.index-high-0.is
    ∙ (high_read c.args.cpus.now.items c.split_at_mut-low.result.0.now
    c.split_at_mut-low.result.1.now c.args.cpus.now.len c.from-taker.result c.from-giver.result
    c.index-low-taker.result c.index-high-0.result c.take_over.new.to c.take_over.new.from
    c.args.cpus.now.ok.0
    (c.split_at_mut-low.ensures.front ∙ ap (take c.from-giver.result) c.deref_mut.ensures.value)
    (c.split_at_mut-low.ensures.back ∙ ap (drop c.from-giver.result) c.deref_mut.ensures.value)
    (let d = c.from-giver.ensures in let e = c.from-taker.ensures in let r = c.requires.below in
    omega (arith, d, e, r))
    (let e = c.from-giver.ensures in let low = c.requires.from in let ok = c.args.cpus.now.ok.0 in
    omega (arith, e, low, ok)) c.index-low-taker.is c.index-high-0.is
    ∙ ap (λ k. get_or c.args.cpus.now.items k no_cpu) c.from-giver.ensures))
    (sym c.index-low-taker.is
    ∙ (low_read c.args.cpus.now.items c.split_at_mut-low.result.0.now
    c.split_at_mut-low.result.1.now c.args.cpus.now.len c.from-taker.result c.from-giver.result
    c.index-low-taker.result c.index-high-0.result c.take_over.new.to c.take_over.new.from
    c.args.cpus.now.ok.0
    (c.split_at_mut-low.ensures.front ∙ ap (take c.from-giver.result) c.deref_mut.ensures.value)
    (c.split_at_mut-low.ensures.back ∙ ap (drop c.from-giver.result) c.deref_mut.ensures.value)
    (let d = c.from-giver.ensures in let e = c.from-taker.ensures in let r = c.requires.below in
    omega (arith, d, e, r))
    (let e = c.from-giver.ensures in let low = c.requires.from in let ok = c.args.cpus.now.ok.0 in
    omega (arith, e, low, ok)) c.index-low-taker.is c.index-high-0.is
    ∙ ap (λ k. get_or c.args.cpus.now.items k no_cpu) c.from-taker.ensures))
    c.take_over.ensures.given c.take_over.ensures.taken

pub returns-clause-err : goal.returns-clause-err
returns-clause-err g c =
    err_any c.args.cpus.now.items c.args.now c.args.class c.args.from c.args.to c.take_over.result _
    _ _ (λ one other. left_is c.args.cpus.now.items c.split_at_mut-low.result.0.now
    c.split_at_mut-low.result.1.now c.args.cpus.now.len c.from-taker.result c.from-giver.result
    c.index-low-taker.result c.index-high-0.result c.take_over.new.to c.take_over.new.from
    c.args.cpus.now.ok.0
    (c.split_at_mut-low.ensures.front ∙ ap (take c.from-giver.result) c.deref_mut.ensures.value)
    (c.split_at_mut-low.ensures.back ∙ ap (drop c.from-giver.result) c.deref_mut.ensures.value)
    (let d = c.from-giver.ensures in let e = c.from-taker.ensures in let r = c.requires.below in
    omega (arith, d, e, r))
    (let e = c.from-giver.ensures in let low = c.requires.from in let ok = c.args.cpus.now.ok.0 in
    omega (arith, e, low, ok)) c.index-low-taker.is c.index-high-0.is
    ∙ unmoved c.args.cpus.now.items c.split_at_mut-low.result.0.now c.split_at_mut-low.result.1.now
    c.args.cpus.now.len c.from-taker.result c.from-giver.result c.index-low-taker.result
    c.index-high-0.result c.take_over.new.to c.take_over.new.from c.args.cpus.now.ok.0
    (c.split_at_mut-low.ensures.front ∙ ap (take c.from-giver.result) c.deref_mut.ensures.value)
    (c.split_at_mut-low.ensures.back ∙ ap (drop c.from-giver.result) c.deref_mut.ensures.value)
    (let d = c.from-giver.ensures in let e = c.from-taker.ensures in let r = c.requires.below in
    omega (arith, d, e, r))
    (let e = c.from-giver.ensures in let low = c.requires.from in let ok = c.args.cpus.now.ok.0 in
    omega (arith, e, low, ok)) c.index-low-taker.is c.index-high-0.is
    (other ∙ sym c.index-low-taker.is) (one ∙ sym c.index-high-0.is)) c.take_over.ensures.err_from
    c.take_over.ensures.err_to

pub take_over-requires-clause-may : goal.take_over-requires-clause-may
take_over-requires-clause-may g c =
    let cpus = c.args.cpus.now.items in
    let giver : CpuRecord = get_or c.split_at_mut-low.result.1.now 0 c.index-high-0.result in
    let read_from =
    (sym c.index-high-0.is
    ∙ (high_read c.args.cpus.now.items c.split_at_mut-low.result.0.now
    c.split_at_mut-low.result.1.now c.args.cpus.now.len c.from-taker.result c.from-giver.result
    c.index-low-taker.result c.index-high-0.result c.index-low-taker.result c.index-high-0.result
    c.args.cpus.now.ok.0
    (c.split_at_mut-low.ensures.front ∙ ap (take c.from-giver.result) c.deref_mut.ensures.value)
    (c.split_at_mut-low.ensures.back ∙ ap (drop c.from-giver.result) c.deref_mut.ensures.value)
    (let d = c.from-giver.ensures in let e = c.from-taker.ensures in let r = c.requires.below in
    omega (arith, d, e, r))
    (let e = c.from-giver.ensures in let low = c.requires.from in let ok = c.args.cpus.now.ok.0 in
    omega (arith, e, low, ok)) c.index-low-taker.is c.index-high-0.is
    ∙ ap (λ k. get_or c.args.cpus.now.items k no_cpu) c.from-giver.ensures)) in
    let read_to =
    (sym c.index-low-taker.is
    ∙ (low_read c.args.cpus.now.items c.split_at_mut-low.result.0.now
    c.split_at_mut-low.result.1.now c.args.cpus.now.len c.from-taker.result c.from-giver.result
    c.index-low-taker.result c.index-high-0.result c.index-low-taker.result c.index-high-0.result
    c.args.cpus.now.ok.0
    (c.split_at_mut-low.ensures.front ∙ ap (take c.from-giver.result) c.deref_mut.ensures.value)
    (c.split_at_mut-low.ensures.back ∙ ap (drop c.from-giver.result) c.deref_mut.ensures.value)
    (let d = c.from-giver.ensures in let e = c.from-taker.ensures in let r = c.requires.below in
    omega (arith, d, e, r))
    (let e = c.from-giver.ensures in let low = c.requires.from in let ok = c.args.cpus.now.ok.0 in
    omega (arith, e, low, ok)) c.index-low-taker.is c.index-high-0.is
    ∙ ap (λ k. get_or c.args.cpus.now.items k no_cpu) c.from-taker.ensures)) in
    subst (λ (y : CpuRecord). MayTakeIn c.args.class giver.bases y.bases) (sym read_to)
    (subst (λ (x : CpuRecord). MayTakeIn c.args.class x.bases (get_or cpus c.args.to.0 no_cpu).bases)
    (sym read_from) c.requires.may)
