use Rattle.std.proofs.Common.{ap, arith, drop, subst, sym, take, ◌∙◌, get_or}
use Rattle.std.specs.Prelude.{slice_set}
use Rattle.core_world.specs.World.{CpuRecord, no_cpu}
use Rattle.core_parts.specs.Moves.{MayTakeIn}
use Rattle.core_parts.proofs.Pairs.{err_any, high_read, left_is, low_read, ok_up, unmoved}
use Rattle.core_parts.proofs.moving.move_up.Goals as goal

pub returns-clause-ok : goal.returns-clause-ok
returns-clause-ok g c =
    ok_up c.args.cpus.now.items c.args.now c.args.class c.args.from c.args.to c.hand_over.result _
    c.hand_over.new.from c.hand_over.new.to
    (get_or c.split_at_mut-low.result.0.now c.from-giver.result c.index-low-giver.result)
    (get_or c.split_at_mut-low.result.1.now 0 c.index-high-0.result)
    (left_is c.args.cpus.now.items c.split_at_mut-low.result.0.now
    c.split_at_mut-low.result.1.now c.args.cpus.now.len c.from-giver.result c.from-taker.result
    c.index-low-giver.result c.index-high-0.result c.hand_over.new.from c.hand_over.new.to
    c.args.cpus.now.ok.0
    (c.split_at_mut-low.ensures.front ∙ ap (take c.from-taker.result) c.deref_mut.ensures.value)
    (c.split_at_mut-low.ensures.back ∙ ap (drop c.from-taker.result) c.deref_mut.ensures.value)
    (let d = c.from-giver.ensures in let e = c.from-taker.ensures in let r = c.requires.above in
    omega (arith, d, e, r))
    (let e = c.from-taker.ensures in let low = c.requires.to in let ok = c.args.cpus.now.ok.0 in
    omega (arith, e, low, ok)) c.index-low-giver.is c.index-high-0.is
    ∙ (λ k. slice_set
    (slice_set c.args.cpus.now.items (c.from-giver.ensures k) c.hand_over.new.from)
    (c.from-taker.ensures k) c.hand_over.new.to))
    (sym c.index-low-giver.is
    ∙ (low_read c.args.cpus.now.items c.split_at_mut-low.result.0.now
    c.split_at_mut-low.result.1.now c.args.cpus.now.len c.from-giver.result c.from-taker.result
    c.index-low-giver.result c.index-high-0.result c.hand_over.new.from c.hand_over.new.to
    c.args.cpus.now.ok.0
    (c.split_at_mut-low.ensures.front ∙ ap (take c.from-taker.result) c.deref_mut.ensures.value)
    (c.split_at_mut-low.ensures.back ∙ ap (drop c.from-taker.result) c.deref_mut.ensures.value)
    (let d = c.from-giver.ensures in let e = c.from-taker.ensures in let r = c.requires.above in
    omega (arith, d, e, r))
    (let e = c.from-taker.ensures in let low = c.requires.to in let ok = c.args.cpus.now.ok.0 in
    omega (arith, e, low, ok)) c.index-low-giver.is c.index-high-0.is
    ∙ ap (λ k. get_or c.args.cpus.now.items k no_cpu) c.from-giver.ensures))
    (sym c.index-high-0.is
    ∙ (high_read c.args.cpus.now.items c.split_at_mut-low.result.0.now
    c.split_at_mut-low.result.1.now c.args.cpus.now.len c.from-giver.result c.from-taker.result
    c.index-low-giver.result c.index-high-0.result c.hand_over.new.from c.hand_over.new.to
    c.args.cpus.now.ok.0
    (c.split_at_mut-low.ensures.front ∙ ap (take c.from-taker.result) c.deref_mut.ensures.value)
    (c.split_at_mut-low.ensures.back ∙ ap (drop c.from-taker.result) c.deref_mut.ensures.value)
    (let d = c.from-giver.ensures in let e = c.from-taker.ensures in let r = c.requires.above in
    omega (arith, d, e, r))
    (let e = c.from-taker.ensures in let low = c.requires.to in let ok = c.args.cpus.now.ok.0 in
    omega (arith, e, low, ok)) c.index-low-giver.is c.index-high-0.is
    ∙ ap (λ k. get_or c.args.cpus.now.items k no_cpu) c.from-taker.ensures))
    c.hand_over.ensures.given c.hand_over.ensures.taken

pub returns-clause-err : goal.returns-clause-err
returns-clause-err g c =
    err_any c.args.cpus.now.items c.args.now c.args.class c.args.from c.args.to c.hand_over.result _
    _ _ (λ one other. left_is c.args.cpus.now.items c.split_at_mut-low.result.0.now
    c.split_at_mut-low.result.1.now c.args.cpus.now.len c.from-giver.result c.from-taker.result
    c.index-low-giver.result c.index-high-0.result c.hand_over.new.from c.hand_over.new.to
    c.args.cpus.now.ok.0
    (c.split_at_mut-low.ensures.front ∙ ap (take c.from-taker.result) c.deref_mut.ensures.value)
    (c.split_at_mut-low.ensures.back ∙ ap (drop c.from-taker.result) c.deref_mut.ensures.value)
    (let d = c.from-giver.ensures in let e = c.from-taker.ensures in let r = c.requires.above in
    omega (arith, d, e, r))
    (let e = c.from-taker.ensures in let low = c.requires.to in let ok = c.args.cpus.now.ok.0 in
    omega (arith, e, low, ok)) c.index-low-giver.is c.index-high-0.is
    ∙ unmoved c.args.cpus.now.items c.split_at_mut-low.result.0.now c.split_at_mut-low.result.1.now
    c.args.cpus.now.len c.from-giver.result c.from-taker.result c.index-low-giver.result
    c.index-high-0.result c.hand_over.new.from c.hand_over.new.to c.args.cpus.now.ok.0
    (c.split_at_mut-low.ensures.front ∙ ap (take c.from-taker.result) c.deref_mut.ensures.value)
    (c.split_at_mut-low.ensures.back ∙ ap (drop c.from-taker.result) c.deref_mut.ensures.value)
    (let d = c.from-giver.ensures in let e = c.from-taker.ensures in let r = c.requires.above in
    omega (arith, d, e, r))
    (let e = c.from-taker.ensures in let low = c.requires.to in let ok = c.args.cpus.now.ok.0 in
    omega (arith, e, low, ok)) c.index-low-giver.is c.index-high-0.is
    (one ∙ sym c.index-low-giver.is) (other ∙ sym c.index-high-0.is)) c.hand_over.ensures.err_from
    c.hand_over.ensures.err_to

pub hand_over-requires-clause-may : goal.hand_over-requires-clause-may
hand_over-requires-clause-may g c =
    let cpus = c.args.cpus.now.items in
    let giver : CpuRecord = get_or c.split_at_mut-low.result.0.now c.from-giver.result c.index-low-giver.result in
    let read_from =
    (sym c.index-low-giver.is
    ∙ (low_read c.args.cpus.now.items c.split_at_mut-low.result.0.now
    c.split_at_mut-low.result.1.now c.args.cpus.now.len c.from-giver.result c.from-taker.result
    c.index-low-giver.result c.index-high-0.result c.index-low-giver.result c.index-high-0.result
    c.args.cpus.now.ok.0
    (c.split_at_mut-low.ensures.front ∙ ap (take c.from-taker.result) c.deref_mut.ensures.value)
    (c.split_at_mut-low.ensures.back ∙ ap (drop c.from-taker.result) c.deref_mut.ensures.value)
    (let d = c.from-giver.ensures in let e = c.from-taker.ensures in let r = c.requires.above in
    omega (arith, d, e, r))
    (let e = c.from-taker.ensures in let low = c.requires.to in let ok = c.args.cpus.now.ok.0 in
    omega (arith, e, low, ok)) c.index-low-giver.is c.index-high-0.is
    ∙ ap (λ k. get_or c.args.cpus.now.items k no_cpu) c.from-giver.ensures)) in
    let read_to =
    (sym c.index-high-0.is
    ∙ (high_read c.args.cpus.now.items c.split_at_mut-low.result.0.now
    c.split_at_mut-low.result.1.now c.args.cpus.now.len c.from-giver.result c.from-taker.result
    c.index-low-giver.result c.index-high-0.result c.index-low-giver.result c.index-high-0.result
    c.args.cpus.now.ok.0
    (c.split_at_mut-low.ensures.front ∙ ap (take c.from-taker.result) c.deref_mut.ensures.value)
    (c.split_at_mut-low.ensures.back ∙ ap (drop c.from-taker.result) c.deref_mut.ensures.value)
    (let d = c.from-giver.ensures in let e = c.from-taker.ensures in let r = c.requires.above in
    omega (arith, d, e, r))
    (let e = c.from-taker.ensures in let low = c.requires.to in let ok = c.args.cpus.now.ok.0 in
    omega (arith, e, low, ok)) c.index-low-giver.is c.index-high-0.is
    ∙ ap (λ k. get_or c.args.cpus.now.items k no_cpu) c.from-taker.ensures)) in
    subst (λ (y : CpuRecord). MayTakeIn c.args.class giver.bases y.bases) (sym read_to)
    (subst (λ (x : CpuRecord). MayTakeIn c.args.class x.bases (get_or cpus c.args.to.0 no_cpu).bases)
    (sym read_from) c.requires.may)
