use Rattle.orders_world.proofs.Wakers.{none_wakes, not_told_up, woken_first}
use Rattle.orders_world.proofs.answering.waker_above.Goals as goal

pub returns-in_default-clause-none : goal.returns-in_default-clause-none
returns-in_default-clause-none c =
    not_told_up c.args.world.now c.args.cpu.0 c.args.wheel c.requires.not_itself
    c.in_default.ensures.none

pub returns-in-Some-lowest_waker-clause-woken : goal.returns-in-Some-lowest_waker-clause-woken
returns-in-Some-lowest_waker-clause-woken c =
    let w = c.args.world.now in
    woken_first w c.args.cpu.0 c.args.wheel (c.law_paths.ensures w.tree c.tree.ensures.planned)
    c.in-Some.time c.in-Some.ensures.told c.requires.not_held c.requires.not_itself
    c.in-Some-lowest_waker.waker.cpu.0 c.in-Some-lowest_waker.waker.at
    c.in-Some-lowest_waker.ensures.lowest

pub returns-in-None-clause-none : goal.returns-in-None-clause-none
returns-in-None-clause-none c =
    let w = c.args.world.now in
    none_wakes w c.args.cpu.0 c.args.wheel (c.law_paths.ensures w.tree c.tree.ensures.planned)
    c.in-Some.time c.in-Some.ensures.told c.requires.not_itself c.in-None.ensures.none
