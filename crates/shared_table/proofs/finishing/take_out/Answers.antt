use Rattle.std.proofs.Common.{◌≡◌, ◌+◌, ℕ, ap, arith}
use Rattle.std.specs.Prelude.{vec_len}
use Rattle.shared_table.proofs.finishing.take_out.Goals as goal

pub loop-locked-init : goal.loop-locked-init
loop-locked-init g c =
    let given = c.into_iter-locked-iterator.ensures.into_iter_gives.1 in
    record {
      count = ap (λ (n : ℕ). vec_len c.args.taken.now + n) given;
      room = c.requires.room;
    }

pub unwrap-requires : goal.unwrap-requires
unwrap-requires g c =
    let count = c.loop-locked.invariant.count in
    let room = c.loop-locked.invariant.room in
    let steps = c.in-Some.ensures.steps.1 in
    c.push.ensures.succeeds (omega (arith, count, room, steps))

pub loop-locked-preserved : goal.loop-locked-preserved
loop-locked-preserved g c =
    let count = c.loop-locked.invariant.count in
    let room = c.loop-locked.invariant.room in
    let steps = c.in-Some.ensures.steps.1 in
    let longer : vec_len c.push.new.self ≡ vec_len c.loop-locked.taken + 1
    = rw c.unwrap.ensures at c.push.ensures.len in
    let capacity = c.push.ensures.capacity in
    record {
      count = omega (arith, count, steps, longer);
      room = omega (arith, room, capacity);
    }

pub loop-locked-smaller : goal.loop-locked-smaller
loop-locked-smaller g c =
    let steps = c.in-Some.ensures.steps.1 in
    omega (arith, steps)

pub returns : goal.returns
returns g c =
    let count = c.loop-locked.invariant.count in
    let none = c.in-None.ensures.steps.0 in
    omega (arith, count, none)
