use Rattle.std.proofs.Common.{ap}
use Rattle.std.specs.Option.{option_copied}
use Rattle.std.proofs.lemmas.Result.{err_from_is_err_and, on_ok_weaker}
use Rattle.play_rules.specs.Operations.{clear_after, covers, leaver, operations}
use Rattle.play_rules.specs.Parts.{Prints, and_then}
use Rattle.play_rules.proofs.Plays.{gains_none, gains_then, prints_silent, prints_then}
use Rattle.play_driver.proofs.Parts.{same_none, same_then}
use Rattle.play_driver.proofs.moments.scripted.Goals as goal

pub returns-in_default : goal.returns-in_default
returns-in_default g c =
    record {
      prints = rw c.in_default.is (prints_silent _ _);
      same = same_none _ _;
      fit = c.requires.fit;
      gains = gains_none _;
    }

pub operations-requires-clause-in_range : goal.operations-requires-clause-in_range
operations-requires-clause-in_range g c =
    rw c.as_slice.ensures (c.requires.in_range c.in-Some.due.now (ap option_copied c.in-Some.is))

pub operations-requires-clause-fit : goal.operations-requires-clause-fit
operations-requires-clause-fit g c = c.requires.fit

pub returns-in_err-operations : goal.returns-in_err-operations
returns-in_err-operations g c =
    let p = err_from_is_err_and c.from_residual.result c.from_residual.ensures.1 in
    rw p.1 (record {
      prints = tt;
      same = tt;
      fit = tt;
      gains = c.in_err-operations.ensures.gains;
    })

pub clear_after-requires-clause-in_range : goal.clear_after-requires-clause-in_range
clear_after-requires-clause-in_range g c =
    let same = c.in_ok-operations.ensures.same in
    rw (c.as_slice-2.ensures, same.cpus, same.timers)
    (c.requires.in_range c.in-Some.due.now (ap option_copied c.in-Some.is))

pub clear_after-requires-clause-fit : goal.clear_after-requires-clause-fit
clear_after-requires-clause-fit g c = c.in_ok-operations.ensures.fit

pub returns-in_err-clear_after : goal.returns-in_err-clear_after
returns-in_err-clear_after g c =
    let left = c.from_residual-in_err-clear_after in
    let p = err_from_is_err_and left.result left.ensures.1 in
    rw p.1 (record {
      prints = tt;
      same = tt;
      fit = tt;
      gains = gains_then _ _ _ c.in_ok-operations.ensures.gains c.in_err-clear_after.ensures.gains;
    })

pub covers-requires : goal.covers-requires
covers-requires g c = record { fit = c.in_ok-clear_after.ensures.fit }

pub returns : goal.returns
returns g c =
    let r = g.M.PlayMachine.rules in
    let s = g.M.PlayMachine.world c.args.machine.now in
    let after = g.M.PlayMachine.world c.clear_after.new.machine in
    let ops = c.in-Some.due.now.ops in
    let first = c.in_ok-operations.ensures in
    let second = c.in_ok-clear_after.ensures in
    let last = c.covers.ensures in
    let covers_told =
    Prints (covers r after) c.clear_after.new.telling c.covers.new.telling after in
    let two = prints_then (operations r ops s) (clear_after r (leaver ops)) _ _ _ _ _
    (rw c.as_slice.ensures at first.prints) (rw c.as_slice-2.ensures at second.prints) in
    record {
      prints = rw c.in-Some.is (on_ok_weaker {P = covers_told} _
          (prints_then (and_then (operations r ops s) (clear_after r (leaver ops))) (covers r)
          _ _ _ _ _ two)
          last.prints);
      same = on_ok_weaker {P = covers_told} _
          (λ told. same_then _ _ _ _ first.same second.same) last.prints;
      fit = on_ok_weaker {P = covers_told} _ (λ told. second.fit) last.prints;
      gains = gains_then _ _ _ first.gains (gains_then _ _ _ second.gains last.gains);
    }
