use Rattle.std.proofs.Common.{◌≡◌, ◌-◌, suc, arith, ap, sym, true≢false, ◌∙◌}
use Rattle.std.proofs.lemmas.Result.{err_from_is_err_and, on_ok_weaker}
use Rattle.tm_report.specs.declared.lines.Line.TheVariants as lines
use Rattle.play_rules.specs.Machines.{Same}
use Rattle.play_rules.specs.Operations.{move_all}
use Rattle.play_rules.specs.Parts.{Prints, printing}
use Rattle.play_rules.proofs.Plays.{gains_none, gains_then, prints_at, prints_line}
use Rattle.play_rules.proofs.Plays.{prints_silent, prints_then}
use Rattle.play_driver.proofs.Parts.{same_none, same_then}
use Rattle.play_driver.proofs.moving.clear.Goals as goal
use Rattle.play_driver.proofs.moving.clear.Goals.{then-is_online-via-then-is_online}
use Rattle.play_driver.proofs.moving.clear.Goals.{then-is_online-via-else-is_online+then-count_queued-eq0}

pub is_online-requires : goal.is_online-requires
is_online-requires g c = c.requires.from

pub count_queued-requires : goal.count_queued-requires
count_queued-requires g c = c.requires.from

pub returns-then-is_online : goal.returns-then-is_online
returns-then-is_online g c =
    record {
      prints = elim c.then-is_online.branch [
        | then-is_online-via-then-is_online w ↦
            rw (sym c.is_online.ensures ∙ w.if-is_online.true) (prints_silent _ _)
        | then-is_online-via-else-is_online+then-count_queued-eq0 w ↦
            rw (
              sym c.is_online.ensures ∙ w.if-is_online.false,
              sym w.count_queued.ensures ∙ w.if-count_queued-eq0.true,
            ) (prints_silent _ _)
      ];
      same = same_none _ _;
      fit = c.requires.fit;
      gains = gains_none _;
    }

pub returns-in_default : goal.returns-in_default
returns-in_default g c =
    let before = g.M.PlayMachine.world c.args.machine.now in
    let n = g.M.PlayMachine.rules.count_queued before c.args.from.0 in
    let some : n ≡ suc (n - 1) =
    omega (arith, c.count_queued.ensures, c.if-count_queued-eq0.false) in
    record {
      prints = rw (
        sym c.is_online.ensures ∙ c.if-is_online.false,
        some,
        sym c.in_default.ensures.controller,
      )
          (prints_silent _ _);
      same = same_none _ _;
      fit = c.requires.fit;
      gains = gains_none _;
    }

pub control-requires-clause-cpu : goal.control-requires-clause-cpu
control-requires-clause-cpu g c = c.in-Some.ensures.in_range

pub control-requires-clause-controller : goal.control-requires-clause-controller
control-requires-clause-controller g c = sym c.in-Some.ensures.controller

pub control-requires-clause-fit : goal.control-requires-clause-fit
control-requires-clause-fit g c = c.requires.fit

pub returns-in_err-tell : goal.returns-in_err-tell
returns-in_err-tell g c =
    let p = err_from_is_err_and c.from_residual.result c.from_residual.ensures.1 in
    rw p.1 (record {
      prints = tt;
      same = tt;
      fit = tt;
      gains = rw c.in_err-tell.ensures.err (gains_none _);
    })

pub moves-requires-clause-from : goal.moves-requires-clause-from
moves-requires-clause-from g c =
    omega (arith, c.requires.from, c.control.ensures.same.cpus)

pub moves-requires-clause-to : goal.moves-requires-clause-to
moves-requires-clause-to g c =
    omega (arith, c.in-Some.ensures.in_range, c.control.ensures.same.cpus)

pub moves-requires-clause-other : goal.moves-requires-clause-other
moves-requires-clause-other g c =
    let online = g.M.PlayMachine.rules.is_online (g.M.PlayMachine.world c.args.machine.now) in
    λ same. true≢false
    (sym c.in-Some.ensures.online ∙ ap online (sym same) ∙ sym c.is_online.ensures
    ∙ c.if-is_online.false)

pub moves-requires-clause-offline : goal.moves-requires-clause-offline
moves-requires-clause-offline g c =
    c.control.ensures.online.online c.args.from.0 ∙ sym c.is_online.ensures ∙ c.if-is_online.false

pub moves-requires-clause-placed : goal.moves-requires-clause-placed
moves-requires-clause-placed g c = c.control.ensures.placed

pub moves-requires-clause-active : goal.moves-requires-clause-active
moves-requires-clause-active g c = c.control.ensures.active

pub moves-requires-clause-fit : goal.moves-requires-clause-fit
moves-requires-clause-fit g c = c.control.ensures.fit

pub returns : goal.returns
returns g c =
    let before = g.M.PlayMachine.world c.args.machine.now in
    let n = g.M.PlayMachine.rules.count_queued before c.args.from.0 in
    let some : n ≡ suc (n - 1) =
    omega (arith, c.count_queued.ensures, c.if-count_queued-eq0.false) in
    let r = g.M.PlayMachine.rules in
    let from = c.args.from.0 in
    let to = c.in-Some.to.0 in
    let s = g.M.PlayMachine.world c.control.new.self in
    let after = g.M.PlayMachine.world c.moves.new.machine in
    let control = printing (lines.Control c.clock-now.result c.in-Some.to)
    (r.controlling before to) in
    let told = c.in_ok-tell.ensures in
    let first = prints_at control _ _ _ _ c.control.ensures.state
    (prints_line _ _ _ _ told.text told.tally told.work) in
    let last = c.moves.ensures in
    record {
      prints = rw (
        sym c.is_online.ensures ∙ c.if-is_online.false,
        some,
        sym c.in-Some.ensures.controller,
        sym c.clock-now.ensures.clock,
      )
          (on_ok_weaker
          {P = Prints (move_all r from to s) c.tell.new.self c.moves.new.telling after} _
          (prints_then control (move_all r from to) _ _ _ _ _ first) last.prints);
      same = on_ok_weaker {P = Same r s after} _
          (same_then _ _ _ _ c.control.ensures.same) last.same;
      fit = last.fit;
      gains = gains_then _ _ _ (_, told.text) last.gains;
    }
