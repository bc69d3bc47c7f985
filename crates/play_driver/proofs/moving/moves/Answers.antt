use Rattle.std.proofs.Common.{rules, sym, refl, arith, ◌∙◌}
use Rattle.play_rules.proofs.Loops.{moves_all, moves_more, moves_none}
use Rattle.play_rules.proofs.Plays.{gains_then}
use Rattle.play_driver.proofs.moving.moves.Goals as goal

pub returns-in-None : goal.returns-in-None
returns-in-None g c =
    let done = c.in_ok-move_first.ensures in
    record {
      prints = moves_none _ _ _ _ _ _ _ _ _ _ _ c.loop-turn.invariant.rest
          (omega (arith, c.loop-turn-test.true, c.count_queued-turn-end.ensures)) refl (sym done.moved ∙ c.in-None.is) done.state;
      same = search rules;
      fit = done.fit;
      gains = c.loop-turn.invariant.gains;
    }

pub loop-turn-preserved : goal.loop-turn-preserved
loop-turn-preserved g c =
    let done = c.in_ok-move_first.ensures in
    let told = c.in_ok-tell-in-Some.ensures in
    record {
      rest = moves_more _ _ _ _ _ _ _ _ _ _ _ _ _ _ c.loop-turn.invariant.rest
          (omega (arith, c.loop-turn-test.true, c.count_queued-turn-end.ensures)) refl (sym done.moved ∙ c.in-Some.is) done.state
          (c.clock-now.ensures.clock ∙ sym c.loop-turn.invariant.same.clock) told.text told.tally told.work;
      same = search rules;
      flags = search rules;
      fit = done.fit;
      gains = gains_then _ _ _ c.loop-turn.invariant.gains (_, told.text);
    }

pub returns : goal.returns
returns g c =
    record {
      prints = moves_all _ _ _ _ _ _ _ _ _ c.loop-turn.invariant.rest
          (omega (arith, c.loop-turn-test.false, c.count_queued-turn-end.ensures));
      same = c.loop-turn.invariant.same;
      fit = c.loop-turn.invariant.fit;
      gains = c.loop-turn.invariant.gains;
    }
