use Rattle.std.proofs.Common.{◌≡◌, length}
use Rattle.std.specs.Prelude.{drop}
use Rattle.delayed_work.specs.Play.{all_done}
use Rattle.delayed_work.specs.Playable.{AreInRange, StaysPlayable}
use Rattle.delayed_work.proofs.player.Player.do_all.Given as goal

abbrev pub invariant-loop-op : goal.invariant-loop-op
invariant-loop-op g l = record {
  rest : all_done l.now (drop l.op-index l.ops) l.self ≡ all_done l.now l.ops l.fn.self;
  ranges : AreInRange (length l.fn.self.works.ledger.standings) (drop l.op-index l.ops);
  keeps : StaysPlayable l.now l.fn.self l.self;
}
