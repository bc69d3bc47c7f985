use Rattle.std.proofs.Common.{◌≡◌, ◌-◌, ◌++◌}
use Rattle.delayed_work.specs.Play.{left_lines}
use Rattle.delayed_work.proofs.player.Player.tell_works.Given as goal

abbrev pub invariant-loop-work : goal.invariant-loop-work
invariant-loop-work g l = record {
  rest : l.self-inside.text.items ++ left_lines (l.count - l.work) l.work l.self-inside.works ≡ l.fn.self.text ++ left_lines l.count 0 l.fn.self.works;
  works : l.self-inside.works ≡ l.fn.self.works;
}
