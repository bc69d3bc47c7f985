use Rattle.cpu_bases.proofs.Opens.{queued_or_ended}
use Rattle.cpu_bases.proofs.Drains.{drain_is_whole}
use Rattle.cpu_bases.proofs.Queued.{each_was_armed, first_was_armed, queued_once}
use Rattle.cpu_bases.proofs.Replays.{replays_on}
use Rattle.cpu_bases.proofs.laws.law_bases.Goals as goal

pub returns : goal.returns
returns c = record {
  each_was_armed = each_was_armed;
  queued_or_ended = queued_or_ended;
  queued_once = queued_once;
  first_was_armed = first_was_armed;
  drain_is_whole = drain_is_whole;
  replays_on = replays_on;
}
