use Rattle.std.proofs.Common.{ℕ, ◌≡◌, ◌<◌, ◌≤◌, length, get_or}
use Rattle.core_world.specs.World.{no_cpu, stale}
use Rattle.plain_world.proofs.stale.make_all_stale.Given as goal

abbrev pub invariant-loop-cpu : goal.invariant-loop-cpu
invariant-loop-cpu l =
    record {
      same_length : length l.cpus.items ≡ length l.fn.cpus.items;
      before : (d : ℕ) → d < l.cpu → get_or l.cpus.items d no_cpu
          ≡ stale l.tree l.group.0 d (get_or l.fn.cpus.items d no_cpu);
      after : (d : ℕ) → l.cpu ≤ d
          → get_or l.cpus.items d no_cpu ≡ get_or l.fn.cpus.items d no_cpu;
    }
