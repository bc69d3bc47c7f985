-- what may be said, and its line
use Rattle.std.proofs.Common.{◌≡◌, ℕ, ◌*◌, ◌^◌, ◌<◌, ◌≤◌, true, false, List, is_some}
use Rattle.std.specs.Prelude.{codes}
use Rattle.std.specs.FinSet.{contains}
use Rattle.tm_base.specs.CpuSet.{Contains}
use Rattle.tm_base.specs.declared.limits.TheConstants.{MOST_NODES, MOST_NODE_CPUS, MOST_TIMERS, MOST_OPS, SCRIPT_TIME_LIMIT}
use Rattle.tm_script.specs.declared.known.Place.TheVariants.{VersionLine, NodesLine, CpusLine, TimersLine, IsolatedLine, Body}
use Rattle.tm_script.specs.declared.known.Known.{Known}
use Rattle.tm_script.specs.declared.known.Said.{Said}
use Rattle.tm_script.specs.declared.known.Said.TheVariants.{Version, NodeCount, CpuCount, TimerCount, IsolatedCpus, Opening, Operation, Ending}
use Rattle.tm_script.specs.Texts.{number_line, what_line, isolated_line}
use Rattle.tm_script.specs.Grammar.{most_cpus, IsWhat}
use Rattle.tm_script.specs.Judge.{is_after, is_reached}
use Rattle.tm_script.specs.Reading.{count_in}

abbrev pub said_line : Known → Said → List ℕ
said_line k (Version n) = number_line (codes "tmig") n
said_line k (NodeCount n) = number_line (codes "nodes") n
said_line k (CpuCount n) = number_line (codes "cpus") n
said_line k (TimerCount n) = number_line (codes "timers") n
said_line k (IsolatedCpus cpus) = isolated_line (count_in k) cpus
said_line k (Opening at) = number_line (codes "at") at
said_line k (Operation cpu done) = what_line cpu.0 done
said_line k (Ending end) = number_line (codes "end") end

abbrev pub Fits : Known → Said → Type 0
Fits k (Version n) = (k.place ≡ VersionLine) × (1 ≤ n) × (n ≤ 2)
Fits k (NodeCount n) = (k.place ≡ NodesLine) × (1 ≤ n) × (n ≤ MOST_NODES)
Fits k (CpuCount n) = (k.place ≡ CpusLine) × (1 ≤ n) × (n ≤ MOST_NODE_CPUS) × (k.nodes * n ≤ most_cpus k.version)
Fits k (TimerCount n) = (k.place ≡ TimersLine) × (1 ≤ n) × (n ≤ MOST_TIMERS)
Fits k (IsolatedCpus cpus) =
    (k.place ≡ IsolatedLine) × ((c : ℕ) → Contains cpus c → c < count_in k) × ((c : ℕ) × (c < count_in k) × (contains cpus c ≡ false))
    × (count_in k < 10 ^ 13)
Fits k (Opening at) = (k.place ≡ Body) × (at < SCRIPT_TIME_LIMIT) × (is_after k.last at ≡ true)
Fits k (Operation cpu done) =
    (k.place ≡ Body) × (is_some k.last ≡ true) × (cpu.0 < count_in k) × IsWhat k.version k.timers done × (k.closed ≡ false) × (k.ops < MOST_OPS)
    × (count_in k < 10 ^ 13) × (k.timers < 10 ^ 13)
Fits k (Ending end) = (k.place ≡ Body) × (end < SCRIPT_TIME_LIMIT) × (is_reached k.last end ≡ true)

-- few enough CPUs and timers for their numbers to be written
pub record IsSmall (k : Known) : Type 0 where
  pub few_cpus : count_in k < 10 ^ 13
  pub few_timers : k.timers < 10 ^ 13
