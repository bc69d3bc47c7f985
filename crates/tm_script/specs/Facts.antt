-- what holds of every script of the grammar, for those who play it
use Rattle.std.specs.Prelude.{◌≡◌, ℕ, ◌+◌, ◌<◌, ◌≤◌, false, length}
use Rattle.std.specs.Prelude.{slice_get, Some}
use Rattle.tm_base.specs.declared.limits.TheConstants.{MOST_CPUS_V2}
use Rattle.tm_base.specs.declared.limits.TheConstants.{MOST_OPS, MOST_LINES, SCRIPT_TIME_LIMIT}
use Rattle.tm_script.specs.declared.syntax.Script.{Script}
use Rattle.tm_script.specs.declared.syntax.Moment.{Moment}
use Rattle.tm_script.specs.declared.syntax.Op.{Op}
use Rattle.tm_script.specs.Texts.{cpu_count}
use Rattle.tm_script.specs.Grammar.{is_hotplug, IsOp, IsScript}

-- a moment at its place k
pub record MomentFacts (s : Script) (k : ℕ) (m : Moment) : Type 0 where
  pub in_time : m.at < SCRIPT_TIME_LIMIT
  pub by_the_end : m.at ≤ s.end
  pub later : (n : Moment) → slice_get s.moments (k + 1) ≡ Some n → m.at < n.at
  pub few_ops : length m.ops ≤ MOST_OPS
  pub op : (i : ℕ) (o : Op) → slice_get m.ops i ≡ Some o → IsOp s.version (cpu_count s) s.timers o
  pub line : (i : ℕ) (o : Op) → slice_get m.ops i ≡ Some o → o.line ≤ MOST_LINES
  pub hotplug_last : (i : ℕ) (o : Op) → slice_get m.ops i ≡ Some o → i + 1 < length m.ops
      → is_hotplug o.what ≡ false

-- what holds of every script of the grammar, for those who play it
pub record ScriptFacts (s : Script) : Type 0 where
  pub some_cpus : 1 ≤ cpu_count s
  pub few_cpus : cpu_count s ≤ MOST_CPUS_V2
  pub few_moments : length s.moments < MOST_LINES
  pub moment : (k : ℕ) (m : Moment) → slice_get s.moments k ≡ Some m → MomentFacts s k m

-- every script of the grammar has these facts
abbrev pub ScriptsHaveFacts : Type 0
ScriptsHaveFacts = (s : Script) → IsScript s → ScriptFacts s
