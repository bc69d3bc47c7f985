-- what a command makes of its input
use Rattle.std.specs.Prelude.{◌≡◌, ℕ, ◌+◌, ◌*◌, ◌<◌, ◌≤◌, List, [], Option, Some, None, option_map}
use Rattle.tm_base.specs.declared.limits.TheConstants.{WORK_LIMIT_V1}
use Rattle.tm_script.specs.declared.syntax.Script.{Script}
use Rattle.tm_script.specs.Texts.{cpu_count, script_text}
use Rattle.tree_plan.specs.Shape.{tree_of}
use Rattle.tm_report.specs.Lines.{report_text}
use Rattle.core_world.specs.World.{World}
use Rattle.play_rules.specs.Interrupts.{Replies}
use Rattle.play_rules.specs.Jobs.{first_unknown_job}
use Rattle.play_rules.specs.Parts.{counted}
use Rattle.play_rules.specs.Play.{play_text, play_spent}
use Rattle.play_driver.specs.Outcomes.{work_limit}
use Rattle.run_moments.specs.core_plays.Deep.{deep_lines, deep_text, without_device}
use Rattle.run_moments.specs.core_plays.Plays.{CanPlay, LawsHold, summary_of}
use Rattle.run_moments.specs.Runs.{BreaksStory, RunsToEnd}
use Rattle.trace_check.specs.Answers.{IsCheckText}
use Rattle.work_script.specs.declared.syntax.WorkScript.{WorkScript}
use Rattle.delayed_work.specs.Play.{CanPlayWorks, first_unknown_work_job, works_spent, works_text}
use Rattle.program_texts.specs.declared.commands.Command.{Command}
use Rattle.program_texts.specs.declared.commands.Command.TheVariants.{Play, Run, Tree, Generate}
use Rattle.program_texts.specs.declared.commands.Command.TheVariants.{Day, Check, Deep, Works}
use Rattle.program_texts.specs.declared.inputs.Input.{Input}
use Rattle.program_texts.specs.declared.inputs.Input.TheVariants as inputs
use Rattle.program_texts.specs.TreeText.Trees.{tree_text}
use Rattle.program_texts.specs.Inputs.{OfScript, OfTrace, OfWorks}
use Rattle.program_replies.specs.DayText.Days.{day_text}

-- every job that the input has run is in the table; a trace has none run
abbrev pub KnowsJobs : (table : ℕ) → Input → Type 0
KnowsJobs table (inputs.Script script) = first_unknown_job table script.moments ≡ None
KnowsJobs table (inputs.Trace trace) = Unit {0}
KnowsJobs table (inputs.Works works) = first_unknown_work_job table works ≡ None

-- this job of this line is the input's first that the table hasn't
abbrev pub LacksJob : (table : ℕ) → Input → (line job : ℕ) → Type 0
LacksJob table (inputs.Script script) line job =
    first_unknown_job table script.moments ≡ Some (record { line = line; job = job })
LacksJob table (inputs.Trace trace) line job = ⊥
LacksJob table (inputs.Works works) line job =
    first_unknown_work_job table works ≡ Some (record { line = line; job = job })

-- the count of work at which the input's play is broken off, as it is printed, if it is; a trace
-- isn't played
abbrev pub spent_by : Replies → Input → Option ℕ
spent_by jobs (inputs.Script script) =
    option_map counted (play_spent jobs (work_limit script.version) script)
spent_by jobs (inputs.Trace trace) = None
spent_by jobs (inputs.Works works) = works_spent jobs works

-- the input's end comes late enough for its CPUs and timers, or its works, to come to the limit of
-- work
abbrev pub EndsLate : Input → Type 0
EndsLate (inputs.Script script) =
    work_limit script.version ≤ script.end * (1 + cpu_count script + script.timers)
EndsLate (inputs.Trace trace) = ⊥
EndsLate (inputs.Works works) = WORK_LIMIT_V1 ≤ works.end * (1 + works.count)

-- the work of the input's play is broken off at this count, as it is printed; so its end comes late
-- enough for its CPUs and timers, or its works, to come to the limit
pub record SpendsWork (jobs : Replies) (table : ℕ) (input : Input) (count : ℕ) : Type 0 where
  pub known : KnowsJobs table input
  pub spent : spent_by jobs input ≡ Some count
  pub late : EndsLate input

-- every job of the input is in the table, and its work stays below the limit
pub record CanEnd (jobs : Replies) (table : ℕ) (input : Input) : Type 0 where
  pub known : KnowsJobs table input
  pub within : spent_by jobs input ≡ None

-- the run of the input is broken off at this count, as it is printed: every job is in the table,
-- and the text is that of a story that is broken off there; so the script's end comes late enough
-- for its CPUs and timers to come to the limit of work
pub record BreaksRunOff (jobs : Replies) (table count : ℕ) (script : Script) : Type 0 where
  pub known : first_unknown_job table script.moments ≡ None
  pub text : List ℕ
  pub broken_off : BreaksStory jobs script count [] text
  pub late : EndsLate (inputs.Script script)

-- every job of the script is in the table, and its end comes too soon for its CPUs and timers to
-- come to the limit of work
pub record CanRun (table : ℕ) (script : Script) : Type 0 where
  pub known : first_unknown_job table script.moments ≡ None
  pub early : script.end * (1 + cpu_count script + script.timers) < work_limit script.version

-- A COMMAND'S WORK is broken off at this count
abbrev pub SpendsBy : Replies → (table : ℕ) → Command → Input → (count : ℕ) → Type 0
SpendsBy jobs table Run input count = OfScript (BreaksRunOff jobs table count) input
SpendsBy jobs table command input count = SpendsWork jobs table input count

-- .. and stays below its limit
abbrev pub EndsBy : Replies → (table : ℕ) → Command → Input → Type 0
EndsBy jobs table Run input = OfScript (CanRun table) input
EndsBy jobs table command input = CanEnd jobs table input

-- the text is that of a story of the script, which was run to its end; the story's last moment
-- leaves a core
abbrev pub IsRunOfScript : Replies → (table : ℕ) → List ℕ → Script → Type 0
IsRunOfScript jobs table text script = (core : World) × RunsToEnd jobs table script [] text core

-- the text is that of the play of the script, which can be played to its end; and the laws hold of
-- that play, by Play's state and by the core's own groups
pub record IsPlayOf (jobs : Replies) (table : ℕ) (text : List ℕ) (script : Script) : Type 0 where
  pub can_play : CanPlay jobs table script
  pub played : text ≡ play_text jobs script
  pub laws : LawsHold jobs script

-- the text sums up such a play of the script
pub record IsDayOf (jobs : Replies) (table : ℕ) (text : List ℕ) (script : Script) : Type 0 where
  pub can_play : CanPlay jobs table script
  pub summed : text ≡ day_text (summary_of jobs script)
  pub laws : LawsHold jobs script

-- the text is that of such a play under one broadcast device: that of the play, with the device's
-- lines
pub record IsDeepOf (jobs : Replies) (table : ℕ) (text : List ℕ) (script : Script) : Type 0 where
  pub can_play : CanPlay jobs table script
  pub played : text ≡ deep_text jobs script
  pub as_play : report_text (without_device (deep_lines jobs script)) ≡ play_text jobs script
  pub laws : LawsHold jobs script

-- the text is the tree of the script's machine
abbrev pub IsTreeOf : List ℕ → Script → Type 0
IsTreeOf text script = text ≡ tree_text (tree_of script.nodes script.cpus script.isolated)

-- the text is that of the play of the script of works, which can be played to its end
pub record IsWorksOf (jobs : Replies) (table : ℕ) (text : List ℕ) (works : WorkScript) : Type 0
  where
    pub can_play : CanPlayWorks jobs table works
    pub played : text ≡ works_text jobs works

-- WHAT A COMMAND WRITES of its input, where all goes well
abbrev pub IsScriptOutput : Replies → (table : ℕ) → Command → Input → List ℕ → Type 0
IsScriptOutput jobs table Play input text = OfScript (IsPlayOf jobs table text) input
IsScriptOutput jobs table Run input text = OfScript (IsRunOfScript jobs table text) input
IsScriptOutput jobs table Tree input text = OfScript (IsTreeOf text) input
IsScriptOutput jobs table (Generate recipe) input text =
    OfScript (λ script. text ≡ script_text script) input
IsScriptOutput jobs table (Day recipe) input text = OfScript (IsDayOf jobs table text) input
IsScriptOutput jobs table Check input text = OfTrace (λ trace. IsCheckText trace text) input
IsScriptOutput jobs table Deep input text = OfScript (IsDeepOf jobs table text) input
IsScriptOutput jobs table Works input text = OfWorks (IsWorksOf jobs table text) input
