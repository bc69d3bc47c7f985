-- for crates above: the form of an input, and the commands that work on it
use Rattle.std.proofs.Common.{◌≡◌, ◌≢◌, refl}
use Rattle.tm_script.specs.declared.syntax.Script.{Script}
use Rattle.tm_script.specs.Grammar.{IsScript}
use Rattle.trace_text.specs.declared.traces.Trace.{Trace}
use Rattle.trace_text.specs.Texts.{IsTrace}
use Rattle.work_script.specs.declared.syntax.WorkScript.{WorkScript}
use Rattle.work_script.specs.Grammar.{IsWorkScript}
use Rattle.program_texts.specs.declared.commands.Command.{Command}
use Rattle.program_texts.specs.declared.commands.Command.TheVariants as commands
use Rattle.program_texts.specs.declared.inputs.Form.{Form}
use Rattle.program_texts.specs.declared.inputs.Form.TheVariants as forms
use Rattle.program_texts.specs.declared.inputs.Input.TheVariants as inputs
use Rattle.program_texts.specs.Inputs.{IsInput}
use Rattle.program_texts.specs.Words.{form_of, HasJobsRun, IsPlayer}

-- a script is an input of its own form alone
pub script_input : (form : Form) (script : Script) → IsInput form (inputs.Script script)
    → IsScript script × (form ≡ forms.Script)
script_input forms.Script script is = (is, refl)
script_input forms.Trace script is = absurd is
script_input forms.Works script is = absurd is

-- .. and so is a trace
pub trace_input : (form : Form) (trace : Trace) → IsInput form (inputs.Trace trace)
    → IsTrace trace × (form ≡ forms.Trace)
trace_input forms.Script trace is = absurd is
trace_input forms.Trace trace is = (is, refl)
trace_input forms.Works trace is = absurd is

-- .. and a script of works
pub works_input : (form : Form) (script : WorkScript) → IsInput form (inputs.Works script)
    → IsWorkScript script × (form ≡ forms.Works)
works_input forms.Script script is = absurd is
works_input forms.Trace script is = absurd is
works_input forms.Works script is = (is, refl)

-- one command works on traces
pub checks : (command : Command) → form_of command ≡ forms.Trace → command ≡ commands.Check
checks commands.Play is = cc
checks commands.Run is = cc
checks commands.Tree is = cc
checks (commands.Generate recipe) is = cc
checks (commands.Day recipe) is = cc
checks commands.Check is = refl
checks commands.Deep is = cc
checks commands.Works is = cc

-- .. and one on scripts of works
pub works : (command : Command) → form_of command ≡ forms.Works → command ≡ commands.Works
works commands.Play is = cc
works commands.Run is = cc
works commands.Tree is = cc
works (commands.Generate recipe) is = cc
works (commands.Day recipe) is = cc
works commands.Check is = cc
works commands.Deep is = cc
works commands.Works is = refl

-- a command that has jobs run, but not by threads, plays
pub plays_alone : (command : Command) → HasJobsRun command → command ≢ commands.Run
    → IsPlayer command
plays_alone commands.Play has other = tt
plays_alone commands.Run has other = absurd (other refl)
plays_alone commands.Tree has other = absurd has
plays_alone (commands.Generate recipe) has other = absurd has
plays_alone (commands.Day recipe) has other = tt
plays_alone commands.Check has other = absurd has
plays_alone commands.Deep has other = tt
plays_alone commands.Works has other = tt
