-- what a command works on: a script, a trace, or a script of works
use Rattle.std.specs.Prelude.{◌≡◌, ℕ, List}
use Rattle.tm_script.specs.declared.faults.ScriptFault.{ScriptFault}
use Rattle.tm_script.specs.declared.faults.ReadScript.{ReadScript}
use Rattle.tm_script.specs.declared.faults.ReadScript.TheVariants.{Refused, NoMemory}
use Rattle.tm_script.specs.declared.syntax.Script.{Script}
use Rattle.tm_script.specs.Grammar.{IsScript, Spells}
use Rattle.tm_script.specs.Reader.{IsRefusalOf}
use Rattle.trace_text.specs.declared.answers.ReadTrace.TheVariants as traces
use Rattle.trace_text.specs.declared.traces.Trace.{Trace}
use Rattle.trace_text.specs.Texts.{IsTrace, SpellsTrace}
use Rattle.trace_text.specs.Reader.{IsTraceRefusalOf}
use Rattle.work_script.specs.declared.syntax.WorkScript.{WorkScript}
use Rattle.work_script.specs.Grammar.{IsWorkScript, SpellsWorks}
use Rattle.work_script.specs.Reader.{IsWorksRefusalOf}
use Rattle.program_texts.specs.declared.inputs.Form.{Form}
use Rattle.program_texts.specs.declared.inputs.Form.TheVariants as forms
use Rattle.program_texts.specs.declared.inputs.Input.{Input}
use Rattle.program_texts.specs.declared.inputs.Input.TheVariants as inputs

-- the input is a script, of which this holds
abbrev pub OfScript : (Script → Type 0) → Input → Type 0
OfScript Holds (inputs.Script script) = Holds script
OfScript Holds (inputs.Trace trace) = ⊥
OfScript Holds (inputs.Works works) = ⊥

-- the input is a trace, of which this holds
abbrev pub OfTrace : (Trace → Type 0) → Input → Type 0
OfTrace Holds (inputs.Script script) = ⊥
OfTrace Holds (inputs.Trace trace) = Holds trace
OfTrace Holds (inputs.Works works) = ⊥

-- the input is a script of works, of which this holds
abbrev pub OfWorks : (WorkScript → Type 0) → Input → Type 0
OfWorks Holds (inputs.Script script) = ⊥
OfWorks Holds (inputs.Trace trace) = ⊥
OfWorks Holds (inputs.Works works) = Holds works

-- an input of this form, by its grammar (no public clause cites it)
abbrev pub IsInput : Form → Input → Type 0
IsInput forms.Script input = OfScript IsScript input
IsInput forms.Trace input = OfTrace IsTrace input
IsInput forms.Works input = OfWorks IsWorkScript input

-- THESE BYTES SPELL AN INPUT of this form
abbrev pub SpellsInput : Form → List ℕ → Input → Type 0
SpellsInput forms.Script bytes input = OfScript (Spells bytes) input
SpellsInput forms.Trace bytes input = OfTrace (SpellsTrace bytes) input
SpellsInput forms.Works bytes input = OfWorks (SpellsWorks bytes) input

-- these bytes spell no other input of this form
abbrev pub IsOnlyInputOf : Form → List ℕ → Input → Type 0
IsOnlyInputOf form bytes input = (other : Input) → SpellsInput form bytes other → other ≡ input

-- these bytes spell no input of this form, and this is their first fault
abbrev pub IsInputRefusalOf : Form → List ℕ → ScriptFault → Type 0
IsInputRefusalOf forms.Script bytes fault = IsRefusalOf bytes (Refused fault)
IsInputRefusalOf forms.Trace bytes fault = IsTraceRefusalOf bytes (traces.Refused fault)
IsInputRefusalOf forms.Works bytes fault = IsWorksRefusalOf bytes (Refused fault)

-- why no input of this form was read; want of memory says nothing of the bytes
abbrev pub IsRefusalBy : Form → List ℕ → ReadScript → Type 0
IsRefusalBy form bytes (Refused fault) = IsInputRefusalOf form bytes fault
IsRefusalBy form bytes NoMemory = Unit {0}
