-- the text of a script, line by line
use Rattle.std.specs.Prelude.{ℕ, ◌*◌, List, [], ◌∷◌, ◌++◌, map, codes, filter, ◌==◌, if◌then◌else◌}
use Rattle.std.specs.Fmt.{decimal}
use Rattle.std.specs.List.{flat_map, range_with_len}
use Rattle.std.specs.FinSet.{contains}
use Rattle.text_words.specs.Words.{spaced, ended}
use Rattle.tm_base.specs.Classes.{class_text}
use Rattle.tm_base.specs.CpuSet.{Cpus}
use Rattle.tm_script.specs.declared.syntax.Script.{Script}
use Rattle.tm_script.specs.declared.syntax.Moment.{Moment}
use Rattle.tm_script.specs.declared.syntax.Op.{Op}
use Rattle.tm_script.specs.declared.syntax.What.{What}
use Rattle.tm_script.specs.declared.syntax.What.TheVariants.{Arm, Cancel, Idle, Wake, Offline}
use Rattle.tm_script.specs.declared.syntax.What.TheVariants.{Online}

-- the line of what a CPU does
abbrev pub what_line : ℕ → What → List ℕ
what_line cpu (Arm timer class delay job arg) =
    spaced (codes "arm" ∷ decimal cpu ∷ decimal timer.0 ∷ class_text class
    ∷ decimal delay ∷ decimal job ∷ decimal arg ∷ [])
what_line cpu (Cancel timer) = spaced (codes "cancel" ∷ decimal cpu ∷ decimal timer.0 ∷ [])
what_line cpu Idle = spaced (codes "idle" ∷ decimal cpu ∷ [])
what_line cpu Wake = spaced (codes "wake" ∷ decimal cpu ∷ [])
what_line cpu Offline = spaced (codes "offline" ∷ decimal cpu ∷ [])
what_line cpu Online = spaced (codes "online" ∷ decimal cpu ∷ [])

-- the line of an operation
abbrev pub op_line : Op → List ℕ
op_line o = what_line o.cpu.0 o.what

-- a line of a word and a number
abbrev pub number_line : List ℕ → ℕ → List ℕ
number_line word n = spaced (word ∷ decimal n ∷ [])

-- a moment is its time, and then a line for each operation
abbrev pub moment_lines : Moment → List (List ℕ)
moment_lines m = number_line (codes "at") m.at ∷ map op_line m.ops

-- how many CPUs the machine has
abbrev pub cpu_count : Script → ℕ
cpu_count s = s.nodes * s.cpus

-- the CPUs of a set, of which there are n, in ascending order
unfoldable pub members : ℕ → Cpus → List ℕ
members n cpus = filter (contains cpus) (range_with_len 0 n)

-- the line of the isolated CPUs
abbrev pub isolated_line : ℕ → Cpus → List ℕ
isolated_line n cpus = spaced (codes "isolated" ∷ map decimal (members n cpus))

-- the lines before the moments: four in version 1, and in version 2 one more
abbrev pub head_lines : Script → List (List ℕ)
head_lines s =
    number_line (codes "tmig") s.version ∷ number_line (codes "nodes") s.nodes
    ∷ number_line (codes "cpus") s.cpus ∷ number_line (codes "timers") s.timers
    ∷ (if s.version == 1 then [] else (isolated_line (cpu_count s) s.isolated ∷ []))

-- all lines of a script
abbrev pub script_lines : Script → List (List ℕ)
script_lines s =
    head_lines s ++ (flat_map moment_lines s.moments ++ number_line (codes "end") s.end ∷ [])

-- THE TEXT of a script: each line with its line feed
abbrev pub script_text : Script → List ℕ
script_text s = flat_map ended (script_lines s)
