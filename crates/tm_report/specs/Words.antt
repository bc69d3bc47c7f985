-- the words of a line, each but the first with the space before it
use Rattle.std.specs.Prelude.{ℕ, List, ◌++◌, if◌then◌else◌, ◌==◌, codes}
use Rattle.std.specs.Fmt.{decimal}
use Rattle.tm_base.specs.Classes.{class_text}
use Rattle.tm_base.specs.declared.names.Class.{Class}
use Rattle.tm_base.specs.declared.names.TheConstants.{NEVER}

-- a number
abbrev pub number_word : ℕ → List ℕ
number_word n = codes " " ++ decimal n

-- a wakeup or an expiry; that of an event that doesn't come is a word
abbrev pub time_word : ℕ → List ℕ
time_word at = if at == NEVER then codes " never" else number_word at

-- a class of timers
abbrev pub class_word : Class → List ℕ
class_word class = codes " " ++ class_text class

-- a group, by its level and its place there
abbrev pub group_text : ℕ → ℕ → List ℕ
group_text level place = decimal level ++ codes ":" ++ decimal place
