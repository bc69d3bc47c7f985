-- the names of lines: their first words
use Rattle.std.specs.Prelude.{ℕ, List, [], ◌∷◌, codes, Option, find}
use Rattle.std.specs.Str.{bytes_eq}
use Rattle.report_reader.specs.declared.names.Name.{Name}
use Rattle.report_reader.specs.declared.names.Name.TheVariants.{Arm, Run, Cancel, NotQueued, Idle}
use Rattle.report_reader.specs.declared.names.Name.TheVariants.{Stay, Wake, Offline, Handed}
use Rattle.report_reader.specs.declared.names.Name.TheVariants.{Online, Control, Moved, Cover}
use Rattle.report_reader.specs.declared.names.Name.TheVariants.{Refused, Left, End, Why, Yes, No}
use Rattle.report_reader.specs.declared.names.Name.TheVariants.{Device}

-- the first of some words
abbrev pub head_word : List (List ℕ) → List ℕ
head_word [] = []
head_word (w ∷ ws) = w

-- the first word of a line of this name
abbrev pub line_word_of : Name → List ℕ
line_word_of Arm = codes "arm"
line_word_of Run = codes "run"
line_word_of Cancel = codes "cancel"
line_word_of NotQueued = codes "none"
line_word_of Idle = codes "idle"
line_word_of Stay = codes "stay"
line_word_of Wake = codes "wake"
line_word_of Offline = codes "offline"
line_word_of Handed = codes "handed"
line_word_of Online = codes "online"
line_word_of Control = codes "control"
line_word_of Moved = codes "moved"
line_word_of Cover = codes "cover"
line_word_of Refused = codes "refused"
line_word_of Left = codes "left"
line_word_of End = codes "end"
line_word_of Why = codes "why"
line_word_of Yes = codes "yes"
line_word_of No = codes "no"
line_word_of Device = codes "device"

-- the names of lines on CPUs that go idle, wake and go offline, and of what is left
abbrev pub state_names : List Name
state_names =
    Idle ∷ Stay ∷ Wake ∷ Offline ∷ Handed ∷ Online ∷ Control ∷ Moved ∷ Left ∷ End ∷ []

-- all names
abbrev pub all_names : List Name
all_names =
    Arm ∷ Run ∷ Cancel ∷ NotQueued ∷ Cover ∷ Refused ∷ Why ∷ Yes ∷ No ∷ Device ∷ state_names

-- the name among these that is spelled so
abbrev pub name_among : List Name → List ℕ → Option Name
name_among names word = find (λ name. bytes_eq word (line_word_of name)) names

-- the name that is spelled so
unfoldable pub line_name_of : List ℕ → Option Name
line_name_of word = name_among all_names word
