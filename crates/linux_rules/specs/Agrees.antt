-- at each rest of a trace somebody answers
use Rattle.std.specs.Prelude.{◌≡◌, ℕ, true, List, [], ◌∷◌, Result, Ok, Err}
use Rattle.std.specs.List.{All}
use Rattle.text_words.specs.Words.{lines_of}
use Rattle.linux_lines.specs.declared.events.Line.{Line}
use Rattle.linux_lines.specs.declared.faults.LineFault.{LineFault}
use Rattle.linux_lines.specs.Lines.{line_of}
use Rattle.linux_seen.specs.Seen.{Sight}
use Rattle.linux_told.specs.Agrees.{IsAnswered}
use Rattle.linux_rules.specs.declared.judge.Course.{Course}
use Rattle.linux_rules.specs.Judge.{rests_after, start, text_after}
use Rattle.linux_rules.specs.Marks.{kept_lines}

-- where a line leaves no walk under way, for each CPU's told expiry that is to come somebody
-- answers in each machine that agrees with what was seen, or the answer is open
abbrev pub RestAnswers : Result Line LineFault → Sight → Type 0
RestAnswers (Err fault) s = Unit {0}
RestAnswers (Ok said) s = rests_after said s ≡ true → All (IsAnswered s) s.cpus

-- .. at each rest from here on
abbrev pub RestsAnswer : Course → List (List ℕ) → Type 0
RestsAnswer k [] = Unit {0}
RestsAnswer k (text ∷ texts) =
    RestAnswers (line_of text) (text_after k text).seen × RestsAnswer (text_after k text) texts

-- AT EACH REST of a trace each idle CPU's told expiry that is to come is answered for, in every
-- machine that agrees with what was seen, or open
abbrev pub EachRestAnswers : List ℕ → Type 0
EachRestAnswers bytes =
    RestsAnswer (start (lines_of bytes)) (kept_lines (lines_of bytes))
