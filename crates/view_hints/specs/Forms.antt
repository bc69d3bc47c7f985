-- what may stand on a line of a script or of a trace of steps
use Rattle.std.specs.Prelude.{ℕ, ◌+◌, ◌==◌, nat_le, List, codes, if◌then◌else◌}
use Rattle.view_hints.specs.Lines.{is_first_word}

-- what stands on the first lines behind the version, by their numbers from 1
abbrev pub head_form : (number : ℕ) → List ℕ
head_form number =
    if number == 2 then codes "'nodes N', N from 1 to 8,"
    else (if number == 3 then codes "'cpus P', P from 1 to 64,"
    else (if number == 4 then codes "'timers T', T from 1 to 4096,"
    else codes "'isolated', with ascending CPUs behind it or none,"))

-- what may stand on a line of moments, by its first word
abbrev pub operation_form : (line : List ℕ) → List ℕ
operation_form line =
    if is_first_word line (codes "at") then
    codes "'at A', after the moment before,"
    else (if is_first_word line (codes "end") then
    codes "'end E', not before the last moment,"
    else (if is_first_word line (codes "arm") then
    codes "'arm CPU TIMER CLASS DELAY JOB ARG'"
    else (if is_first_word line (codes "cancel") then
    codes "'cancel CPU TIMER'"
    else (if is_first_word line (codes "idle") then
    codes "'idle CPU'"
    else (if is_first_word line (codes "wake") then
    codes "'wake CPU'"
    else (if is_first_word line (codes "offline") then
    codes "'offline CPU', last in its moment,"
    else (if is_first_word line (codes "online") then
    codes "'online CPU', last in its moment,"
    else codes "'at A', an operation of that moment or 'end E'")))))))

-- WHAT MAY STAND ON A LINE OF A SCRIPT, by its number from 1, where the script has so many lines in
-- front of its moments
abbrev pub script_form : (heads number : ℕ) → (line : List ℕ) → List ℕ
script_form heads number line =
    if nat_le number 1 then codes "'tmig 1' or 'tmig 2'"
    else (if nat_le number heads then head_form number
    else (if number == heads + 1 then codes "'at A' or 'end E'"
    else operation_form line))

-- what may stand on a line of steps, by its first word, of those that come later
abbrev pub step_form_later : (line : List ℕ) → List ℕ
step_form_later line =
    if is_first_word line (codes "offline") then
    codes "'offline CPU'"
    else (if is_first_word line (codes "online") then
    codes "'online CPU'"
    else (if is_first_word line (codes "reeval") then
    codes "'reeval CPU'"
    else (if is_first_word line (codes "take") then
    codes "'take CPU BY'"
    else (if is_first_word line (codes "carry") then
    codes "'carry CPU'"
    else (if is_first_word line (codes "release") then
    codes "'release CPU'"
    else (if is_first_word line (codes "walk") then
    codes "'walk CPU'"
    else (if is_first_word line (codes "handon") then
    codes "'handon CPU TO'"
    else (if is_first_word line (codes "why") then
    codes "'why CPU TIMER'"
    else (if is_first_word line (codes "end") then
    codes "'end'"
    else codes "a step, 'why CPU TIMER' or 'end'")))))))))

-- what may stand on a line of steps, by its first word
abbrev pub step_form : (line : List ℕ) → List ℕ
step_form line =
    if is_first_word line (codes "clock") then
    codes "'clock JIFFY'"
    else (if is_first_word line (codes "enter") then
    codes "'enter CPU'"
    else (if is_first_word line (codes "leave") then
    codes "'leave CPU'"
    else (if is_first_word line (codes "arm") then
    codes "'arm CPU TIMER CLASS EXPIRES JOB ARG LINE'"
    else (if is_first_word line (codes "cancel") then
    codes "'cancel CPU TIMER BY LINE'"
    else (if is_first_word line (codes "hand") then
    codes "'hand CPU TIMER RUNNER'"
    else (if is_first_word line (codes "ticked") then
    codes "'ticked CPU CLASS RUNNER'"
    else (if is_first_word line (codes "move") then
    codes "'move FROM TO TIMER'"
    else (if is_first_word line (codes "idle") then
    codes "'idle CPU'"
    else (if is_first_word line (codes "wake") then
    codes "'wake CPU'"
    else step_form_later line)))))))))

-- WHAT MAY STAND ON A LINE OF A TRACE OF STEPS, by its number from 1
abbrev pub trace_form : (number : ℕ) → (line : List ℕ) → List ℕ
trace_form number line =
    if nat_le number 1 then codes "'trace 1'"
    else (if nat_le number 5 then head_form number else step_form line)
