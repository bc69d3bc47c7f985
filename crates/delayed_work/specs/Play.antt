-- THE PLAY of a script of works: moment by moment, with what is told
use Rattle.std.specs.Prelude.{◌≡◌, ◌≢◌, ℕ, zero, suc, ◌+◌, ◌*◌, ◌≤◌, ◌==◌, not, nat_le, max}
use Rattle.std.specs.Prelude.{min, List, [], ◌∷◌, ◌++◌, length, Option, Some, None}
use Rattle.std.specs.Prelude.{if◌then◌else◌}
use Rattle.std.specs.Option.{option_or}
use Rattle.tm_base.specs.declared.names.Class.TheVariants.{Global}
use Rattle.tm_base.specs.declared.limits.TheConstants.{WORK_LIMIT_V1}
use Rattle.wheel_core.specs.PlainBase.{least}
use Rattle.cpu_bases.specs.CpuBases.{base_of, empty_bases}
use Rattle.work_script.specs.declared.syntax.WorkScript.{WorkScript}
use Rattle.work_script.specs.declared.syntax.WorkMoment.{WorkMoment}
use Rattle.work_script.specs.declared.syntax.WorkOp.{WorkOp}
use Rattle.work_script.specs.declared.syntax.WorkOp.TheVariants.{Queue, Cancel}
use Rattle.delayed_work.specs.declared.faults.UnknownWorkJob.{UnknownWorkJob}
use Rattle.delayed_work.specs.declared.faults.WorksFault.{WorksFault}
use Rattle.delayed_work.specs.declared.faults.WorksFault.TheVariants.{BadJob, WorkSpent, NoMemory}
use Rattle.delayed_work.specs.Calls.{WorkReplies}
use Rattle.delayed_work.specs.Ledger.{is_free, standing_of}
use Rattle.delayed_work.specs.Lines.{cancelled_line, left_work_line, queued_line, work_run_line}
use Rattle.delayed_work.specs.Lines.{works_end_line}
use Rattle.delayed_work.specs.Works.{WorksState, cancelled_work, expired, new_works, work_left}
use Rattle.delayed_work.specs.Works.{queue_answer}
use Rattle.delayed_work.specs.Works.{told_run, work_queued, work_ran}

-- works in play, and what was told so far
pub record Playing : Type 0 where
  pub works : WorksState
  pub text : List ℕ

-- ---- one moment

-- a line of the script is done
abbrev pub work_op_done : (now : ℕ) → WorkOp → Playing → Playing
work_op_done now (Queue line work delay job arg) p = record {
  works = work_queued now work delay job arg line p.works;
  text = p.text ++ queued_line now work (queue_answer now work delay job arg p.works);
}
work_op_done now (Cancel line work) p = record {
  works = cancelled_work now work line p.works;
  text = p.text
      ++ cancelled_line now work (not (is_free (standing_of work p.works.ledger)));
}

-- so are lines, in order
abbrev pub all_done : (now : ℕ) → List WorkOp → Playing → Playing
all_done now [] p = p
all_done now (o ∷ os) p = all_done now os (work_op_done now o p)

-- the next ready work is run
abbrev pub run_one : WorkReplies → (now : ℕ) → Playing → Playing
run_one replies now p = record {
  works = work_ran replies now p.works;
  text = p.text ++ work_run_line now (told_run replies now p.works);
}

-- so many are run, one after the other
abbrev pub run_all : WorkReplies → (n now : ℕ) → Playing → Playing
run_all replies zero now p = p
run_all replies (suc n) now p = run_all replies n now (run_one replies now p)

-- a moment before its running: the works of all due timers become ready, and the lines of the
-- script are done
abbrev pub before_running : (now : ℕ) → List WorkOp → Playing → Playing
before_running now ops p = all_done now ops (record p { works = expired now p.works })

-- how many works a moment runs: those that are ready when the running begins
abbrev pub ready_count : Playing → ℕ
ready_count p = length p.works.ledger.ready

-- as many works are run as are ready
abbrev pub run_ready : WorkReplies → (now : ℕ) → Playing → Playing
run_ready replies now p = run_all replies (ready_count p) now p

-- A MOMENT: expiry, the lines of the script, the running
abbrev pub works_moment : WorkReplies → (now : ℕ) → List WorkOp → Playing → Playing
works_moment replies now ops p = run_ready replies now (before_running now ops p)

-- how much work a moment is: itself, and the works that it runs
abbrev pub moment_work : (now : ℕ) → List WorkOp → Playing → ℕ
moment_work now ops p = 1 + ready_count (before_running now ops p)

-- ---- all moments

-- the lines of the script for the time now, where the first of these moments is the next one
abbrev pub work_ops_at : (now : ℕ) → List WorkMoment → List WorkOp
work_ops_at now [] = []
work_ops_at now (m ∷ ms) = if m.at == now then m.ops else []

-- the moments of the script that are still to come after it
abbrev pub work_moments_after : (now : ℕ) → List WorkMoment → List WorkMoment
work_moments_after now [] = []
work_moments_after now (m ∷ ms) = if m.at == now then ms else m ∷ ms

-- the sooner of a time and another one that may be there
abbrev pub not_after : Option ℕ → ℕ → ℕ
not_after None at = at
not_after (Some other) at = min other at

-- the time of the script's next moment, where there is one
abbrev pub next_script_moment : List WorkMoment → Option ℕ
next_script_moment [] = None
next_script_moment (m ∷ ms) = Some m.at

-- the first timer, the script's next moment or the end, whatever comes first
abbrev pub next_due : (end : ℕ) → List WorkMoment → WorksState → ℕ
next_due end ms works =
    not_after (least (base_of Global works.bases).items) (not_after (next_script_moment ms) end)

-- THE NEXT MOMENT: the next jiffy where a work is ready; else what comes first, but not this jiffy
abbrev pub next_works_moment : (now end : ℕ) → List WorkMoment → WorksState → ℕ
next_works_moment now end ms works =
    if length works.ledger.ready == 0 then max (now + 1) (next_due end ms works) else now + 1

-- how a play comes out: it reaches its end, or its work is as much as may be, or more; `Unfinished`
-- never comes
pub data Outcome : Type 0 where
  Finished : (playing : Playing) → Outcome
  Spent : (count : ℕ) → Outcome
  Unfinished : Outcome

-- what stands still to be played: the time now, the script's moments from now on, the work so far,
-- and the works
pub record Stand : Type 0 where
  pub now : ℕ
  pub moments : List WorkMoment
  pub count : ℕ
  pub playing : Playing

-- the works behind the moment of the time now, and what was told
abbrev pub playing_after : WorkReplies → Stand → Playing
playing_after replies s = works_moment replies s.now (work_ops_at s.now s.moments) s.playing

-- the work behind that moment
abbrev pub count_after : Stand → ℕ
count_after s = s.count + moment_work s.now (work_ops_at s.now s.moments) s.playing

-- what stands behind that moment, where it isn't the last
abbrev pub stand_after : WorkReplies → (end : ℕ) → Stand → Stand
stand_after replies end s =
    let after = playing_after replies s in
    let ms = work_moments_after s.now s.moments in
    record {
      now = next_works_moment s.now end ms after.works;
      moments = ms;
      count = count_after s;
      playing = after;
    }

-- the moments from this one on, n of them at most
unfoldable pub played_from : WorkReplies → (n end : ℕ) → Stand → Outcome
played_from replies zero end s = Unfinished
played_from replies (suc n) end s =
    if nat_le end s.now then Finished (playing_after replies s)
    else if nat_le WORK_LIMIT_V1 (count_after s) then Spent (count_after s)
    else played_from replies n end (stand_after replies end s)

-- the start of a script's play: all works are free, and nothing is told
abbrev pub works_play_start : WorkScript → Stand
works_play_start script = record {
  now = 0;
  moments = script.moments;
  count = 0;
  playing = record { works = new_works empty_bases script.count; text = [] };
}

-- THE PLAY of a script, of as many moments at most as work may be
abbrev pub works_played : WorkReplies → WorkScript → Outcome
works_played replies script = played_from replies WORK_LIMIT_V1 script.end (works_play_start script)

-- ---- the output

-- where n works from this one on are left
abbrev pub left_lines : (n work : ℕ) → WorksState → List ℕ
left_lines zero work works = []
left_lines (suc n) work works =
    left_work_line work (work_left work works) ++ left_lines n (work + 1) works

-- the last lines: the works that are still pending, and the end
abbrev pub closing_lines : (count end : ℕ) → WorksState → List ℕ
closing_lines count end works = left_lines count 0 works ++ works_end_line end

-- the output of a play that reaches its end
abbrev pub text_of : (count end : ℕ) → Outcome → List ℕ
text_of count end (Finished p) = p.text ++ closing_lines count end p.works
text_of count end _ = []

-- THE OUTPUT of a script's play
abbrev pub works_text : WorkReplies → WorkScript → List ℕ
works_text replies script = text_of script.count script.end (works_played replies script)

-- the count of work at which a play is broken off, if it is
abbrev pub count_broken_off : Outcome → Option ℕ
count_broken_off (Spent count) = Some count
count_broken_off _ = None

-- THE COUNT OF WORK at which a script's play is broken off, if it is
abbrev pub works_spent : WorkReplies → WorkScript → Option ℕ
works_spent replies script = count_broken_off (works_played replies script)

-- ---- unknown jobs

-- the job of an operation that a table of so many hasn't, and its line
abbrev pub unknown_of : (table : ℕ) → WorkOp → Option UnknownWorkJob
unknown_of table (Queue line work delay job arg) =
    if nat_le table job then Some (record { line = line; job = job }) else None
unknown_of table (Cancel line work) = None

-- the first of these operations that has one
unfoldable pub unknown_in_work_ops : (table : ℕ) → List WorkOp → Option UnknownWorkJob
unknown_in_work_ops table [] = None
unknown_in_work_ops table (o ∷ os) = option_or (unknown_of table o) (unknown_in_work_ops table os)

-- .. of these moments
unfoldable pub unknown_in : (table : ℕ) → List WorkMoment → Option UnknownWorkJob
unknown_in table [] = None
unknown_in table (m ∷ ms) = option_or (unknown_in_work_ops table m.ops) (unknown_in table ms)

-- THE FIRST QUEUEING of a script that names no job of a table of so many
abbrev pub first_unknown_work_job : (table : ℕ) → WorkScript → Option UnknownWorkJob
first_unknown_work_job table script = unknown_in table script.moments

-- ---- what a play answers

-- the script can be played to its end: its jobs are known, and its work stays below the limit
pub record CanPlayWorks (replies : WorkReplies) (table : ℕ) (script : WorkScript) : Type 0 where
  pub known : first_unknown_work_job table script ≡ None
  pub unspent : works_spent replies script ≡ None

-- the work is spent, at this count; so many moments and works there can be for that
pub record IsSpent (replies : WorkReplies) (table : ℕ) (script : WorkScript) (count : ℕ)
    : Type 0 where
  pub known : first_unknown_work_job table script ≡ None
  pub spent : works_spent replies script ≡ Some count
  pub long : WORK_LIMIT_V1 ≤ script.end * (1 + script.count)

-- why a script wasn't played to its end
abbrev pub WhyNotPlayed : WorkReplies → (table : ℕ) → WorkScript → WorksFault → Type 0
WhyNotPlayed replies table script (BadJob line job) =
    first_unknown_work_job table script ≡ Some (record { line = line; job = job })
WhyNotPlayed replies table script (WorkSpent count) = IsSpent replies table script count
WhyNotPlayed replies table script NoMemory = Unit {0}

-- THE PLAY ENDS: no play has more moments than its work may be
abbrev pub PlaysEnd : Type 0
PlaysEnd =
    (replies : WorkReplies) (script : WorkScript) → works_played replies script ≢ Unfinished
