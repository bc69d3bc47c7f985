-- the lines of a play of works
use Rattle.std.specs.Prelude.{ℕ, List, [], ◌∷◌, codes, Bool, true, false, Option, Some, None}
use Rattle.std.specs.Fmt.{decimal}
use Rattle.text_words.specs.Words.{ended, spaced}
use Rattle.job_table.specs.declared.jobs.JobReply.{JobReply}
use Rattle.job_table.specs.declared.jobs.JobReply.TheVariants.{Done, Mark, Again}
use Rattle.delayed_work.specs.declared.standing.Placed.{Placed}
use Rattle.delayed_work.specs.declared.standing.Placed.TheVariants.{Waiting, Ready, Pending}
use Rattle.delayed_work.specs.Works.{Run}

-- the line of a word, a time and a work, and what stands behind them
abbrev pub work_line : (word : List ℕ) → (now work : ℕ) → (behind : List (List ℕ)) → List ℕ
work_line word now work behind = ended (spaced (word ∷ decimal now ∷ decimal work ∷ behind))

-- where a queued work stands: the wheel expiry of its timer, or that it is ready
abbrev pub due_word : Placed → List ℕ
due_word (Waiting due) = decimal due
due_word Ready = codes "ready"
due_word Pending = codes "pending"

-- what a queueing came to
abbrev pub queued_line : (now work : ℕ) → Placed → List ℕ
queued_line now work (Waiting due) =
    work_line (codes "queued") now work (due_word (Waiting due) ∷ [])
queued_line now work Ready = work_line (codes "queued") now work (due_word Ready ∷ [])
queued_line now work Pending = work_line (codes "pending") now work []

-- whether a cancelling found the work pending
abbrev pub cancelled_line : (now work : ℕ) → (was_pending : Bool) → List ℕ
cancelled_line now work true = work_line (codes "cancelled") now work []
cancelled_line now work false = work_line (codes "none") now work []

-- a work that is queued again shows where it stands
abbrev pub again_words : Option Placed → List (List ℕ)
again_words None = codes "again" ∷ []
again_words (Some placed) = codes "again" ∷ due_word placed ∷ []

-- what a job replied
abbrev pub job_reply_words : JobReply → Option Placed → List (List ℕ)
job_reply_words Done placed = codes "done" ∷ []
job_reply_words (Mark mark) placed = codes "mark" ∷ decimal mark ∷ []
job_reply_words (Again class delay) placed = again_words placed

-- the run of a work; nothing where none was ready
abbrev pub work_run_line : (now : ℕ) → Option Run → List ℕ
work_run_line now None = []
work_run_line now (Some run) = work_line (codes "ran") now run.0 (job_reply_words run.1 run.2)

-- where a pending work is left at the end; nothing where it is free
abbrev pub left_work_line : (work : ℕ) → Option Placed → List ℕ
left_work_line work None = []
left_work_line work (Some placed) =
    ended (spaced (codes "left" ∷ decimal work ∷ due_word placed ∷ []))

-- the last line
abbrev pub works_end_line : (end : ℕ) → List ℕ
works_end_line end = ended (spaced (codes "end" ∷ decimal end ∷ []))
