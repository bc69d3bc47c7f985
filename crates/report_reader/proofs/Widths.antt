-- what is read has the widths of its fields
use Rattle.std.proofs.Common.{ℕ, Bool, true, false, cond, List}
use Rattle.std.specs.Prelude.{codes}
use Rattle.std.specs.Str.{bytes_eq}
use Rattle.text_words.specs.Words.{split}
use Rattle.report_reader.specs.declared.names.Name.{Name}
use Rattle.report_reader.specs.declared.names.Name.TheVariants.{Arm, Run, Cancel, NotQueued, Idle, Stay, Wake, Offline, Handed, Online, Control, Moved, Cover, Refused, Left, End, Why, Yes, No, Device}
use Rattle.report_reader.specs.Candidates.{words_from, word_at, later_of, is_over, level_for, place_for, reply_of, cover_read, reason_of, refusal_of, line_for}
use Rattle.report_reader.specs.Names.{head_word}
use Rattle.report_reader.specs.Widths.{FitsWidths, FitsGroup, FitsReply, FitsCover, FitsReason}
use Rattle.report_reader.proofs.Numbers.{number_fits, count_fits, short_fits, byte_fits}
use Rattle.report_reader.proofs.Times.{time_fits}

cond_keeps : {X : Type 0} (P : X → Type 0) (t : Bool) (x y : X) → P x → P y → P (cond t x y)
cond_keeps P true x y h g = h
cond_keeps P false x y h g = g

group_fits : (word : List ℕ) → FitsGroup (level_for word) (place_for word)
unfolding level_for place_for
group_fits word = (byte_fits (head_word (split 58 word)), short_fits (head_word (later_of (split 58 word))))

reply_fits : (ws : List (List ℕ)) → FitsReply (reply_of ws)
unfolding reply_of
reply_fits ws =
    cond_keeps FitsReply (bytes_eq (word_at ws 0) (codes "done")) _ _ tt
    (cond_keeps FitsReply (bytes_eq (word_at ws 0) (codes "mark")) _ _ (count_fits (word_at ws 1))
    (cond_keeps FitsReply (bytes_eq (word_at ws 0) (codes "again")) _ _ (time_fits (word_at ws 2)) (short_fits (word_at ws 1))))

cover_fits : (ws : List (List ℕ)) → FitsCover (cover_read ws)
unfolding cover_read
cover_fits ws =
    cond_keeps FitsCover (bytes_eq (word_at ws 0) (codes "migrator")) _ _
    (group_fits (word_at ws 1), short_fits (word_at ws 2)) (short_fits (word_at ws 1), time_fits (word_at ws 2))

reason_fits : (ws : List (List ℕ)) → FitsReason (reason_of ws)
unfolding reason_of
reason_fits ws =
    cond_keeps FitsReason (bytes_eq (word_at ws 0) (codes "held")) _ _ (group_fits (word_at ws 1), short_fits (word_at ws 2))
    (cond_keeps FitsReason (bytes_eq (word_at ws 0) (codes "woken")) _ _ (short_fits (word_at ws 1), time_fits (word_at ws 2))
    (cond_keeps FitsReason (bytes_eq (word_at ws 0) (codes "carried")) _ _ (byte_fits (word_at ws 1)) tt))

refusal_fits : (ws : List (List ℕ)) → FitsWidths (refusal_of ws)
unfolding refusal_of FitsWidths
refusal_fits ws =
    cond_keeps FitsWidths (is_over (words_from ws 4)) _ _
    (number_fits (word_at ws 0), short_fits (word_at ws 1), count_fits (word_at ws 2), byte_fits (word_at ws 3))
    (number_fits (word_at ws 0), short_fits (word_at ws 1), count_fits (word_at ws 2), byte_fits (word_at ws 3), short_fits (word_at ws 4))

pub line_fits : (n : Name) (ws : List (List ℕ)) → FitsWidths (line_for n ws)
unfolding line_for FitsWidths
line_fits Arm ws = (number_fits (word_at ws 0), short_fits (word_at ws 1), short_fits (word_at ws 2), time_fits (word_at ws 4))
line_fits Run ws =
    (number_fits (word_at ws 0), short_fits (word_at ws 1), short_fits (word_at ws 2), short_fits (word_at ws 3), time_fits (word_at ws 4), reply_fits (words_from ws 5))
line_fits Cancel ws = (number_fits (word_at ws 0), short_fits (word_at ws 1), short_fits (word_at ws 2), short_fits (word_at ws 3))
line_fits NotQueued ws = (number_fits (word_at ws 0), short_fits (word_at ws 1), short_fits (word_at ws 2))
line_fits Idle ws = (number_fits (word_at ws 0), short_fits (word_at ws 1), time_fits (word_at ws 2))
line_fits Stay ws = (number_fits (word_at ws 0), short_fits (word_at ws 1), time_fits (word_at ws 2))
line_fits Wake ws = (number_fits (word_at ws 0), short_fits (word_at ws 1))
line_fits Offline ws = (number_fits (word_at ws 0), short_fits (word_at ws 1))
line_fits Handed ws = (number_fits (word_at ws 0), short_fits (word_at ws 1), short_fits (word_at ws 2))
line_fits Online ws = (number_fits (word_at ws 0), short_fits (word_at ws 1))
line_fits Control ws = (number_fits (word_at ws 0), short_fits (word_at ws 1))
line_fits Moved ws = (number_fits (word_at ws 0), short_fits (word_at ws 1), short_fits (word_at ws 2), short_fits (word_at ws 3), time_fits (word_at ws 4))
line_fits Cover ws = (number_fits (word_at ws 0), short_fits (word_at ws 1), time_fits (word_at ws 2), cover_fits (words_from ws 3))
line_fits Refused ws = refusal_fits ws
line_fits Left ws = (short_fits (word_at ws 0), short_fits (word_at ws 1), time_fits (word_at ws 3))
line_fits End ws = number_fits (word_at ws 0)
line_fits Why ws = (count_fits (word_at ws 0), short_fits (word_at ws 1), short_fits (word_at ws 2), reason_fits (words_from ws 3))
line_fits Yes ws = count_fits (word_at ws 0)
line_fits No ws = count_fits (word_at ws 0)
line_fits Device ws = (number_fits (word_at ws 0), time_fits (word_at ws 1))
