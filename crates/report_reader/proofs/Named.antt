-- the words of a line are read as the line
use Rattle.std.proofs.Common.{◌≡◌, ◌∷◌, Some, refl}
use Rattle.tm_report.specs.declared.lines.Line.{Line}
use Rattle.tm_report.specs.declared.lines.Line.TheVariants as line
use Rattle.tm_report.specs.declared.lines.ShownReply.{ShownReply}
use Rattle.tm_report.specs.declared.lines.ShownReply.TheVariants as reply
use Rattle.tm_report.specs.declared.lines.ShownCover.{ShownCover}
use Rattle.tm_report.specs.declared.lines.ShownCover.TheVariants as cover
use Rattle.tm_report.specs.declared.lines.ShownReason.{ShownReason}
use Rattle.tm_report.specs.declared.lines.ShownReason.TheVariants as reason
use Rattle.report_reader.specs.declared.names.Name.{Name}
use Rattle.report_reader.specs.declared.names.Name.TheVariants.{Arm, Run, Cancel, NotQueued, Idle, Stay, Wake, Offline, Handed, Online, Control, Moved, Cover, Refused, Left, End, Why, Yes, No, Device}
use Rattle.report_reader.specs.Names.{line_name_of}
use Rattle.report_reader.specs.Candidates.{reply_of, cover_read, reason_of, refusal_of, line_for}
use Rattle.report_reader.specs.Widths.{FitsWidths, FitsReply, FitsCover, FitsReason}
use Rattle.report_reader.proofs.Numbers.{number_again, count_again, byte_again, cpu_again, timer_again}
use Rattle.report_reader.proofs.Times.{time_again, class_again, level_again, place_again}
use Rattle.report_reader.proofs.LineWords.{first_word, later_words, reply_first, reply_later, cover_first, cover_later, reason_first, reason_later}

abbrev pub name : Line → Name
name (line.Arm now cpu timer class wheel) = Arm
name (line.Run now runner timer home wheel shown) = Run
name (line.Cancel now cpu timer home) = Cancel
name (line.NotQueued now cpu timer) = NotQueued
name (line.Idle now cpu until) = Idle
name (line.Stay now cpu first) = Stay
name (line.Wake now cpu) = Wake
name (line.Offline now cpu) = Offline
name (line.Handed now cpu to) = Handed
name (line.Online now cpu) = Online
name (line.Control now cpu) = Control
name (line.Moved now timer from to wheel) = Moved
name (line.Cover now cpu wheel shown) = Cover
name (line.Refused now cpu place number) = Refused
name (line.RefusedQueued now cpu place number holder) = Refused
name (line.Left timer cpu class wheel) = Left
name (line.End now) = End
name (line.Why steps cpu timer shown) = Why
name (line.Yes steps) = Yes
name (line.No index) = No
name (line.Device now until) = Device

pub name_again : (l : Line) → line_name_of (first_word l) ≡ Some (name l)
unfolding line_name_of
name_again (line.Arm now cpu timer class wheel) = refl
name_again (line.Run now runner timer home wheel shown) = refl
name_again (line.Cancel now cpu timer home) = refl
name_again (line.NotQueued now cpu timer) = refl
name_again (line.Idle now cpu until) = refl
name_again (line.Stay now cpu first) = refl
name_again (line.Wake now cpu) = refl
name_again (line.Offline now cpu) = refl
name_again (line.Handed now cpu to) = refl
name_again (line.Online now cpu) = refl
name_again (line.Control now cpu) = refl
name_again (line.Moved now timer from to wheel) = refl
name_again (line.Cover now cpu wheel shown) = refl
name_again (line.Refused now cpu place number) = refl
name_again (line.RefusedQueued now cpu place number holder) = refl
name_again (line.Left timer cpu class wheel) = refl
name_again (line.End now) = refl
name_again (line.Why steps cpu timer shown) = refl
name_again (line.Yes steps) = refl
name_again (line.No index) = refl
name_again (line.Device now until) = refl

reply_again : (shown : ShownReply) → FitsReply shown → reply_of (reply_first shown ∷ reply_later shown) ≡ shown
unfolding reply_of
reply_again reply.Done h = refl
reply_again (reply.Mark number) h = λ i. reply.Mark (count_again number h i)
reply_again (reply.Again class wheel) h = λ i. reply.Again (class_again class i) (time_again wheel h i)
reply_again (reply.Skip cpu) h = λ i. reply.Skip (cpu_again cpu h i)

cover_again : (shown : ShownCover) → FitsCover shown → cover_read (cover_first shown ∷ cover_later shown) ≡ shown
unfolding cover_read
cover_again (cover.Migrator level place cpu) h = λ i. cover.Migrator (level_again level place h.0 i) (place_again level place h.0 i) (cpu_again cpu h.1 i)
cover_again (cover.Wake cpu at) h = λ i. cover.Wake (cpu_again cpu h.0 i) (time_again at h.1 i)

reason_again : (shown : ShownReason) → FitsReason shown → reason_of (reason_first shown ∷ reason_later shown) ≡ shown
unfolding reason_of
reason_again (reason.Held level place cpu) h = λ i. reason.Held (level_again level place h.0 i) (place_again level place h.0 i) (cpu_again cpu h.1 i)
reason_again (reason.Woken cpu at) h = λ i. reason.Woken (cpu_again cpu h.0 i) (time_again at h.1 i)
reason_again (reason.Carried number) h = λ i. reason.Carried (byte_again number h i)
reason_again reason.Nothing h = refl

pub line_again : (l : Line) → FitsWidths l → line_for (name l) (later_words l) ≡ l
unfolding line_for refusal_of FitsWidths
line_again (line.Arm now cpu timer class wheel) h =
    λ i. line.Arm (number_again now h.0 i) (cpu_again cpu h.1 i) (timer_again timer h.2 i) (class_again class i) (time_again wheel h.3 i)
line_again (line.Run now runner timer home wheel shown) h =
    λ i. line.Run (number_again now h.0 i) (cpu_again runner h.1 i) (timer_again timer h.2 i) (cpu_again home h.3 i) (time_again wheel h.4 i) (reply_again shown h.5 i)
line_again (line.Cancel now cpu timer home) h = λ i. line.Cancel (number_again now h.0 i) (cpu_again cpu h.1 i) (timer_again timer h.2 i) (cpu_again home h.3 i)
line_again (line.NotQueued now cpu timer) h = λ i. line.NotQueued (number_again now h.0 i) (cpu_again cpu h.1 i) (timer_again timer h.2 i)
line_again (line.Idle now cpu until) h = λ i. line.Idle (number_again now h.0 i) (cpu_again cpu h.1 i) (time_again until h.2 i)
line_again (line.Stay now cpu first) h = λ i. line.Stay (number_again now h.0 i) (cpu_again cpu h.1 i) (time_again first h.2 i)
line_again (line.Wake now cpu) h = λ i. line.Wake (number_again now h.0 i) (cpu_again cpu h.1 i)
line_again (line.Offline now cpu) h = λ i. line.Offline (number_again now h.0 i) (cpu_again cpu h.1 i)
line_again (line.Handed now cpu to) h = λ i. line.Handed (number_again now h.0 i) (cpu_again cpu h.1 i) (cpu_again to h.2 i)
line_again (line.Online now cpu) h = λ i. line.Online (number_again now h.0 i) (cpu_again cpu h.1 i)
line_again (line.Control now cpu) h = λ i. line.Control (number_again now h.0 i) (cpu_again cpu h.1 i)
line_again (line.Moved now timer from to wheel) h =
    λ i. line.Moved (number_again now h.0 i) (timer_again timer h.1 i) (cpu_again from h.2 i) (cpu_again to h.3 i) (time_again wheel h.4 i)
line_again (line.Cover now cpu wheel shown) h = λ i. line.Cover (number_again now h.0 i) (cpu_again cpu h.1 i) (time_again wheel h.2 i) (cover_again shown h.3 i)
line_again (line.Refused now cpu place number) h = λ i. line.Refused (number_again now h.0 i) (cpu_again cpu h.1 i) (count_again place h.2 i) (byte_again number h.3 i)
line_again (line.RefusedQueued now cpu place number holder) h =
    λ i. line.RefusedQueued (number_again now h.0 i) (cpu_again cpu h.1 i) (count_again place h.2 i) (byte_again number h.3 i) (cpu_again holder h.4 i)
line_again (line.Left timer cpu class wheel) h = λ i. line.Left (timer_again timer h.0 i) (cpu_again cpu h.1 i) (class_again class i) (time_again wheel h.2 i)
line_again (line.End now) h = λ i. line.End (number_again now h i)
line_again (line.Why steps cpu timer shown) h = λ i. line.Why (count_again steps h.0 i) (cpu_again cpu h.1 i) (timer_again timer h.2 i) (reason_again shown h.3 i)
line_again (line.Yes steps) h = λ i. line.Yes (count_again steps h i)
line_again (line.No index) h = λ i. line.No (count_again index h i)
line_again (line.Device now until) h = λ i. line.Device (number_again now h.0 i) (time_again until h.1 i)
