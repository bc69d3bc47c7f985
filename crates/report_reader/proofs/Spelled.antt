-- the words of a line have no space and no line feed, so the line is cut into them
use Rattle.std.proofs.Common.{◌≡◌, ℕ, true, List, [], ◌∷◌, refl, ap, ◌∙◌, arith}
use Rattle.std.specs.Fmt.{decimal}
use Rattle.std.specs.List.{AllByRecursion}
use Rattle.std.proofs.lemmas.Bool.{and_from}
use Rattle.std.proofs.lemmas.List.Folds.{list_all-append}
use Rattle.text_words.specs.Words.{words_of, spaced}
use Rattle.text_words.proofs.Cuts.{is_clear, AreClear, words_again}
use Rattle.tm_base.specs.declared.names.CpuId.{CpuId}
use Rattle.tm_base.specs.declared.names.TimerId.{TimerId}
use Rattle.tm_report.specs.Lines.{words_text}
use Rattle.tm_report.specs.declared.lines.Line.{Line}
use Rattle.tm_report.specs.declared.lines.Line.TheVariants as line
use Rattle.tm_report.specs.declared.lines.ShownReply.{ShownReply}
use Rattle.tm_report.specs.declared.lines.ShownReply.TheVariants as reply
use Rattle.tm_report.specs.declared.lines.ShownCover.{ShownCover}
use Rattle.tm_report.specs.declared.lines.ShownCover.TheVariants as cover
use Rattle.tm_report.specs.declared.lines.ShownReason.{ShownReason}
use Rattle.tm_report.specs.declared.lines.ShownReason.TheVariants as reason
use Rattle.report_reader.specs.Widths.{FitsWidths, FitsCount, FitsByte, FitsCpu, FitsTimer, FitsReply, FitsCover, FitsReason}
use Rattle.report_reader.proofs.Times.{IsWord, number_word, time_is_word, class_is_word, group_is_word}
use Rattle.report_reader.proofs.LineWords.{first_word, later_words, line_spaced, reply_first, reply_later, cover_first, cover_later, reason_first, reason_later}

abbrev pub AreWords : List (List ℕ) → Type 0
AreWords ws = AllByRecursion IsWord ws

count_word : (n : ℕ) → FitsCount n → IsWord (decimal n)
count_word n h = number_word n (omega (arith, h))

byte_word : (n : ℕ) → FitsByte n → IsWord (decimal n)
byte_word n h = number_word n (omega (arith, h))

cpu_word : (cpu : CpuId) → FitsCpu cpu → IsWord (decimal cpu.0)
cpu_word cpu h = number_word cpu.0 (omega (arith, h))

timer_word : (timer : TimerId) → FitsTimer timer → IsWord (decimal timer.0)
timer_word timer h = number_word timer.0 (omega (arith, h))

reply_words_are : (shown : ShownReply) → FitsReply shown → AreWords (reply_first shown ∷ reply_later shown)
reply_words_are reply.Done h = ((refl, refl), tt)
reply_words_are (reply.Mark number) h = ((refl, refl), (count_word number h, tt))
reply_words_are (reply.Again class wheel) h = ((refl, refl), (class_is_word class, (time_is_word wheel h, tt)))
reply_words_are (reply.Skip cpu) h = ((refl, refl), (cpu_word cpu h, tt))

cover_words_are : (shown : ShownCover) → FitsCover shown → AreWords (cover_first shown ∷ cover_later shown)
cover_words_are (cover.Migrator level place cpu) h = ((refl, refl), (group_is_word level place h.0, (cpu_word cpu h.1, tt)))
cover_words_are (cover.Wake cpu at) h = ((refl, refl), (cpu_word cpu h.0, (time_is_word at h.1, tt)))

reason_words_are : (shown : ShownReason) → FitsReason shown → AreWords (reason_first shown ∷ reason_later shown)
reason_words_are (reason.Held level place cpu) h = ((refl, refl), (group_is_word level place h.0, (cpu_word cpu h.1, tt)))
reason_words_are (reason.Woken cpu at) h = ((refl, refl), (cpu_word cpu h.0, (time_is_word at h.1, tt)))
reason_words_are (reason.Carried number) h = ((refl, refl), (byte_word number h, tt))
reason_words_are reason.Nothing h = ((refl, refl), tt)

words_are : (l : Line) → FitsWidths l → AreWords (first_word l ∷ later_words l)
unfolding FitsWidths
words_are (line.Arm now cpu timer class wheel) h = ((refl, refl), (number_word now h.0, (cpu_word cpu h.1, (timer_word timer h.2, (class_is_word class, (time_is_word wheel h.3, tt))))))
words_are (line.Run now runner timer home wheel shown) h =
    ((refl, refl), (number_word now h.0, (cpu_word runner h.1, (timer_word timer h.2, (cpu_word home h.3, (time_is_word wheel h.4, reply_words_are shown h.5))))))
words_are (line.Cancel now cpu timer home) h = ((refl, refl), (number_word now h.0, (cpu_word cpu h.1, (timer_word timer h.2, (cpu_word home h.3, tt)))))
words_are (line.NotQueued now cpu timer) h = ((refl, refl), (number_word now h.0, (cpu_word cpu h.1, (timer_word timer h.2, tt))))
words_are (line.Idle now cpu until) h = ((refl, refl), (number_word now h.0, (cpu_word cpu h.1, (time_is_word until h.2, tt))))
words_are (line.Stay now cpu first) h = ((refl, refl), (number_word now h.0, (cpu_word cpu h.1, (time_is_word first h.2, tt))))
words_are (line.Wake now cpu) h = ((refl, refl), (number_word now h.0, (cpu_word cpu h.1, tt)))
words_are (line.Offline now cpu) h = ((refl, refl), (number_word now h.0, (cpu_word cpu h.1, tt)))
words_are (line.Handed now cpu to) h = ((refl, refl), (number_word now h.0, (cpu_word cpu h.1, (cpu_word to h.2, tt))))
words_are (line.Online now cpu) h = ((refl, refl), (number_word now h.0, (cpu_word cpu h.1, tt)))
words_are (line.Control now cpu) h = ((refl, refl), (number_word now h.0, (cpu_word cpu h.1, tt)))
words_are (line.Moved now timer from to wheel) h = ((refl, refl), (number_word now h.0, (timer_word timer h.1, (cpu_word from h.2, (cpu_word to h.3, (time_is_word wheel h.4, tt))))))
words_are (line.Cover now cpu wheel shown) h = ((refl, refl), (number_word now h.0, (cpu_word cpu h.1, (time_is_word wheel h.2, cover_words_are shown h.3))))
words_are (line.Refused now cpu place number) h = ((refl, refl), (number_word now h.0, (cpu_word cpu h.1, (count_word place h.2, (byte_word number h.3, tt)))))
words_are (line.RefusedQueued now cpu place number holder) h =
    ((refl, refl), (number_word now h.0, (cpu_word cpu h.1, (count_word place h.2, (byte_word number h.3, (cpu_word holder h.4, tt))))))
words_are (line.Left timer cpu class wheel) h = ((refl, refl), (timer_word timer h.0, (cpu_word cpu h.1, (class_is_word class, (time_is_word wheel h.2, tt)))))
words_are (line.End now) h = ((refl, refl), (number_word now h, tt))
words_are (line.Why steps cpu timer shown) h = ((refl, refl), (count_word steps h.0, (cpu_word cpu h.1, (timer_word timer h.2, reason_words_are shown h.3))))
words_are (line.Yes steps) h = ((refl, refl), (count_word steps h, tt))
words_are (line.No index) h = ((refl, refl), (count_word index h, tt))
words_are (line.Device now until) h = ((refl, refl), (number_word now h.0, (time_is_word until h.1, tt)))

no_space : (ws : List (List ℕ)) → AreWords ws → AreClear 32 ws
no_space [] h = tt
no_space (w ∷ ws) h = (h.0.0, no_space ws h.1)

no_line_feed : (first : List ℕ) (ws : List (List ℕ)) → AreWords (first ∷ ws) → is_clear 10 (spaced (first ∷ ws)) ≡ true
no_line_feed first [] h = h.0.1
no_line_feed first (w ∷ ws) h = rw list_all-append (and_from _ _ h.0.1 (no_line_feed w ws h.1))

-- a line is cut into its words
pub words_cut : (l : Line) → FitsWidths l → words_of (words_text l) ≡ first_word l ∷ later_words l
words_cut l h = ap words_of (line_spaced l) ∙ words_again (first_word l) (later_words l) (no_space (first_word l ∷ later_words l) (words_are l h))

-- and holds no line feed
pub line_clear : (l : Line) → FitsWidths l → is_clear 10 (words_text l) ≡ true
line_clear l h = ap (is_clear 10) (line_spaced l) ∙ no_line_feed (first_word l) (later_words l) (words_are l h)
