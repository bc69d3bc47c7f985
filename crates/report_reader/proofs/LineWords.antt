-- the words of a line, and that their spaced text is the line's
use Rattle.std.proofs.Common.{◌≡◌, ℕ, List, [], ◌∷◌, ◌++◌, refl, sym, ap, ◌∙◌, append_assoc}
use Rattle.std.specs.Prelude.{codes}
use Rattle.std.specs.Fmt.{decimal}
use Rattle.text_words.specs.Words.{spaced}
use Rattle.tm_base.specs.Classes.{class_text}
use Rattle.tm_report.specs.Words.{number_word, class_word, group_text}
use Rattle.tm_report.specs.Lines.{words_text}
use Rattle.tm_report.specs.Replies.{reply_words}
use Rattle.tm_report.specs.Covers.{cover_words}
use Rattle.tm_report.specs.Reasons.{reason_words}
use Rattle.tm_report.specs.declared.lines.Line.{Line}
use Rattle.tm_report.specs.declared.lines.Line.TheVariants as line
use Rattle.tm_report.specs.declared.lines.ShownReply.{ShownReply}
use Rattle.tm_report.specs.declared.lines.ShownReply.TheVariants as reply
use Rattle.tm_report.specs.declared.lines.ShownCover.{ShownCover}
use Rattle.tm_report.specs.declared.lines.ShownCover.TheVariants as cover
use Rattle.tm_report.specs.declared.lines.ShownReason.{ShownReason}
use Rattle.tm_report.specs.declared.lines.ShownReason.TheVariants as reason
use Rattle.report_reader.proofs.Times.{time_text, time_spaced}

-- a text, and words behind it, each with the space before it
abbrev pub onto : List ℕ → List (List ℕ) → List ℕ
onto text [] = text
onto text (w ∷ ws) = onto (text ++ 32 ∷ w) ws

joined : (first w : List ℕ) (ws : List (List ℕ)) → spaced ((first ++ 32 ∷ w) ∷ ws) ≡ first ++ 32 ∷ spaced (w ∷ ws)
joined first w [] = refl
joined first w (v ∷ vs) = append_assoc first (32 ∷ w) (32 ∷ spaced (v ∷ vs))

pub onto_spaced : (first : List ℕ) (ws : List (List ℕ)) → onto first ws ≡ spaced (first ∷ ws)
onto_spaced first [] = refl
onto_spaced first (w ∷ ws) = onto_spaced (first ++ 32 ∷ w) ws ∙ joined first w ws

onto_behind : (text w : List ℕ) (ws : List (List ℕ)) → text ++ onto (32 ∷ w) ws ≡ onto (text ++ 32 ∷ w) ws
onto_behind text w [] = refl
onto_behind text w (v ∷ vs) = onto_behind text (w ++ 32 ∷ v) vs ∙ ap (λ (x : List ℕ). onto x vs) (sym (append_assoc text (32 ∷ w) (32 ∷ v)))

-- ---- the words

abbrev pub reply_first : ShownReply → List ℕ
reply_first reply.Done = codes "done"
reply_first (reply.Mark number) = codes "mark"
reply_first (reply.Again class wheel) = codes "again"
reply_first (reply.Skip cpu) = codes "skip"

abbrev pub reply_later : ShownReply → List (List ℕ)
reply_later reply.Done = []
reply_later (reply.Mark number) = decimal number ∷ []
reply_later (reply.Again class wheel) = class_text class ∷ time_text wheel ∷ []
reply_later (reply.Skip cpu) = decimal cpu.0 ∷ []

abbrev pub cover_first : ShownCover → List ℕ
cover_first (cover.Migrator level place cpu) = codes "migrator"
cover_first (cover.Wake cpu at) = codes "wake"

abbrev pub cover_later : ShownCover → List (List ℕ)
cover_later (cover.Migrator level place cpu) = group_text level place ∷ decimal cpu.0 ∷ []
cover_later (cover.Wake cpu at) = decimal cpu.0 ∷ time_text at ∷ []

abbrev pub reason_first : ShownReason → List ℕ
reason_first (reason.Held level place cpu) = codes "held"
reason_first (reason.Woken cpu at) = codes "woken"
reason_first (reason.Carried number) = codes "carried"
reason_first reason.Nothing = codes "none"

abbrev pub reason_later : ShownReason → List (List ℕ)
reason_later (reason.Held level place cpu) = group_text level place ∷ decimal cpu.0 ∷ []
reason_later (reason.Woken cpu at) = decimal cpu.0 ∷ time_text at ∷ []
reason_later (reason.Carried number) = decimal number ∷ []
reason_later reason.Nothing = []

-- the first word of a line
abbrev pub first_word : Line → List ℕ
first_word (line.Arm now cpu timer class wheel) = codes "arm"
first_word (line.Run now runner timer home wheel shown) = codes "run"
first_word (line.Cancel now cpu timer home) = codes "cancel"
first_word (line.NotQueued now cpu timer) = codes "none"
first_word (line.Idle now cpu until) = codes "idle"
first_word (line.Stay now cpu first) = codes "stay"
first_word (line.Wake now cpu) = codes "wake"
first_word (line.Offline now cpu) = codes "offline"
first_word (line.Handed now cpu to) = codes "handed"
first_word (line.Online now cpu) = codes "online"
first_word (line.Control now cpu) = codes "control"
first_word (line.Moved now timer from to wheel) = codes "moved"
first_word (line.Cover now cpu wheel shown) = codes "cover"
first_word (line.Refused now cpu place number) = codes "refused"
first_word (line.RefusedQueued now cpu place number holder) = codes "refused"
first_word (line.Left timer cpu class wheel) = codes "left"
first_word (line.End now) = codes "end"
first_word (line.Why steps cpu timer shown) = codes "why"
first_word (line.Yes steps) = codes "yes"
first_word (line.No index) = codes "no"
first_word (line.Device now until) = codes "device"

-- the words behind it
abbrev pub later_words : Line → List (List ℕ)
later_words (line.Arm now cpu timer class wheel) = decimal now ∷ decimal cpu.0 ∷ decimal timer.0 ∷ class_text class ∷ time_text wheel ∷ []
later_words (line.Run now runner timer home wheel shown) = decimal now ∷ decimal runner.0 ∷ decimal timer.0 ∷ decimal home.0 ∷ time_text wheel ∷ reply_first shown ∷ reply_later shown
later_words (line.Cancel now cpu timer home) = decimal now ∷ decimal cpu.0 ∷ decimal timer.0 ∷ decimal home.0 ∷ []
later_words (line.NotQueued now cpu timer) = decimal now ∷ decimal cpu.0 ∷ decimal timer.0 ∷ []
later_words (line.Idle now cpu until) = decimal now ∷ decimal cpu.0 ∷ time_text until ∷ []
later_words (line.Stay now cpu first) = decimal now ∷ decimal cpu.0 ∷ time_text first ∷ []
later_words (line.Wake now cpu) = decimal now ∷ decimal cpu.0 ∷ []
later_words (line.Offline now cpu) = decimal now ∷ decimal cpu.0 ∷ []
later_words (line.Handed now cpu to) = decimal now ∷ decimal cpu.0 ∷ decimal to.0 ∷ []
later_words (line.Online now cpu) = decimal now ∷ decimal cpu.0 ∷ []
later_words (line.Control now cpu) = decimal now ∷ decimal cpu.0 ∷ []
later_words (line.Moved now timer from to wheel) = decimal now ∷ decimal timer.0 ∷ decimal from.0 ∷ decimal to.0 ∷ time_text wheel ∷ []
later_words (line.Cover now cpu wheel shown) = decimal now ∷ decimal cpu.0 ∷ time_text wheel ∷ cover_first shown ∷ cover_later shown
later_words (line.Refused now cpu place number) = decimal now ∷ decimal cpu.0 ∷ decimal place ∷ decimal number ∷ []
later_words (line.RefusedQueued now cpu place number holder) = decimal now ∷ decimal cpu.0 ∷ decimal place ∷ decimal number ∷ decimal holder.0 ∷ []
later_words (line.Left timer cpu class wheel) = decimal timer.0 ∷ decimal cpu.0 ∷ class_text class ∷ time_text wheel ∷ []
later_words (line.End now) = decimal now ∷ []
later_words (line.Why steps cpu timer shown) = decimal steps ∷ decimal cpu.0 ∷ decimal timer.0 ∷ reason_first shown ∷ reason_later shown
later_words (line.Yes steps) = decimal steps ∷ []
later_words (line.No index) = decimal index ∷ []
later_words (line.Device now until) = decimal now ∷ time_text until ∷ []

-- ---- spelling

reply_spelled : (shown : ShownReply) → reply_words shown ≡ onto (32 ∷ reply_first shown) (reply_later shown)
reply_spelled reply.Done = refl
reply_spelled (reply.Mark number) = refl
reply_spelled (reply.Again class wheel) = λ i. codes " again" ++ class_word class ++ time_spaced wheel i
reply_spelled (reply.Skip cpu) = refl

cover_spelled : (shown : ShownCover) → cover_words shown ≡ onto (32 ∷ cover_first shown) (cover_later shown)
cover_spelled (cover.Migrator level place cpu) = refl
cover_spelled (cover.Wake cpu at) = λ i. codes " wake" ++ number_word cpu.0 ++ time_spaced at i

reason_spelled : (shown : ShownReason) → reason_words shown ≡ onto (32 ∷ reason_first shown) (reason_later shown)
reason_spelled (reason.Held level place cpu) = refl
reason_spelled (reason.Woken cpu at) = λ i. codes " woken" ++ number_word cpu.0 ++ time_spaced at i
reason_spelled (reason.Carried number) = refl
reason_spelled reason.Nothing = refl

line_spelled : (l : Line) → words_text l ≡ onto (first_word l) (later_words l)
unfolding words_text
line_spelled (line.Arm now cpu timer class wheel) =
    λ i. codes "arm" ++ number_word now ++ number_word cpu.0 ++ number_word timer.0 ++ class_word class ++ time_spaced wheel i
line_spelled (line.Run now runner timer home wheel shown) =
    (λ i. codes "run" ++ number_word now ++ number_word runner.0 ++ number_word timer.0 ++ number_word home.0 ++ time_spaced wheel i ++ reply_spelled shown i)
    ∙ onto_behind (codes "run" ++ number_word now ++ number_word runner.0 ++ number_word timer.0 ++ number_word home.0 ++ 32 ∷ time_text wheel) (reply_first shown) (reply_later shown)
line_spelled (line.Cancel now cpu timer home) = refl
line_spelled (line.NotQueued now cpu timer) = refl
line_spelled (line.Idle now cpu until) = λ i. codes "idle" ++ number_word now ++ number_word cpu.0 ++ time_spaced until i
line_spelled (line.Stay now cpu first) = λ i. codes "stay" ++ number_word now ++ number_word cpu.0 ++ time_spaced first i
line_spelled (line.Wake now cpu) = refl
line_spelled (line.Offline now cpu) = refl
line_spelled (line.Handed now cpu to) = refl
line_spelled (line.Online now cpu) = refl
line_spelled (line.Control now cpu) = refl
line_spelled (line.Moved now timer from to wheel) =
    λ i. codes "moved" ++ number_word now ++ number_word timer.0 ++ number_word from.0 ++ number_word to.0 ++ time_spaced wheel i
line_spelled (line.Cover now cpu wheel shown) =
    (λ i. codes "cover" ++ number_word now ++ number_word cpu.0 ++ time_spaced wheel i ++ cover_spelled shown i)
    ∙ onto_behind (codes "cover" ++ number_word now ++ number_word cpu.0 ++ 32 ∷ time_text wheel) (cover_first shown) (cover_later shown)
line_spelled (line.Refused now cpu place number) = refl
line_spelled (line.RefusedQueued now cpu place number holder) = refl
line_spelled (line.Left timer cpu class wheel) =
    λ i. codes "left" ++ number_word timer.0 ++ number_word cpu.0 ++ class_word class ++ time_spaced wheel i
line_spelled (line.End now) = refl
line_spelled (line.Why steps cpu timer shown) =
    (λ i. codes "why" ++ number_word steps ++ number_word cpu.0 ++ number_word timer.0 ++ reason_spelled shown i)
    ∙ onto_behind (codes "why" ++ number_word steps ++ number_word cpu.0 ++ number_word timer.0) (reason_first shown) (reason_later shown)
line_spelled (line.Yes steps) = refl
line_spelled (line.No index) = refl
line_spelled (line.Device now until) = λ i. codes "device" ++ number_word now ++ time_spaced until i

-- a line is its words, spaced
pub line_spaced : (l : Line) → words_text l ≡ spaced (first_word l ∷ later_words l)
line_spaced l = line_spelled l ∙ onto_spaced (first_word l) (later_words l)
