-- each rest of a trace that fits is answered
use Rattle.std.proofs.Common.{◌≡◌, ℕ, Bool, true, false, List, [], ◌∷◌, Option, Some, None}
use Rattle.std.proofs.Common.{Result, Ok, Err, refl, sym, subst, true≢false}
use Rattle.std.proofs.lemmas.Option.{none-some}
use Rattle.tm_base.specs.declared.names.CpuId.{CpuId}
use Rattle.linux_lines.specs.declared.events.Happening.{Happening}
use Rattle.linux_lines.specs.declared.events.Line.{Line}
use Rattle.linux_lines.specs.declared.events.Line.TheVariants as lines
use Rattle.linux_lines.specs.declared.faults.LineFault.{LineFault}
use Rattle.linux_lines.specs.Lines.{line_of}
use Rattle.linux_seen.specs.declared.rules.Rule.{Rule}
use Rattle.linux_seen.specs.Seen.{Sight, timed}
use Rattle.linux_seen.specs.Rests.{rest_fits}
use Rattle.linux_seen.specs.Counts.{counted}
use Rattle.linux_told.specs.Told.{told_fits}
use Rattle.linux_told.specs.Agrees.{AnswersHold}
use Rattle.linux_rules.specs.declared.judge.Course.{Course}
use Rattle.linux_rules.specs.declared.judge.Misfit.{Misfit}
use Rattle.linux_rules.specs.declared.judge.Verdict.{Verdict}
use Rattle.linux_rules.specs.Judge.{EachFits, fault_of, learned, line_misfit, misfit_by}
use Rattle.linux_rules.specs.Judge.{rest_by, said_after, said_verdict, stuck_misfit}
use Rattle.linux_rules.specs.Judge.{seen_after, text_after, text_verdict, told_misfit, verdict_of}
use Rattle.linux_rules.specs.Judge.{IsFitting, first_misfit, judged, timer_misfit}
use Rattle.linux_timers.specs.Rule.{timer_fault}
use Rattle.linux_rules.specs.Agrees.{RestAnswers, RestsAnswer}
use Rattle.linux_rules.proofs.Verdicts.{fits_each}

-- ---- each rest of a trace

verdict_none : (o : Option Misfit) → verdict_of o ≡ None → o ≡ None
verdict_none None is = refl
verdict_none (Some misfit) is = absurd (none-some _ (sym is))

-- the first misfit is none where both are
first_none : (a b : Option Misfit) → first_misfit a b ≡ None → a ≡ None
first_none None b is = refl
first_none (Some misfit) b is = absurd (none-some _ (sym is))

rest_none : (line : ℕ) (s : Sight) (fits told : Bool) → rest_by line s fits told ≡ None →
    told ≡ true
rest_none line s true true is = refl
rest_none line s true false is = absurd (none-some _ (sym is))
rest_none line s false told is = absurd (none-some _ (sym is))

misfit_none : (rule : Option Rule) (stuck : Option Misfit) (line : ℕ) (cpu : CpuId) (h : Happening)
    (s : Sight) → misfit_by rule stuck line cpu h s ≡ None → told_fits s ≡ true
misfit_none (Some rule) stuck line cpu h s is = absurd (none-some _ (sym is))
misfit_none None (Some misfit) line cpu h s is = absurd (none-some _ (sym is))
misfit_none None None line cpu h s is = rest_none line s (rest_fits s) (told_fits s) is

told_line : (s : Sight) (line : ℕ) (cpu : CpuId) (h : Happening) →
    told_misfit s line cpu h ≡ None → told_fits (learned s line cpu h) ≡ true
unfolding told_misfit
told_line s line cpu h is =
    misfit_none (fault_of s cpu h) (stuck_misfit (learned s line cpu h) line h) line cpu h
    (learned s line cpu h) is

module _ (hold : AnswersHold) where
  by_line : (k : Course) (r : Result Line LineFault) → said_verdict k r ≡ None →
      RestAnswers r (said_after k r).seen
  unfolding line_misfit seen_after
  by_line k (Err fault) is = tt
  by_line k (Ok lines.Remark) is = λ rest. absurd (true≢false (sym rest))
  by_line k (Ok lines.Loss) is = λ rest. absurd (true≢false (sym rest))
  by_line k (Ok (lines.Foreign cpu odd)) is = λ rest. absurd (true≢false (sym rest))
  by_line k (Ok (lines.OfTimer cpu at e)) is = λ rest. absurd (true≢false (sym rest))
  by_line k (Ok (lines.Told cpu at h)) is =
      hold (learned (timed k.seen at) (counted k.tally.lines) cpu h)
      (told_line (timed k.seen at) (counted k.tally.lines) cpu h
      (first_none (told_misfit (timed k.seen at) (counted k.tally.lines) cpu h)
      (timer_misfit (counted k.tally.lines) (timer_fault k.timers (lines.Told cpu at h)))
      (verdict_none
      (first_misfit (told_misfit (timed k.seen at) (counted k.tally.lines) cpu h)
      (timer_misfit (counted k.tally.lines) (timer_fault k.timers (lines.Told cpu at h)))) is)))

  by_text : (k : Course) (text : List ℕ) → text_verdict k text ≡ None →
      RestAnswers (line_of text) (text_after k text).seen
  unfolding text_verdict text_after
  by_text k text is = by_line k (line_of text) is

  rests_answer : (k : Course) (texts : List (List ℕ)) → EachFits k texts → RestsAnswer k texts
  rests_answer k [] fits = tt
  rests_answer k (t ∷ ts) fits = (by_text k t fits.0, rests_answer (text_after k t) ts fits.1)

  pub answers_law : (k : Course) (texts : List (List ℕ)) (v : Verdict) → v ≡ judged k texts →
      IsFitting v → RestsAnswer k texts
  answers_law k texts v is fits =
      rests_answer k texts (fits_each k texts (subst IsFitting is fits))
