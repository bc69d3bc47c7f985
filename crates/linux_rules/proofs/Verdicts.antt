-- what a verdict says of each line
use Rattle.std.proofs.Common.{◌≡◌, ◌⊎◌, ◌↔◌, ℕ, List, [], ◌∷◌, Option, Some, None, Result, Ok, Err}
use Rattle.std.proofs.Common.{refl, sym, subst, inl, inr}
use Rattle.linux_lines.specs.declared.faults.LineFault.{LineFault}
use Rattle.linux_lines.specs.declared.events.Line.{Line}
use Rattle.linux_lines.specs.Lines.{line_of}
use Rattle.linux_rules.specs.declared.judge.Course.{Course}
use Rattle.linux_rules.specs.declared.judge.Misfit.{Misfit}
use Rattle.linux_rules.specs.declared.judge.Verdict.{Verdict}
use Rattle.linux_rules.specs.Judge.{EachFits, IsFirstAt, IsFitting, judged, line_misfit}
use Rattle.linux_rules.specs.Judge.{first_misfit, timer_misfit}
use Rattle.linux_timers.specs.Rule.{timer_fault}
use Rattle.linux_seen.specs.Counts.{counted}
use Rattle.linux_rules.specs.Judge.{said_verdict, text_after, text_verdict, verdict_of}
use Rattle.linux_rules.specs.Judge.{verdict_or}

-- no line decides that all fits
abbrev NoFit : Option Verdict → Type 0
NoFit None = Unit {0}
NoFit (Some verdict) = IsFitting verdict → ⊥

misfit_no_fit : (m : Option Misfit) → NoFit (verdict_of m)
misfit_no_fit None = tt
misfit_no_fit (Some misfit) = λ h. h

said_no_fit : (k : Course) (r : Result Line LineFault) → NoFit (said_verdict k r)
said_no_fit k (Err fault) = λ h. h
said_no_fit k (Ok said) =
    misfit_no_fit
    (first_misfit (line_misfit k.seen (counted k.tally.lines) said)
    (timer_misfit (counted k.tally.lines) (timer_fault k.timers said)))

text_no_fit : (k : Course) (text : List ℕ) → NoFit (text_verdict k text)
unfolding text_verdict
text_no_fit k text = said_no_fit k (line_of text)

decide : (v : Option Verdict) (later : Verdict) (P : Type 0) → NoFit v → (IsFitting later → P)
    → IsFitting (verdict_or v later) → (v ≡ None) × P
decide None later P n f h = (refl, f h)
decide (Some w) later P n f h = absurd (n h)

pub fits_each : (k : Course) (texts : List (List ℕ)) → IsFitting (judged k texts) → EachFits k texts
fits_each k [] h = tt
fits_each k (t ∷ ts) h =
    decide (text_verdict k t) (judged (text_after k t) ts) (EachFits (text_after k t) ts)
    (text_no_fit k t) (fits_each (text_after k t) ts) h

each_fits : (k : Course) (texts : List (List ℕ)) → EachFits k texts → IsFitting (judged k texts)
each_fits k [] h = tt
each_fits k (t ∷ ts) h =
    subst (λ (v : Option Verdict). IsFitting (verdict_or v (judged (text_after k t) ts)))
    (sym h.0) (each_fits (text_after k t) ts h.1)

choose : (v : Option Verdict) (later : Verdict) (P : Verdict → Type 0)
    → ((IsFitting later → ⊥) → P later) → (IsFitting (verdict_or v later) → ⊥)
    → (v ≡ Some (verdict_or v later)) ⊎ ((v ≡ None) × P (verdict_or v later))
choose None later P f n = inr (refl, f n)
choose (Some w) later P f n = inl refl

first_at : (k : Course) (texts : List (List ℕ)) → (IsFitting (judged k texts) → ⊥)
    → IsFirstAt k texts (judged k texts)
first_at k [] n = n tt
first_at k (t ∷ ts) n =
    choose (text_verdict k t) (judged (text_after k t) ts) (IsFirstAt (text_after k t) ts)
    (first_at (text_after k t) ts) n

pub fits_law : (k : Course) (texts : List (List ℕ)) (v : Verdict) → v ≡ judged k texts
    → IsFitting v ↔ EachFits k texts
fits_law k texts v e = (
  λ h. fits_each k texts (subst IsFitting e h),
  λ h. subst IsFitting (sym e) (each_fits k texts h),
)

pub first_law : (k : Course) (texts : List (List ℕ)) (v : Verdict) → v ≡ judged k texts
    → (IsFitting v → ⊥) → IsFirstAt k texts v
first_law k texts v e n =
    subst (λ (w : Verdict). IsFirstAt k texts w) (sym e)
    (first_at k texts (λ h. n (subst IsFitting (sym e) h)))
