-- what a verdict says of each line
use Rattle.std.proofs.Common.{◌≡◌, ◌↔◌, ℕ, Bool, true, false, List, [], ◌∷◌, Option, Some, None}
use Rattle.std.proofs.Common.{refl, sym, subst, inl, inr}
use Rattle.std.specs.Prelude.{if◌then◌else◌}
use Rattle.tm_report.specs.declared.lines.Line.{Line}
use Rattle.tm_script.specs.declared.syntax.Script.{Script}
use Rattle.view_story.specs.declared.faults.Fault.{Fault}
use Rattle.view_story.specs.declared.faults.Fault.TheVariants as faults
use Rattle.view_story.specs.declared.judge.Verdict.{Verdict}
use Rattle.view_story.specs.declared.judge.Verdict.TheVariants as verdicts
use Rattle.view_story.specs.Sight.{StorySight}
use Rattle.view_story.specs.Seen.{up}
use Rattle.view_story.specs.Judge.{EachStoryLineFits, IsFirstLineAt, IsFirstFault, IsFittingStory, is_over}
use Rattle.view_story.specs.Judge.{story_judged, line_after, line_fault, story_verdict_or}

decide : (f : Option Fault) (line : ℕ) (later : Verdict) (P : Type 0) → (IsFittingStory later → P)
    → IsFittingStory (story_verdict_or f line later) → (f ≡ None) × P
decide None line later P g h = (refl, g h)
decide (Some fault) line later P g h = absurd h

over_fits : (b : Bool) (count runs : ℕ)
    → IsFittingStory (if b then verdicts.Fits count runs else verdicts.Misfit (up count) faults.Unended)
    → b ≡ true
over_fits true count runs h = refl
over_fits false count runs h = absurd h

fits_each : (script : Script) (s : StorySight) (count : ℕ) (ls : List Line)
    → IsFittingStory (story_judged script s count ls) → EachStoryLineFits script s count ls
fits_each script s count [] h = over_fits (is_over s.point.stage) count s.point.runs h
fits_each script s count (l ∷ ls) h =
    decide (line_fault script s l) (up count)
    (story_judged script (line_after script s l (up count)) (up count) ls)
    (EachStoryLineFits script (line_after script s l (up count)) (up count) ls)
    (fits_each script (line_after script s l (up count)) (up count) ls) h

each_fits : (script : Script) (s : StorySight) (count : ℕ) (ls : List Line)
    → EachStoryLineFits script s count ls → IsFittingStory (story_judged script s count ls)
each_fits script s count [] h =
    subst
    (λ (b : Bool). IsFittingStory (if b then verdicts.Fits count s.point.runs
    else verdicts.Misfit (up count) faults.Unended)) (sym h) tt
each_fits script s count (l ∷ ls) h =
    subst
    (λ (f : Option Fault). IsFittingStory (story_verdict_or f (up count)
    (story_judged script (line_after script s l (up count)) (up count) ls))) (sym h.0)
    (each_fits script (line_after script s l (up count)) (up count) ls h.1)

-- the first fault of a verdict behind so many lines
abbrev FirstOf : Script → StorySight → ℕ → List Line → Verdict → Type 0
FirstOf script s count ls (verdicts.Fits lines runs) = Unit {0}
FirstOf script s count ls (verdicts.Misfit line fault) = IsFirstLineAt script s count ls line fault

over_first : (script : Script) (s : StorySight) (count : ℕ) (b : Bool) → is_over s.point.stage ≡ b
    → FirstOf script s count []
    (if b then verdicts.Fits count s.point.runs else verdicts.Misfit (up count) faults.Unended)
over_first script s count true is = tt
over_first script s count false is = (is, refl, refl)

later_first : (script : Script) (s : StorySight) (count : ℕ) (l : Line) (ls : List Line) (v : Verdict)
    → line_fault script s l ≡ None
    → FirstOf script (line_after script s l (up count)) (up count) ls v
    → FirstOf script s count (l ∷ ls) v
later_first script s count l ls (verdicts.Fits lines runs) is h = tt
later_first script s count l ls (verdicts.Misfit line fault) is h = inr (is, h)

choose : (script : Script) (s : StorySight) (count : ℕ) (l : Line) (ls : List Line) (f : Option Fault)
    (v : Verdict) → line_fault script s l ≡ f
    → FirstOf script (line_after script s l (up count)) (up count) ls v
    → FirstOf script s count (l ∷ ls) (story_verdict_or f (up count) v)
choose script s count l ls None v is h = later_first script s count l ls v is h
choose script s count l ls (Some fault) v is h = inl (is, refl)

first_at : (script : Script) (s : StorySight) (count : ℕ) (ls : List Line)
    → FirstOf script s count ls (story_judged script s count ls)
first_at script s count [] = over_first script s count (is_over s.point.stage) refl
first_at script s count (l ∷ ls) =
    choose script s count l ls (line_fault script s l)
    (story_judged script (line_after script s l (up count)) (up count) ls) refl
    (first_at script (line_after script s l (up count)) (up count) ls)

as_first : (script : Script) (s : StorySight) (ls : List Line) (v : Verdict) → FirstOf script s 0 ls v
    → IsFirstFault script s ls v
as_first script s ls (verdicts.Fits lines runs) h = tt
as_first script s ls (verdicts.Misfit line fault) h = h

pub fits_law : (script : Script) (s : StorySight) (ls : List Line) (v : Verdict)
    → v ≡ story_judged script s 0 ls → IsFittingStory v ↔ EachStoryLineFits script s 0 ls
fits_law script s ls v e = (
  λ h. fits_each script s 0 ls (subst IsFittingStory e h),
  λ h. subst IsFittingStory (sym e) (each_fits script s 0 ls h),
)

pub first_law : (script : Script) (s : StorySight) (ls : List Line) (v : Verdict)
    → v ≡ story_judged script s 0 ls → IsFirstFault script s ls v
first_law script s ls v e =
    subst (λ (w : Verdict). IsFirstFault script s ls w) (sym e)
    (as_first script s ls (story_judged script s 0 ls) (first_at script s 0 ls))
