-- for crates above: what is told of a round, and of a moment of a run
use Rattle.std.proofs.Common.{◌≡◌, ℕ, ◌+◌, ◌<◌, List, [], ◌∷◌, ◌++◌, true, false, Option}
use Rattle.std.proofs.Common.{refl, sym, ap, subst, ◌∙◌, arith, append_assoc}
use Rattle.std.proofs.Common.{append-nil, length, take, get_or, cond}
use mir.Val.{bool_byte}
use Rattle.std.specs.Prelude.{Err, Ok, OnOk, Result, filter}
use Rattle.std.specs.FinSet.{FinSet}
use Rattle.std.specs.Ordering.{nat_cmp}
use Rattle.std.proofs.lemmas.List.{length-append, take_more}
use Rattle.std.proofs.lemmas.List.Concat.{flat_map-append}
use Rattle.std.proofs.lemmas.List.Elements.{filter-append}
use Rattle.tm_report.specs.declared.lines.Line.{Line}
use Rattle.tm_report.specs.Lines.{line_text, report_text}
use Rattle.tm_script.specs.declared.syntax.Moment.{Moment}
use Rattle.play_rules.specs.Interrupts.{Replies, having_interrupt}
use Rattle.play_rules.specs.Moments.{moment, moment_at}
use Rattle.play_rules.specs.Parts.{Progress, counted}
use Rattle.core_world.specs.World.{World}
use Rattle.run_plain.specs.run_story.Rounds.{IsRound}
use Rattle.run_plain.specs.step_play.Rules.StepRules.{step_rules}
use Rattle.run_plain.specs.run_story.Stories.{count_due, covers_of, is_plain, is_run}
use Rattle.run_plain.specs.run_story.Stories.{ops_of, runs_told}
use Rattle.run_plain.specs.Plain.{by_cpus}
use Rattle.run_moments.specs.Runs.{TellsMoment, TellsThreaded}
use Rattle.play_driver.specs.PartLeaves.{Tells}

pub one_run_of : (line : Line) → runs_told (line ∷ []) ≡ bool_byte (is_run line)
one_run_of line =
    elim (is_run line) as (λ b. length (cond b (line ∷ []) []) ≡ bool_byte b) [ true ↦ refl | false ↦ refl ]

-- a fact whatever comes of a call
pub on_ok : {X Y : Type 0} (r : Result X Y) (P : Type 0) → P → OnOk r P
on_ok (Ok x) P is = is
on_ok (Err e) P is = tt

-- one line more
pub one_line : (ls : List Line) (i : ℕ) (d : Line) → i < length ls →
    report_text (take (i + 1) ls) ≡ report_text (take i ls) ++ line_text (get_or ls i d)
one_line ls i d few =
    ap report_text (take_more ls i d few)
    ∙ flat_map-append line_text (take i ls) (get_or ls i d ∷ [])
    ∙ ap (λ x. report_text (take i ls) ++ x) (append-nil (line_text (get_or ls i d)))

pub one_run : (ls : List Line) (i : ℕ) (d : Line) → i < length ls →
    runs_told (take (i + 1) ls) ≡ runs_told (take i ls) + runs_told (get_or ls i d ∷ [])
one_run ls i d few =
    ap runs_told (take_more ls i d few)
    ∙ ap length (filter-append is_run (take i ls) (get_or ls i d ∷ []))
    ∙ length-append (filter is_run (take i ls)) (filter is_run (get_or ls i d ∷ []))

module _ (jobs : Replies) (due : FinSet nat_cmp) (m : Option Moment) (o w : World)
    (lines : List Line) where
  -- what is told of a round and its covers
  pub tells_round : IsRound jobs o due (ops_of m) w lines → (old counting told new : Progress) →
      counting.text ≡ old.text →
      counting.work ≡ counted (old.work + (1 + count_due (length o.cpus) due)) →
      told.text ≡ counting.text ++ report_text lines →
      counted told.work ≡ counted (counting.work + runs_told lines) →
      new.text ≡ told.text ++ report_text (covers_of m w) →
      counted new.work ≡ counted told.work → TellsThreaded jobs due m o old new w
  tells_round round old counting told new text work lines_told runs covers_told same = record {
    played = record {
      lines = lines ++ covers_of m w;
      work = 1 + count_due (length o.cpus) due + runs_told lines;
      state = w;
    };
    is_threaded = record { told = lines; round = round; lines_are = refl; work = refl };
    tells = record {
      text =
          covers_told
          ∙ ap (λ x. x ++ report_text (covers_of m w)) (lines_told ∙ ap (λ x. x ++ report_text lines) text)
          ∙ append_assoc old.text (report_text lines) (report_text (covers_of m w))
          ∙ ap (λ x. old.text ++ x) (sym (flat_map-append line_text lines (covers_of m w)));
      work = omega (arith, work, runs, same);
      state = refl;
    };
  }

-- a moment of a run, from the core as its clock has come to it: without threads or with them
module _ (jobs : Replies) (ms : List Moment) (now : ℕ) (w : World) (old new : Progress)
    (after : World) where
  abbrev o : World
  o = step_rules.at_clock now w

  abbrev Plain : World → FinSet nat_cmp → Option Moment → Type 0
  Plain s due m =
      is_plain (length s.cpus) due (ops_of m) ≡ true →
      Tells (by_cpus (length s.cpus) (moment jobs step_rules due m s)) old new after →
      TellsMoment jobs ms now w old new after

  abbrev Threads : World → FinSet nat_cmp → Option Moment → Type 0
  Threads s due m =
      is_plain (length s.cpus) due (ops_of m) ≡ false → TellsThreaded jobs due m s old new after →
      TellsMoment jobs ms now w old new after

  plainly : Plain o (having_interrupt step_rules o) (moment_at now ms)
  plainly is told = record {
    played = by_cpus (length o.cpus)
        (moment jobs step_rules (having_interrupt step_rules o) (moment_at now ms) o);
    is_moment = rw is (record { state = refl; work = refl; told = refl });
    tells = told;
  }

  by_threads : Threads o (having_interrupt step_rules o) (moment_at now ms)
  by_threads is told = record {
    played = told.played;
    is_moment = rw is told.is_threaded;
    tells = told.tells;
  }

  -- said of what is the same
  as_same : (P : World → FinSet nat_cmp → Option Moment → Type 0) (s : World)
      (due : FinSet nat_cmp) (m : Option Moment) → s ≡ o → due ≡ having_interrupt step_rules s →
      m ≡ moment_at now ms → P o (having_interrupt step_rules o) (moment_at now ms) → P s due m
  as_same P s due m is due_is m_is all =
      subst (λ d. P s d m) (sym due_is)
      (subst (λ x. P x (having_interrupt step_rules x) m) (sym is)
      (subst (λ y. P o (having_interrupt step_rules o) y) (sym m_is) all))

  pub told_plainly : (s : World) (due : FinSet nat_cmp) (m : Option Moment) → s ≡ o →
      due ≡ having_interrupt step_rules s → m ≡ moment_at now ms → Plain s due m
  told_plainly s due m is due_is m_is = as_same Plain s due m is due_is m_is plainly

  pub told_by_threads : (s : World) (due : FinSet nat_cmp) (m : Option Moment) → s ≡ o →
      due ≡ having_interrupt step_rules s → m ≡ moment_at now ms → Threads s due m
  told_by_threads s due m is due_is m_is = as_same Threads s due m is due_is m_is by_threads
