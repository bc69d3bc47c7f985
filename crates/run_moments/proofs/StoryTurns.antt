-- for crates above: the moments of a run, one after the other
use Rattle.std.proofs.Common.{◌≡◌, ◌≢◌, ℕ, ◌+◌, ◌≤◌, ◌<◌, ◌^◌, List, [], ◌∷◌, ◌++◌, false, None}
use Rattle.std.proofs.Common.{refl, sym, ap, subst, ◌∙◌, arith, append_assoc, append-nil}
use Rattle.std.specs.Prelude.{nat_le}
use Rattle.std.proofs.lemmas.Bool.{eq-eqb, ne_eqb}
use Rattle.std.proofs.lemmas.List.Concat.{flat_map-append}
use Rattle.std.proofs.lemmas.List.Elements.{All-nil, All-push}
use Rattle.std.proofs.lemmas.List.Sums.{sum_by_push}
use Rattle.tm_report.specs.Lines.{line_text, report_text}
use Rattle.tm_script.specs.declared.syntax.Moment.{Moment}
use Rattle.tm_script.specs.declared.syntax.Script.{Script}
use Rattle.play_rules.specs.Parts.{Progress, counted}
use Rattle.play_rules.specs.Interrupts.{Replies}
use Rattle.play_rules.specs.Jobs.{first_unknown_job}
use Rattle.play_rules.specs.Moments.{Turn, closing, last_state, moments_after, next_moment}
use Rattle.play_rules.specs.Moments.{spent_at, turn_lines}
use Rattle.core_world.specs.World.{World}
use Rattle.run_plain.specs.core_facts.Cover.Headline.{EachSettled}
use Rattle.run_plain.specs.step_play.Rules.Seen.{InRun, resting}
use Rattle.run_plain.specs.step_play.Rules.StepRules.{step_rules}
use Rattle.run_plain.specs.step_play.SamePlay.{core_start}
use Rattle.run_plain.specs.run_story.Stories.{BrokenFrom, IsTurnInTime, StoryFrom}
use Rattle.core_plays.specs.OnCore.{EachIsAnsweredFor}
use Rattle.play_driver.specs.Outcomes.{work_limit}
use Rattle.play_driver.specs.declared.outcomes.DriveFault.{DriveFault}
use Rattle.play_driver.specs.declared.outcomes.DriveFault.TheVariants.{BadJob, NoMemory, WorkSpent}
use Rattle.run_moments.specs.Runs.{BreaksRun, BreaksStory, EachTurnRests, EndsRunEarly, RunsOut}
use Rattle.run_moments.specs.Runs.{RunsToEnd}
use Rattle.run_moments.specs.Runs.{RunsWhole, TellsMoment, work_of}
use Rattle.core_plays.proofs.BySteps.{at_rest}
use Rattle.play_driver.proofs.Turns.{below_test, last_push, spent_more, turn_lines_push, work_more}

module _ (jobs : Replies) (end : ℕ) (ms : List Moment) (now : ℕ) (w : World) (t : Turn World)
    (turn_is : IsTurnInTime jobs end ms now w t) where
  -- a moment before the end, and those of a story behind it
  story_more : now ≢ end → (ts : List (Turn World))
      → StoryFrom jobs end (moments_after now ms) (next_moment step_rules end (moments_after now ms) t.played.state) t.played.state ts
      → StoryFrom jobs end ms now w (t ∷ ts)
  unfolding StoryFrom
  story_more other ts rest = rw (ne_eqb now end other) (turn_is, rest)

  -- the last moment
  story_last : now ≡ end → StoryFrom jobs end ms now w (t ∷ [])
  unfolding StoryFrom
  story_last is = rw (eq-eqb now end is) (turn_is, refl)

  -- a moment before the end, and those behind it of a story that is broken off
  broken_more : now ≢ end → (ts : List (Turn World))
      → BrokenFrom jobs end (moments_after now ms) (next_moment step_rules end (moments_after now ms) t.played.state) t.played.state ts
      → BrokenFrom jobs end ms now w (t ∷ ts)
  unfolding BrokenFrom
  broken_more other ts rest = (other, turn_is, rest)

  broken_here : now ≢ end → BrokenFrom jobs end ms now w (t ∷ [])
  unfolding BrokenFrom
  broken_here other = (other, turn_is, tt)

-- what was told of the moments so far, and how a story goes on behind them
pub record SoFar (jobs : Replies) (end limit : ℕ) (whole : List Moment) (start : World)
    (old : List ℕ) (now : ℕ) (ms : List Moment) (s : World) (told : Progress) : Type 0 where
  pub done : List (Turn World)
  pub story : (ts : List (Turn World)) → StoryFrom jobs end ms now s ts →
      StoryFrom jobs end whole 0 start (done ++ ts)
  pub broken : (ts : List (Turn World)) → BrokenFrom jobs end ms now s ts →
      BrokenFrom jobs end whole 0 start (done ++ ts)
  pub text : told.text ≡ old ++ report_text (turn_lines done)
  pub worked : counted told.work ≡ counted (work_of done)
  pub state : s ≡ last_state start done
  pub spent : (t : Turn World) (ts : List (Turn World)) →
      spent_at limit 0 (done ++ t ∷ ts) ≡ spent_at limit (work_of done) (t ∷ ts)
  pub rests : EachTurnRests done

module _ (jobs : Replies) (end limit : ℕ) (whole : List Moment) (start : World) where
  pub nothing_yet : (told : Progress) → told.work ≡ 0 →
      SoFar jobs end limit whole start told.text 0 whole start told
  nothing_yet told none = record {
    done = [];
    story = λ ts is. is;
    broken = λ ts is. is;
    text = sym (append-nil told.text);
    worked = ap counted none;
    state = refl;
    spent = λ t ts. refl;
    rests = record {
      rests = All-nil (λ (t : Turn World). InRun resting t.played.state);
      answered = All-nil (λ (t : Turn World). EachIsAnsweredFor t.played.state);
    };
  }

  module _ (old : List ℕ) (now : ℕ) (ms : List Moment) (s : World) (told : Progress)
      (far : SoFar jobs end limit whole start old now ms s told) (next : World) (new : Progress)
      (tells : TellsMoment jobs ms now s told new next) (law : EachSettled)
      (rest : InRun resting next) where
    abbrev here : Turn World
    here = record { at = now; played = tells.played }

    is_turn : IsTurnInTime jobs end ms now s here
    is_turn = (refl, tells.is_moment)

    text_then : new.text ≡ old ++ report_text (turn_lines (far.done ++ here ∷ []))
    text_then =
        tells.tells.text
        ∙ ap (λ x. x ++ report_text tells.played.lines) far.text
        ∙ append_assoc old (report_text (turn_lines far.done)) (report_text tells.played.lines)
        ∙ ap (λ x. old ++ x)
        (sym (flat_map-append line_text (turn_lines far.done) tells.played.lines)
        ∙ ap report_text (sym (turn_lines_push far.done here)))

    more_work : work_of (far.done ++ here ∷ []) ≡ work_of far.done + tells.played.work
    more_work = sum_by_push (λ (t : Turn World). t.played.work) far.done here

    work_then : counted new.work ≡ counted (work_of far.done + tells.played.work)
    work_then = work_more new.work told.work tells.played.work (work_of far.done) tells.tells.work far.worked

    state_then : next ≡ last_state start (far.done ++ here ∷ [])
    state_then = tells.tells.state ∙ sym (last_push start far.done here)

    rests_then : EachTurnRests (far.done ++ here ∷ [])
    rests_then =
        let run : InRun resting tells.played.state = subst (InRun resting) tells.tells.state rest in record {
          rests = All-push (λ (t : Turn World). InRun resting t.played.state) far.done here far.rests.rests run;
          answered =
              All-push (λ (t : Turn World). EachIsAnsweredFor t.played.state) far.done here far.rests.answered
              (law tells.played.state run.lawful (at_rest tells.played.state run));
        }

    -- the work is below its limit: on to the next moment
    pub one_more : now < end → new.work < limit → limit < 2 ^ 32 →
        SoFar jobs end limit whole start old (next_moment step_rules end (moments_after now ms) next) (moments_after now ms) next new
    one_more low less small =
        let other : now ≢ end = λ same. omega (arith, same, low) in
        let below : nat_le limit (work_of far.done + tells.played.work) ≡ false = below_test _ _ (omega (arith, work_then, less, small)) in
        record {
          done = far.done ++ here ∷ [];
          story = λ ts is.
              subst (StoryFrom jobs end whole 0 start) (sym (append_assoc far.done (here ∷ []) ts))
              (far.story (here ∷ ts)
              (story_more jobs end ms now s here is_turn other ts
              (subst (λ w. StoryFrom jobs end (moments_after now ms) (next_moment step_rules end (moments_after now ms) w) w ts) tells.tells.state is)));
          broken = λ ts is.
              subst (BrokenFrom jobs end whole 0 start) (sym (append_assoc far.done (here ∷ []) ts))
              (far.broken (here ∷ ts)
              (broken_more jobs end ms now s here is_turn other ts
              (subst (λ w. BrokenFrom jobs end (moments_after now ms) (next_moment step_rules end (moments_after now ms) w) w ts) tells.tells.state is)));
          text = text_then;
          worked = work_then ∙ ap counted (sym more_work);
          state = state_then;
          spent = λ t ts.
              ap (spent_at limit 0) (append_assoc far.done (here ∷ []) (t ∷ ts))
              ∙ far.spent here (t ∷ ts)
              ∙ spent_more limit (work_of far.done) here (t ∷ ts) t ts refl below
              ∙ ap (λ n. spent_at limit n (t ∷ ts)) (sym more_work);
          rests = rests_then;
        }

module _ (jobs : Replies) (script : Script) where
  module _ (old : List ℕ) (now : ℕ) (ms : List Moment) (s : World) (told : Progress)
      (far : SoFar jobs script.end (work_limit script.version) script.moments (core_start script) old now ms s told)
      (next : World) (new : Progress)
      (tells : TellsMoment jobs ms now s told new next) (law : EachSettled)
      (rest : InRun resting next) where
    abbrev it : Turn World
    it = record { at = now; played = tells.played }

    -- the work has reached its limit
    pub breaks_off : now < script.end → (count : ℕ) → work_limit script.version ≤ count →
        count ≡ new.work → count < 2 ^ 32 → BreaksStory jobs script count old new.text
    breaks_off low count enough is small =
        let other : now ≢ script.end = λ same. omega (arith, same, low) in
        let limit = work_limit script.version in
        let turn_is = is_turn jobs script.end limit script.moments (core_start script) old now ms s told far next new tells law rest in
        let more = more_work jobs script.end limit script.moments (core_start script) old now ms s told far next new tells law rest in
        let work = work_then jobs script.end limit script.moments (core_start script) old now ms s told far next new tells law rest in
        record {
          story = far.done ++ it ∷ [];
          broken_off = far.broken (it ∷ []) (broken_here jobs script.end ms now s it turn_is other);
          text = text_then jobs script.end limit script.moments (core_start script) old now ms s told far next new tells law rest;
          reached = omega (arith, work, more, is, enough, small);
          not_before = far.spent it [];
          count_is = omega (arith, work, more, is, small);
          rests = rests_then jobs script.end limit script.moments (core_start script) old now ms s told far next new tells law rest;
        }

    -- the last moment
    pub all_done : now ≡ script.end → RunsOut jobs script old new.text next
    all_done last =
        let limit = work_limit script.version in
        let turn_is = is_turn jobs script.end limit script.moments (core_start script) old now ms s told far next new tells law rest in
        record {
          story = far.done ++ it ∷ [];
          is_story = far.story (it ∷ []) (story_last jobs script.end ms now s it turn_is last);
          text = text_then jobs script.end limit script.moments (core_start script) old now ms s told far next new tells law rest;
          state = state_then jobs script.end limit script.moments (core_start script) old now ms s told far next new tells law rest;
          within = far.spent it [];
          rests = rests_then jobs script.end limit script.moments (core_start script) old now ms s told far next new tells law rest;
        }

-- the whole of a run: its moments, and what is left
module _ (jobs : Replies) (script : Script) where
  pub whole_told : (old mid new : List ℕ) (after : World) → RunsOut jobs script old mid after →
      new ≡ mid ++ report_text (closing step_rules script.end after) →
      RunsWhole jobs script old new after
  whole_told old mid new after out closed = record {
    story = out.story;
    is_story = out.is_story;
    text =
        closed
        ∙ ap (λ x. x ++ report_text (closing step_rules script.end after)) out.text
        ∙ append_assoc old (report_text (turn_lines out.story)) (report_text (closing step_rules script.end after))
        ∙ ap (λ x. old ++ x)
        (sym (flat_map-append line_text (turn_lines out.story) (closing step_rules script.end after))
        ∙ ap (λ w. report_text (turn_lines out.story ++ closing step_rules script.end w)) out.state);
    state = out.state;
    within = out.within;
    rests = out.rests;
  }

  pub to_end : (table : ℕ) (old new : List ℕ) (after core : World) →
      None ≡ first_unknown_job table script.moments → RunsWhole jobs script old new after →
      core ≡ after → RunsToEnd jobs table script old new core
  to_end table old new after core known whole same = record {
    story = whole.story;
    is_story = whole.is_story;
    text = whole.text;
    core_is = same ∙ whole.state;
    known = sym known;
    within = whole.within;
    rests = whole.rests;
  }

  -- a run that is broken off, but not for want of memory
  pub broken : (table : ℕ) (old new : List ℕ) (fault : DriveFault) → (fault ≡ NoMemory → ⊥) →
      None ≡ first_unknown_job table script.moments → EndsRunEarly jobs script fault old new →
      BreaksRun jobs table script fault old new
  broken table old new (BadJob line job) other known ends = absurd ends
  broken table old new (WorkSpent count) other known ends = (sym known, ends)
  broken table old new NoMemory other known ends = absurd (other refl)
