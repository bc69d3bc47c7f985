-- the story over a list of calls
use Rattle.std.proofs.Common.{◌≡◌, ◌≢◌, ℕ, zero, suc, ◌+◌, List, [], ◌∷◌}
use Rattle.std.proofs.Common.{Option, Some, None, length, refl, sym, ap, ◌∙◌, subst, ◌⊎◌, inl, inr}
use Rattle.std.proofs.Common.{arith}
use Rattle.std.specs.List.{slice_get}
use Rattle.std.proofs.lemmas.Option.{none-some, same_Some}
use Rattle.delayed_work.specs.declared.calls.WorksCall.{WorksCall}
use Rattle.delayed_work.specs.declared.calls.WorksCall.TheVariants.{RunNext}
use Rattle.delayed_work.specs.declared.standing.End.TheVariants.{Pending, Cancelled, Ran}
use Rattle.delayed_work.specs.Ledger.{WorkTold}
use Rattle.delayed_work.specs.Works.{AreLawfulWorks, WorksState, new_works}
use Rattle.delayed_work.specs.Calls.{MayMakeCall, MayMakeAll, WorkReplies, accepts_all, works_after_call}
use Rattle.delayed_work.specs.Calls.{works_after_calls, runs}
use Rattle.delayed_work.specs.Laws.{AreReplies, IsWorkStory, RunsAt, WorksLaw, works_before}
use Rattle.delayed_work.proofs.Making.{made_lawful, made_not_early, new_lawful}
use Rattle.delayed_work.proofs.Telling.{made_answers, made_tells, runs_pending}

module _ (replies : WorkReplies) (short : AreReplies replies) where
  -- after a list of calls works are lawful
  all_lawful : (calls : List WorksCall) (works : WorksState) → AreLawfulWorks works
      → MayMakeAll replies calls works → AreLawfulWorks (works_after_calls replies calls works)
  all_lawful [] works lawful may = lawful
  all_lawful (call ∷ calls) works lawful may =
      all_lawful calls (works_after_call replies call works) (made_lawful replies call works short lawful may.0) may.1

  -- also before the call at a place, which may be made there
  at_place : (calls : List WorksCall) (works : WorksState) (i : ℕ) (call : WorksCall) → AreLawfulWorks works
      → MayMakeAll replies calls works → slice_get calls i ≡ Some call
      → AreLawfulWorks (works_before replies calls works i) × MayMakeCall call (works_before replies calls works i)
  at_place [] works i call lawful may there = absurd (none-some call there)
  at_place (first ∷ calls) works zero call lawful may there =
      (lawful, subst (λ c. MayMakeCall c works) (same_Some first call there) may.0)
  at_place (first ∷ calls) works (suc i) call lawful may there =
      at_place calls (works_after_call replies first works) i call (made_lawful replies first works short lawful may.0) may.1 there

  all_counts : (calls : List WorksCall) (works : WorksState) → AreLawfulWorks works
      → MayMakeAll replies calls works
      → length (works_after_calls replies calls works).ledger.story
      ≡ length works.ledger.story + accepts_all replies calls works
  all_counts [] works lawful may = omega arith
  all_counts (call ∷ calls) works lawful may =
      let one = (made_tells replies call works lawful.sound).counts in
      let rest = all_counts calls (works_after_call replies call works) (made_lawful replies call works short lawful may.0) may.1 in
      omega arith

  -- an end stays
  stays : (calls : List WorksCall) (works : WorksState) (n : ℕ) (told : WorkTold) → AreLawfulWorks works
      → MayMakeAll replies calls works → slice_get works.ledger.story n ≡ Some told
      → told.2 ≢ Pending → slice_get (works_after_calls replies calls works).ledger.story n ≡ Some told
  stays [] works n told lawful may is over = is
  stays (call ∷ calls) works n told lawful may is over =
      stays calls (works_after_call replies call works) n told (made_lawful replies call works short lawful may.0) may.1
      ((made_tells replies call works lawful.sound).keeps n told is over) over

  -- what ended isn't run
  never_again : (calls : List WorksCall) (works : WorksState) (n : ℕ) (told : WorkTold) → AreLawfulWorks works
      → MayMakeAll replies calls works → slice_get works.ledger.story n ≡ Some told
      → told.2 ≢ Pending → (i work : ℕ) (call : WorksCall) → slice_get calls i ≡ Some call
      → runs call (works_before replies calls works i).ledger ≡ Some (n, work) → ⊥
  never_again [] works n told lawful may is over i work call there runs_it = none-some call there
  never_again (first ∷ calls) works n told lawful may is over zero work call there runs_it =
      let now_pending = lawful.sound.numbered work n (runs_pending call works.ledger n work runs_it) in
      over (ap (λ (t : WorkTold). t.2) (same_Some told (n, work, Pending) (sym is ∙ now_pending)))
  never_again (first ∷ calls) works n told lawful may is over (suc i) work call there runs_it =
      never_again calls (works_after_call replies first works) n told (made_lawful replies first works short lawful may.0) may.1
      ((made_tells replies first works lawful.sound).keeps n told is over) over i work call there runs_it

  -- what a call runs did run
  did_run : (calls : List WorksCall) (works : WorksState) (i n work : ℕ) (call : WorksCall)
      → AreLawfulWorks works → MayMakeAll replies calls works → slice_get calls i ≡ Some call
      → runs call (works_before replies calls works i).ledger ≡ Some (n, work)
      → slice_get (works_after_calls replies calls works).ledger.story n ≡ Some (n, work, Ran)
  did_run [] works i n work call lawful may there runs_it = absurd (none-some call there)
  did_run (first ∷ calls) works zero n work call lawful may there runs_it =
      let here : runs first works.ledger ≡ Some (n, work) =
      subst (λ c. runs c works.ledger ≡ Some (n, work)) (sym (same_Some first call there)) runs_it in
      stays calls (works_after_call replies first works) n (n, work, Ran) (made_lawful replies first works short lawful may.0) may.1
      ((made_tells replies first works lawful.sound).runs_it n work here) (λ same. cc)
  did_run (first ∷ calls) works (suc i) n work call lawful may there runs_it =
      did_run calls (works_after_call replies first works) i n work call (made_lawful replies first works short lawful may.0) may.1
      there runs_it

  -- no two calls run one number
  run_once : (calls : List WorksCall) (works : WorksState) (i j n one two : ℕ) (call other : WorksCall)
      → AreLawfulWorks works → MayMakeAll replies calls works
      → slice_get calls i ≡ Some call → runs call (works_before replies calls works i).ledger ≡ Some (n, one)
      → slice_get calls j ≡ Some other → runs other (works_before replies calls works j).ledger ≡ Some (n, two)
      → i ≡ j
  run_once [] works i j n one two call other lawful may there runs_it other_there other_runs =
      absurd (none-some call there)
  run_once (first ∷ calls) works zero zero n one two call other lawful may there runs_it other_there other_runs = refl
  run_once (first ∷ calls) works zero (suc j) n one two call other lawful may there runs_it other_there other_runs =
      let here : runs first works.ledger ≡ Some (n, one) =
      subst (λ c. runs c works.ledger ≡ Some (n, one)) (sym (same_Some first call there)) runs_it in
      absurd (never_again calls (works_after_call replies first works) n (n, one, Ran)
      (made_lawful replies first works short lawful may.0) may.1
      ((made_tells replies first works lawful.sound).runs_it n one here) (λ same. cc) j two other other_there other_runs)
  run_once (first ∷ calls) works (suc i) zero n one two call other lawful may there runs_it other_there other_runs =
      let here : runs first works.ledger ≡ Some (n, two) =
      subst (λ c. runs c works.ledger ≡ Some (n, two)) (sym (same_Some first other other_there)) other_runs in
      absurd (never_again calls (works_after_call replies first works) n (n, two, Ran)
      (made_lawful replies first works short lawful may.0) may.1
      ((made_tells replies first works lawful.sound).runs_it n two here) (λ same. cc) i one call there runs_it)
  run_once (first ∷ calls) works (suc i) (suc j) n one two call other lawful may there runs_it other_there other_runs =
      ap suc (run_once calls (works_after_call replies first works) i j n one two call other
      (made_lawful replies first works short lawful may.0) may.1 there runs_it other_there other_runs)

  -- an entry that tells of a run, or none that does
  told_run_or : (found : Option WorkTold)
      → ((told : WorkTold) × (found ≡ Some told) × (told.2 ≡ Ran))
      ⊎ ((told : WorkTold) → found ≡ Some told → told.2 ≡ Ran → ⊥)
  told_run_or None = inr (λ told is _. none-some told is)
  told_run_or (Some (n, work, Ran)) = inl ((n, work, Ran), refl, refl)
  told_run_or (Some (n, work, Cancelled)) = inr (λ told is ran.
      let same = ap (λ (t : WorkTold). t.2) (same_Some (n, work, Cancelled) told is) in cc)
  told_run_or (Some (n, work, Pending)) = inr (λ told is ran.
      let same = ap (λ (t : WorkTold). t.2) (same_Some (n, work, Pending) told is) in cc)

  -- what ran since then was run by a call
  was_run : (calls : List WorksCall) (works : WorksState) (n : ℕ) (told : WorkTold) → AreLawfulWorks works
      → MayMakeAll replies calls works
      → ((old : WorkTold) → slice_get works.ledger.story n ≡ Some old → old.2 ≡ Ran → ⊥)
      → slice_get (works_after_calls replies calls works).ledger.story n ≡ Some told → told.2 ≡ Ran
      → (i : ℕ) × RunsAt replies calls works i n told.1
  was_run [] works n told lawful may none is ran = absurd (none told is ran)
  was_run (call ∷ calls) works n told lawful may none is ran =
      let next = made_lawful replies call works short lawful may.0 in
      let tells = made_tells replies call works lawful.sound in
      elim (told_run_or (slice_get (works_after_call replies call works).ledger.story n)) [
        | inl (seen, there, seen_ran) ↦
            let still = stays calls (works_after_call replies call works) n seen next may.1 there
            (λ pending. let a = sym pending ∙ seen_ran in cc) in
            let same : seen ≡ told = same_Some seen told (sym still ∙ is) in
            elim (tells.ran_is n seen there seen_ran) [
              | inl old ↦ absurd (none seen old seen_ran)
              | inr runs_it ↦ (
                0,
                record {
                  call = call;
                  there = refl;
                  runs_it = runs_it ∙ ap (λ (t : WorkTold). Some (n, t.1)) same;
                },
              )
            ]
        | inr none_now ↦
            let later = was_run calls (works_after_call replies call works) n told next may.1 none_now is ran in
            (suc later.0, record { call = later.1.call; there = later.1.there; runs_it = later.1.runs_it })
      ]

  pub story_is : (calls : List WorksCall) (works : WorksState) → AreLawfulWorks works
      → works.ledger.story ≡ [] → MayMakeAll replies calls works → IsWorkStory replies calls works
  story_is calls works lawful empty may =
      let end = all_lawful calls works lawful may in
      let counts = all_counts calls works lawful may in
      let none_yet = ap length empty in
      record {
        accepted = omega arith;
        numbered = λ number told is. (end.sound.told number told is).number_is;
        pending = λ number told is. (
          (end.sound.told number told is).pending,
          λ by. ap (λ (t : WorkTold). t.2) (same_Some told (number, told.1, Pending) (sym is ∙ end.sound.numbered told.1 number by)),
        );
        ran = λ number told is ran.
            let found = was_run calls works number told lawful may
            (λ old there _. none-some old (ap (λ s. slice_get s number) (sym empty) ∙ there)) is ran in
            record {
              place = found.0;
              runs_it = found.1;
              no_other = λ j other at. run_once calls works j found.0 number other told.1 at.call found.1.call
                  lawful may at.there at.runs_it found.1.there found.1.runs_it;
            };
        did_run = λ i number work at. did_run calls works i number work at.call lawful may at.there at.runs_it;
        answered = λ i now there.
            made_answers replies now (works_before replies calls works i)
            (at_place calls works i (RunNext now) lawful may there).0.sound;
        not_early = λ i work call there waits ready.
            let at = at_place calls works i call lawful may there in
            made_not_early replies call (works_before replies calls works i) work at.0 at.1 waits ready;
      }

pub works_law : WorksLaw
works_law replies bases count calls short consistent empty few may =
    story_is replies short calls (new_works bases count) (new_lawful bases count consistent empty few) refl may
