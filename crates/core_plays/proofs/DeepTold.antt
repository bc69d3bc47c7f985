-- the moments of a play with a device's lines, one after the other, under any rules
use Rattle.std.proofs.Common.{◌≡◌, ℕ, suc, ◌+◌, ◌-◌, ◌≤◌, ◌<◌, ◌^◌, List, [], ◌∷◌, ◌++◌, true, false}
use Rattle.std.proofs.Common.{subst, Some, sym, ap, ◌∙◌, arith, append_assoc, append-nil}
use Rattle.std.specs.Prelude.{nat_le}
use Rattle.std.specs.Option.{option_map}
use Rattle.std.proofs.lemmas.Bool.{le-leb}
use Rattle.std.proofs.lemmas.List.Concat.{flat_map-append}
use Rattle.tm_report.specs.Lines.{line_text, report_text}
use Rattle.tm_script.specs.declared.syntax.Moment.{Moment}
use Rattle.deep_idle.specs.Device.{DeviceState}
use Rattle.play_rules.specs.Rules.{Rules}
use Rattle.play_rules.specs.Parts.{Progress, counted}
use Rattle.play_rules.specs.Interrupts.{Replies}
use Rattle.play_rules.specs.Moments.{Turn, finished, last_state, moments_after, next_moment}
use Rattle.play_rules.specs.Moments.{spent_at, turn, turn_lines, turns}
use Rattle.core_plays.specs.Deep.{device_after}
use Rattle.core_plays.specs.Deep.{with_device_line, with_device}
use Rattle.core_plays.specs.Sleepers.{DeepEarly, DeepOut}
use Rattle.play_driver.specs.PartLeaves.{Tells}
use Rattle.play_driver.specs.declared.outcomes.DriveFault.TheVariants.{WorkSpent}
use Rattle.play_driver.proofs.Turns.{below_test, finished_here, finished_more, spent_here, spent_more}
use Rattle.play_driver.proofs.Turns.{turns_last, turns_more, turns_some, work_more}

-- the text of moments with the device's lines, and of those that are finished by a count of work
abbrev text_of : {S : Type 0} → Rules S → DeviceState → List (Turn S) → List ℕ
text_of r device ts = report_text (turn_lines (with_device r device ts))

abbrev text_by : {S : Type 0} → Rules S → (limit work : ℕ) → DeviceState → List (Turn S) → List ℕ
text_by r limit work device ts =
    report_text (turn_lines (finished limit work (with_device r device ts)))

-- what was told, with what is still to be told, is the whole; so are the states and the work
pub record DeepSoFar {S : Type 0} (jobs : Replies) (r : Rules S) (end limit : ℕ)
    (whole : List (Turn S)) (start : S) (first : DeviceState) (old : List ℕ)
    (now : ℕ) (ms : List Moment) (s : S) (device : DeviceState) (told : Progress) : Type 0 where
  pub count : ℕ
  pub work : ℕ
  pub few : count ≤ now
  pub text : old ++ text_of r first whole
      ≡ told.text ++ text_of r device (turns jobs r (end + 1 - count) end now ms s)
  pub ended : old ++ text_by r limit 0 first whole
      ≡ told.text ++ text_by r limit work device (turns jobs r (end + 1 - count) end now ms s)
  pub worked : counted told.work ≡ counted work
  pub state : last_state start whole ≡ last_state s (turns jobs r (end + 1 - count) end now ms s)
  pub spent : spent_at limit 0 whole
      ≡ spent_at limit work (turns jobs r (end + 1 - count) end now ms s)

module _ {S : Type 0} (r : Rules S) (limit : ℕ) (device : DeviceState) (t : Turn S)
    (old new : List ℕ)
    (gained : new ≡ old ++ report_text (with_device_line r device t).played.lines) where
  -- the text of a moment, and of what is behind it
  text_then : (xs : List (Turn S))
      → old ++ report_text (turn_lines (with_device_line r device t ∷ xs)) ≡ new ++ report_text (turn_lines xs)
  text_then xs =
      ap (λ x. old ++ x)
      (flat_map-append line_text (with_device_line r device t).played.lines (turn_lines xs))
      ∙ sym (append_assoc old (report_text (with_device_line r device t).played.lines)
      (report_text (turn_lines xs)))
      ∙ ap (λ x. x ++ report_text (turn_lines xs)) (sym gained)

  text_last : old ++ report_text (turn_lines (with_device_line r device t ∷ [])) ≡ new
  text_last = text_then [] ∙ append-nil new

module _ {S : Type 0} (jobs : Replies) (r : Rules S) (end limit : ℕ) (whole : List (Turn S))
    (start : S) (first : DeviceState) (old : List ℕ) where
  pub nothing_told : (ms : List Moment) (told : Progress)
      → whole ≡ turns jobs r (end + 1) end 0 ms start → told.text ≡ old → told.work ≡ 0
      → DeepSoFar jobs r end limit whole start first old 0 ms start first told
  nothing_told ms told is text none =
      let all : end + 1 ≡ end + 1 - 0 = omega arith in
      let same : whole ≡ turns jobs r (end + 1 - 0) end 0 ms start =
      is ∙ ap (λ k. turns jobs r k end 0 ms start) all in
      record {
        count = 0;
        work = 0;
        few = omega arith;
        text = λ i. sym text i ++ text_of r first (same i);
        ended = λ i. sym text i ++ text_by r limit 0 first (same i);
        worked = ap counted none;
        state = ap (last_state start) same;
        spent = ap (spent_at limit 0) same;
      }

  module _ (now : ℕ) (ms : List Moment) (s : S) (device : DeviceState) (told : Progress)
      (far : DeepSoFar jobs r end limit whole start first old now ms s device told)
      (next : S) (new : Progress)
      (tells : Tells (with_device_line r device (turn jobs r ms now s)).played told new next) where
    abbrev here : Turn S
    here = turn jobs r ms now s

    abbrev settled : DeviceState
    settled = device_after r here device

    work_then : counted new.work ≡ counted (far.work + here.played.work)
    work_then = work_more new.work told.work here.played.work far.work tells.work far.worked

    module _ (low : now < end) where
      fuel : end + 1 - far.count ≡ suc (suc (end - far.count - 1))
      fuel = let few = far.few in omega (arith, few, low)

      abbrev rest : List (Turn S)
      rest =
          turns jobs r (suc (end - far.count - 1)) end
          (next_moment r end (moments_after now ms) next) (moments_after now ms) next

      split : turns jobs r (end + 1 - far.count) end now ms s ≡ here ∷ rest
      split =
          ap (λ k. turns jobs r k end now ms s) fuel
          ∙ turns_more jobs r end (suc (end - far.count - 1)) now ms s next low tells.state

      -- the work is below its limit: on to the next moment
      one_told : new.work < limit → limit < 2 ^ 32
          → now < next_moment r end (moments_after now ms) next
          → DeepSoFar jobs r end limit whole start first old
          (next_moment r end (moments_after now ms) next) (moments_after now ms) next settled new
      one_told less small later =
          let few = far.few in
          let work_is = work_then in
          let below : nat_le limit (far.work + here.played.work) ≡ false =
          below_test _ _ (omega (arith, work_is, less, small)) in
          let some =
          turns_some jobs r end (end - far.count - 1)
          (next_moment r end (moments_after now ms) next) (moments_after now ms) next in
          let left : suc (end - far.count - 1) ≡ end + 1 - (far.count + 1) =
          omega (arith, few, low) in
          let behind : rest
          ≡ turns jobs r (end + 1 - (far.count + 1)) end
          (next_moment r end (moments_after now ms) next) (moments_after now ms) next =
          ap (λ k. turns jobs r k end (next_moment r end (moments_after now ms) next)
          (moments_after now ms) next) left in
          record {
            count = far.count + 1;
            work = far.work + here.played.work;
            few = omega (arith, few, later);
            text =
                far.text ∙ ap (λ x. told.text ++ text_of r device x) split
                ∙ text_then r limit device here told.text new.text tells.text
                (with_device r settled rest)
                ∙ ap (λ x. new.text ++ text_of r settled x) behind;
            ended =
                far.ended ∙ ap (λ x. told.text ++ text_by r limit far.work device x) split
                ∙ ap (λ x. told.text ++ report_text (turn_lines x))
                (finished_more limit far.work (with_device_line r device here) (with_device r settled rest)
                below)
                ∙ text_then r limit device here told.text new.text tells.text
                (finished limit (far.work + here.played.work) (with_device r settled rest))
                ∙ ap (λ x. new.text ++ text_by r limit (far.work + here.played.work) settled x) behind;
            worked = work_is;
            state =
                far.state ∙ ap (last_state s) split
                ∙ ap (λ u. last_state u rest) (sym tells.state) ∙ ap (last_state next) behind;
            spent =
                far.spent ∙ ap (spent_at limit far.work) split
                ∙ spent_more limit far.work here rest some.0 some.1 some.2 below
                ∙ ap (spent_at limit (far.work + here.played.work)) behind;
          }

      pub one_told_at : new.work < limit → limit < 2 ^ 32
          → now < next_moment r end (moments_after now ms) next
          → (after : DeviceState) → after ≡ settled
          → DeepSoFar jobs r end limit whole start first old
          (next_moment r end (moments_after now ms) next) (moments_after now ms) next after new
      one_told_at less small later after is =
          subst (λ d. DeepSoFar jobs r end limit whole start first old
          (next_moment r end (moments_after now ms) next) (moments_after now ms) next d new)
          (sym is) (one_told less small later)

      -- the work has reached its limit
      pub breaks_told : (count : ℕ) → limit ≤ count → count ≡ new.work → count < 2 ^ 32
          → DeepEarly limit whole (with_device r first whole) (WorkSpent count) old new.text
      breaks_told count enough is small =
          let work_is = work_then in
          let some =
          turns_some jobs r end (end - far.count - 1)
          (next_moment r end (moments_after now ms) next) (moments_after now ms) next in
          let same : counted (far.work + here.played.work) ≡ count =
          omega (arith, work_is, is, small) in
          let reached : nat_le limit (far.work + here.played.work) ≡ true =
          le-leb _ _ (omega (arith, same, enough)) in (
            ap (option_map counted)
                (far.spent ∙ ap (spent_at limit far.work) split
                ∙ spent_here limit far.work here rest some.0 some.1 some.2 reached)
                ∙ ap Some same,
            sym (far.ended ∙ ap (λ x. told.text ++ text_by r limit far.work device x) split
                ∙ ap (λ x. told.text ++ report_text (turn_lines x))
                (finished_here limit far.work (with_device_line r device here) (with_device r settled rest)
                reached)
                ∙ text_last r limit device here told.text new.text tells.text),
          )

    -- the last moment
    pub all_told : now ≡ end
        → DeepOut limit whole (with_device r first whole) start old new.text next
    all_told last =
        let few = far.few in
        let fuel : end + 1 - far.count ≡ suc (end - far.count) = omega (arith, few, last) in
        let split : turns jobs r (end + 1 - far.count) end now ms s ≡ here ∷ [] =
        ap (λ k. turns jobs r k end now ms s) fuel
        ∙ turns_last jobs r end (end - far.count) now ms s last in
        record {
          text =
              sym (far.text ∙ ap (λ x. told.text ++ text_of r device x) split
              ∙ text_last r limit device here told.text new.text tells.text);
          state = tells.state ∙ sym (far.state ∙ ap (last_state s) split);
          within = far.spent ∙ ap (spent_at limit far.work) split;
        }
