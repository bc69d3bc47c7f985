-- what a device sees of a core is what it sees of Play's state of it
use Rattle.std.proofs.Common.{◌≡◌, ℕ, ◌+◌, ◌<◌, ◌≤◌, false, true, List, [], ◌∷◌, ◌++◌, None}
use Rattle.std.proofs.Common.{length, map, refl, sym, ap, ◌∙◌, subst, arith, inl, inr, append_assoc}
use Rattle.std.specs.Prelude.{Result, Ok, Err, OnOk}
use Rattle.std.specs.Prelude.{◌&&◌, ◌||◌, not, if◌then◌else◌, nat_le, nat_lt, option_map}
use Rattle.std.proofs.lemmas.Bool.{cases_lt}
use Rattle.std.proofs.lemmas.Bool.Decides.{nat_tests}
use Rattle.std.proofs.lemmas.List.{get_or-replicate, length-replicate}
use Rattle.std.proofs.lemmas.List.Concat.{flat_map-append}
use Rattle.tm_base.specs.declared.names.TheConstants.{NEVER}
use Rattle.deep_idle.specs.Device.{DeviceState, new_device, device_settled, wanted}
use Rattle.tm_report.specs.Lines.{line_text, report_text}
use Rattle.tm_script.specs.declared.syntax.Script.{Script}
use Rattle.play_rules.specs.Rules.{Rules}
use Rattle.play_rules.specs.Interrupts.{Replies}
use Rattle.play_rules.specs.Jobs.{first_unknown_job}
use Rattle.play_rules.specs.Moments.{Turn, closing, finished, last_state, turn_lines, whole_lines}
use Rattle.play_rules.specs.Parts.{counted}
use Rattle.play_rules.specs.Play.{plain_rules, play_start, play_turns}
use Rattle.play_rules.specs.State.{Cpu, cpu_at, new_cpu}
use Rattle.play_laws.proofs.Shape.AlikeTurns.{closing_alike, lines_seen}
use Rattle.core_world.specs.World.{CpuRecord, World, cpu_of, no_cpu}
use Rattle.tree_plan.specs.Shape.{tree_of}
use Rattle.tree_plan.specs.Paths.{cpu_count_of}
use Rattle.core_world.specs.Start.{start_cpu}
use Rattle.core_machine.specs.step_play.Rules.Seen.{state_of}
use Rattle.core_machine.specs.step_play.Rules.StepRules.{step_rules}
use Rattle.core_machine.specs.step_play.SamePlay.{IsPlayOfSteps, core_start, step_turns, turn_seen}
use Rattle.core_machine.proofs.step_play.Queues.Sights.{count_seen, seen_at}
use Rattle.play_driver.specs.declared.outcomes.DriveFault.{DriveFault}
use Rattle.play_driver.specs.declared.outcomes.DriveFault.TheVariants.{BadJob, NoMemory, WorkSpent}
use Rattle.core_plays.specs.Deep.{BreaksDeep, DeepToEnd, after_fire, deep_lines, deep_text}
use Rattle.core_plays.specs.Deep.{deep_turns, device_after, device_line, sleep_until, with_device_line}
use Rattle.core_plays.specs.Deep.{with_device, with_lines, without_device}
use Rattle.play_driver.specs.Outcomes.{work_limit}
use Rattle.core_plays.specs.Plays.{LawsHold}
use Rattle.core_plays.specs.Sleepers.{ByWakeups, DeepWhole, IsFor, SaysDeep}
use Rattle.core_plays.proofs.BySteps.{finished_seen}
use Rattle.core_plays.proofs.NoDevice.{turns_plain, whole_without}

-- THE RULES OF STEPS tell of interrupts by the wakeups
pub by_wakeups : ByWakeups step_rules
by_wakeups = record {
  interrupt = λ w c low.
      ap (λ (x : Cpu). x.online && (not x.idle || nat_le x.wakeup w.clock)) (seen_at w c low);
  online = λ now w c. refl;
  idle = λ now w c. refl;
  wakeup = λ now w c. refl;
}

not_below : (a b : ℕ) → b ≤ a → nat_lt a b ≡ false
not_below a b high = grind (arith, nat_tests)

-- THE WAKEUPS of a core, as Play sees it
module _ (w : World) where
  until_in : (c n : ℕ) → c < length w.cpus
      → (if nat_lt c n && ((cpu_at (state_of w) c).online && (cpu_at (state_of w) c).idle)
      then (cpu_at (state_of w) c).wakeup else NEVER)
      ≡ (if nat_lt c n && ((cpu_of w c).online && (cpu_of w c).idle)
      then (cpu_of w c).wakeup else NEVER)
  until_in c n low =
      ap (λ (x : Cpu). if nat_lt c n && (x.online && x.idle) then x.wakeup else NEVER)
      (seen_at w c low)

  until_at : (c : ℕ) → sleep_until plain_rules (state_of w) c ≡ sleep_until step_rules w c
  until_at c =
      ap (λ n. if nat_lt c n && ((cpu_at (state_of w) c).online && (cpu_at (state_of w) c).idle)
      then (cpu_at (state_of w) c).wakeup else NEVER) (count_seen w)
      ∙ elim (cases_lt c (length w.cpus)) [
        | inl low ↦ until_in c (length w.cpus) low
        | inr high ↦ rw (not_below c (length w.cpus) high) refl
      ]

  until_seen : sleep_until plain_rules (state_of w) ≡ sleep_until step_rules w
  until_seen = λ i c. until_at c i

-- MOMENTS with the device's lines, as Play sees them
after_seen : (t : Turn World) (device : DeviceState)
    → device_after plain_rules (turn_seen t) device ≡ device_after step_rules t device
after_seen t device =
    ap (λ u. device_settled u (length (after_fire t.at device).sleepers) (after_fire t.at device))
    (until_seen t.played.state)

device_seen : (device : DeviceState) (ts : List (Turn World))
    → with_device plain_rules device (map turn_seen ts)
    ≡ map turn_seen (with_device step_rules device ts)
device_seen device [] = refl
device_seen device (t ∷ ts) =
    ap (λ d. with_lines (turn_seen t) (device_line t.at device.time d.time)
    ∷ with_device plain_rules d (map turn_seen ts)) (after_seen t device)
    ∙ ap (λ xs. turn_seen (with_device_line step_rules device t) ∷ xs)
    (device_seen (device_after step_rules t device) ts)

-- a device's lines leave the state as it is
pub last_with : {S : Type 0} (r : Rules S) (s : S) (device : DeviceState) (ts : List (Turn S))
    → last_state s (with_device r device ts) ≡ last_state s ts
last_with r s device [] = refl
last_with r s device (t ∷ ts) = last_with r t.played.state (device_after r t device) ts

-- FROM THE START of a script
module _ (script : Script) where
  -- there are as many CPUs
  same_count : step_rules.cpus (core_start script) ≡ plain_rules.cpus (play_start script)
  same_count =
      length-replicate (cpu_count_of (tree_of script.nodes script.cpus script.isolated)) start_cpu
      ∙ sym (length-replicate (cpu_count_of (tree_of script.nodes script.cpus script.isolated)) new_cpu)

  abbrev device : DeviceState
  device = new_device (step_rules.cpus (core_start script))

  -- none sleeps
  awake_at : (c : ℕ) → c < length (core_start script).cpus
      → sleep_until step_rules (core_start script) c ≡ NEVER
  awake_at c low =
      let all = cpu_count_of (tree_of script.nodes script.cpus script.isolated) in
      let count = length-replicate all start_cpu in
      ap (λ (x : CpuRecord). if nat_lt c (length (core_start script).cpus) && (x.online && x.idle)
      then x.wakeup else NEVER)
      (get_or-replicate all c start_cpu no_cpu (omega (arith, low, count)))
      ∙ elim (nat_lt c (length (core_start script).cpus)) as (λ b. (if b && false then NEVER else NEVER) ≡ NEVER) [
        | true ↦ refl
        | false ↦ refl
      ]

  pub awake : IsFor step_rules (core_start script) device
  awake = record {
    count = length-replicate (length (core_start script).cpus) None;
    settled = λ c low.
        let count : length device.sleepers ≡ length (core_start script).cpus =
        length-replicate (length (core_start script).cpus) None in
        let within : c < length (core_start script).cpus = omega (arith, low, count) in
        get_or-replicate (length (core_start script).cpus) c None None within
        ∙ sym (ap wanted (awake_at c within));
  }

  module _ (jobs : Replies) (is : IsPlayOfSteps jobs script) where
    turns_are : map turn_seen (with_device step_rules device (step_turns jobs script))
        ≡ deep_turns jobs script
    turns_are =
        sym (device_seen device (step_turns jobs script))
        ∙ (λ i. with_device plain_rules (new_device (same_count i)) (is.turns i))

    lines_are : turn_lines (with_device step_rules device (step_turns jobs script))
        ≡ turn_lines (deep_turns jobs script)
    lines_are =
        sym (lines_seen state_of (with_device step_rules device (step_turns jobs script)))
        ∙ ap turn_lines turns_are

    closing_is : closing step_rules script.end
        (last_state (core_start script) (step_turns jobs script))
        ≡ closing plain_rules script.end (last_state (play_start script) (deep_turns jobs script))
    closing_is =
        closing_alike step_rules plain_rules state_of (λ u timer. refl) (λ u. refl) script.end
        (last_state (core_start script) (step_turns jobs script))
        ∙ ap (closing plain_rules script.end)
        (is.last
        ∙ sym (last_with plain_rules (play_start script)
        (new_device (plain_rules.cpus (play_start script))) (play_turns jobs script)))

    -- THE WHOLE play with the device's lines
    pub deep_text_is : (old new : List ℕ)
        → DeepWhole step_rules jobs script device (core_start script) old new
        → new ≡ old ++ deep_text jobs script
    deep_text_is old new whole =
        whole.text
        ∙ (λ i. (old ++ report_text (lines_are i)) ++ report_text (closing_is i))
        ∙ append_assoc old (report_text (turn_lines (deep_turns jobs script)))
        (report_text (closing plain_rules script.end
        (last_state (play_start script) (deep_turns jobs script))))
        ∙ ap (λ x. old ++ x)
        (sym (flat_map-append line_text (turn_lines (deep_turns jobs script))
        (closing plain_rules script.end
        (last_state (play_start script) (deep_turns jobs script)))))

    pub as_play : without_device (deep_lines jobs script)
        ≡ whole_lines plain_rules script.end (play_start script) (play_turns jobs script)
    as_play =
        whole_without plain_rules script.end
        (new_device (plain_rules.cpus (play_start script))) (play_turns jobs script)
        (last_state (play_start script) (deep_turns jobs script))
        (turns_plain jobs plain_rules (script.end + 1) script.end 0 script.moments
        (play_start script))
        ∙ ap (λ s. turn_lines (play_turns jobs script) ++ closing plain_rules script.end s)
        (last_with plain_rules (play_start script)
        (new_device (plain_rules.cpus (play_start script))) (play_turns jobs script))

    deep_plays : LawsHold jobs script → (table : ℕ) (old new : List ℕ)
        → DeepWhole step_rules jobs script device (core_start script) old new
        → first_unknown_job table script.moments ≡ None → DeepToEnd jobs table script old new
    deep_plays laws table old new whole known = record {
      text = deep_text_is old new whole;
      as_play = ap report_text as_play;
      can_play = record {
        known = known;
        within = sym (is.spent (work_limit script.version)) ∙ whole.within;
      };
      laws = laws;
    }

    -- and where it is broken off
    deep_breaks : (table : ℕ) (fault : DriveFault) (old new : List ℕ)
        → SaysDeep step_rules jobs table script device (core_start script) fault old new
        → BreaksDeep jobs table script fault old new
    deep_breaks table (BadJob line job) old new says =
        record { cause = says.0; gains = says.1 }
    deep_breaks table (WorkSpent count) old new says =
        let limit = work_limit script.version in record {
          cause = (says.0, ap (option_map counted) (sym (is.spent limit)) ∙ says.1.0);
          gains =
              says.1.1
              ∙ ap (λ ls. old ++ report_text ls)
              (sym (finished_seen limit 0 (with_device step_rules device (step_turns jobs script)))
              ∙ ap (λ ts. turn_lines (finished limit 0 ts)) turns_are);
        }
    deep_breaks table NoMemory old new says = record { cause = tt; gains = says }

    -- from a core that is the start
    module _ (start : World) (at_start : start ≡ core_start script) where
      pub awake_from : IsFor step_rules start (new_device (step_rules.cpus start))
      awake_from = subst (λ w. IsFor step_rules w (new_device (step_rules.cpus w))) (sym at_start) awake

      pub plays_from : LawsHold jobs script → (table : ℕ) (old new : List ℕ)
          → DeepWhole step_rules jobs script (new_device (step_rules.cpus start)) start old new
          → first_unknown_job table script.moments ≡ None → DeepToEnd jobs table script old new
      plays_from laws table old new whole known =
          deep_plays laws table old new
          (subst (λ w. DeepWhole step_rules jobs script (new_device (step_rules.cpus w)) w old new)
          at_start whole) known

      pub breaks_from : (table : ℕ) (fault : DriveFault) (old new : List ℕ)
          → SaysDeep step_rules jobs table script (new_device (step_rules.cpus start)) start fault
          old new
          → BreaksDeep jobs table script fault old new
      breaks_from table fault old new says =
          deep_breaks table fault old new
          (subst (λ w. SaysDeep step_rules jobs table script (new_device (step_rules.cpus w)) w
          fault old new) at_start says)

-- two facts of an answer that is no fault
pub both_ok : {T E A B C : Type 0} (result : Result T E) → (A → B → C) → OnOk result A
    → OnOk result B → OnOk result C
both_ok (Ok x) f one two = f one two
both_ok (Err e) f one two = tt
