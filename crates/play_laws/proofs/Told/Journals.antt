-- for crates above: after each moment the lines tell what the journals tell
use Rattle.std.proofs.Common.{◌≡◌, ℕ, ◌+◌, [], ◌++◌, Bool, refl, sym, ap, ◌∙◌}
use Rattle.std.proofs.Common.{arith, take, true≢false}
use Rattle.std.specs.Prelude.{filter}
use Rattle.std.proofs.lemmas.Bool.{eqb-true, ne_eqb}
use Rattle.tm_script.specs.declared.syntax.Script.{Script}
use Rattle.tm_script.specs.Grammar.{IsScript}
use Rattle.tree_plan.specs.Paths.{cpu_count_of, level_count_of}
use Rattle.play_rules.specs.Interrupts.{Replies}
use Rattle.play_rules.specs.Moments.{last_state, turn_lines}
use Rattle.play_rules.specs.State.{Cpu, start}
use Rattle.play_rules.specs.Timers.{bases_at}
use Rattle.play_rules.specs.Play.{plain_rules, play_start, play_turns}
use Rattle.play_laws.specs.Told.Journals.{EachTimerIsTold, RunsAreHandOuts, TellSameAfterEach}
use Rattle.play_laws.specs.Told.Journals.{Deed, by_journal, by_lines, is_hand_out, is_of}
use Rattle.play_laws.proofs.Answered.Scripts.{moments_in, moments_rise, tree_for}
use Rattle.play_laws.proofs.Work.Whole.{Fits, Stands, new_at, rules_keep, start_homes}
use Rattle.play_laws.proofs.Told.Drained.{Swaps}
use Rattle.play_laws.proofs.Told.Rules.{LinesGo, rules_tell}
use Rattle.play_laws.proofs.Told.TellsTurns.{turns_tell}

module _ (passes : Deed → Bool) (swaps : Swaps passes) (jobs : Replies) (script : Script)
    (is : IsScript script) (n : ℕ) where
  -- from the start to the n-th moment
  pub goes_to : LinesGo passes (play_start script) (turn_lines (take n (play_turns jobs script)))
      (last_state (play_start script) (take n (play_turns jobs script)))
  goes_to =
      let tree = tree_for script in
      let cpus = cpu_count_of tree in
      let levels = level_count_of tree in
      turns_tell jobs plain_rules cpus script.timers levels script.end
      (Stands script.timers cpus levels script.end is.early_end) (Fits script.timers)
      (rules_keep script.timers cpus levels script.end is.early_end) (LinesGo passes)
      (rules_tell passes swaps jobs script.timers cpus levels script.end is.early_end)
      (script.end + 1) 0 script.moments (start tree script.timers) (
        moments_in script is,
        moments_rise script is,
        omega arith,
        record { at = refl; homes = start_homes tree script.timers },
      ) n

pub tell_same : (passes : Deed → Bool) → Swaps passes → TellSameAfterEach passes
tell_same passes swaps jobs script n is c =
    let goes = goes_to passes swaps jobs script is n in
    let first = play_start script in
    let tree = tree_for script in
    let last = last_state first (take n (play_turns jobs script)) in
    let told = filter passes (by_lines c (turn_lines (take n (play_turns jobs script)))) in
    let new : filter passes (by_journal (bases_at first c).journal) ≡ [] =
    ap (λ (x : Cpu). filter passes (by_journal x.bases.journal)) (new_at (cpu_count_of tree) c) in
    sym (goes.grows c ∙ ap (λ x. x ++ told) new)

pub runs_swap : Swaps is_hand_out
runs_swap now timer class wheel at other due by apart is = absurd (true≢false (sym is))

timers_swap : (timer : ℕ) → Swaps (is_of timer)
timers_swap timer now mine class wheel at other due by apart is =
    let same : mine ≡ timer = eqb-true mine timer is in
    ne_eqb other timer (λ too. apart (too ∙ sym same))

pub runs_are_hand_outs : RunsAreHandOuts
runs_are_hand_outs = tell_same is_hand_out runs_swap

pub each_timer_is_told : EachTimerIsTold
each_timer_is_told timer = tell_same (is_of timer) (timers_swap timer)
