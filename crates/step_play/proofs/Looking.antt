-- each rule of a look by steps, at its stage
use Rattle.std.proofs.Common.{◌≡◌, ◌≢◌, ℕ, suc, ◌<◌, true, length}
use Rattle.std.proofs.Common.{Some, None, refl, sym, ap, ◌∙◌, subst, arith, inl, inr}
use Rattle.std.specs.Prelude.{◌==◌, if◌then◌else◌}
use Rattle.std.specs.Ordering.{eq_by_cmp, nat_cmp}
use Rattle.std.specs.FinSet as set
use Rattle.std.proofs.lemmas.Bool.{and_parts, cases_eq, cond-true, cond_both, eq-eqb}
use Rattle.std.proofs.lemmas.Bool.{eqb-true, or_cases}
use Rattle.std.specs.Cmp.{nat_cmp_total, unsigned_tied}
use Rattle.std.proofs.lemmas.List.{get_or-set_other}
use Rattle.tm_base.specs.declared.limits.TheConstants.{SCRIPT_TIME_LIMIT}
use Rattle.tm_base.specs.declared.names.TheConstants.{NEVER}
use Rattle.tm_base.specs.declared.names.Class.TheVariants.{Global}
use Rattle.wheel_core.specs.PlainBase.{NoneDue}
use Rattle.cpu_bases.specs.CpuBases.{CpuBases, base_of, drained, events_of}
use Rattle.tree_plan.specs.Shape.{Shape}
use Rattle.tree_plan.specs.Paths.{cpu_count_of}
use Rattle.tree_plan.proofs.Below.{placed_laws}
use Rattle.play_rules.specs.declared.asks.Arming.{Arming}
use Rattle.play_rules.specs.Hierarchy.{named, next_of, told_again}
use Rattle.play_rules.specs.Interrupts.{cpu_id}
use Rattle.play_rules.specs.State.{Cpu, State, cpu_at, cpu_count, has_group, new_cpu}
use Rattle.play_rules.specs.State.{with_bases}
use Rattle.play_rules.specs.Timers.{armed_bases, armed_on, bases_at, drained_on, where_queued}
use Rattle.play_laws.proofs.Answered.Plays.{rules_keep}
use Rattle.play_laws.proofs.Answered.States.{here_is}
use Rattle.play_laws.proofs.Answered.Timers.{bases_alike}
use Rattle.play_laws.proofs.Shape.Alike.{drained_seen}
use Rattle.play_laws.proofs.Shape.Shape.{looking}
use Rattle.play_laws.proofs.Shape.Shape.{running, taking}
use Rattle.core_world.specs.Enabled.{IsFree}
use Rattle.core_world.specs.World.{World, cpu_of}
use Rattle.core_facts.specs.core_laws.Laws.{StepsStayLawful}
use Rattle.step_play.specs.Rules.Alike.{Plays}
use Rattle.step_play.specs.Rules.Seen.{InPlay, inside, serving, state_of}
use Rattle.step_play.specs.Rules.StepRules.{armed_by_steps, can_be_taken, drained_by_steps}
use Rattle.step_play.specs.Rules.StepRules.{let_go_by_steps, named_by_queue}
use Rattle.step_play.specs.Rules.StepRules.{step_rules}
use Rattle.step_play.proofs.Queues.Looks.{each_can_be_taken, each_names_alike}
use Rattle.step_play.proofs.Queues.Sights.{count_seen}
use Rattle.step_play.specs.SamePlay.{Walks}
use Rattle.step_play.proofs.Acts.{arm_else, arm_late, arm_plays, drain_late}
use Rattle.step_play.proofs.Acts.{drain_plays, drain_seen}
use Rattle.step_play.proofs.Held.{bases_seen}
use Rattle.step_play.proofs.Hotplug.{read}
use Rattle.step_play.proofs.Stages.{At, Looking, MayArm, Running, Serving, TriedLate}
use Rattle.step_play.proofs.Stages.{from_play, in_core, none_due, played}
use Rattle.step_play.proofs.Takes.{take_plays}
use Rattle.step_play.proofs.Worlds.{free_in, no_walk, rests}
use Rattle.step_play.proofs.Interrupted.{next_late}

module _ (law : StepsStayLawful) (walks : Walks) (t : Shape) (timers end : ℕ)
    (in_time : end < SCRIPT_TIME_LIMIT) (now : ℕ) (due : set.FinSet nat_cmp) (c level n : ℕ)
    (tried : set.FinSet nat_cmp) where
  -- WHOM IT NAMES
  module _ (w : World)
      (was : Looking t timers now due c (looking due c level (suc n) tried) tried w) where
    i : InPlay (inside c) w
    i = was.inside.at.in_play

    pub names : named_by_queue w c level tried ≡ named (state_of w) c level
    names = each_names_alike w (rests (inside c) w i) c level tried
        (none_due (inside c) w tried i was.late)

    module _ (d : ℕ) (is : named_by_queue w c level tried ≡ Some d) where
      pub can_take : can_be_taken w d ≡ true
      can_take =
          each_can_be_taken w (rests (inside c) w i) c level d tried
          (none_due (inside c) w tried i was.late) is
          (no_walk (inside c) w d i.in_run refl) (i.in_run.marks d)

      pub takes_plays : c < cpu_count_of t →
          Plays (serving c d) (step_rules.taken w c d) (state_of w)
      takes_plays low =
          take_plays law w c d i
          ((placed_laws w.tree i.in_run.planned).has_group c was.inside.at.settles.grouped)
          (in_core t timers now (looking due c level (suc n) tried) (inside c) w was.inside.at c
          low)
          can_take

      pub taken : c < cpu_count_of t →
          Serving t timers now due c (taking due c level n tried d) tried d
          (step_rules.taken w c d)
      taken low = record {
        at = played t timers now (looking due c level (suc n) tried) (inside c) w was.inside.at
            (taking due c level n tried d) (serving c d) (step_rules.taken w c d) (state_of w)
            (takes_plays low)
            ((rules_keep t timers end in_time).taken now due c level n tried d (state_of w) low
            (sym names ∙ is) refl was.inside.at.settles) refl refl refl;
        called = was.inside.called;
        late = subst (TriedLate tried) (sym (takes_plays low).state) was.late;
      }

  -- bases say nothing of what was told
  based_late : (s : State) (e : ℕ) (b : CpuBases) → e < cpu_count s → TriedLate tried s →
      TriedLate tried (with_bases s e b)
  based_late s e b low was k is =
      let late = was k is in
      let same = bases_alike s e b low (λ (x : Cpu). x.told) refl k in
      omega (arith, late, same)

  -- whoever isn't the CPU tried last was tried before
  untold : (d e : ℕ) → e ≢ d → set.contains (set.insert tried d) e ≡ true →
      set.contains tried e ≡ true
  untold d e ne is =
      elim (or_cases (eq_by_cmp nat_cmp e d) (set.contains tried e)
      (sym (set.contains-insert nat_cmp_total tried d e) ∙ is)) [
        | inl tied ↦ absurd (ne (eqb-true e d (sym (unsigned_tied e d) ∙ tied)))
        | inr before ↦ before
      ]

  -- WHAT IT GETS
  module _ (d : ℕ) (w : World) where
    module _ (low : c < cpu_count_of t)
        (was : Serving t timers now due c (taking due c level n tried d) tried d w) where
      low_d : d < length w.cpus
      low_d = from_play t timers now (taking due c level n tried d) (serving c d) w was.at d
          was.at.settles.low

      free_d : IsFree w d
      free_d = free_in (serving c d) w d was.at.in_play.in_run refl low_d

      marked : (cpu_of w d).mark ≡ Some c
      marked = was.at.in_play.in_run.marks d ∙ cond-true (d == d) (Some c) None (eq-eqb d d refl)

      pub drains_for : Plays (serving c d) (drained_by_steps w d Global c).state
          (drained_on (state_of w) d Global c).state
      drains_for =
          drain_plays law (serving c d) w was.at.in_play d Global c free_d (inr (refl, marked))

      pub sees_for : drained_seen state_of (drained_by_steps w d Global c)
          ≡ drained_on (state_of w) d Global c
      sees_for =
          drain_seen law (serving c d) w was.at.in_play d Global c free_d (inr (refl, marked))

      clock_for : (drained_by_steps w d Global c).state.clock ≡ w.clock
      clock_for = ap (λ (x : State). x.clock) drains_for.state

      told_for : TriedLate tried (drained_on (state_of w) d Global c).state
      told_for =
          based_late (state_of w) d
          (drained (length (base_of Global (bases_at (state_of w) d)).items) w.clock Global
          (cpu_id c) (bases_at (state_of w) d)) was.at.settles.low was.late

      pub drained_for : Running t timers now due c (running due c level n tried d) tried d
          (drained_by_steps w d Global c).state
      drained_for = record {
        serving = record {
          at = played t timers now (taking due c level n tried d) (serving c d) w was.at
              (running due c level n tried d) (serving c d) (drained_by_steps w d Global c).state
              (drained_on (state_of w) d Global c).state drains_for
              ((rules_keep t timers end in_time).drained_for now due c level n tried d
              (state_of w) low was.at.settles) refl refl refl;
          called = was.called;
          late = subst (TriedLate tried) (sym drains_for.state) told_for;
        };
        drained = subst (λ m. NoneDue m (base_of Global
            (cpu_of (drained_by_steps w d Global c).state d).bases).items) (sym clock_for)
            (drain_late law (serving c d) w was.at.in_play.in_run d Global c free_d
            (inr (refl, marked)));
      }

    -- and what its jobs arm
    module _ (low : c < cpu_count_of t)
        (was : Running t timers now due c (running due c level n tried d) tried d w) where
      abbrev at : At t timers now (running due c level n tried d) (serving c d) w
      at = was.serving.at

      here : c < length w.cpus
      here = in_core t timers now (running due c level n tried d) (serving c d) w at c low

      module _ (a : Arming) (fits : MayArm timers a)
          (none : where_queued (state_of w) a.timer.0 ≡ None) where
        free_c : IsFree w c
        free_c = free_in (serving c d) w c at.in_play.in_run refl here

        on : (cpu_of w c).online ≡ true
        on = sym (read w (λ x. x.online) c here)
            ∙ at.settles.looking.inside.online c was.serving.called

        within : (cpu_of w c).inside ≡ true
        within = at.in_play.in_run.inside c ∙ eq-eqb c c refl

        there_is : a.timer.0 < w.timers
        there_is = let many = at.many in let known = fits.0 in omega (arith, known, many)

        early : w.clock < SCRIPT_TIME_LIMIT
        early = let clock = at.clock in let early = at.early in omega (arith, clock, early)

        pub arms_for : Plays (serving c d) (armed_by_steps w c a).state
            (armed_on (state_of w) c a).state
        arms_for = arm_plays law (serving c d) w at.in_play c a free_c on (inr within) there_is
            fits.1 early none

        none_armed : NoneDue w.clock
            (base_of Global (cpu_of (armed_by_steps w c a).state d).bases).items
        none_armed = elim (cases_eq d c) [
          | inl same ↦
              subst (λ e. NoneDue w.clock
              (base_of Global (cpu_of (armed_by_steps w c a).state e).bases).items) (sym same)
              (arm_late law (serving c d) w at.in_play.in_run c a free_c on (inr within) there_is
              fits.1 early none Global
              (subst (λ e. NoneDue w.clock (base_of Global (cpu_of w e).bases).items) same
              was.drained))
          | inr ne ↦
              subst (λ b. NoneDue w.clock (base_of Global b).items)
              (sym (arm_else law (serving c d) w at.in_play.in_run c a free_c on (inr within)
              there_is fits.1 early none d ne)) was.drained
        ]

        told_still : TriedLate tried (armed_on (state_of w) c a).state
        told_still =
            let count = count_seen w in
            based_late (state_of w) c (armed_bases (state_of w) c a) (omega (arith, here, count))
            was.serving.late

        pub ran_for : Running t timers now due c (running due c level n tried d) tried d
            (armed_by_steps w c a).state
        ran_for = record {
          serving = record {
            at = played t timers now (running due c level n tried d) (serving c d) w at
                (running due c level n tried d) (serving c d) (armed_by_steps w c a).state
                (armed_on (state_of w) c a).state arms_for
                ((rules_keep t timers end in_time).ran_for now due c level n tried d
                (state_of w) a low tt none at.settles) refl refl refl;
            called = was.serving.called;
            late = subst (TriedLate tried) (sym arms_for.state) told_still;
          };
          drained = subst (λ m. NoneDue m (base_of Global
              (cpu_of (armed_by_steps w c a).state d).bases).items)
              (sym (ap (λ (x : State). x.clock) arms_for.state)) none_armed;
        }

      -- THE CPU IS LET GO, and has told what is to come
      low_e : d < length w.cpus
      low_e = from_play t timers now (running due c level n tried d) (serving c d) w at d
          at.settles.low

      pub lets_go_plays : Plays (inside c) (let_go_by_steps w d) (told_again (state_of w) d)
      lets_go_plays =
          let parts = and_parts (cpu_at (state_of w) d).online (cpu_at (state_of w) d).idle
          at.settles.sleeps in
          walks.tell.lets_go w c d at.in_play (sym (read w (λ x. x.online) d low_e) ∙ parts.0)
          (sym (read w (λ x. x.idle) d low_e) ∙ parts.1)

      abbrev teller : Cpu
      teller = record (cpu_at (state_of w) d) {
        told = if has_group (state_of w) d then next_of (state_of w) d else NEVER;
      }

      clock_comes : w.clock < NEVER
      clock_comes = let clock = at.in_play.in_run.lawful.times.clock in omega (arith, clock)

      tells_late : w.clock < teller.told
      tells_late =
          cond_both (has_group (state_of w) d) (next_of (state_of w) d) NEVER (λ m. w.clock < m)
          (λ grouped. subst (λ b. w.clock < (events_of b).next) (sym (bases_seen w d low_e))
          (next_late w.clock (cpu_of w d).bases clock_comes was.drained))
          (λ out. clock_comes)

      retold : TriedLate (set.insert tried d) (told_again (state_of w) d)
      retold e is = elim (cases_eq e d) [
        | inl same ↦
            let told : (cpu_at (told_again (state_of w) d) e).told ≡ teller.told =
            ap (λ k. (cpu_at (told_again (state_of w) d) k).told) same
            ∙ ap (λ (x : Cpu). x.told) (here_is (state_of w) d teller at.settles.low) in
            let late = tells_late in
            omega (arith, told, late)
        | inr ne ↦
            let told : (cpu_at (told_again (state_of w) d) e).told ≡ (cpu_at (state_of w) e).told =
            ap (λ (x : Cpu). x.told)
            (get_or-set_other (state_of w).cpus d e teller new_cpu ne) in
            let late = was.serving.late e (untold d e ne is) in
            omega (arith, told, late)
      ]

      pub let_go : Looking t timers now due c (looking due c level n (set.insert tried d))
          (set.insert tried d) (let_go_by_steps w d)
      let_go = record {
        inside = record {
          at = played t timers now (running due c level n tried d) (serving c d) w at
              (looking due c level n (set.insert tried d)) (inside c) (let_go_by_steps w d)
              (told_again (state_of w) d) lets_go_plays
              ((rules_keep t timers end in_time).let_go now due c level n tried d (state_of w)
              low at.settles) refl refl refl;
          called = was.serving.called;
        };
        late = subst (TriedLate (set.insert tried d)) (sym lets_go_plays.state) retold;
      }
