-- what the calls of an interrupt leave
use Rattle.std.proofs.Common.{◌≡◌, ℕ, ◌<◌, true, false, Some, None, length}
use Rattle.std.proofs.Common.{refl, sym, ap, ◌∙◌, subst, inl, inr}
use Rattle.std.specs.Prelude.{◌&&◌, ◌==◌}
use Rattle.std.proofs.lemmas.Bool.{cases_Bool, cond-false, cond-true, eq-eqb, ne_eqb}
use Rattle.tree_plan.specs.Paths.{is_placed_in}
use Rattle.walk_rules.specs.declared.walk.WalkKind.{WalkKind}
use Rattle.walk_rules.specs.declared.walk.WalkKind.TheVariants as kinds
use Rattle.walk_rules.specs.declared.walk.Stage.TheVariants as stages
use Rattle.play_rules.specs.Interrupts.{cpu_id}
use Rattle.core_steps.specs.core_laws.Laws.{StepsStayLawful}
use Rattle.core_world.specs.declared.step.Step.TheVariants as steps
use Rattle.core_world.specs.Enabled.{MayRelease}
use Rattle.core_world.specs.Steps.{begins, marker_of, stepped, with_walk}
use Rattle.core_world.specs.World.{CpuRecord, World, cpu_of}
use Rattle.step_play.specs.Rules.Alike.{EndsAlike, LetsGoAlike}
use Rattle.step_play.specs.Rules.Alone.{goes_on, walked_out}
use Rattle.step_play.specs.Rules.Seen.{InPlay, InRun, inside, resting, serving}
use Rattle.step_play.specs.Rules.StepRules.{can_be_taken, step_rules}
use Rattle.step_play.proofs.Lone.{run_lone}
use Rattle.step_play.proofs.Takes as turns
use Rattle.step_play.proofs.Takes.{enter_plays, take_plays, takeable, there}
use Rattle.step_play.proofs.Telling.Letting.{may_carry}
use Rattle.step_play.proofs.Telling.Reevaluating.{leaves_run, may_reevaluate}
use Rattle.step_play.proofs.Worlds.{Bare, Fits, bare, dressed, free_in, own_is, put_bare}
use Rattle.step_play.proofs.Worlds.{put_plays, walk_by}
use Rattle.core_machine.proofs.Alone.Kinds.{IsWalked, begins_so, is_walked}
use Rattle.core_machine.proofs.Calls.Leaves.{LeavesOnline, own_online, own_same, walk_gone}
use Rattle.core_machine.proofs.Calls.Leaves.{walked_online, walked_runs, walked_same}

module _ (w : World) where
  -- RELEASE: a CPU that doesn't sleep any more
  module _ (r d : ℕ) (i : InRun (serving r d) w) (low : d < length w.cpus)
      (awake : ((cpu_of w d).online && (cpu_of w d).idle) ≡ false) where
    pub may_release : MayRelease w d
    may_release = record {
      is_free = free_in (serving r d) w d i refl low;
      marked = (r, i.marks d ∙ cond-true (d == d) (Some r) None (eq-eqb d d refl));
      awake = elim (cases_Bool (cpu_of w d).online) [
        | inl on ↦ inr (sym (ap (λ b. b && (cpu_of w d).idle) on) ∙ awake)
        | inr off ↦ inl off
      ];
    }

    abbrev unmarked : CpuRecord
    unmarked = record (cpu_of w d) { mark = None }

    abbrev pub released : World
    released = stepped w (steps.Release (cpu_id d))

    release_runs : StepsStayLawful → InRun (inside r) released
    release_runs law =
        let fits : Fits (serving r d) (inside r) w d unmarked = record {
          whole = i.whole d;
          inside = i.inside d;
          mark = refl;
          walk = walk_by (serving r d) (inside r) d (cpu_of w d).walk refl (i.walks d);
          others_inside = λ e ne. refl;
          others_marks = λ e ne. sym (cond-false (e == d) (Some r) None (ne_eqb e d ne));
          others_hand = λ e ne. refl;
        } in
        dressed (inside r) released
        (subst (Bare (inside r)) (sym (own_is w d unmarked))
        (put_bare (serving r d) (inside r) w d unmarked low (bare (serving r d) w i) fits))
        (law w (steps.Release (cpu_id d)) i.lawful may_release)

    pub releases : StepsStayLawful → LeavesOnline (serving r d) (inside r) w released
    releases law = record {
      left = record {
        fit = release_runs law;
        play = λ p. put_plays (serving r d) (inside r) w d unmarked released low refl refl
            (own_is w d unmarked) p (release_runs law);
        same = own_same w d unmarked low;
      };
      online = own_online w d unmarked low refl;
    }

  -- WHAT IS LEFT
  module _ (law : StepsStayLawful) where
    pub enters : (c : ℕ) → InRun resting w → (cpu_of w c).online ≡ true →
        LeavesOnline resting (inside c) w (step_rules.entered w c)
    enters c i online =
        let low = there w c online in
        let y = record (cpu_of w c) { inside = true } in
        record {
          left = record {
            fit = turns.enters law w c i online;
            play = λ p. (enter_plays law w c p online).in_play;
            same = own_same w c y low;
          };
          online = own_online w c y low refl;
        }

    pub takes : (c d : ℕ) → InRun (inside c) w → is_placed_in w.tree c ≡ true →
        c < length w.cpus → can_be_taken w d ≡ true →
        LeavesOnline (inside c) (serving c d) w (step_rules.taken w c d)
    takes c d i placed low can =
        let here = there w d (takeable w d can).online in
        let y = record (cpu_of w d) { mark = Some c } in
        record {
          left = record {
            fit = turns.takes law w c d i placed low can;
            play = λ p. (take_plays law w c d p placed low can).in_play;
            same = own_same w d y here;
          };
          online = own_online w d y here refl;
        }

    -- A CPU IS LET GO
    module _ (r d : ℕ) (i : InRun (serving r d) w) (low : d < length w.cpus) where
      abbrev kind : WalkKind
      kind = kinds.Remote (marker_of (cpu_of w d))

      abbrev told : CpuRecord
      told = with_walk (cpu_of w d) (begins w d kind stages.LockGroup)

      abbrev pub carried : World
      carried = walked_out d (stepped w (steps.Carry (cpu_id d)))

      pub carries : LetsGoAlike → (cpu_of w d).online ≡ true → (cpu_of w d).idle ≡ true →
          goes_on (cpu_of carried d).walk ≡ false → LeavesOnline (serving r d) (inside r) w carried
      carries alike online idle stop =
          let began = law w (steps.Carry (cpu_id d)) i.lawful (may_carry w r d i online idle) in
          let e : IsWalked w d kind told carried =
          is_walked law w d low (run_lone (serving r d) w d i) kind told began
          (begins_so _ kind stages.LockGroup _ _ told refl) stop in
          let is = cond-true ((cpu_of w d).online && (cpu_of w d).idle) carried
          (stepped w (steps.Release (cpu_id d))) (λ j. online j && idle j) in
          record {
            left = record {
              fit = walked_runs e (serving r d) (inside r) i (record {
                bases = refl;
                inside = i.inside d;
                mark = refl;
                insides = λ n ne. refl;
                marks = λ n ne. sym (cond-false (n == d) (Some r) None (ne_eqb n d ne));
                hands = λ n ne. refl;
              }) (walk_gone (inside r) d kind (λ off. cc) refl (cpu_of carried d).walk e.walk);
              play = λ p. subst (InPlay (inside r)) is (alike w r d p online idle).in_play;
              same = walked_same e;
            };
            online = walked_online e refl;
          }

    -- THE END
    module _ (c : ℕ) (i : InRun (inside c) w) (low : c < length w.cpus) where
      abbrev again : CpuRecord
      again = with_walk (cpu_of w c) (begins w c kinds.Reeval stages.LockGroup)

      abbrev pub told_again : World
      told_again = walked_out c (stepped w (steps.Reeval (cpu_id c)))

      abbrev after_leave : World
      after_leave = stepped w (steps.Leave (cpu_id c))

      pub reevaluates : EndsAlike → (cpu_of w c).idle ≡ true →
          goes_on (cpu_of told_again c).walk ≡ false →
          LeavesOnline (inside c) resting w told_again
      reevaluates alike idle stop =
          let began = law w (steps.Reeval (cpu_id c)) i.lawful (may_reevaluate w c i idle) in
          let e : IsWalked w c kinds.Reeval again told_again =
          is_walked law w c low (run_lone (inside c) w c i) kinds.Reeval again began
          (begins_so _ kinds.Reeval stages.LockGroup _ _ again refl) stop in
          record {
            left = record {
              fit = walked_runs e (inside c) resting i (record {
                bases = refl;
                inside = refl;
                mark = i.marks c;
                insides = λ n ne. sym (ne_eqb n c ne);
                marks = λ n ne. refl;
                hands = λ n ne. refl;
              }) (walk_gone resting c kinds.Reeval (λ off. cc) refl (cpu_of told_again c).walk
                  e.walk);
              play = λ p. subst (InPlay resting)
                  (cond-true (cpu_of w c).idle told_again after_leave idle) (alike w c p).in_play;
              same = walked_same e;
            };
            online = walked_online e refl;
          }

      pub leaves : EndsAlike → (cpu_of w c).idle ≡ false →
          LeavesOnline (inside c) resting w after_leave
      leaves alike busy =
          let y = record (cpu_of w c) { inside = false } in
          record {
            left = record {
              fit = leaves_run law w c i busy;
              play = λ p. subst (InPlay resting)
                  (cond-false (cpu_of w c).idle told_again after_leave busy) (alike w c p).in_play;
              same = own_same w c y low;
            };
            online = own_online w c y low refl;
          }
