-- an activation that is made alone leaves a core in play, and Play's state of it is woken
use Rattle.std.proofs.Common.{◌≡◌, ◌≢◌, inl, inr, ℕ, ◌<◌, ◌&&◌, not, cond, Bool, true, false}
use Rattle.std.proofs.Common.{true≢false, List, length, Some, None, refl, sym, ap, ◌∙◌, subst}
use Rattle.std.proofs.Common.{arith}
use Rattle.std.specs.Prelude.{is_some, option_map}
use Rattle.std.specs.Option.{option_map_or}
use Rattle.std.proofs.lemmas.Bool.{cases_eq, cases_lt}
use Rattle.tm_base.specs.declared.names.TheConstants.{NEVER}
use Rattle.wheel_core.specs.PlainBase.{NoneBehind}
use Rattle.cpu_bases.specs.CpuBases.{base_of}
use Rattle.tree_plan.specs.Shape.{IsPlanned}
use Rattle.tree_plan.specs.Paths.{bit_of, child_towards, group_at_of, is_below, level_of}
use Rattle.tree_plan.specs.Laws.{BelowLaws, PathLaws}
use Rattle.play_rules.specs.State as play
use Rattle.play_rules.specs.State.{Cpu, State, cpu_at, migrator_at}
use Rattle.play_rules.specs.Hierarchy.{group_active, number_towards, with_migrators, woken}
use Rattle.play_rules.specs.Hierarchy.{woken_migrator}
use Rattle.walk_rules.specs.Hierarchy.{side}
use Rattle.core_world.specs.Steps.{with_walk}
use Rattle.core_world.specs.World.{CpuRecord, World, cpu_of, is_active}
use Rattle.step_play.specs.Rules.Live.{told_by}
use Rattle.step_play.specs.Rules.Seen.{InPlay, Phase, WalkFits, cpu_seen, state_of}
use Rattle.step_play.proofs.Activation.Actives.{group_from, group_to}
use Rattle.step_play.proofs.Activation.Alongside.{role}
use Rattle.step_play.proofs.Activation.Ascents.{Arrived}
use Rattle.step_play.proofs.Activation.Calm.{active_below, run_calm}
use Rattle.step_play.proofs.Activation.Seeing.{migrator_seen, rule_at, rule_count, seen_as, with_count}
use Rattle.step_play.proofs.Activation.Seeing.{with_else, with_same}

-- the CPU that became active
pub record IsAwake (old : World) (c : ℕ) (y : CpuRecord) : Type 0 where
  pub low : c < length old.cpus
  pub free : (cpu_of old c).walk ≡ None
  pub online : y.online ≡ true
  pub idle : y.idle ≡ false
  pub wakeup : y.wakeup ≡ NEVER
  pub bases : y.bases ≡ (cpu_of old c).bases
  pub inside : y.inside ≡ (cpu_of old c).inside
  pub mark : y.mark ≡ (cpu_of old c).mark

module _ (old : World) (c : ℕ) (y : CpuRecord) (w : World) (e : Arrived old c y w)
    (z : IsAwake old c y) (ph : Phase) (i : InPlay ph old) where
  -- what the walk leaves of the CPUs
  each : {X : Type 0} (f : CpuRecord → X) → ((v : CpuRecord) → f (with_walk v None) ≡ f v) →
      f y ≡ f (cpu_of old c) → (d : ℕ) → f (cpu_of w d) ≡ f (cpu_of old d)
  each f blind same d = elim (cases_eq d c) [
    | inl is ↦ subst (λ n. f (cpu_of w n) ≡ f (cpu_of old n)) (sym is)
        (sym (blind (cpu_of w c)) ∙ (ap f e.along.itself ∙ same))
    | inr ne ↦ ap f (e.along.others d ne)
  ]

  pub stays_in_play : InPlay ph w
  stays_in_play = record {
    in_run = record {
      lawful = e.along.lawful;
      planned = subst IsPlanned (sym e.along.tree) i.in_run.planned;
      whole = λ d class. subst (λ b. NoneBehind (base_of class b))
          (sym (each (λ v. v.bases) (λ v. refl) z.bases d)) (i.in_run.whole d class);
      inside = λ d. each (λ v. v.inside) (λ v. refl) z.inside d ∙ i.in_run.inside d;
      marks = λ d. each (λ v. v.mark) (λ v. refl) z.mark d ∙ i.in_run.marks d;
      walks = λ d. elim (cases_eq d c) [
        | inl is ↦ subst (λ n. WalkFits ph n (cpu_of w n).walk) (sym is)
            (subst (WalkFits ph c) (z.free ∙ sym e.stops) (i.in_run.walks c))
        | inr ne ↦ subst (λ (v : CpuRecord). WalkFits ph d v.walk) (sym (e.along.others d ne))
            (i.in_run.walks d)
      ];
    };
    exact = e.exact;
    told = λ d awake. elim (cases_eq d c) [
      | inl is ↦ subst (λ n. told_by w n ≡ NEVER) (sym is) e.own
      | inr ne ↦ e.along.told d ne ∙ i.told d
          (sym (ap (λ (v : CpuRecord). v.online && v.idle) (e.along.others d ne)) ∙ awake)
    ];
  }

  module _ (paths : PathLaws old.tree) (below : BelowLaws old.tree) (cpus : List Cpu)
      (count : length cpus ≡ length old.cpus) where
    abbrev s : State
    s = record (state_of old) { cpus = cpus }

    -- the groups
    on_path : (j g : ℕ) → group_at_of old.tree c j ≡ Some g → group_at_of w.tree c j ≡ Some g
    on_path j g at = ap (λ t. group_at_of t c j) e.along.tree ∙ at

    off_path : (g : ℕ) → ((j : ℕ) → j < e.count → group_at_of old.tree c j ≡ Some g → ⊥) →
        role w g ≡ role old g
    off_path g none = e.made.rest g
        (λ j low at. none j low (sym (ap (λ t. group_at_of t c j) e.along.tree) ∙ at))

    number_is : (l g : ℕ) → is_below old.tree c g ≡ true → group_at_of old.tree c l ≡ Some g →
        number_towards old.tree c g ≡ Some (side old.tree c l)
    number_is l g under at =
        let m = paths.towards c l g at in
        ap (λ b. option_map (bit_of old.tree)
        (cond b (child_towards old.tree c (level_of old.tree g)) None)) under
        ∙ (ap (λ n. option_map (bit_of old.tree) (child_towards old.tree c n))
        (paths.level c l g at)
        ∙ (ap (option_map (bit_of old.tree)) m.1
        ∙ sym (ap (λ v. Some (option_map_or (bit_of old.tree) v 0)) m.1)))

    module _ (active : (d : ℕ) → d < length old.cpus →
        play.is_active s d ≡ is_active (cpu_of old d)) where
      woken_role : (g : ℕ) (b a : Bool) → is_below old.tree c g ≡ b → group_active s g ≡ a →
          cond (b && not a) (number_towards old.tree c g) (migrator_at s g) ≡ role w g
      woken_role g false a apart is = migrator_seen old g ∙ sym (off_path g (λ j low at.
          true≢false (sym ((below.tested_below c g).1 (j, at)) ∙ apart)))
      woken_role g true true under is =
          let on = (active_below old i.in_run.lawful (run_calm ph old i.in_run) c g
          ((below.tested_below c g).0 under)).1 (group_from old below cpus count active g is) in
          migrator_seen old g ∙ sym (off_path g (λ j low at.
          true≢false (sym on ∙ ap is_some (e.made.was j g low (on_path j g at)))))
      woken_role g true false under is =
          let (l, at) = (below.tested_below c g).0 under in
          elim (cases_lt l e.count) [
            | inl low ↦ number_is l g under at
                ∙ sym (e.made.now l g low (on_path l g at)
                ∙ ap (λ t. Some (side t c l)) e.along.tree)
            | inr high ↦
                let on = e.over l g (omega arith) (on_path l g at) in
                let some =
                (active_below old i.in_run.lawful (run_calm ph old i.in_run) c g (l, at)).0 on in
                absurd (true≢false (sym (group_to old below cpus count active g some) ∙ is))
          ]

      -- the CPUs
      module _ (else_seen : (d : ℕ) → d ≢ c → d < length old.cpus → cpu_at s d ≡ cpu_seen old d)
          (online : (cpu_at s c).online ≡ true)
          (bases : (cpu_at s c).bases ≡ (cpu_of old c).bases) where
        abbrev awake : Cpu
        awake = record (cpu_at s c) { idle = false; wakeup = NEVER; told = NEVER }

        abbrev rising : State
        rising = with_migrators s (woken_migrator s c)

        -- CPU c has of y all but the walk
        of_y : {X : Type 0} (f : CpuRecord → X) → ((v : CpuRecord) → f (with_walk v None) ≡ f v) →
            f (cpu_of w c) ≡ f y
        of_y f blind = sym (blind (cpu_of w c)) ∙ ap f e.along.itself

        seen_awake : awake ≡ cpu_seen w c
        seen_awake = λ j. record {
          online = (online ∙ sym (of_y (λ v. v.online) (λ v. refl) ∙ z.online)) j;
          idle = sym (of_y (λ v. v.idle) (λ v. refl) ∙ z.idle) j;
          wakeup = sym (of_y (λ v. v.wakeup) (λ v. refl) ∙ z.wakeup) j;
          told = sym e.own j;
          bases = (bases ∙ sym (of_y (λ v. v.bases) (λ v. refl) ∙ z.bases)) j;
        }

        seen_else : (d : ℕ) → d ≢ c → cpu_seen old d ≡ cpu_seen w d
        seen_else d ne = λ j. record {
          online = (sym (e.along.others d ne) j).online;
          idle = (sym (e.along.others d ne) j).idle;
          wakeup = (sym (e.along.others d ne) j).wakeup;
          told = sym (e.along.told d ne) j;
          bases = (sym (e.along.others d ne) j).bases;
        }

        there : c < length cpus
        there = let l = z.low in omega (arith, count)

        cpu_woken : (d : ℕ) → d < length w.cpus → cpu_at (woken s c) d ≡ cpu_seen w d
        cpu_woken d low = elim (cases_eq d c) [
          | inl is ↦ subst (λ n. cpu_at (woken s c) n ≡ cpu_seen w n) (sym is)
              (with_same rising c awake there ∙ seen_awake)
          | inr ne ↦
              let same = e.along.cpus in
              with_else rising c awake d ne
              ∙ (else_seen d ne (omega (arith, low, same)) ∙ seen_else d ne)
        ]

        pub sees_woken : state_of w ≡ woken s c
        sees_woken =
            let sized = i.in_run.lawful.sized.groups in
            let all = e.along.groups in
            seen_as w (woken s c) (sym e.along.clock) (sym e.along.timers) (sym e.along.tree)
            (with_count rising c awake ∙ (count ∙ sym e.along.cpus))
            cpu_woken
            (rule_count s (woken_migrator s c) ∙ sym (all ∙ sized))
            (λ g low. rule_at s (woken_migrator s c) g (omega (arith, low, all, sized))
            ∙ woken_role g (is_below old.tree c g) (group_active s g) refl refl)
