-- what a walk that tells leaves at its end
use Rattle.std.proofs.Common.{◌≡◌, ◌≢◌, ◌⊎◌, inl, inr, ℕ, suc, ◌<◌, true, false, true≢false, cond}
use Rattle.std.proofs.Common.{Option, Some, length, refl, sym, ap, ◌∙◌, subst}
use Rattle.std.specs.Prelude.{is_some, unwrap_or}
use Rattle.group_word.specs.State.{migrator_without, without_child}
use Rattle.tm_base.specs.declared.names.TheConstants.{NEVER}
use Rattle.cpu_bases.specs.CpuBases.{events_of}
use Rattle.tree_plan.specs.Paths.{group_at_of}
use Rattle.walk_rules.specs.declared.walk.Walk.{Walk}
use Rattle.walk_rules.specs.declared.walk.WalkKind.{WalkKind}
use Rattle.walk_rules.specs.declared.walk.WalkKind.TheVariants as kinds
use Rattle.walk_rules.specs.declared.walk.Stage.TheVariants as stages
use Rattle.walk_rules.specs.Hierarchy.{HasGroup, at_top, side}
use Rattle.walk_rules.specs.Scene.{Group}
use Rattle.walk_rules.specs.Stages.{forget}
use Rattle.walk_rules.specs.Standing.{FlagsAt, is_leaving}
use Rattle.core_facts.specs.core_laws.Laws.{StepsStayLawful}
use Rattle.core_world.specs.Lawful.{IsLawful}
use Rattle.core_world.specs.Steps.{finished, here, with_walk}
use Rattle.core_world.specs.Wakeups.{WalkTimes, is_past_store, next_for}
use Rattle.core_world.specs.World.{CpuRecord, World, cpu_of, group_of, own}
use Rattle.core_world.proofs.Moves.{cpu_else, cpu_same, moved_laws}
use Rattle.core_world.proofs.Quiet.{own_group}
use Rattle.step_play.specs.Rules.Live.{Exact, counting, expiry_of, told_by, told_in}
use Rattle.step_play.proofs.Activation.Touches.{ExactAt, own_exact, own_told}
use Rattle.step_play.proofs.Telling.Running.{HasEnded, step_is}
use Rattle.step_play.proofs.Telling.Slots.{leaf_time, least_live}
use Rattle.step_play.proofs.Telling.Standing.{seen}
use Rattle.step_play.proofs.Telling.Staying.{lawful_after, walk_is}
use Rattle.step_play.proofs.Telling.Telling.{Fields, IsFound, IsLeft, Open, Stays, Tells}
use Rattle.step_play.proofs.Telling.Telling.{is_under_way}
use Rattle.step_play.proofs.Telling.Telling.{left_levels, looks}
use Rattle.step_play.proofs.Telling.Telling.Open.{lower, upper}

-- what the walk found, where its CPU has a group: at the group at which it ended
pub record EndsAt (w : World) (c : ℕ) (k : Walk) : Type 0 where
  pub there : group_at_of w.tree c k.level ≡ Some (here w c k)
  pub over : k.over ≡ true
  pub found : IsFound w c k

-- THE END of CPU c's walk, in a world that had been w when CPU c became z and the walk began
pub record IsDone (old : World) (c : ℕ) (z : CpuRecord) (kind : WalkKind) (w : World) : Type 0 where
  pub last : Walk
  pub sort : last.kind ≡ kind
  pub low : c < length old.cpus
  pub lawful : IsLawful w
  pub tree : w.tree ≡ old.tree
  pub clock : w.clock ≡ old.clock
  pub timers : w.timers ≡ old.timers
  pub cpus : length w.cpus ≡ length old.cpus
  pub groups : length w.groups ≡ length old.groups
  pub itself : cpu_of w c ≡ finished z last kind
  pub others : (d : ℕ) → d ≢ c → cpu_of w d ≡ cpu_of old d
  pub exact : Exact w
  pub words : (g : ℕ) → Stays old w g ⊎ IsLeft old w c (suc last.level) (is_leaving kind) g
  pub told : (d : ℕ) → d ≢ c → told_by w d ≡ told_by old d
  pub pin : last.pin ≡ (events_of z.bases).pin
  pub next : last.next ≡ next_for kind (events_of z.bases).next
  -- with a group
  pub own : HasGroup w.tree c → told_by w c ≡ last.next
  pub found : HasGroup w.tree c → EndsAt w c last
  -- without
  pub alone : (HasGroup w.tree c → ⊥) → last.first ≡ last.next

-- a record finished from one with another walk
finished_from : (y : CpuRecord) (m : Option Walk) (k : Walk) (kind : WalkKind) →
    finished (with_walk y m) k kind ≡ finished y k kind
finished_from y m k kinds.Activate = refl
finished_from y m k kinds.Deactivate = refl
finished_from y m k kinds.Offline = refl
finished_from y m k kinds.Reeval = refl
finished_from y m k (kinds.Remote by) = refl

module _ (laws : StepsStayLawful) (w : World) (c : ℕ) (z : CpuRecord) (low : c < length w.cpus)
    (made : Walk) (tells : made.kind ≡ kinds.Activate → ⊥) where
  abbrev began : World
  began = own w c z

  began_cpu : cpu_of began c ≡ z
  began_cpu = cpu_same w 0 (group_of w 0) c z false low

  module _ (v : World) (k : Walk) (t : Tells began c made v k) (at : k.stage ≡ stages.Finish) where
    abbrev y : CpuRecord
    y = finished (cpu_of v c) k k.kind

    abbrev w' : World
    w' = own v c y

    same_group : (h : ℕ) → group_of w' h ≡ group_of v h
    same_group h = own_group v c y h

    itself : cpu_of w' c ≡ finished z k made.kind
    itself =
        cpu_same v 0 (group_of v 0) c y false t.frame.in_range
        ∙ (ap (λ kind. finished (cpu_of v c) k kind) t.frame.kind
        ∙ (ap (λ b. finished b k made.kind) (t.frame.own ∙ ap (λ b. with_walk b (Some k)) began_cpu)
        ∙ finished_from z (Some k) k made.kind))

    others : (d : ℕ) → d ≢ c → cpu_of w' d ≡ cpu_of w d
    others d ne =
        cpu_else v 0 (group_of v 0) c y false d ne
        ∙ (t.frame.others d ne ∙ cpu_else w 0 (group_of w 0) c z false d ne)

    exact : Exact w'
    exact x = own_exact v c y x (by_edge (t.edges x))
      where
        by_edge : Open v c k.level k.stage x ⊎ ExactAt v x → ExactAt v x
        by_edge (inl (lower l e before path)) =
            absurd (true≢false (sym (ap is_past_store at) ∙ before))
        by_edge (inl (upper on path off)) =
            absurd (true≢false (sym on ∙ ap is_under_way at))
        by_edge (inr e) = e

    word : (g : ℕ) →
        Stays began v g
        ⊎ IsLeft began v c (left_levels k.level k.stage) (is_leaving made.kind) g →
        Stays w w' g ⊎ IsLeft w w' c (suc k.level) (is_leaving made.kind) g
    word g (inl s) = inl (record {
      active = ap (λ (x : Group). x.active) (same_group g)
          ∙ (s.active ∙ ap (λ (x : Group). x.active) (own_group w c z g));
      migrator = ap (λ (x : Group). x.migrator) (same_group g)
          ∙ (s.migrator ∙ ap (λ (x : Group). x.migrator) (own_group w c z g));
    })
    word g (inr l) = inr (record {
      level = l.level;
      low = subst (λ st. l.level < left_levels k.level st) at l.low;
      there = l.there;
      leaving = l.leaving;
      active = ap (λ (x : Group). x.active) (same_group g)
          ∙ (l.active ∙ ap (λ (x : Group). without_child x.active (side v.tree c l.level))
          (own_group w c z g));
      migrator = ap (λ (x : Group). x.migrator) (same_group g)
          ∙ (l.migrator ∙ ap (λ (x : Group). migrator_without x.migrator (side v.tree c l.level)
          (without_child x.active (side v.tree c l.level))) (own_group w c z g));
    })

    own_time : HasGroup v.tree c → told_by w' c ≡ k.next
    own_time (leaf, path) =
        let event = t.frame.lawful.own_event c leaf k (walk_is t)
        (λ act. tells (sym t.frame.kind ∙ act)) path (inr (ap is_past_store at)) in
        own_told v c y c ∙ (ap (told_in v c) path
        ∙ (ap (λ e. expiry_of (counting e)) event ∙ leaf_time c k.next))

    found_there : HasGroup v.tree c → EndsAt w' c k
    found_there has =
        let f = subst (Fields v c k) at t.fields has in
        let g = (t.frame.lawful.placed.in_tree c (forget k) (seen t) has).there in
        record {
          there = g.1 ∙ ap Some (sym (ap (λ m. unwrap_or m 0) g.1));
          over = subst (FlagsAt (at_top v.tree c k.level) k.on k.over) at
              (t.frame.lawful.flags c (forget k) (seen t) has);
          found = record {
            sees = record {
              on = f.sees.on
                  ∙ ap (λ (x : Group). is_some x.migrator) (sym (same_group (here v c k)));
              over = f.sees.over;
            };
            first = f.first ∙ ap (λ (x : Group). cond (looks v c k) (least_live x.events) NEVER)
                (sym (same_group (here v c k)));
          };
        }

    times : WalkTimes (cpu_of v c) k
    times = t.frame.lawful.walk_times c k (walk_is t)

    bases_are : (cpu_of v c).bases ≡ z.bases
    bases_are = ap (λ (b : CpuRecord). b.bases)
        (t.frame.own ∙ ap (λ b. with_walk b (Some k)) began_cpu)

    done : IsDone w c z made.kind w'
    done = record {
      last = k;
      sort = t.frame.kind;
      low = low;
      lawful = lawful_after t laws stages.Finish at tt;
      tree = t.frame.tree;
      clock = t.frame.clock;
      timers = t.frame.timers;
      cpus = (moved_laws v 0 (group_of v 0) c y false).cpus
          ∙ (t.frame.cpus ∙ (moved_laws w 0 (group_of w 0) c z false).cpus);
      groups = (moved_laws v 0 (group_of v 0) c y false).groups
          ∙ (t.frame.groups ∙ (moved_laws w 0 (group_of w 0) c z false).groups);
      itself = itself;
      others = others;
      exact = exact;
      words = λ g. word g (t.words g);
      told = λ d ne. own_told v c y d ∙ (t.told d ne ∙ own_told w c z d);
      pin = times.pin ∙ ap (λ b. (events_of b).pin) bases_are;
      next = times.next ∙ (λ i. next_for (t.frame.kind i) (events_of (bases_are i)).next);
      own = own_time;
      found = found_there;
      alone = λ none. (t.frame.lawful.placed.alone c (forget k) (seen t) none).own;
    }

  pub is_done : (u : World) → HasEnded began c made u → IsDone w c z made.kind u
  is_done u e =
      subst (IsDone w c z made.kind)
      (sym (e.step ∙ step_is laws began c made e.before e.last e.tells stages.Finish e.finish))
      (done e.before e.last e.tells e.finish)
