-- each step of a lawful world fits
use Rattle.std.proofs.Common.{◌≡◌, ◌≢◌, ℕ, ◌<◌, Bool, true, false, List, [], ◌∷◌, length, Some}
use Rattle.std.proofs.Common.{refl, sym, ap, ◌∙◌, subst, arith, inl, inr}
use Rattle.std.specs.Prelude.{unwrap_or}
use Rattle.tm_base.specs.declared.names.CpuId.{CpuId}
use Rattle.walk_rules.specs.declared.walk.Walk.{Walk}
use Rattle.walk_rules.specs.declared.walk.Stage.{Stage}
use Rattle.walk_rules.specs.declared.walk.Stage.TheVariants as stages
use Rattle.walk_rules.specs.Hierarchy.{group_on, side}
use Rattle.walk_rules.specs.Stages.{joined_by, left_by}
use Rattle.core_world.proofs.Moves.{moved_laws}
use Rattle.core_world.proofs.Quiet.{moved_group_field}
use Rattle.core_world.specs.declared.step.Step.{Step}
use Rattle.core_world.specs.declared.step.Step.TheVariants as steps
use Rattle.core_world.specs.Enabled.{Enabled}
use Rattle.core_world.specs.Lawful.{IsLawful}
use Rattle.core_world.specs.Lists.{EachEnabled}
use Rattle.core_world.specs.Steps.{here, stepped, swapped, walk_made, walked}
use Rattle.core_world.specs.World.{World, cpu_of, group_of}
use Rattle.core_facts.specs.core_laws.Laws.{StepsStayLawful}
use Rattle.core_facts.specs.Exchanges.{Exchanges}
use Rattle.core_facts.specs.Places.{EachPlaceFits}
use Rattle.core_facts.specs.Reach.{EachKeeps}
use Rattle.linux_lines.specs.declared.events.Place.{Place}
use Rattle.linux_seen.specs.Words.{follows}
use Rattle.linux_laws.specs.Alarms.{ExchangesAt, LineFollows, RunFits, StepFits, WordsFit}
use Rattle.linux_laws.specs.Alarms.{line_of_exchange, shown}
use Rattle.linux_laws.proofs.Words.{Lawful, joined_follows, left_follows, some_shown}

-- ---- what no exchange changes

not_fresh : (w : World) (c : ℕ) (k : Walk) (b : Bool) (g : ℕ) → (b ≡ true → g ≢ here w c k) →
    shown (group_of (swapped w c k b) g) ≡ shown (group_of w g)
not_fresh w c k true g other =
    ap shown ((moved_laws w (here w c k)
    (left_by k.child_on (group_of w (here w c k)) (side w.tree c k.level)) c (cpu_of w c) true).changes.group g
    (other refl))
not_fresh w c k false g other = moved_group_field w 0 (group_of w 0) c (cpu_of w c) false shown refl g

stays : (w : World) (c : ℕ) (k : Walk) (st : Stage) (g : ℕ) → k.stage ≡ st →
    (Exchanges k → g ≢ here w c k) → shown (group_of (walked w c k st) g) ≡ shown (group_of w g)
stays w c k stages.Own g is other = moved_group_field w (group_on w.tree c 0) _ c (cpu_of w c) false shown refl g
stays w c k stages.Up g is other =
    ap shown ((moved_laws w (here w c k) (joined_by (group_of w (here w c k)) (side w.tree c k.level))
    c (cpu_of w c) true).changes.group g (other (inl is)))
stays w c k (stages.Mark more) g is other = moved_group_field w _ _ c (cpu_of w c) false shown refl g
stays w c k stages.Read g is other = moved_group_field w 0 (group_of w 0) c (cpu_of w c) false shown refl g
stays w c k stages.Child g is other = moved_group_field w 0 (group_of w 0) c (cpu_of w c) false shown refl g
stays w c k stages.Swap g is other =
    not_fresh w c k k.fresh g (λ fresh. other (inr (is, fresh)))
stays w c k stages.LockChild g is other = moved_group_field w _ _ c (cpu_of w c) false shown refl g
stays w c k stages.LockGroup g is other = moved_group_field w _ _ c (cpu_of w c) false shown refl g
stays w c k stages.SeeChild g is other = moved_group_field w 0 (group_of w 0) c (cpu_of w c) false shown refl g
stays w c k stages.SeeGroup g is other = moved_group_field w 0 (group_of w 0) c (cpu_of w c) false shown refl g
stays w c k (stages.Scan j) g is other = moved_group_field w 0 (group_of w 0) c (cpu_of w c) false shown refl g
stays w c k stages.Store g is other = moved_group_field w _ _ c (cpu_of w c) false shown refl g
stays w c k (stages.First j) g is other = moved_group_field w 0 (group_of w 0) c (cpu_of w c) false shown refl g
stays w c k stages.FreeGroup g is other = moved_group_field w _ _ c (cpu_of w c) false shown refl g
stays w c k stages.FreeChild g is other = moved_group_field w _ _ c (cpu_of w c) false shown refl g
stays w c k stages.Finish g is other = moved_group_field w 0 (group_of w 0) c (cpu_of w c) false shown refl g
stays w c k stages.Handing g is other = refl

up_ends : stages.Up ≡ stages.Finish → ⊥
up_ends e = cc

swap_ends : stages.Swap ≡ stages.Finish → ⊥
swap_ends e = cc

module _ (stay : StepsStayLawful) (places : EachPlaceFits) (frame : EachKeeps) where
  module _ (w : World) (lawful : IsLawful w) where
    group_lawful : (g : ℕ) → Lawful (group_of w g)
    group_lawful g = record { law = lawful.groups.law g; eight = lawful.groups.eight g }

    pub words : WordsFit w
    words g = some_shown (group_of w g) (group_lawful g)

    module _ (cpu : CpuId) (k : Walk) (is : (cpu_of w cpu.0).walk ≡ Some k)
        (here_stage : k.stage ≢ stages.Finish) where
      abbrev c : ℕ
      c = cpu.0

      abbrev h : ℕ
      h = here w c k

      low : (h < length w.groups) × (side w.tree c k.level < 8)
      low =
          let fits = places w lawful in
          let at = (fits.in_tree c k is (fits.stages_of c k is here_stage)).group in
          let named : h ≡ at.0 = ap (λ m. unwrap_or m 0) at.1.path in
          let in_range = at.1.in_range in
          let slots = lawful.sized.slots at.0 in_range in
          let slot = at.1.slot in
          (omega (arith, named, in_range), omega (arith, slots, slot))

      follows_by : (joins : Bool) → (g : _) → group_of (walk_made w c (Some k)) h ≡ g →
          ((place : Place) (parent : ℕ) →
          follows (shown (group_of w h))
          (line_of_exchange place parent (side w.tree c k.level) joins g) ≡ true) →
          LineFollows w cpu k joins
      follows_by joins g made line place parent =
          subst (λ x. follows (shown (group_of w h))
          (line_of_exchange place parent (side w.tree c k.level) joins x) ≡ true)
          (sym (ap (λ o. group_of (walk_made w c o) h) is ∙ made)) (line place parent)

      up : k.stage ≡ stages.Up → LineFollows w cpu k true
      up stage =
          follows_by true (joined_by (group_of w h) (side w.tree c k.level))
          (ap (λ st. group_of (walked w c k st) h) stage
          ∙ (moved_laws w h (joined_by (group_of w h) (side w.tree c k.level)) c (cpu_of w c) true).group low.0)
          (λ place parent. joined_follows (group_of w h) (side w.tree c k.level) place parent
          (group_lawful h) low.1)

      down : k.stage ≡ stages.Swap → k.fresh ≡ true → LineFollows w cpu k false
      down stage fresh =
          follows_by false (left_by k.child_on (group_of w h) (side w.tree c k.level))
          (ap (λ st. group_of (walked w c k st) h) stage
          ∙ (ap (λ b. group_of (swapped w c k b) h) fresh
          ∙ (moved_laws w h (left_by k.child_on (group_of w h) (side w.tree c k.level)) c (cpu_of w c) true).group
          low.0))
          (λ place parent. left_follows (group_of w h) (side w.tree c k.level) k.child_on place parent
          (group_lawful h) low.1)

    up_fits : (cpu : CpuId) (k : Walk) → (cpu_of w cpu.0).walk ≡ Some k → k.stage ≡ stages.Up →
        LineFollows w cpu k true
    up_fits cpu k is stage = up cpu k is (λ finish. up_ends (sym stage ∙ finish)) stage

    down_fits : (cpu : CpuId) (k : Walk) → (cpu_of w cpu.0).walk ≡ Some k →
        k.stage ≡ stages.Swap → k.fresh ≡ true → LineFollows w cpu k false
    down_fits cpu k is stage fresh =
        down cpu k is (λ finish. swap_ends (sym stage ∙ finish)) stage fresh

    others : (step : Step) → Enabled w step → (g : ℕ) → (ExchangesAt w step g → ⊥) →
        shown (group_of (stepped w step) g) ≡ shown (group_of w g)
    others (steps.Clock now) may g none = ap shown ((frame w (steps.Clock now) may).groups refl g)
    others (steps.Enter cpu) may g none = ap shown ((frame w (steps.Enter cpu) may).groups refl g)
    others (steps.Leave cpu) may g none = ap shown ((frame w (steps.Leave cpu) may).groups refl g)
    others (steps.Arm cpu timer class expires job arg line) may g none =
        ap shown ((frame w (steps.Arm cpu timer class expires job arg line) may).groups refl g)
    others (steps.Cancel cpu timer by line) may g none =
        ap shown ((frame w (steps.Cancel cpu timer by line) may).groups refl g)
    others (steps.Hand cpu timer runner) may g none =
        ap shown ((frame w (steps.Hand cpu timer runner) may).groups refl g)
    others (steps.Ticked cpu class runner) may g none =
        ap shown ((frame w (steps.Ticked cpu class runner) may).groups refl g)
    others (steps.Move from to timer) may g none =
        ap shown ((frame w (steps.Move from to timer) may).groups refl g)
    others (steps.Idle cpu) may g none = ap shown ((frame w (steps.Idle cpu) may).groups refl g)
    others (steps.Wake cpu) may g none = ap shown ((frame w (steps.Wake cpu) may).groups refl g)
    others (steps.Offline cpu) may g none = ap shown ((frame w (steps.Offline cpu) may).groups refl g)
    others (steps.Online cpu) may g none = ap shown ((frame w (steps.Online cpu) may).groups refl g)
    others (steps.Reeval cpu) may g none = ap shown ((frame w (steps.Reeval cpu) may).groups refl g)
    others (steps.Take cpu by) may g none = ap shown ((frame w (steps.Take cpu by) may).groups refl g)
    others (steps.Carry cpu) may g none = ap shown ((frame w (steps.Carry cpu) may).groups refl g)
    others (steps.Release cpu) may g none = ap shown ((frame w (steps.Release cpu) may).groups refl g)
    others (steps.HandOn cpu to) may g none = ap shown ((frame w (steps.HandOn cpu to) may).groups refl g)
    others (steps.Walk cpu) may g none =
        ap (λ o. shown (group_of (walk_made w cpu.0 o) g)) may.walk
        ∙ stays w cpu.0 may.made may.made.stage g refl
        (λ makes same. none (cpu, may.made, refl, may.walk, makes, same))

    pub step_fits : (step : Step) → Enabled w step → StepFits w step
    step_fits step may = record {
      joins = λ cpu k same is stage. up_fits cpu k is stage;
      leaves = λ cpu k same is stage fresh. down_fits cpu k is stage fresh;
      others = others step may;
    }

  pub runs_fit : (w : World) (run : List Step) → IsLawful w → EachEnabled w run → RunFits w run
  runs_fit w [] lawful may = words w lawful
  runs_fit w (step ∷ rest) lawful may = (
    words w lawful,
    step_fits w lawful step may.0,
    runs_fit (stepped w step) rest (stay w step lawful may.0) may.1,
  )
