-- Finish and HandOn keep an idle top answered
use Rattle.std.proofs.Common.{◌≡◌, inl, inr, ℕ, ◌<◌, ◌≤◌, Bool, true, false, true≢false, cond}
use Rattle.std.proofs.Common.{length, Some, None, refl, sym, ap, ◌∙◌, subst, arith, eqb-true}
use Rattle.std.specs.Prelude.{◌==◌, ◌&&◌, not, is_some}
use Rattle.std.proofs.lemmas.Bool.{cases_Bool}
use Rattle.std.proofs.lemmas.Option.{none-some, same_Some}
use Rattle.tm_base.specs.declared.names.TheConstants.{NEVER}
use Rattle.tree_plan.specs.Paths.{is_placed_in}
use Rattle.walk_rules.specs.declared.walk.Walk.{Walk}
use Rattle.walk_rules.specs.declared.walk.WalkKind.{WalkKind}
use Rattle.walk_rules.specs.declared.walk.WalkKind.TheVariants as kinds
use Rattle.walk_rules.specs.declared.walk.Stage.TheVariants as stages
use Rattle.walk_rules.specs.Edges.{edge_level}
use Rattle.walk_rules.specs.Hierarchy.{HasGroup}
use Rattle.walk_rules.specs.Stages.{at_stage, forget, is_remote}
use Rattle.walk_rules.specs.Standing.{FitsStage, IsWalker}
use Rattle.core_world.specs.IdleTop.{ReadsYet, TopAnswered, is_climbing}
use Rattle.core_world.specs.Steps.{finished, with_walk}
use Rattle.core_world.specs.Wakeups.{Keeps}
use Rattle.core_world.specs.World.{CpuRecord, World, cpu_of, group_of, own, scene_of}
use Rattle.core_laws.proofs.Tops.Answering.{By, answered_own, tame, tops_step}
use Rattle.core_laws.proofs.Tops.Answering.By.{first, interrupt, wakeup}
use Rattle.core_laws.proofs.Tops.Rising.{cpu_rises}
use Rattle.core_laws.proofs.Tops.Tops.{Before, in_time, placed_has}
use Rattle.core_laws.proofs.Tops.Walking.{by_cases, flags, rising_answers, walk_is}

module _ (w : World) (c : ℕ) (k : Walk) (hc : c < length w.cpus) (b : Before w)
    (is : (cpu_of w c).walk ≡ Some k) where
  -- what becomes of the CPU's answer for an event before NEVER
  abbrev Passes : CpuRecord → Type 0
  Passes y = (child time : ℕ) → time < NEVER → HasGroup w.tree c →
      By w.tree c (cpu_of w c) child time → By w.tree c y child time

  passes : (y : CpuRecord) → Passes y → TopAnswered (own w c y)
  passes y goes =
      tops_step w 0 (group_of w 0) c y false hc b.answered
      (tame w 0 (group_of w 0) c y false hc refl (λ i e there counts. there))
      (λ h child e top was off event counts leaf by.
      answered_own w 0 (group_of w 0) c y false hc child e.expiry leaf
      (goes child e.expiry (in_time w b h child e event) leaf by))

  walker : IsWalker k.kind (cpu_of w c).online (cpu_of w c).idle
  walker = b.walks.walkers c (forget k) (walk_is w c k hc b is)

  module _ (at : k.stage ≡ stages.Finish) where
    -- at its end a walk isn't on its way any more, and has read all events
    ended : (y : CpuRecord) →
        ((child time : ℕ) → Keeps (cpu_of w c) → is_remote k.kind ≡ true →
        (cpu_of w c).wakeup ≤ time → By w.tree c y child time)
        → ((child time : ℕ) → (cpu_of w c).online ≡ true → (cpu_of w c).idle ≡ true →
        (cpu_of w c).inside ≡ true → (k.kind ≡ kinds.Reeval → ⊥) → By w.tree c y child time)
        → ((child time : ℕ) → time < NEVER → is_climbing k.kind ≡ true → k.first ≤ time →
        By w.tree c y child time) → (k.kind ≡ kinds.Activate → ⊥) → Passes y
    ended y keeping interrupted soonest no_activation child time low leaf by =
        by_cases w.tree c (cpu_of w c) k child time (By w.tree c y child time) is (record {
          activation = λ act. absurd (no_activation act);
          wakeup = λ remote keeps woken. keeping child time keeps remote woken;
          interrupt = λ on idle in_it goes. interrupted child time on idle in_it goes;
          climbing =
              λ climbs over.
              absurd (true≢false (sym (flags w c k hc b is stages.Finish at leaf) ∙ over));
          reading = λ climbs last on yet. absurd (subst (ReadsYet child) at yet);
          first = λ climbs woken. soonest child time low climbs woken;
        }) by

    awake : (kind : WalkKind) → k.kind ≡ kind → is_remote kind ≡ false → is_remote k.kind ≡ true → ⊥
    awake kind same other remote = true≢false (sym remote ∙ (ap is_remote same ∙ other))

    deactivated : k.kind ≡ kinds.Deactivate → Passes (finished (cpu_of w c) k kinds.Deactivate)
    deactivated same =
        let on = subst (λ z. IsWalker z (cpu_of w c).online (cpu_of w c).idle) same walker in
        ended _ (λ child time keeps remote woken. absurd (awake kinds.Deactivate same refl remote))
        (λ child time online idle in_it goes.
        interrupt online idle in_it (λ j none. absurd (none-some j none)))
        (λ child time low climbs woken. elim (cases_Bool (cpu_of w c).inside) [
          | inl in_it ↦ interrupt on.0 on.1 in_it (λ j none. absurd (none-some j none))
          | inr out ↦
              wakeup (record { online = on.0; idle = on.1; outside = out; undisturbed = refl })
              (omega (arith, woken))
        ])
        (λ act. unlike (sym act ∙ same))
      where
        unlike : kinds.Activate ≡ kinds.Deactivate → ⊥
        unlike e = cc

    reevaluated : k.kind ≡ kinds.Reeval → Passes (finished (cpu_of w c) k kinds.Reeval)
    reevaluated same =
        let on = subst (λ z. IsWalker z (cpu_of w c).online (cpu_of w c).idle) same walker in
        ended _ (λ child time keeps remote woken. absurd (awake kinds.Reeval same refl remote))
        (λ child time online idle in_it goes. absurd (goes same))
        (λ child time low climbs woken.
        wakeup (record { online = on.0; idle = on.1; outside = refl; undisturbed = refl })
        (omega (arith, woken)))
        (λ act. unlike (sym act ∙ same))
      where
        unlike : kinds.Activate ≡ kinds.Reeval → ⊥
        unlike e = cc

    carried : (x : ℕ) → k.kind ≡ kinds.Remote (record { 0 = x }) →
        Passes (finished (cpu_of w c) k (kinds.Remote (record { 0 = x })))
    carried x same = ended _
        (λ child time keeps remote woken.
        wakeup (record {
          online = keeps.online;
          idle = keeps.idle;
          outside = keeps.outside;
          undisturbed = refl;
        }) woken)
        (λ child time online idle in_it goes.
        interrupt online idle in_it (λ j none. absurd (none-some j none)))
        (λ child time low climbs woken. absurd (true≢false (sym climbs ∙ ap is_climbing same)))
        (λ act. true≢false (sym (ap is_remote same) ∙ ap is_remote act))

    -- what hands on isn't nothing: an event that comes is no later than NEVER
    handing : (q : Bool) → (k.first == NEVER) ≡ q → k.kind ≡ kinds.Offline →
        Passes (with_walk (cpu_of w c) (cond q None (Some (at_stage k stages.Handing))))
    handing true none same =
        ended _ (λ child time keeps remote woken. absurd (awake kinds.Offline same refl remote))
        (λ child time online idle in_it goes.
        interrupt online idle in_it (λ j at_none. absurd (none-some j at_none)))
        (λ child time low climbs woken.
        (let never = eqb-true k.first NEVER none in absurd (omega (arith, never, low, woken))))
        (λ act. unlike (sym act ∙ same))
      where
        unlike : kinds.Activate ≡ kinds.Offline → ⊥
        unlike e = cc
    handing false some same =
        ended _ (λ child time keeps remote woken. absurd (awake kinds.Offline same refl remote))
        (λ child time online idle in_it goes.
        interrupt online idle in_it
        (λ j is_j reeval. goes (ap (λ (z : Walk). z.kind) (same_Some _ _ is_j) ∙ reeval)))
        (λ child time low climbs woken. first (at_stage k stages.Handing) refl climbs woken)
        (λ act. unlike (sym act ∙ same))
      where
        unlike : kinds.Activate ≡ kinds.Offline → ⊥
        unlike e = cc

    activated : k.kind ≡ kinds.Activate → Passes (finished (cpu_of w c) k kinds.Activate)
    activated same child time low leaf by =
        absurd (subst (FitsStage w.tree c k.kind k.level) at
        (b.walks.placed.in_tree c (forget k) (walk_is w c k hc b is) leaf).fits same)

    pub finish : (kind : WalkKind) → k.kind ≡ kind →
        TopAnswered (own w c (finished (cpu_of w c) k kind))
    finish kinds.Activate same = passes _ (activated same)
    finish kinds.Deactivate same = passes _ (deactivated same)
    finish kinds.Offline same = passes _ (handing (k.first == NEVER) refl same)
    finish kinds.Reeval same = passes _ (reevaluated same)
    finish (kinds.Remote by) same = passes _ (carried by.0 same)

  -- HANDON: the CPU that goes on is active, so the top is, or an activation is under way
  pub hand_on : k.stage ≡ stages.Handing → (x : ℕ) → is_placed_in w.tree x ≡ true →
      ((cpu_of w x).online && not (cpu_of w x).idle) ≡ true →
      TopAnswered (own w c (with_walk (cpu_of w c) None))
  hand_on at x placed active =
      tops_step w 0 (group_of w 0) c (with_walk (cpu_of w c) None) false hc b.answered
      (tame w 0 (group_of w 0) c (with_walk (cpu_of w c) None) false hc refl
      (λ i e there counts. there))
      (λ h child e top was off event counts leaf by.
      rising_answers w c k hc b is 0 (group_of w 0) None false child e.expiry
      (cpu_rises w.tree (scene_of w) b.tree b.walks b.edges x (placed_has w b c x leaf placed)
      active top.cpu top.level h top.there top.last (ap is_some was))
      (ap (edge_level k.level) at))
