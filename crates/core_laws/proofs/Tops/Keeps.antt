-- every step keeps an idle top answered
use Rattle.std.proofs.Common.{◌≡◌, inl, inr, ℕ, ◌<◌, Bool, true, false, true≢false, length, set}
use Rattle.std.proofs.Common.{Option, Some, None, refl, sym, ap, ◌∙◌, subst}
use Rattle.std.specs.Prelude.{◌&&◌, not, is_some}
use Rattle.std.proofs.lemmas.Option.{none-some, same_Some}
use Rattle.tm_base.specs.declared.names.TheConstants.{NEVER}
use Rattle.tm_base.specs.declared.names.Class.{Class}
use Rattle.wheel_core.specs.declared.item.Item.{Item}
use Rattle.tree_plan.specs.Paths.{group_at_of}
use Rattle.walk_rules.specs.declared.walk.Walk.{Walk}
use Rattle.walk_rules.specs.declared.walk.WalkKind.{WalkKind}
use Rattle.walk_rules.specs.declared.walk.WalkKind.TheVariants as kinds
use Rattle.walk_rules.specs.declared.walk.Stage.{Stage}
use Rattle.walk_rules.specs.declared.walk.Stage.TheVariants as stages
use Rattle.walk_rules.specs.Hierarchy.{HasGroup}
use Rattle.walk_rules.specs.Stages.{started}
use Rattle.core_world.specs.declared.step.Step.{Step}
use Rattle.core_world.specs.declared.step.Step.TheVariants as steps
use Rattle.core_world.specs.Enabled.{Enabled, MayGoOn}
use Rattle.core_world.specs.IdleTop.{TopAnswered}
use Rattle.core_world.specs.Steps.{first_moved, giver, marker_of, moved_with, stepped}
use Rattle.walk_rules.specs.Stages.{begun_where}
use Rattle.core_world.specs.Steps.{taker, walk_made, walked, with_walk}
use Rattle.core_world.specs.Wakeups.{is_undisturbed}
use Rattle.core_world.specs.World.{CpuRecord, World, cpu_of, group_of, no_cpu, own}
use Rattle.core_laws.proofs.Tops.Slots.{set_cases}
use Rattle.core_laws.proofs.Tops.Answering.{By, SameCpu, answered, answered_own, answerer, by_same, tame}
use Rattle.core_laws.proofs.Tops.Answering.{tops_step}
use Rattle.core_laws.proofs.Tops.Answering.By.{activation, climbing, interrupt, wakeup}
use Rattle.core_laws.proofs.Tops.Ending as ending
use Rattle.core_laws.proofs.Tops.Leaving as leaving
use Rattle.core_laws.proofs.Tops.Raising as raising
use Rattle.core_laws.proofs.Tops.Storing as storing
use Rattle.core_laws.proofs.Tops.Telling as telling
use Rattle.core_laws.proofs.Tops.Tops.{Before}
use Rattle.core_laws.proofs.Tops.Walking.{by_free}

-- WALK
by_stage : (w : World) (c : ℕ) (k : Walk) → c < length w.cpus → Before w →
    (cpu_of w c).walk ≡ Some k → (st : Stage) → k.stage ≡ st → MayGoOn w c k st →
    TopAnswered (walked w c k st)
by_stage w c k hc b is stages.Own at may = raising.own w c k hc b is at
by_stage w c k hc b is stages.Up at may = raising.up w c k hc b is at
by_stage w c k hc b is (stages.Mark more) at may = raising.mark w c k hc b is more at
by_stage w c k hc b is stages.Read at may = leaving.read w c k hc b is at
by_stage w c k hc b is stages.Child at may = leaving.child w c k hc b is at
by_stage w c k hc b is stages.Swap at may = leaving.swap w c k hc b is at k.fresh
by_stage w c k hc b is stages.LockChild at may = leaving.lock_child w c k hc b is at
by_stage w c k hc b is stages.LockGroup at may = leaving.lock_group w c k hc b is at
by_stage w c k hc b is stages.SeeChild at may = leaving.see_child w c k hc b is at
by_stage w c k hc b is stages.SeeGroup at may = leaving.see_group w c k hc b is at
by_stage w c k hc b is (stages.Scan j) at may = telling.scan w c k hc b is j at
by_stage w c k hc b is stages.Store at may = storing.store w c k hc b is at
by_stage w c k hc b is (stages.First j) at may = telling.looks w c k hc b is j at
by_stage w c k hc b is stages.FreeGroup at may = leaving.free_group w c k hc b is at
by_stage w c k hc b is stages.FreeChild at may = leaving.free_child w c k hc b is at
by_stage w c k hc b is stages.Finish at may = ending.finish w c k hc b is at k.kind refl
by_stage w c k hc b is stages.Handing at may = absurd may

-- a CPU that has a group begins its walk there
begun : (w : World) (c : ℕ) (kind : WalkKind) (stage : Stage) (pin next : ℕ) → HasGroup w.tree c →
    begun_where (is_some (group_at_of w.tree c 0)) kind stage pin next ≡ Some
    (started kind stage pin next NEVER)
begun w c kind stage pin next leaf = ap (λ m. begun_where (is_some m) kind stage pin next) leaf.1

-- STEPS OF A FREE CPU
module _ (w : World) (c : ℕ) (hc : c < length w.cpus) (f : TopAnswered w) where
  own_step : (y : CpuRecord) →
      ((child time : ℕ) → HasGroup w.tree c → By w.tree c (cpu_of w c) child time →
      By w.tree c y child time) → TopAnswered (own w c y)
  own_step y goes =
      tops_step w 0 (group_of w 0) c y false hc f
      (tame w 0 (group_of w 0) c y false hc refl (λ i e there counts. there))
      (λ h child e top was off event counts leaf by.
      answered_own w 0 (group_of w 0) c y false hc child e.expiry leaf
      (goes child e.expiry leaf by))

  same_step : (y : CpuRecord) → SameCpu (cpu_of w c) y → TopAnswered (own w c y)
  same_step y same =
      own_step y (λ child time leaf by. by_same w.tree c (cpu_of w c) y child time same by)

  -- a CPU that didn't answer
  silent_step : (y : CpuRecord) → (cpu_of w c).walk ≡ None →
      ((cpu_of w c).online ≡ true → (cpu_of w c).idle ≡ true → ⊥) → TopAnswered (own w c y)
  silent_step y free silent =
      own_step y
      (λ child time leaf by. by_free w.tree c (cpu_of w c) child time (By w.tree c y child time)
      free
      (λ keeps low. absurd (silent keeps.online keeps.idle))
      (λ on idle in_it. absurd (silent on idle)) by)

  -- a CPU whose new record answers for all, where it has a group
  answering_step : (y : CpuRecord) →
      ((child time : ℕ) → HasGroup w.tree c → By w.tree c y child time) → TopAnswered (own w c y)
  answering_step y all = own_step y (λ child time leaf by. all child time leaf)

not_idle : (on idle : Bool) → (on && not idle) ≡ true → on ≡ true → idle ≡ true → ⊥
not_idle true true act o i = true≢false (sym act)
not_idle true false act o i = true≢false (sym i)
not_idle false idle act o i = true≢false (sym act)

-- MOVE changes bases alone
move_same : (w : World) (from to : ℕ) (m : Class × Item) (d : ℕ) →
    SameCpu (cpu_of w d) (cpu_of (moved_with w from to (Some m)) d)
move_same w from to m d =
    elim (set_cases (set w.cpus from (giver w from to m.0)) to (taker w to m.0 m.1) no_cpu d) [
      | inl p ↦
          subst (SameCpu (cpu_of w d)) (sym p.1)
          (subst (λ n. SameCpu (cpu_of w n) (taker w to m.0 m.1)) (sym p.0)
          (record { online = refl; idle = refl; inside = refl; wakeup = refl; walk = refl }))
      | inr q ↦
          subst (SameCpu (cpu_of w d)) (sym q)
          (elim (set_cases w.cpus from (giver w from to m.0) no_cpu d) [
            | inl p ↦
                subst (SameCpu (cpu_of w d)) (sym p.1)
                (subst (λ n. SameCpu (cpu_of w n) (giver w from to m.0)) (sym p.0)
                (record { online = refl; idle = refl; inside = refl; wakeup = refl; walk = refl }))
            | inr same ↦
                subst (SameCpu (cpu_of w d)) (sym same)
                (record { online = refl; idle = refl; inside = refl; wakeup = refl; walk = refl })
          ])
    ]

move_answered : (w : World) (from to : ℕ) (m : Option (Class × Item)) → TopAnswered w →
    TopAnswered (moved_with w from to m)
move_answered w from to None f = f
move_answered w from to (Some m) f = λ h child e top off event counts.
    (let a = answerer w child e.expiry
    (f h child e
    (record { cpu = top.cpu; level = top.level; there = top.there; last = top.last }) off event
    counts) in
    answered (moved_with w from to (Some m)) a.0 child e.expiry a.1
    (by_same w.tree a.0 (cpu_of w a.0) _ child e.expiry (move_same w from to m a.0) a.2))

clock_answered : (w : World) (now : ℕ) → TopAnswered w → TopAnswered (record w { clock = now })
clock_answered w now f h child e top off event counts =
    let a = answerer w child e.expiry
    (f h child e
    (record { cpu = top.cpu; level = top.level; there = top.there; last = top.last }) off event
    counts) in
    answered (record w { clock = now }) a.0 child e.expiry a.1 a.2

-- a Remote walk leaves its CPU what it keeps
carry_answered : (w : World) (c x : ℕ) → c < length w.cpus → (cpu_of w c).walk ≡ None →
    TopAnswered w → (pin next : ℕ)
    → TopAnswered
    (own w c (with_walk (cpu_of w c)
    (begun_where (is_some (group_at_of w.tree c 0)) (kinds.Remote (record { 0 = x }))
    stages.LockGroup pin next)))
carry_answered w c x hc free f pin next = own_step w c hc f _ (λ child time leaf by.
    (let walk = begun w c (kinds.Remote (record { 0 = x })) stages.LockGroup pin next leaf in
    by_free w.tree c (cpu_of w c) child time _ free
    (λ keeps low.
    wakeup (record {
      online = keeps.online;
      idle = keeps.idle;
      outside = keeps.outside;
      undisturbed = ap is_undisturbed walk;
    }) low)
    (λ on idle in_it.
    interrupt on idle in_it
    (λ k is kind. unlike (ap (λ (z : Walk). z.kind) (same_Some _ _ (sym walk ∙ is)) ∙ kind)))
    by))
  where
    unlike : kinds.Remote (record { 0 = x }) ≡ kinds.Reeval → ⊥
    unlike e = cc

pub answered_stays : (w : World) (step : Step) → Before w → Enabled w step →
    TopAnswered (stepped w step)
answered_stays w (steps.Clock now) b e = clock_answered w now b.answered
answered_stays w (steps.Enter cpu) b e =
    own_step w cpu.0 e.is_free.in_range b.answered _ (λ child time leaf by.
    by_free w.tree cpu.0 (cpu_of w cpu.0) child time
    (By w.tree cpu.0 (record (cpu_of w cpu.0) { inside = true }) child time) e.is_free.free
    (λ keeps low.
    interrupt keeps.online keeps.idle refl (λ k is kind. none-some k (sym e.is_free.free ∙ is)))
    (λ on idle in_it. interrupt on idle refl (λ k is kind. none-some k (sym e.is_free.free ∙ is)))
    by)
answered_stays w (steps.Leave cpu) b e =
    silent_step w cpu.0 e.is_free.in_range b.answered _ e.is_free.free
    (λ on idle. true≢false (sym idle ∙ e.busy))
answered_stays w (steps.Arm cpu timer class expires job arg line) b e =
    same_step w cpu.0 e.is_free.in_range b.answered _
    (record { online = refl; idle = refl; inside = refl; wakeup = refl; walk = refl })
answered_stays w (steps.Cancel cpu timer by line) b e =
    same_step w cpu.0 e.0.is_free.in_range b.answered _
    (record { online = refl; idle = refl; inside = refl; wakeup = refl; walk = refl })
answered_stays w (steps.Hand cpu timer runner) b e =
    same_step w cpu.0 e.is_free.in_range b.answered _
    (record { online = refl; idle = refl; inside = refl; wakeup = refl; walk = refl })
answered_stays w (steps.Ticked cpu class runner) b e =
    same_step w cpu.0 e.is_free.in_range b.answered _
    (record { online = refl; idle = refl; inside = refl; wakeup = refl; walk = refl })
answered_stays w (steps.Move from to timer) b e =
    move_answered w from.0 to.0 (first_moved (cpu_of w from.0).bases) b.answered
answered_stays w (steps.Idle cpu) b e =
    silent_step w cpu.0 e.is_free.in_range b.answered _ e.is_free.free
    (not_idle (cpu_of w cpu.0).online (cpu_of w cpu.0).idle e.active)
answered_stays w (steps.Wake cpu) b e =
    answering_step w cpu.0 e.is_free.in_range b.answered _
    (λ child time leaf. activation (started kinds.Activate stages.Own _ _ NEVER)
    (begun w cpu.0 kinds.Activate stages.Own _ _ leaf) refl)
answered_stays w (steps.Offline cpu) b e =
    silent_step w cpu.0 e.is_free.in_range b.answered _ e.is_free.free
    (not_idle (cpu_of w cpu.0).online (cpu_of w cpu.0).idle e.active)
answered_stays w (steps.Online cpu) b e =
    silent_step w cpu.0 e.is_free.in_range b.answered _ e.is_free.free
    (λ on idle. true≢false (sym on ∙ e.offline))
answered_stays w (steps.Reeval cpu) b e =
    answering_step w cpu.0 e.is_free.in_range b.answered _
    (λ child time leaf. climbing (started kinds.Reeval stages.LockGroup _ _ NEVER)
    (begun w cpu.0 kinds.Reeval stages.LockGroup _ _ leaf) refl refl)
answered_stays w (steps.Take cpu by) b e =
    same_step w cpu.0 e.is_free.in_range b.answered _
    (record { online = refl; idle = refl; inside = refl; wakeup = refl; walk = refl })
answered_stays w (steps.Carry cpu) b e =
    carry_answered w cpu.0 (marker_of (cpu_of w cpu.0)).0 e.is_free.in_range e.is_free.free
    b.answered _ _
answered_stays w (steps.Release cpu) b e =
    same_step w cpu.0 e.is_free.in_range b.answered _
    (record { online = refl; idle = refl; inside = refl; wakeup = refl; walk = refl })
answered_stays w (steps.Walk cpu) b e =
    subst (λ m. TopAnswered (walk_made w cpu.0 m)) (sym e.walk)
    (by_stage w cpu.0 e.made e.in_range b e.walk e.made.stage refl e.may_go_on)
answered_stays w (steps.HandOn cpu to) b e =
    ending.hand_on w cpu.0 e.made e.in_range b e.walk e.handing to.0 e.to_placed e.to_active
