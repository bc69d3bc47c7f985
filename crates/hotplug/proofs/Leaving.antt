-- a CPU leaves, and hands on
use Rattle.std.proofs.Common.{◌≡◌, ◌≢◌, ◌⊎◌, ℕ, ◌<◌, Bool, true, false, Option, Some, None}
use Rattle.std.proofs.Common.{length, refl, sym, ap, ◌∙◌, subst, arith, inl, inr}
use Rattle.std.specs.Prelude.{◌&&◌, if◌then◌else◌, is_none, not}
use Rattle.std.proofs.lemmas.Bool.{and_parts, both_ways, cases_eq, cond-false, cond-true}
use Rattle.std.proofs.lemmas.Option.{none-some}
use Rattle.tm_base.specs.declared.names.CpuId.{CpuId}
use Rattle.tm_base.specs.declared.names.TheConstants.{NEVER}
use Rattle.tm_base.specs.declared.faults.OpFault.TheVariants as faults
use Rattle.tree_plan.specs.Paths.{is_placed_in}
use Rattle.walk_rules.specs.declared.walk.Walk.{Walk}
use Rattle.walk_rules.specs.declared.walk.WalkKind.TheVariants as kinds
use Rattle.walk_rules.specs.declared.walk.Stage.TheVariants as stages
use Rattle.core_world.specs.declared.step.Step.TheVariants as steps
use Rattle.core_world.specs.Covered.{IsSettled}
use Rattle.core_world.specs.Enabled.{MayComeOnline, MayGoOffline, MayHandOn}
use Rattle.core_world.specs.Lawful.{IsLawful}
use Rattle.core_world.specs.Steps.{begins, begins_with, stepped, with_walk}
use Rattle.core_world.specs.World.{CpuRecord, World, cpu_of, is_active}
use Rattle.core_machine.specs.step_play.Rules.Alone.{goes_on}
use Rattle.core_machine.specs.step_play.Rules.StepRules.{come_by_steps, gone_by_steps}
use Rattle.core_machine.specs.step_play.Rules.StepRules.{handed_on_by_steps}
use Rattle.core_machine.specs.step_play.Rules.StepRules.{is_waiting}
use Rattle.core_machine.proofs.step_play.Hotplug.{runs}
use Rattle.core_machine.proofs.step_play.Worlds.{own_is, put_all, put_else, put_field}
use Rattle.core_machine.proofs.step_play.Activation.Calm.{handing}
use Rattle.hotplug.specs.Afterwards.{HasComeOnline, HasGoneOffline}
use Rattle.hotplug.specs.Frames.{Activated, HandedOn, MayActivate, Waits}
use Rattle.hotplug.specs.Settled.{AllWhole, AreBasesWhole, gone_whole, heir_at, offline_fault}
use Rattle.core_machine.proofs.Alone.Frames.{Framed, begun_framed}
use Rattle.hotplug.proofs.Settling.{online_free, settled_lone}

abbrev as_cpu : ℕ → CpuId
as_cpu d = record { 0 = d }

-- who waits has a walk that stands at Handing
pub record Stands (m : Option Walk) : Type 0 where
  pub made : Walk
  pub walk : m ≡ Some made
  pub stands : made.stage ≡ stages.Handing
  pub still : goes_on m ≡ false

abbrev waiting : Option Walk → Bool
waiting m = if is_none m then false else not (goes_on m)

not_true : (b : Bool) → not b ≡ true → b ≡ false
not_true true is = cc
not_true false is = refl

stands : (m : Option Walk) → waiting m ≡ true → Stands m
stands None is = absurd (both_ways false refl is)
stands (Some k) is =
    let off = not_true (goes_on (Some k)) is in
    record { made = k; walk = refl; stands = handing k off; still = off }

-- who neither goes on nor waits has none
pub calm_none : (m : Option Walk) → waiting m ≡ false → goes_on m ≡ false → m ≡ None
calm_none None calm off = refl
calm_none (Some k) calm off = absurd (both_ways (waiting (Some k)) calm (ap not off))

-- HANDING ON
module _ (w : World) (c to : ℕ) (waits : Waits w c to) where
  here : Stands (cpu_of w c).walk
  here = stands (cpu_of w c).walk waits.waits

  pub may_activate : MayActivate w to
  may_activate = record {
    low = waits.to_low;
    free = waits.others to waits.another;
    online = waits.online;
    lone = λ d ne. elim (cases_eq d c) [
      | inl same ↦ ap (λ n. goes_on (cpu_of w n).walk) same ∙ here.still
      | inr other ↦ ap goes_on (waits.others d other)
    ];
  }

  module _ (v : World) (active : Activated w to v) where
    back : cpu_of v c ≡ cpu_of w c
    back = active.others c (λ same. waits.another (sym same))

    within : c < length v.cpus
    within = let same = active.cpus in let low = waits.low in omega (arith, low, same)

    pub may_hand_on : MayHandOn v c to
    may_hand_on = record {
      in_range = within;
      made = here.made;
      walk = ap (λ (y : CpuRecord). y.walk) back ∙ here.walk;
      handing = here.stands;
      to_in_range = (let same = active.cpus in let low = waits.to_low in omega (arith, low, same));
      another = waits.another;
      to_placed = ap (λ t. is_placed_in t to) active.tree ∙ waits.placed;
      to_active = active.active;
    }

    abbrev last : World
    last = stepped v (steps.HandOn (record { 0 = c }) (record { 0 = to }))

    rests : (d : ℕ) → d ≢ c → ((cpu_of v d).walk ≡ None) × ((cpu_of v d).inside ≡ false)
    rests d ne = elim (cases_eq d to) [
      | inl same ↦ (
        ap (λ n. (cpu_of v n).walk) same ∙ active.free,
        ap (λ n. (cpu_of v n).inside) same ∙ active.outside (waits.outside to),
      )
      | inr other ↦ (
        ap (λ (y : CpuRecord). y.walk) (active.others d other) ∙ waits.others d ne,
        ap (λ (y : CpuRecord). y.inside) (active.others d other) ∙ waits.outside d,
      )
    ]

    each : (d : ℕ) → ((cpu_of last d).walk ≡ None) × ((cpu_of last d).inside ≡ false)
    each d =
        subst (λ u. ((cpu_of u d).walk ≡ None) × ((cpu_of u d).inside ≡ false))
        (sym (own_is v c (with_walk (cpu_of v c) None)))
        (put_all v c (with_walk (cpu_of v c) None) within
        (λ e z. (z.walk ≡ None) × (z.inside ≡ false))
        (refl, ap (λ (y : CpuRecord). y.inside) back ∙ waits.outside c) rests d)

    pub handed_bases : AllWhole w → AllWhole last
    handed_bases all d =
        subst (λ u. AreBasesWhole (cpu_of u d).bases) (sym (own_is v c (with_walk (cpu_of v c) None)))
        (put_all v c (with_walk (cpu_of v c) None) within (λ e z. AreBasesWhole z.bases)
        (subst (λ (y : CpuRecord). AreBasesWhole y.bases) (sym back) (all c))
        (λ e ne. elim (cases_eq e to) [
          | inl same ↦ subst (λ n. AreBasesWhole (cpu_of v n).bases) (sym same)
              (subst AreBasesWhole (sym active.bases) (all to))
          | inr other ↦
              subst (λ (y : CpuRecord). AreBasesWhole y.bases) (sym (active.others e other)) (all e)
        ]) d)

    pub handed_settled : IsSettled last
    handed_settled = record { free = λ d. (each d).0; outside = λ d. (each d).1 }

    -- what a walk leaves of a CPU stays in the last step
    kept : {X : Type 0} (f : CpuRecord → X) → f (with_walk (cpu_of v c) None) ≡ f (cpu_of v c) →
        (d : ℕ) → f (cpu_of last d) ≡ f (cpu_of v d)
    kept f same d =
        ap (λ u. f (cpu_of u d)) (own_is v c (with_walk (cpu_of v c) None))
        ∙ put_field v c (with_walk (cpu_of v c) None) within f same d

    to_online_still : (cpu_of v to).online ≡ (cpu_of w to).online
    to_online_still =
        (and_parts (cpu_of v to).online (not (cpu_of v to).idle) active.active).0
        ∙ sym waits.online

    -- what making the other CPU active leaves of all
    made : {X : Type 0} (f : CpuRecord → X) → f (cpu_of v to) ≡ f (cpu_of w to) → (d : ℕ) →
        f (cpu_of v d) ≡ f (cpu_of w d)
    made f same d = elim (cases_eq d to) [
      | inl is ↦ subst (λ n. f (cpu_of v n) ≡ f (cpu_of w n)) (sym is) same
      | inr ne ↦ ap f (active.others d ne)
    ]

    pub handed_leaves : HandedOn w c to last
    handed_leaves = record {
      tree = active.tree;
      clock = active.clock;
      online = λ d. kept (λ y. y.online) refl d ∙ made (λ y. y.online) to_online_still d;
      bases = λ d. kept (λ y. y.bases) refl d ∙ made (λ y. y.bases) active.bases d;
      others = λ d ne other.
          ap (λ u. cpu_of u d) (own_is v c (with_walk (cpu_of v c) None))
          ∙ (put_else v c (with_walk (cpu_of v c) None) within d ne
          ∙ active.others d other);
      active = kept is_active refl to ∙ active.active;
    }

-- LEAVING
-- what is no refusal
record Allowed (on idles placed to_on : Bool) : Type 0 where
  pub online : on ≡ true
  pub busy : idles ≡ false
  pub missed : (placed ≡ false) ⊎ (to_on ≡ true)

allowed_by : (a b p e : Bool) →
    (if not a then Some faults.Offline else (if b then Some faults.NotActive
    else (if p && not e then Some faults.LastOnline else None))) ≡ None → Allowed a b p e
allowed_by false b p e is = absurd (none-some faults.Offline (sym is))
allowed_by true true p e is = absurd (none-some faults.NotActive (sym is))
allowed_by true false true false is = absurd (none-some faults.LastOnline (sym is))
allowed_by true false true true is = record { online = refl; busy = refl; missed = inr refl }
allowed_by true false false e is = record { online = refl; busy = refl; missed = inl refl }

module _ (w : World) (c to : ℕ) (low : c < length w.cpus) (to_low : to < length w.cpus)
    (another : to ≢ c) (placed : is_placed_in w.tree to ≡ true) (settled : IsSettled w)
    (allowed : offline_fault w c to ≡ None) where
  a : Allowed (cpu_of w c).online (cpu_of w c).idle (is_placed_in w.tree c) (cpu_of w to).online
  a =
      allowed_by (cpu_of w c).online (cpu_of w c).idle (is_placed_in w.tree c)
      (cpu_of w to).online allowed

  pub may_leave : MayGoOffline w c
  may_leave = record {
    is_free = record { in_range = low; free = settled.free c };
    active = runs w c a.online a.busy;
    outside = settled.outside c;
    missed = elim a.missed [
      | inl isolated ↦ inl isolated
      | inr online ↦ inr (to, another, placed, online)
    ];
  }

  abbrev gone : CpuRecord
  gone = record (cpu_of w c) {
    online = false;
    idle = true;
    walk = begins_with w c kinds.Offline stages.Read NEVER;
  }

  module _ (v : World) (is : v ≡ gone_by_steps w c) where
    f : Framed w c gone v
    f = subst (Framed w c gone) (sym is) (begun_framed w c gone low (settled_lone w c settled))

    pub leaves_low : c < length v.cpus
    leaves_low = let same = f.cpus in omega (arith, low, same)

    out : (d : ℕ) → (cpu_of v d).inside ≡ false
    out d = elim (cases_eq d c) [
      | inl same ↦
          ap (λ n. (cpu_of v n).inside) same ∙ f.itself.outside (settled.outside c)
      | inr ne ↦ ap (λ (y : CpuRecord). y.inside) (f.others d ne) ∙ settled.outside d
    ]

    pub leaves_bases : AllWhole w → AllWhole v
    leaves_bases all d = elim (cases_eq d c) [
      | inl same ↦ subst (λ n. AreBasesWhole (cpu_of v n).bases) (sym same)
          (subst AreBasesWhole (sym f.itself.bases) (all c))
      | inr ne ↦ subst (λ (y : CpuRecord). AreBasesWhole y.bases) (sym (f.others d ne)) (all d)
    ]

    others : (d : ℕ) → d ≢ c → (cpu_of v d).walk ≡ None
    others d ne = ap (λ (y : CpuRecord). y.walk) (f.others d ne) ∙ settled.free d

    -- the timers of all are as they were
    bases_still : (d : ℕ) → (cpu_of v d).bases ≡ (cpu_of w d).bases
    bases_still d = elim (cases_eq d c) [
      | inl same ↦ subst (λ n. (cpu_of v n).bases ≡ (cpu_of w n).bases) (sym same) f.itself.bases
      | inr ne ↦ ap (λ (y : CpuRecord). y.bases) (f.others d ne)
    ]

    pub leaves_alone : (heir : CpuId) → HasGoneOffline w c heir None v
    leaves_alone heir = record {
      tree = f.tree;
      clock = f.clock;
      offline = f.itself.online;
      bases = bases_still;
      online = λ d ne. ap (λ (y : CpuRecord). y.online) (f.others d ne);
      others = λ d ne other. f.others d ne;
      duty = tt;
      active = tt;
    }

    pub leaves_to : (heir : CpuId) → heir.0 ≡ to → (u : World) → HandedOn v c to u →
        HasGoneOffline w c heir (Some heir) u
    leaves_to heir is_heir u handed = record {
      tree = handed.tree ∙ f.tree;
      clock = handed.clock ∙ f.clock;
      offline = handed.online c ∙ f.itself.online;
      bases = λ d. handed.bases d ∙ bases_still d;
      online = λ d ne. handed.online d ∙ ap (λ (y : CpuRecord). y.online) (f.others d ne);
      others = λ d ne other.
          handed.others d ne (λ same. other (ap (λ n. Some (as_cpu n)) (is_heir ∙ sym same)))
          ∙ f.others d ne;
      duty = refl;
      active = ap (λ n. is_active (cpu_of u n)) is_heir ∙ handed.active;
    }

    -- it has left
    module _ (calm : is_waiting v c ≡ false) (ends : goes_on (cpu_of v c).walk ≡ false) where
      pub leaves_settled : IsSettled v
      leaves_settled = record {
        free = λ d. elim (cases_eq d c) [
          | inl same ↦ ap (λ n. (cpu_of v n).walk) same ∙ calm_none (cpu_of v c).walk calm ends
          | inr ne ↦ others d ne
        ];
        outside = out;
      }

      calm_here : is_waiting (gone_by_steps w c) c ≡ false
      calm_here = ap (λ u. is_waiting u c) (sym is) ∙ calm

      pub leaves_whole : v ≡ gone_whole w c to
      leaves_whole =
          is ∙ sym (cond-false (is_waiting (gone_by_steps w c) c)
          (handed_on_by_steps (gone_by_steps w c) c to) (gone_by_steps w c) calm_here)

      pub leaves_none : (heir : CpuId) → None ≡ heir_at w c heir
      leaves_none heir =
          sym (cond-false (is_waiting (gone_by_steps w c) c) (Some heir) None calm_here)

    -- or it waits, and is placed
    module _ (waits : is_waiting v c ≡ true) (itself : is_placed_in v.tree c ≡ true) where
      to_online : (cpu_of w to).online ≡ true
      to_online = elim a.missed [
        | inl isolated ↦
            absurd (both_ways (is_placed_in w.tree c) isolated
            (sym (ap (λ t. is_placed_in t c) f.tree) ∙ itself))
        | inr online ↦ online
      ]

      pub leaves_waits : Waits v c to
      leaves_waits = record {
        low = leaves_low;
        waits = waits;
        others = others;
        outside = out;
        to_low = (let same = f.cpus in omega (arith, to_low, same));
        another = another;
        placed = ap (λ t. is_placed_in t to) f.tree ∙ placed;
        online = ap (λ (y : CpuRecord). y.online) (f.others to another) ∙ to_online;
      }

      waits_here : is_waiting (gone_by_steps w c) c ≡ true
      waits_here = ap (λ u. is_waiting u c) (sym is) ∙ waits

      pub leaves_handed : (u : World) → u ≡ handed_on_by_steps v c to → u ≡ gone_whole w c to
      leaves_handed u made =
          made ∙ (ap (λ x. handed_on_by_steps x c to) is
          ∙ sym (cond-true (is_waiting (gone_by_steps w c) c)
          (handed_on_by_steps (gone_by_steps w c) c to) (gone_by_steps w c) waits_here))

      pub leaves_heir : (heir : CpuId) → Some heir ≡ heir_at w c heir
      leaves_heir heir =
          sym (cond-true (is_waiting (gone_by_steps w c) c) (Some heir) None waits_here)

-- COMING BACK
module _ (w : World) (c : ℕ) (low : c < length w.cpus) (settled : IsSettled w)
    (off : (cpu_of w c).online ≡ false) where
  pub may_come : MayComeOnline w c
  may_come = record {
    is_free = record { in_range = low; free = settled.free c };
    offline = off;
  }

  abbrev come : CpuRecord
  come = record (cpu_of w c) {
    online = true;
    idle = false;
    walk = begins w c kinds.Activate stages.Own;
  }

  module _ (v : World) (is : v ≡ come_by_steps w c) (lawful : IsLawful v)
      (ends : goes_on (cpu_of v c).walk ≡ false) where
    framed : Framed w c come v
    framed =
        subst (Framed w c come) (sym is) (begun_framed w c come low (settled_lone w c settled))

    pub come_bases : AllWhole w → AllWhole v
    come_bases all d = elim (cases_eq d c) [
      | inl same ↦ subst (λ n. AreBasesWhole (cpu_of v n).bases) (sym same)
          (subst AreBasesWhole (sym framed.itself.bases) (all c))
      | inr ne ↦ subst (λ (y : CpuRecord). AreBasesWhole y.bases) (sym (framed.others d ne)) (all d)
    ]

    pub come_back : HasComeOnline w c v
    come_back = record {
      tree = framed.tree;
      clock = framed.clock;
      active = runs v c framed.itself.online framed.itself.idle;
      bases = λ d. elim (cases_eq d c) [
        | inl same ↦
            subst (λ n. (cpu_of v n).bases ≡ (cpu_of w n).bases) (sym same) framed.itself.bases
        | inr ne ↦ ap (λ (y : CpuRecord). y.bases) (framed.others d ne)
      ];
      others = framed.others;
    }

    pub come_settled : IsSettled v
    come_settled = record {
      free = λ d. elim (cases_eq d c) [
        | inl same ↦
            ap (λ n. (cpu_of v n).walk) same
            ∙ online_free v c lawful framed.itself.online ends
        | inr ne ↦ ap (λ (y : CpuRecord). y.walk) (framed.others d ne) ∙ settled.free d
      ];
      outside = λ d. elim (cases_eq d c) [
        | inl same ↦
            ap (λ n. (cpu_of v n).inside) same ∙ framed.itself.outside (settled.outside c)
        | inr ne ↦ ap (λ (y : CpuRecord). y.inside) (framed.others d ne) ∙ settled.outside d
      ];
    }
