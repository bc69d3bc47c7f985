-- where the times of walks come from, as walks begin and go on
use Rattle.std.proofs.Common.{◌≡◌, ◌⊎◌, ℕ, zero, suc, Bool, true, false, true≢false, cond, Option}
use Rattle.std.proofs.Common.{Some, None, refl, sym, ap, ◌∙◌, subst, inl, inr, arith, min}
use Rattle.std.specs.Prelude.{nat_lt}
use Rattle.std.proofs.lemmas.Bool.{cases_lt}
use Rattle.std.proofs.lemmas.Option.{none-some, same_Some}
use Rattle.std.proofs.Math.Nat.{min-eq_left, min_comm}
use Rattle.tm_base.specs.declared.names.Class.{Class}
use Rattle.tm_base.specs.declared.names.Class.TheVariants.{Pinned, Global}
use Rattle.tm_base.specs.declared.names.TheConstants.{NEVER}
use Rattle.event_queue.specs.declared.event.Event.{Event}
use Rattle.cpu_bases.specs.declared.entry.Act.{Act}
use Rattle.cpu_bases.specs.declared.entry.Act.TheVariants.{Armed, Handed, Cancelled, MovedOut}
use Rattle.cpu_bases.specs.declared.entry.Act.TheVariants.{MovedIn, Ticked}
use Rattle.cpu_bases.specs.CpuBases.{events_of, first_expiry}
use Rattle.cpu_bases.specs.Laws.{is_arming}
use Rattle.cpu_bases.proofs.Queued.{first_was_armed}
use Rattle.walk_rules.specs.declared.walk.Walk.{Walk}
use Rattle.walk_rules.specs.declared.walk.WalkKind.{WalkKind}
use Rattle.walk_rules.specs.declared.walk.WalkKind.TheVariants as kinds
use Rattle.walk_rules.specs.declared.walk.Stage.{Stage}
use Rattle.walk_rules.specs.declared.walk.Stage.TheVariants as stages
use Rattle.walk_rules.specs.Queues.{group_under}
use Rattle.walk_rules.specs.Stages.{at_stage, free_group_next, freed_next, mark_next}
use Rattle.walk_rules.specs.Stages.{see_child_next, sooner_event, started, up_next}
use Rattle.walk_rules.specs.Stages as rules
use Rattle.core_world.specs.Origins.{HasOrigin}
use Rattle.walk_rules.specs.Stages.{begun_where}
use Rattle.core_world.specs.World.{World, cpu_of}
use Rattle.core_laws.specs.Timers.Layer.{TimersFit}
use Rattle.core_laws.proofs.Origins.Frame.{WalkHas}

-- THE FIRST EVENTS of a CPU
arms : (act : Act) → is_arming act ≡ true → (act ≡ Armed) ⊎ (act ≡ MovedIn)
arms Armed is = inl refl
arms MovedIn is = inr refl
arms Handed is = absurd (true≢false (sym is))
arms Cancelled is = absurd (true≢false (sym is))
arms MovedOut is = absurd (true≢false (sym is))
arms Ticked is = absurd (true≢false (sym is))

module _ (w : World) (f : TimersFit w) (c : ℕ) where
  pub first_origin : (class : Class) → HasOrigin w (first_expiry class (cpu_of w c).bases)
  first_origin class = elim (first_was_armed (cpu_of w c).bases class (f.timers.consistent c)) [
    | inl never ↦ inl never
    | inr armed ↦ inr (record {
      cpu = c;
      entry = armed.0;
      written = armed.1;
      arming =
          arms armed.0.act armed.2;
      wheel = armed.4;
    })
  ]

  pub pin_origin : HasOrigin w (events_of (cpu_of w c).bases).pin
  pin_origin = first_origin Pinned

  either : (q : Bool) → HasOrigin w (cond q (first_expiry Global (cpu_of w c).bases) NEVER)
  either true = first_origin Global
  either false = inl refl

  pub next_origin : HasOrigin w (events_of (cpu_of w c).bases).next
  next_origin = either (nat_lt (first_expiry Global (cpu_of w c).bases)
      (first_expiry Pinned (cpu_of w c).bases))

-- A WALK BEGINS
start : (w : World) (c : ℕ) (kind : WalkKind) (stage : Stage) (pin next first : ℕ) → HasOrigin w pin
    → HasOrigin w next → HasOrigin w first → (k : Walk) → Some (started kind stage pin next first) ≡
    Some k → WalkHas w c k
start w c kind stage pin next first hp hn hf k is = subst (WalkHas w c) (same_Some _ _ is) (record {
  times = record { pin = hp; next = hn; first = hf };
  best = λ e b. absurd (none-some e b);
  below = λ g e b under. absurd (none-some e b);
})

pub begun : (w : World) (c : ℕ) (q : Bool) (kind : WalkKind) (stage : Stage) (pin next : ℕ)
    → HasOrigin w pin → HasOrigin w next → (k : Walk) → begun_where q kind stage pin next ≡ Some k
    → WalkHas w c k
begun w c true kind stage pin next hp hn k is = start w c kind stage pin next NEVER hp hn (inl refl)
    k is
begun w c false kinds.Activate stage pin next hp hn k is = absurd (none-some k is)
begun w c false kinds.Deactivate stage pin next hp hn k is =
    start w c kinds.Deactivate stages.Finish pin next next hp hn hn k is
begun w c false kinds.Offline stage pin next hp hn k is =
    start w c kinds.Offline stages.Finish pin next next hp hn hn k is
begun w c false kinds.Reeval stage pin next hp hn k is =
    start w c kinds.Reeval stages.Finish pin next next hp hn hn k is
begun w c false (kinds.Remote by) stage pin next hp hn k is =
    start w c (kinds.Remote by) stages.Finish pin next next hp hn hn k is

-- A WALK GOES ON with the times that it has, and with its best as long as it stays at its level
pub record CarriesOn (k j : Walk) : Type 0 where
  pub pin : j.pin ≡ k.pin
  pub next : j.next ≡ k.next
  pub first : j.first ≡ k.first
  pub best : (j.best ≡ None) ⊎ ((j.best ≡ k.best) × (j.level ≡ k.level))

pub stays_there : (k j : Walk) → j.pin ≡ k.pin → j.next ≡ k.next → j.first ≡ k.first
    → j.best ≡ k.best → j.level ≡ k.level → CarriesOn k j
stays_there k j pin next first best level = record {
  pin = pin;
  next = next;
  first = first;
  best =
      inr (best, level);
}

pub goes_up : (k j : Walk) → j.pin ≡ k.pin → j.next ≡ k.next → j.first ≡ k.first → j.best ≡ None
    → CarriesOn k j
goes_up k j pin next first best = record { pin = pin; next = next; first = first; best = inl best }

pub freed_on : (over : Bool) (k : Walk) → CarriesOn k (freed_next over k)
freed_on true k = stays_there k (freed_next true k) refl refl refl refl refl
freed_on false k = goes_up k (freed_next false k) refl refl refl refl

pub free_on : (l : ℕ) (k : Walk) → CarriesOn k (free_group_next l k)
free_on zero k = freed_on k.over k
free_on (suc l) k = stays_there k (free_group_next (suc l) k) refl refl refl refl refl

pub see_on : (on : Bool) (k : Walk) → CarriesOn k (see_child_next on k)
see_on true k = stays_there k (see_child_next true k) refl refl refl refl refl
see_on false k = stays_there k (see_child_next false k) refl refl refl refl refl

pub up_on : (top more : Bool) (k j : Walk) → up_next top more k ≡ Some j → CarriesOn k j
up_on true more k j e = absurd (none-some j e)
up_on false more k j e = subst (CarriesOn k) (same_Some _ _ e)
    (stays_there k (at_stage k (stages.Mark more)) refl refl refl refl refl)

pub mark_on : (more : Bool) (k j : Walk) → mark_next more k ≡ Some j → CarriesOn k j
mark_on false k j e = absurd (none-some j e)
mark_on true k j e = subst (CarriesOn k) (same_Some _ _ e)
    (goes_up k (rules.higher k stages.Up) refl refl refl refl)

pub carried : (w : World) (c : ℕ) (k j : Walk) → WalkHas w c k → CarriesOn k j → WalkHas w c j
carried w c k j h on = record {
  times = record {
    pin = subst (HasOrigin w) (sym on.pin) h.times.pin;
    next = subst (HasOrigin w) (sym on.next) h.times.next;
    first = subst (HasOrigin w) (sym on.first) h.times.first;
  };
  best = λ e is. elim on.best [
    | inl none ↦ absurd (none-some e (sym none ∙ is))
    | inr same ↦ h.best e (sym same.0 ∙ is)
  ];
  below = λ g e is under. elim on.best [
    | inl none ↦ absurd (none-some e (sym none ∙ is))
    | inr same ↦ h.below g e (sym same.0 ∙ is) (ap (group_under w.tree c) (sym same.1) ∙ under)
  ];
}

-- THE SOONER of two events is one of them
pick : (q : Bool) (a b : Option Event) (e : Event) → cond q a b ≡ Some e
    → (a ≡ Some e) ⊎ (b ≡ Some e)
pick true a b e is = inl is
pick false a b e is = inr is

pub sooner_is : (best more : Option Event) (e : Event) → sooner_event best more ≡ Some e
    → (best ≡ Some e) ⊎ (more ≡ Some e)
sooner_is best None e is = inl is
sooner_is None (Some m) e is = elim (pick m.ignored None (Some m) e is) [
  | inl none ↦
      inl none
  | inr more ↦ inr more
]
sooner_is (Some b) (Some m) e is = elim (pick m.ignored (Some b)
    (cond (nat_lt m.expiry b.expiry) (Some m) (Some b)) e is) [
      | inl best ↦ inl best
      | inr other ↦ elim (pick (nat_lt m.expiry b.expiry) (Some m) (Some b) e other) [
        | inl more ↦
            inr more
        | inr best ↦ inl best
      ]
    ]

-- what First keeps is what it had, or the event's
pub first_is : (w : World) (first : ℕ) (more : Option Event) → HasOrigin w first
    → ((e : Event) → more ≡ Some e → HasOrigin w e.expiry) → HasOrigin w (rules.first_of first more)
first_is w first None h each = h
first_is w first (Some e) h each = one e.ignored (nat_lt e.expiry first)
  where
    one : (q r : Bool) → HasOrigin w (cond q first (cond r e.expiry first))
    one true r = h
    one false true = each e refl
    one false false = h

pub min_origin : (w : World) (a b : ℕ) → HasOrigin w a → HasOrigin w b → HasOrigin w (min a b)
min_origin w a b ha hb = elim (cases_lt a b) [
  | inl low ↦ subst (HasOrigin w) (sym (min-eq_left (omega arith))) ha
  | inr high ↦ subst (HasOrigin w) (sym (min_comm a b ∙ min-eq_left high)) hb
]
