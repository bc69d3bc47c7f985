-- the CPU that gets the timers of a dead one, and how far they have moved
use Rattle.std.proofs.Common.{◌≡◌, ◌≢◌, ℕ, suc, ◌+◌, ◌<◌, Bool, true, false, Option, Some, None}
use Rattle.std.proofs.Common.{length, refl, sym, ap, ◌∙◌, subst, arith, inl, inr}
use Rattle.std.specs.Prelude.{◌&&◌, ◌==◌, ◌++◌, List, [], if◌then◌else◌, map, not, option_map}
use Rattle.std.proofs.lemmas.List.{append-nil}
use Rattle.std.proofs.lemmas.Bool.{and_from, and_parts, both_ways, cases_eq, cond-false, cond-true}
use Rattle.std.proofs.lemmas.Bool.{eq-eqb, eqb-true, ne_eqb}
use Rattle.std.proofs.lemmas.Option.{none-some, same_Some}
use Rattle.tm_base.specs.declared.names.Class.{Class}
use Rattle.tm_base.specs.declared.names.CpuId.{CpuId}
use Rattle.tm_base.specs.declared.names.TimerId.{TimerId}
use Rattle.wheel_core.specs.declared.item.Item.{Item}
use Rattle.wheel_core.specs.PlainBase.{NoneBehind}
use Rattle.cpu_bases.specs.ByClass.{of_class}
use Rattle.cpu_bases.specs.CpuBases.{base_of}
use Rattle.tree_plan.specs.Paths.{is_placed_in}
use Rattle.core_machine.proofs.play_laws.Answered.Ranges.{found_some}
use Rattle.play_rules.specs.Machines.{after_move}
use Rattle.play_rules.specs.State.{cpu_at, cpu_count}
use Rattle.play_rules.specs.Timers.{controller, first_to_move}
use Rattle.core_world.specs.Covered.{IsSettled}
use Rattle.core_world.specs.World.{CpuRecord, World, cpu_of}
use Rattle.core_machine.specs.step_play.Rules.Seen.{state_of}
use Rattle.core_machine.specs.step_play.Rules.StepRules.{made_active, step_rules}
use Rattle.core_machine.proofs.step_play.Queues.Sights.{count_seen}
use Rattle.core_machine.proofs.step_play.Hotplug.{IsHead, head_is, read}
use Rattle.core_machine.proofs.step_play.Takes.{there}
use Rattle.core_machine.specs.Draining.Turns.{timer_found}
use Rattle.hotplug.specs.Afterwards.{AllWith, NothingMoved, PartMoved, SomeMoved, StillQueued}
use Rattle.hotplug.specs.Afterwards.{asked, base_items_of, timers_of}
use Rattle.hotplug.specs.Frames.{Activated, MayActivate, MayMoveAll}
use Rattle.hotplug.specs.Settled.{AllWhole, MovedSome, MovedTimes, SomeOnline, heir_of, moved_off}
use Rattle.hotplug.specs.Settled.{moved_times, moved_to_heir}
use Rattle.cpu_bases.proofs.Counts.{count_in}
use Rattle.play_rules.proofs.FirstMoves.{either_none, none_queued}
use Rattle.hotplug.proofs.Moving.{count_seen_in, some_queued}
use Rattle.hotplug.proofs.Over.{none_of}
use Rattle.hotplug.proofs.Settling.{settled_lone}

-- HOW FAR
pub moved_none : (w : World) (from to : ℕ) → MovedTimes w from to w
moved_none w from to = record { count = 0; left = omega arith; is = refl }

pub moved_more : (start w v : World) (from to : ℕ) → MovedTimes start from to w →
    v ≡ after_move (step_rules.moved w from to) w →
    step_rules.count_queued v from + 1 ≡ step_rules.count_queued w from → MovedTimes start from to v
moved_more start w v from to so_far made fewer = record {
  count = suc so_far.count;
  left = (let left = so_far.left in omega (arith, left, fewer));
  is = made ∙ ap (λ u. after_move (step_rules.moved u from to) u) so_far.is;
}

-- WHERE THEY ARE, once none is left
nothing_left : (w : World) (dead : ℕ) → dead < length w.cpus → step_rules.count_queued w dead ≡ 0 →
    (k : Class) → base_items_of w dead k ≡ []
nothing_left w dead low none k =
    none_of k (cpu_of w dead).bases (sym (count_seen_in w dead low) ∙ none)

all_with : (w : World) (dead to : ℕ) (u : World) → SomeMoved w dead to u → MayMoveAll u dead to →
    step_rules.count_queued u dead ≡ 0 → AllWith w dead to u
all_with w dead to u (gone, x) may none =
    let empty = nothing_left u dead may.low none in
    record {
      tree = x.tree;
      clock = x.clock;
      online = x.online;
      none_left = empty;
      come = λ k.
          x.come k
          ∙ ap (λ (xs : List Item). timers_of w to k ++ map asked xs)
          (sym (x.left k ∙ (ap (λ xs. of_class k gone ++ xs) (empty k)
          ∙ append-nil (of_class k gone))));
      active = may.active;
      others = x.others;
    }

-- WHO GETS THEM
abbrev as_cpu : ℕ → CpuId
as_cpu d = record { 0 = d }

none_first : (o : Option (Class × Item)) → None ≡ option_map timer_found o → o ≡ None
none_first None is = refl
none_first (Some f) is = absurd (none-some (timer_found f) is)

some_first : (t : TimerId) (o : Option (Class × Item)) → Some t ≡ option_map timer_found o →
    (f : Class × Item) × (o ≡ Some f)
some_first t None is = absurd (none-some t (sym is))
some_first t (Some f) is = (f, refl)

numbered : (o : Option CpuId) (m : Option ℕ) → option_map (λ (d : CpuId). d.0) o ≡ m →
    o ≡ option_map as_cpu m
numbered None m is = ap (option_map as_cpu) is
numbered (Some d) m is = ap (option_map as_cpu) is

module _ (w : World) (dead : ℕ) (low : dead < length w.cpus) where
  abbrev many : ℕ
  many = step_rules.count_queued w dead

  abbrev head : Option CpuId
  head = option_map as_cpu (step_rules.controller w)

  -- nothing is queued
  pub empty_is : None ≡ option_map timer_found (first_to_move (cpu_of w dead).bases) → many ≡ 0
  empty_is none =
      count_seen_in w dead low
      ∙ none_queued (cpu_of w dead).bases (none_first (first_to_move (cpu_of w dead).bases) none)

  pub heir_empty : None ≡ option_map timer_found (first_to_move (cpu_of w dead).bases) →
      None ≡ heir_of w dead
  heir_empty none = sym (cond-true (many == 0) None head (eq-eqb many 0 (empty_is none)))

  pub heir_full : (t : TimerId) →
      Some t ≡ option_map timer_found (first_to_move (cpu_of w dead).bases) → (o : Option CpuId) →
      option_map (λ (d : CpuId). d.0) o ≡ controller (state_of w) → o ≡ heir_of w dead
  heir_full t is o found =
      let f = some_first t (first_to_move (cpu_of w dead).bases) is in
      let some = some_queued (cpu_of w dead).bases f.0 f.1 in
      let same = count_seen_in w dead low in
      numbered o (controller (state_of w)) found
      ∙ sym (cond-false (many == 0) None head
      (ne_eqb many 0 (λ none. omega (arith, some, same, none))))

  -- the heir is the controlling CPU
  by_head : (m : Option ℕ) (to : CpuId) → option_map as_cpu m ≡ Some to → m ≡ Some to.0
  by_head None to is = absurd (none-some to is)
  by_head (Some d) to is = ap (λ (x : CpuId). Some x.0) (same_Some (as_cpu d) to is)

  heir_by : (b : Bool) (to : CpuId) → (if b then None else head) ≡ Some to →
      controller (state_of w) ≡ Some to.0
  heir_by true to is = absurd (none-some to is)
  heir_by false to is = by_head (controller (state_of w)) to is

  module _ (to : CpuId) (heir : Some to ≡ heir_of w dead) where
    heads : IsHead w to.0
    heads = head_is w to.0 (heir_by (many == 0) to (sym heir))

    module _ (settled : IsSettled w) (off : (cpu_of w dead).online ≡ false) (all : AllWhole w) where
      pub heir_activates : MayActivate w to.0
      heir_activates = record {
        low = heads.low;
        free = settled.free to.0;
        online = heads.online;
        lone = settled_lone w to.0 settled;
      }

      apart : dead ≢ to.0
      apart same =
          both_ways (cpu_of w dead).online off
          (ap (λ n. (cpu_of w n).online) same ∙ heads.online)

      module _ (v : World) (made : v ≡ made_active w to.0) (active : Activated w to.0 v) where
        each : (P : CpuRecord → Type 0) → P (cpu_of v to.0) →
            ((d : ℕ) → d ≢ to.0 → P (cpu_of w d)) → (d : ℕ) → P (cpu_of v d)
        each P own others d = elim (cases_eq d to.0) [
          | inl same ↦ subst (λ n. P (cpu_of v n)) (sym same) own
          | inr ne ↦ subst P (sym (active.others d ne)) (others d ne)
        ]

        there_low : dead < length v.cpus
        there_low = let same = active.cpus in omega (arith, low, same)

        pub heir_ready : MayMoveAll v dead to.0
        heir_ready = record {
          settled = record {
            free = each (λ y. y.walk ≡ None) active.free (λ d ne. settled.free d);
            outside = each (λ y. y.inside ≡ false) (active.outside (settled.outside to.0))
                (λ d ne. settled.outside d);
          };
          low = there_low;
          to_low = (let same = active.cpus in let at = heads.low in omega (arith, at, same));
          offline = ap (λ (y : CpuRecord). y.online) (active.others dead apart) ∙ off;
          placed = ap (λ t. is_placed_in t to.0) active.tree ∙ heads.placed;
          active = active.active;
          whole = each (λ y. (k : Class) → NoneBehind (base_of k y.bases))
              (subst (λ b. (k : Class) → NoneBehind (base_of k b)) (sym active.bases) (all to.0))
              (λ d ne. all d);
        }

        same_many : step_rules.count_queued v dead ≡ many
        same_many =
            count_seen_in v dead there_low
            ∙ (ap (λ (y : CpuRecord). count_in y.bases) (active.others dead apart)
            ∙ sym (count_seen_in w dead low))

        online_still : (d : ℕ) → (cpu_of v d).online ≡ (cpu_of w d).online
        online_still d = elim (cases_eq d to.0) [
          | inl same ↦
              subst (λ n. (cpu_of v n).online ≡ (cpu_of w n).online) (sym same)
              ((and_parts (cpu_of v to.0).online (not (cpu_of v to.0).idle) active.active).0
              ∙ sym heads.online)
          | inr ne ↦ ap (λ (y : CpuRecord). y.online) (active.others d ne)
        ]

        -- the moves, as they are from before the heir was made active
        pub heir_over : (u : World) → SomeMoved v dead to.0 u → SomeMoved w dead to.0 u
        heir_over u (gone, x) = (
          gone,
          record {
            tree = x.tree ∙ active.tree;
            clock = x.clock ∙ active.clock;
            online = λ d. x.online d ∙ online_still d;
            left = λ k.
                ap (λ (y : CpuRecord). (base_of k y.bases).items) (sym (active.others dead apart))
                ∙ x.left k;
            come = λ k.
                x.come k
                ∙ ap (λ b. map asked (base_of k b).items ++ map asked (of_class k gone)) active.bases;
            others = λ d ne other. x.others d ne other ∙ active.others d other;
          },
        )

        pub heir_part : (u : World) → SomeMoved v dead to.0 u → StillQueued u dead →
            PartMoved w dead u
        heir_part u over left = record {
          to = to;
          heir = sym heir;
          moved = heir_over u over;
          some_left = left;
        }

        pub heir_all : (u : World) → SomeMoved v dead to.0 u → MayMoveAll u dead to.0 →
            step_rules.count_queued u dead ≡ 0 → AllWith w dead to.0 u
        heir_all u over may none = all_with w dead to.0 u (heir_over u over) may none

        module _ (u : World) (so_far : MovedTimes v dead to.0 u) where
          pub heir_some : MovedSome w dead u
          heir_some = record {
            to = to;
            heir = sym heir;
            moved = subst (λ x. MovedTimes x dead to.0 u) made so_far;
          }

          pub heir_moved : step_rules.count_queued u dead ≡ 0 → u ≡ moved_off w dead
          heir_moved none =
              let count : so_far.count ≡ many =
              (let left = so_far.left in let same = same_many in omega (arith, left, same, none)) in
              so_far.is
              ∙ ((λ j. moved_times (count j) dead to.0 (made j))
              ∙ ap (moved_to_heir w dead) heir)

  -- without heir nothing is queued, where some CPU is online
  none_by : (b : Bool) → many == 0 ≡ b → None ≡ (if b then None else head) → SomeOnline w → many ≡ 0
  none_by true is none some = eqb-true many 0 is
  none_by false is none some =
      absurd (found_some (λ d. is_placed_in w.tree d && (cpu_at (state_of w) d).online) 0
      (cpu_count (state_of w)) some.0 (omega arith)
      (let at = there w some.0 some.2 in let count = count_seen w in omega (arith, at, count))
      (and_from (is_placed_in w.tree some.0) (cpu_at (state_of w) some.0).online some.1
      (read w (λ x. x.online) some.0 (there w some.0 some.2) ∙ some.2))
      (either_none _ _ (none_as (controller (state_of w)) none)).1)
    where
      none_as : (m : Option ℕ) → None ≡ option_map as_cpu m → m ≡ None
      none_as None is = refl
      none_as (Some d) is = absurd (none-some (as_cpu d) is)

  pub none_dead : None ≡ heir_of w dead → SomeOnline w → many ≡ 0
  none_dead none some = none_by (many == 0) refl none some

  pub none_moves : None ≡ heir_of w dead → SomeOnline w → NothingMoved w dead w
  none_moves none some =
      record { empty = nothing_left w dead low (none_dead none some); same = refl }
