-- the turns of a drain
use Rattle.std.proofs.Common.{◌≡◌, ℕ, ◌+◌, ◌^◌, ◌<◌, List, [], ◌∷◌, ◌++◌, length, Some, None}
use Rattle.std.proofs.Common.{suc, refl, sym, ap, ◌∙◌, subst, arith, append-nil, append_assoc}
use Rattle.tm_base.specs.declared.names.Class.{Class}
use Rattle.wheel_core.specs.declared.item.Item.{Item}
use Rattle.wheel_core.specs.PlainBase.{OneFewer, PlainBase, next_out, taken}
use Rattle.wheel_core.proofs.Ids.{item_holds}
use Rattle.cpu_bases.specs.CpuBases.{base_of}
use Rattle.cpu_bases.proofs.Drains.{one_fewer}
use Rattle.play_rules.specs.Interrupts.{cpu_id, timer_id}
use Rattle.play_rules.specs.Machines.{PartDrained, Same, SameOnline}
use Rattle.play_rules.specs.Timers.{due_items}
use Rattle.core_world.specs.declared.step.Step.TheVariants as steps
use Rattle.core_world.specs.Enabled.{MayHand}
use Rattle.core_world.specs.Lists.{after_all}
use Rattle.core_world.specs.Lawful.{IsLawful}
use Rattle.core_world.specs.Steps.{stepped, with_bases}
use Rattle.core_world.specs.World.{CpuRecord, World, cpu_of}
use Rattle.core_steps.specs.core_laws.Laws.{StepsStayLawful}
use Rattle.step_play.specs.Rules.StepRules.{drained_by_steps, hands, items_due, step_rules}
use Rattle.step_play.proofs.Bases.{due_last, due_more}
use Rattle.step_play.proofs.Drains.{Rebases, base_after, free_after, hand_is, is_due, left}
use Rattle.step_play.proofs.Drains.{may_after, may_hand, rebased}
use Rattle.step_play.proofs.Worlds.{put_same}
use Rattle.core_machine.specs.Draining.Turns.{DrainedSome, Drains, handed_each, handed_next}
use Rattle.core_machine.proofs.Draining.Sames.{rebased_online, rebased_same, same_self, same_then}
use Rattle.core_machine.proofs.Draining.Sames.{online_self, online_then}

module _ (law : StepsStayLawful) (w : World) (home : ℕ) (class : Class) (runner : ℕ)
    (d : Drains w home class runner) (lawful : IsLawful w) where
  -- nothing is due
  pub none_due : next_out w.clock (base_of class (cpu_of w home).bases) ≡ None →
      items_due w home class ≡ []
  none_due none =
      due_last (length (base_of class (cpu_of w home).bases).items) w.clock
      (base_of class (cpu_of w home).bases) none

  -- an item goes out
  module _ (item : Item)
      (out : next_out w.clock (base_of class (cpu_of w home).bases) ≡ Some item) where
    abbrev v : World
    v = stepped w (steps.Hand (cpu_id home) (timer_id item.id) (cpu_id runner))

    abbrev u : World
    u = rebased w home (left law home runner class w lawful d.free d.may item out)

    v_is : v ≡ u
    v_is = hand_is law home runner class w lawful d.free d.may item out

    pub hands_narrow : item.id < 2 ^ 16
    hands_narrow =
        item_holds (λ x. x.id < 2 ^ 16) item.id (base_of class (cpu_of w home).bases).items item
        ((lawful.timers.consistent home).fits class).timers
        (is_due law home runner class w lawful d.free d.may item out).queued

    pub hands_enabled : MayHand w home item.id runner
    hands_enabled = may_hand law home runner class w lawful d.free d.may item out

    pub hands_drains : Drains v home class runner
    hands_drains =
        subst (λ x. Drains x home class runner) (sym v_is) (record {
          free = free_after law home runner class w lawful d.free d.may item out;
          may = may_after law home runner class w lawful d.free d.may item out;
        })

    -- what an item that goes out leaves as it was
    is : Rebases w home (left law home runner class w lawful d.free d.may item out) v
    is = record {
      lawful =
          law w (steps.Hand (cpu_id home) (timer_id item.id) (cpu_id runner)) lawful hands_enabled;
      is = v_is;
    }

    pub hands_same : Same step_rules w v
    hands_same = rebased_same w home _ v d.free.in_range is

    pub hands_online : SameOnline step_rules w v
    hands_online = rebased_online w home _ v d.free.in_range is

    base_is : base_of class (cpu_of v home).bases
        ≡ taken w.clock (base_of class (cpu_of w home).bases)
    base_is =
        ap (λ x. base_of class (cpu_of x home).bases) v_is
        ∙ base_after law home runner class w lawful d.free d.may item out

    pub hands_fewer : OneFewer (base_of class (cpu_of w home).bases)
        (base_of class (cpu_of v home).bases)
    hands_fewer =
        ap (λ (b : PlainBase). length b.items + 1)
        (ap (λ x. base_of class (cpu_of x home).bases) v_is
        ∙ ap (λ (y : CpuRecord). base_of class y.bases)
        (put_same w home (with_bases (cpu_of w home)
        (left law home runner class w lawful d.free d.may item out)) d.free.in_range))
        ∙ one_fewer w.clock class (cpu_id runner) (cpu_of w home).bases item
        (lawful.timers.consistent home) out

    pub hands_due : items_due w home class ≡ item ∷ items_due v home class
    hands_due =
        let base = base_of class (cpu_of w home).bases in
        let n = length (base_of class (cpu_of v home).bases).items in
        let few : length base.items ≡ suc n =
        (let fewer = hands_fewer in omega (arith, fewer)) in
        ap (λ k. due_items k w.clock base) few
        ∙ (due_more n w.clock base item out
        ∙ (ap (λ b. item ∷ due_items n w.clock b) (sym base_is)
        ∙ ap (λ t. item ∷ due_items n t (base_of class (cpu_of v home).bases))
        (sym (ap (λ (x : World). x.clock) v_is))))

-- the turns of a drain
module _ (home : ℕ) (class : Class) (runner : ℕ) (start : World) where
  pub record DrainsSoFar (w : World) (out : List Item) : Type 0 where
    pub drains : Drains w home class runner
    pub items : out ++ items_due w home class ≡ items_due start home class
    pub state : after_all w (hands home class runner (items_due w home class))
        ≡ (drained_by_steps start home class runner).state
    pub is : w ≡ handed_each home runner out start
    pub same : Same step_rules start w
    pub online : SameOnline step_rules start w

  pub nothing_out : Drains start home class runner → DrainsSoFar start []
  nothing_out drains = record {
    drains = drains;
    items = refl;
    state = refl;
    is = refl;
    same = same_self start start refl;
    online = online_self start start refl;
  }

  pub drained_some : (w : World) (out : List Item) → DrainsSoFar w out →
      DrainedSome start home class runner w
  drained_some w out so_far = record { out = out; left = so_far.items; is = so_far.is }

  pub part_drained : (w : World) (out : List Item) → DrainsSoFar w out →
      PartDrained step_rules start home class runner w
  part_drained w out so_far = record {
    out = out;
    left = so_far.items;
    rest = so_far.state;
    same = so_far.same;
    online = so_far.online;
  }

  each_more : (out : List Item) (item : Item) (w : World) →
      handed_each home runner (out ++ item ∷ []) w
      ≡ handed_next (handed_each home runner out w) home runner (Some item)
  each_more [] item w = refl
  each_more (first ∷ out) item w = each_more out item (handed_next w home runner (Some first))

  pub drain_more : (w v : World) (out more : List Item) (item : Item) → DrainsSoFar w out →
      v ≡ handed_next w home runner (Some item) → Drains v home class runner →
      items_due w home class ≡ item ∷ items_due v home class → Same step_rules w v →
      SameOnline step_rules w v → more ≡ out ++ item ∷ [] → DrainsSoFar v more
  drain_more w v out more item so_far is drains due same online pushed = record {
    drains = drains;
    items =
        ap (λ xs. xs ++ items_due v home class) pushed
        ∙ (append_assoc out (item ∷ []) (items_due v home class)
        ∙ (ap (λ xs. out ++ xs) (sym due) ∙ so_far.items));
    state =
        ap (λ u. after_all u (hands home class runner (items_due v home class))) is
        ∙ (ap (λ xs. after_all w (hands home class runner xs)) (sym due) ∙ so_far.state);
    is =
        is
        ∙ (ap (λ u. handed_next u home runner (Some item)) so_far.is
        ∙ (sym (each_more out item start)
        ∙ ap (λ xs. handed_each home runner xs start) (sym pushed)));
    same = same_then start w v so_far.same same;
    online = online_then start w v so_far.online online;
  }

  -- an item that went out, and for which there was no room
  pub drained_more : (w v : World) (out : List Item) (item : Item) → DrainsSoFar w out →
      v ≡ handed_next w home runner (Some item) → Drains v home class runner →
      items_due w home class ≡ item ∷ items_due v home class → Same step_rules w v →
      SameOnline step_rules w v → DrainsSoFar v (out ++ item ∷ [])
  drained_more w v out item so_far is drains due same online =
      drain_more w v out (out ++ item ∷ []) item so_far is drains due same online refl

  module _ (w : World) (out : List Item) (so_far : DrainsSoFar w out)
      (none : items_due w home class ≡ []) where
    pub drain_items : out ≡ items_due start home class
    drain_items = sym (ap (λ xs. out ++ xs) none ∙ append-nil out) ∙ so_far.items

    pub drain_state : stepped w (steps.Ticked (cpu_id home) class (cpu_id runner))
        ≡ (drained_by_steps start home class runner).state
    drain_state = sym (ap (λ xs. after_all w (hands home class runner xs)) none) ∙ so_far.state
