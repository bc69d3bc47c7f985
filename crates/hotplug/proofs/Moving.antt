-- timers of a dead CPU move in a settled core
use Rattle.std.proofs.Common.{◌≡◌, ◌≢◌, ℕ, ◌+◌, ◌<◌, true, List, [], ◌∷◌}
use Rattle.std.proofs.Common.{Some, length, refl, sym, ap, ◌∙◌, subst, arith}
use Rattle.std.specs.Prelude.{◌++◌, is_some, map, not, option_map}
use Rattle.std.proofs.lemmas.Bool.{and_parts, both_ways}
use Rattle.std.proofs.lemmas.Option.{none-some}
use Rattle.tm_base.specs.declared.names.Class.{Class}
use Rattle.tm_base.specs.declared.names.Class.TheVariants.{Pinned, Global, Deferrable}
use Rattle.tm_base.specs.declared.names.TimerId.{TimerId}
use Rattle.wheel_core.specs.declared.item.Item.{Item}
use Rattle.wheel_core.specs.PlainBase.{FitsWheel, NoneBehind}
use Rattle.wheel_core.proofs.Ids.{item_holds}
use Rattle.cpu_bases.specs.declared.entry.Act.TheVariants as acts
use Rattle.cpu_bases.specs.ByClass.{of_class}
use Rattle.cpu_bases.specs.CpuBases.{CpuBases, base_of}
use Rattle.cpu_bases.specs.CpuBases.{oldest_in}
use Rattle.cpu_bases.proofs.Keeping.{oldest_found}
use Rattle.tree_plan.specs.Paths.{is_placed_in}
use Rattle.cpu_bases.proofs.Counts.{count_in, fewer_out}
use Rattle.play_rules.proofs.FirstMoves.{first_is}
use Rattle.play_rules.specs.Machines.{after_move}
use Rattle.play_rules.specs.Timers.{first_to_move}
use Rattle.core_world.specs.declared.step.Step.TheVariants as steps
use Rattle.core_world.specs.Enabled.{MayMove}
use Rattle.core_world.specs.Lawful.{IsLawful}
use Rattle.core_world.specs.Steps.{giver, moved_with, stepped, taker, with_bases}
use Rattle.core_world.specs.World.{CpuRecord, World, cpu_of, is_active}
use Rattle.core_machine.specs.step_play.Rules.StepRules.{moved_by_steps, step_rules}
use Rattle.core_machine.proofs.step_play.Bases.{moved_out_whole, queued_whole}
use Rattle.core_machine.proofs.step_play.Held.{bases_seen}
use Rattle.core_machine.proofs.step_play.Moves.{first_alike}
use Rattle.core_machine.proofs.step_play.Worlds.{put, put_all, put_count, put_else, put_field}
use Rattle.core_machine.proofs.step_play.Worlds.{put_same}
use Rattle.core_machine.specs.Draining.Turns.{timer_found}
use Rattle.core_machine.proofs.Draining.FirstMoves.{Found, found_first}
use Rattle.hotplug.specs.Afterwards.{SomeMoved, StillQueued, asked}
use Rattle.hotplug.specs.Frames.{MayMoveAll}
use Rattle.hotplug.specs.Settled.{AllWhole}
use Rattle.hotplug.proofs.Over.{gives_one, one_item, takes_one}

-- HOW MANY are queued
pub count_seen_in : (w : World) (c : ℕ) → c < length w.cpus →
    step_rules.count_queued w c ≡ count_in (cpu_of w c).bases
count_seen_in w c low = ap count_in (bases_seen w c low)

some_items : (k : Class) (items : List Item) (item : Item) → oldest_in items ≡ Some item →
    0 < length items
some_items k [] item is = absurd (none-some item is)
some_items k (x ∷ items) item is = omega arith

some_in : (b : CpuBases) (k : Class) (item : Item) → oldest_in (base_of k b).items ≡ Some item →
    0 < count_in b
some_in b Pinned item is =
    let some = some_items Pinned (base_of Pinned b).items item is in omega (arith, some)
some_in b Global item is =
    let some = some_items Global (base_of Global b).items item is in omega (arith, some)
some_in b Deferrable item is =
    let some = some_items Deferrable (base_of Deferrable b).items item is in omega (arith, some)

pub some_queued : (b : CpuBases) (f : Class × Item) → first_to_move b ≡ Some f → 0 < count_in b
some_queued b f is = some_in b f.0 f.1 (first_is b f is)

-- A MOVE
module _ (w : World) (from to : ℕ) (lawful : IsLawful w) (may : MayMoveAll w from to)
    (t : TimerId) (is : Some t ≡ option_map timer_found (first_to_move (cpu_of w from).bases)) where
  f : Found w from t
  f = found_first w from t is

  abbrev class : Class
  class = f.found.0

  abbrev item : Item
  item = f.found.1

  to_online : (cpu_of w to).online ≡ true
  to_online = (and_parts (cpu_of w to).online (not (cpu_of w to).idle) may.active).0

  apart : to ≢ from
  apart same = both_ways (cpu_of w from).online may.offline
      (ap (λ n. (cpu_of w n).online) (sym same) ∙ to_online)

  pub moves_enabled : MayMove w from to t.0
  moves_enabled =
      subst (λ (x : TimerId). MayMove w from to x.0) (sym f.timer) (record {
        from_free = record { in_range = may.low; free = may.settled.free from };
        from_offline = may.offline;
        to_free = record { in_range = may.to_low; free = may.settled.free to };
        to_placed = may.placed;
        to_active = may.active;
        to_outside = may.settled.outside to;
        class = class;
        item = item;
        first = first_alike (cpu_of w from).bases ∙ f.first;
        timers = refl;
        none_behind = may.whole to class;
      })

  abbrev v : World
  v = stepped w (steps.Move (record { 0 = from }) (record { 0 = to }) t)

  -- by the definition of a move
  pub moves_step : v ≡ after_move (step_rules.moved w from to) w
  moves_step =
      sym (ap (λ o. after_move (option_map (moved_by_steps w from to) o) w) f.first)

  pub moves_some : true ≡ is_some (step_rules.moved w from to)
  moves_some = sym (ap (λ o. is_some (option_map (moved_by_steps w from to) o)) f.first)

  -- between the two CPUs, and after it
  abbrev mid : World
  mid = put w from (giver w from to class)

  abbrev last : World
  last = put mid to (taker w to class item)

  v_is : v ≡ last
  v_is = ap (moved_with w from to) (first_alike (cpu_of w from).bases ∙ f.first)

  mid_low : to < length mid.cpus
  mid_low =
      let count = put_count w from (giver w from to class) may.low in
      let low = may.to_low in
      omega (arith, count, low)

  field : {X : Type 0} (g : CpuRecord → X) → ((y : CpuRecord) (b : CpuBases) →
      g (with_bases y b) ≡ g y) → (d : ℕ) → g (cpu_of v d) ≡ g (cpu_of w d)
  field g same d =
      let first = put_field w from (giver w from to class) may.low g (same (cpu_of w from) _) in
      ap (λ u. g (cpu_of u d)) v_is
      ∙ (put_field mid to (taker w to class item) mid_low g
      (same (cpu_of w to) _ ∙ sym (first to)) d
      ∙ first d)

  count : length v.cpus ≡ length w.cpus
  count =
      ap (λ (u : World). length u.cpus) v_is
      ∙ (put_count mid to (taker w to class item) mid_low
      ∙ put_count w from (giver w from to class) may.low)

  tree : v.tree ≡ w.tree
  tree = ap (λ (u : World). u.tree) v_is

  placed : FitsWheel item
  placed =
      item_holds FitsWheel item.id (base_of class (cpu_of w from).bases).items item
      ((lawful.timers.consistent from).fits class).sound.in_wheel
      (oldest_found (base_of class (cpu_of w from).bases).items item
      (first_is (cpu_of w from).bases f.found f.first))

  given_whole : (k : Class) → NoneBehind (base_of k (giver w from to class).bases)
  given_whole =
      moved_out_whole (cpu_of w from).bases (may.whole from) w.clock class (record { 0 = to })

  taken_whole : (k : Class) → NoneBehind (base_of k (taker w to class item).bases)
  taken_whole =
      let clock = lawful.times.clock in
      let fits = placed.expires in
      queued_whole (cpu_of w to).bases (may.whole to) (lawful.timers.consistent to)
      acts.MovedIn 0 w.clock (w.clock + 1) class item.id item.expires item.job item.arg
      (record { 0 = to }) (omega (arith, clock)) (omega (arith, fits))

  whole : AllWhole v
  whole =
      subst AllWhole (sym v_is)
      (put_all mid to (taker w to class item) mid_low
      (λ d z. (k : Class) → NoneBehind (base_of k z.bases)) taken_whole
      (λ d ne. put_all w from (giver w from to class) may.low
      (λ d z. (k : Class) → NoneBehind (base_of k z.bases)) given_whole (λ e other. may.whole e)
      d))

  pub moves_on : MayMoveAll v from to
  moves_on = record {
    settled = record {
      free = λ d. field (λ y. y.walk) (λ y b. refl) d ∙ may.settled.free d;
      outside = λ d. field (λ y. y.inside) (λ y b. refl) d ∙ may.settled.outside d;
    };
    low = (let same = count in let low = may.low in omega (arith, same, low));
    to_low = (let same = count in let low = may.to_low in omega (arith, same, low));
    offline = field (λ y. y.online) (λ y b. refl) from ∙ may.offline;
    placed = ap (λ x. is_placed_in x to) tree ∙ may.placed;
    active = field is_active (λ y b. refl) to ∙ may.active;
    whole = whole;
  }

  from_is : (cpu_of v from).bases ≡ (giver w from to class).bases
  from_is =
      ap (λ (u : World). (cpu_of u from).bases) v_is
      ∙ (ap (λ (y : CpuRecord). y.bases)
      (put_else mid to (taker w to class item) mid_low from (λ same. apart (sym same)))
      ∙ ap (λ (y : CpuRecord). y.bases) (put_same w from (giver w from to class) may.low))

  to_is : (cpu_of v to).bases ≡ (taker w to class item).bases
  to_is =
      ap (λ (u : World). (cpu_of u to).bases) v_is
      ∙ ap (λ (y : CpuRecord). y.bases) (put_same mid to (taker w to class item) mid_low)

  oldest : oldest_in (base_of class (cpu_of w from).bases).items ≡ Some item
  oldest = first_is (cpu_of w from).bases f.found f.first

  -- a timer is there, and it alone moves
  pub moves_left : StillQueued w from
  moves_left = record { class = class; item = item; first = oldest }

  pub moves_over : SomeMoved w from to v
  moves_over = (
    one_item class item,
    record {
      tree = tree;
      clock = ap (λ (u : World). u.clock) v_is;
      online = field (λ y. y.online) (λ y b. refl);
      left = λ k.
          gives_one w.clock class k (record { 0 = to }) (cpu_of w from).bases item oldest
          ∙ ap (λ b. of_class k (one_item class item) ++ (base_of k b).items) (sym from_is);
      come = λ k.
          ap (λ b. map asked (base_of k b).items) to_is
          ∙ takes_one w.clock class k (record { 0 = to }) (cpu_of w to).bases item;
      others = λ d ne other.
          ap (λ (u : World). cpu_of u d) v_is
          ∙ (put_else mid to (taker w to class item) mid_low d other
          ∙ put_else w from (giver w from to class) may.low d ne);
    },
  )

  pub moves_fewer : step_rules.count_queued v from + 1 ≡ step_rules.count_queued w from
  moves_fewer =
      let fewer = fewer_out w.clock class (record { 0 = to }) (cpu_of w from).bases item
      (first_is (cpu_of w from).bases f.found f.first) in
      let new = count_seen_in v from moves_on.low in
      let old = count_seen_in w from may.low in
      ap (λ n. n + 1) (new ∙ ap count_in from_is) ∙ (fewer ∙ sym old)
