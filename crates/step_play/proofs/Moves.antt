-- for crates above: a timer moves from a CPU that is offline to an active one
use Rattle.std.proofs.Common.{◌≡◌, ◌≢◌, ℕ, ◌+◌, ◌<◌, true, false, length, set}
use Rattle.std.proofs.Common.{Option, Some, None, refl, sym, ap, ◌∙◌, subst, arith}
use Rattle.std.specs.Prelude.{not, option_map}
use Rattle.std.specs.Option.{option_or}
use Rattle.std.proofs.lemmas.Bool.{and_parts, both_ways}
use Rattle.std.proofs.lemmas.Option.{none-some, same_Some}
use Rattle.tm_base.specs.declared.names.Class.{Class}
use Rattle.tm_base.specs.declared.names.Class.TheVariants.{Pinned, Global, Deferrable}
use Rattle.cpu_bases.specs.declared.entry.Act.TheVariants.{MovedIn}
use Rattle.wheel_core.specs.declared.item.Item.{Item}
use Rattle.wheel_core.specs.PlainBase.{FitsWheel}
use Rattle.wheel_core.proofs.Ids.{item_holds}
use Rattle.cpu_bases.specs.CpuBases.{CpuBases, IsConsistent, base_of, found_or, moved_in}
use Rattle.cpu_bases.specs.CpuBases.{item_queued, moved_out, oldest_in}
use Rattle.cpu_bases.proofs.Keeping.{oldest_found}
use Rattle.tree_plan.specs.Paths.{is_placed_in}
use Rattle.play_rules.specs.Interrupts.{cpu_id, timer_id}
use Rattle.play_rules.specs.Rules.{Moved}
use Rattle.play_rules.specs.State as play
use Rattle.play_rules.specs.Timers.{bases_at, first_to_move, moved_first, moved_into, moved_one}
use Rattle.play_rules.specs.Timers.{moved_out_of}
use Rattle.play_rules.proofs.FirstMoves.{first_is}
use Rattle.play_laws.proofs.Shape.Alike.{moved_seen}
use Rattle.core_world.specs.declared.step.Step.TheVariants as steps
use Rattle.core_world.specs.Enabled.{MayMove}
use Rattle.core_world.specs.Lawful.{IsLawful}
use Rattle.core_world.specs.Steps.{first_moved, moved_with, stepped, with_bases}
use Rattle.core_world.specs.World.{CpuRecord, World, cpu_of, is_active}
use Rattle.core_facts.specs.core_laws.Laws.{StepsStayLawful}
use Rattle.step_play.specs.Rules.Alike.{Plays}
use Rattle.step_play.specs.Rules.Seen.{InPlay, InRun, resting, state_of}
use Rattle.step_play.specs.Rules.StepRules.{moved_by_steps}
use Rattle.step_play.proofs.Bases.{moved_out_whole, queued_whole}
use Rattle.step_play.proofs.Drains.{rebased}
use Rattle.step_play.proofs.Held.{bases_seen}
use Rattle.step_play.proofs.Takes.{there}
use Rattle.step_play.proofs.Worlds.{Bare, TellsExactly, bare, bases_fit, bases_shown, dressed}
use Rattle.step_play.proofs.Worlds.{free_in, in_play, put_bare, put_count, put_else, put_field}
use Rattle.step_play.proofs.Worlds.{put_tells, tells}

-- what moves first is the same, however it is looked for
first_by : (a b c : Option Item) →
    found_or Pinned a (found_or Global b (found_or Deferrable c None))
    ≡ option_or (option_map (λ item. (Pinned, item)) a)
    (option_or (option_map (λ item. (Global, item)) b) (option_map (λ item. (Deferrable, item)) c))
first_by (Some a) b c = refl
first_by None (Some b) c = refl
first_by None None (Some c) = refl
first_by None None None = refl

pub first_alike : (bases : CpuBases) → first_moved bases ≡ first_to_move bases
first_alike bases =
    first_by (oldest_in (base_of Pinned bases).items) (oldest_in (base_of Global bases).items)
    (oldest_in (base_of Deferrable bases).items)

module _ (law : StepsStayLawful) (w : World) (i : InRun resting w) (from to : ℕ)
    (low : from < length w.cpus) (offline : (cpu_of w from).online ≡ false)
    (placed : is_placed_in w.tree to ≡ true) (active : is_active (cpu_of w to) ≡ true)
    (class : Class) (item : Item)
    (first : first_to_move (cpu_of w from).bases ≡ Some (class, item)) where
  to_online : (cpu_of w to).online ≡ true
  to_online = (and_parts (cpu_of w to).online (not (cpu_of w to).idle) active).0

  apart : to ≢ from
  apart same = both_ways (cpu_of w from).online offline
      (ap (λ n. (cpu_of w n).online) (sym same) ∙ to_online)

  to_low : to < length w.cpus
  to_low = there w to to_online

  abbrev given : CpuBases
  given = moved_out w.clock class (cpu_id to) (cpu_of w from).bases

  abbrev got : CpuBases → CpuBases
  got b = moved_in w.clock class item.id item.expires item.job item.arg (cpu_id to) b

  -- between the two CPUs
  abbrev mid : World
  mid = rebased w from given

  mid_to : cpu_of mid to ≡ cpu_of w to
  mid_to = put_else w from (with_bases (cpu_of w from) given) low to apart

  mid_low : to < length mid.cpus
  mid_low =
      omega (arith, to_low, put_count w from (with_bases (cpu_of w from) given) low)

  mid_bare : Bare resting mid
  mid_bare =
      put_bare resting resting w from (with_bases (cpu_of w from) given) low (bare resting w i)
      (bases_fit resting w from given (bare resting w i)
      (moved_out_whole (cpu_of w from).bases (i.whole from) w.clock class (cpu_id to)))

  abbrev last : World
  last = rebased mid to (got (cpu_of mid to).bases)

  step_is : stepped w (steps.Move (cpu_id from) (cpu_id to) (timer_id item.id)) ≡ last
  step_is =
      ap (moved_with w from to) (first_alike (cpu_of w from).bases ∙ first)
      ∙ ap (λ (y : CpuRecord). record w {
        cpus = set mid.cpus to (with_bases y (got y.bases));
      }) (sym mid_to)

  placed_item : FitsWheel item
  placed_item =
      item_holds FitsWheel item.id (base_of class (cpu_of w from).bases).items item
      ((i.lawful.timers.consistent from).fits class).sound.in_wheel
      (oldest_found (base_of class (cpu_of w from).bases).items item
      (first_is (cpu_of w from).bases (class, item) first))

  last_bare : Bare resting last
  last_bare =
      let clock = i.lawful.times.clock in
      let fits = placed_item.expires in
      put_bare resting resting mid to
      (with_bases (cpu_of mid to) (got (cpu_of mid to).bases)) mid_low mid_bare
      (bases_fit resting mid to (got (cpu_of mid to).bases) mid_bare
      (queued_whole (cpu_of mid to).bases (mid_bare.whole to)
      (subst (λ (y : CpuRecord). IsConsistent y.bases) (sym mid_to) (i.lawful.timers.consistent to))
      MovedIn 0 w.clock (w.clock + 1) class item.id item.expires item.job item.arg (cpu_id to)
      (omega (arith, clock)) (omega (arith, fits))))

  pub may_move : MayMove w from to item.id
  may_move = record {
    from_free = free_in resting w from i refl low;
    from_offline = offline;
    to_free = free_in resting w to i refl to_low;
    to_placed = placed;
    to_active = active;
    to_outside = i.inside to;
    class = class;
    item = item;
    first = first_alike (cpu_of w from).bases ∙ first;
    timers = refl;
    none_behind = i.whole to class;
  }

  lawful : IsLawful (stepped w (steps.Move (cpu_id from) (cpu_id to) (timer_id item.id)))
  lawful = law w (steps.Move (cpu_id from) (cpu_id to) (timer_id item.id)) i.lawful may_move

  -- and what Play sees
  out_seen : state_of mid ≡ moved_out_of (state_of w) from to class
  out_seen =
      bases_shown w from given low
      ∙ ap (λ b. play.with_bases (state_of w) from (moved_out w.clock class (cpu_id to) b))
      (sym (bases_seen w from low))

  in_seen : state_of last ≡ (moved_one (state_of w) from to (class, item)).state
  in_seen =
      bases_shown mid to (got (cpu_of mid to).bases) mid_low
      ∙ (ap (λ b. play.with_bases (state_of mid) to (got b)) (sym (bases_seen mid to mid_low))
      ∙ ap (λ s. (moved_into s to (class, item)).state) out_seen)

  pub move_stays : InRun resting (moved_by_steps w from to (class, item)).state
  move_stays =
      dressed resting (moved_by_steps w from to (class, item)).state
      (subst (Bare resting) (sym step_is) last_bare) lawful

  move_tells : TellsExactly w → TellsExactly (moved_by_steps w from to (class, item)).state
  move_tells t =
      subst TellsExactly (sym step_is)
      (put_tells mid to (with_bases (cpu_of mid to) (got (cpu_of mid to).bases)) mid_low refl refl
      (put_tells w from (with_bases (cpu_of w from) given) low refl refl t))

  pub moves : InPlay resting w → Plays resting (moved_by_steps w from to (class, item)).state
      (moved_one (state_of w) from to (class, item)).state
  moves p = record {
    in_play = in_play resting (moved_by_steps w from to (class, item)).state move_stays
        (move_tells (tells resting w p));
    state = ap state_of step_is ∙ in_seen;
  }

  -- the wheel expiry that it gets there
  pub move_wheel : (moved_by_steps w from to (class, item)).mover.wheel
      ≡ (item_queued (w.clock + 1) class item.id item.expires item.job item.arg
      (cpu_of w to).bases).wheel
  move_wheel =
      ap (λ b. (item_queued (w.clock + 1) class item.id item.expires item.job item.arg b).wheel)
      (ap (λ s. bases_at s to) (sym out_seen)
      ∙ (bases_seen mid to mid_low ∙ ap (λ (y : CpuRecord). y.bases) mid_to))

  -- who is online and idle stays
  pub move_idle : (d : ℕ) →
      (cpu_of (moved_by_steps w from to (class, item)).state d).idle ≡ (cpu_of w d).idle
  move_idle d =
      ap (λ u. (cpu_of u d).idle) step_is
      ∙ (put_field mid to (with_bases (cpu_of mid to) (got (cpu_of mid to).bases)) mid_low
      (λ y. y.idle) refl d
      ∙ put_field w from (with_bases (cpu_of w from) given) low (λ y. y.idle) refl d)

  pub move_online : (d : ℕ) →
      (cpu_of (moved_by_steps w from to (class, item)).state d).online ≡ (cpu_of w d).online
  move_online d =
      ap (λ u. (cpu_of u d).online) step_is
      ∙ (put_field mid to (with_bases (cpu_of mid to) (got (cpu_of mid to).bases)) mid_low
      (λ y. y.online) refl d
      ∙ put_field w from (with_bases (cpu_of w from) given) low (λ y. y.online) refl d)

pub move_plays : StepsStayLawful → (w : World) → InPlay resting w → (from to : ℕ) →
    from < length w.cpus → (cpu_of w from).online ≡ false → is_placed_in w.tree to ≡ true →
    is_active (cpu_of w to) ≡ true → (class : Class) (item : Item) →
    first_to_move (cpu_of w from).bases ≡ Some (class, item) →
    Plays resting (moved_by_steps w from to (class, item)).state
    (moved_one (state_of w) from to (class, item)).state
move_plays law w p from to low offline placed active class item first =
    moves law w p.in_run from to low offline placed active class item first p

-- the move that Play sees
module _ (w : World) (from to : ℕ) (low : from < length w.cpus) where
  abbrev by_steps : Option (Class × Item) → Option (Moved World)
  by_steps o = option_map (moved_by_steps w from to) o

  first_seen : first_to_move (bases_at (state_of w) from) ≡ first_to_move (cpu_of w from).bases
  first_seen = ap first_to_move (bases_seen w from low)

  -- what was found first, where something moved
  pub record Finds (m : Moved World) : Type 0 where
    pub found : Class × Item
    pub first : first_to_move (cpu_of w from).bases ≡ Some found
    pub made : moved_by_steps w from to found ≡ m

  finds_by : (o : Option (Class × Item)) (m : Moved World) → first_to_move (cpu_of w from).bases ≡ o
      → by_steps o ≡ Some m → Finds m
  finds_by None m first is = absurd (none-some m is)
  finds_by (Some found) m first is = record {
    found = found;
    first = first;
    made = same_Some (moved_by_steps w from to found) m is;
  }

  pub finds : (m : Moved World) → by_steps (first_to_move (cpu_of w from).bases) ≡ Some m → Finds m
  finds m is = finds_by (first_to_move (cpu_of w from).bases) m refl is

  pub moves_none : by_steps (first_to_move (cpu_of w from).bases) ≡ None →
      moved_first (state_of w) from to ≡ None
  moves_none none =
      ap (option_map (moved_one (state_of w) from to)) first_seen
      ∙ by_first (first_to_move (cpu_of w from).bases) none
    where
      by_first : (o : Option (Class × Item)) → by_steps o ≡ None →
          option_map (moved_one (state_of w) from to) o ≡ None
      by_first None none = refl
      by_first (Some found) none =
          absurd (none-some (moved_by_steps w from to found) (sym none))

  pub moves_some : (m : Moved World) (f : Finds m) →
      state_of (moved_by_steps w from to f.found).state
      ≡ (moved_one (state_of w) from to f.found).state
      → moved_first (state_of w) from to ≡ Some (moved_seen state_of m)
  moves_some m f same =
      ap (option_map (moved_one (state_of w) from to)) (first_seen ∙ f.first)
      ∙ ((λ j. Some (record {
        mover = (moved_one (state_of w) from to f.found).mover;
        state = sym same j;
      }))
      ∙ ap (λ x. Some (moved_seen state_of x)) f.made)
