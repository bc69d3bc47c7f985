-- a world begins lawful
use Rattle.std.proofs.Common.{◌^◌, ◌≤◌, ◌≡◌, inl, inr, ℕ, ◌<◌, Bool, true, false, true≢false, Some, None, refl, sym, ap, ◌∙◌, subst, arith}
use Rattle.std.specs.Prelude.{◌&&◌, not, is_some, option_and_then, option_map, All}
use Rattle.std.specs.FinSet.{contains}
use Rattle.std.proofs.lemmas.Bool.{cases_lt, lt-ltb, ltb-true}
use Rattle.std.proofs.lemmas.List.{length-replicate}
use Rattle.std.proofs.lemmas.List.Elements.{All-nil}
use Rattle.std.proofs.lemmas.List.FromFn.{length-map-range_with_len}
use Rattle.std.proofs.lemmas.Option.{none-some}
use Rattle.tm_base.specs.declared.names.Child.{Child}
use Rattle.tm_base.specs.declared.names.Child.TheVariants as sorts
use Rattle.tm_base.specs.declared.names.TheConstants.{NEVER}
use Rattle.tm_base.specs.Children.{of_cpu}
use Rattle.event_queue.specs.EventMap.{event_at}
use Rattle.event_queue.specs.declared.event.Event.{Event}
use Rattle.wheel_core.specs.PlainBase.{PlainBase}
use Rattle.cpu_bases.specs.CpuBases.{CpuBases, IsConsistent, base_of, class_in, empty_bases}
use Rattle.cpu_bases.specs.Journals.{LegalUpTo}
use Rattle.tree_plan.specs.Laws.{CutLaws, EdgeLaws}
use Rattle.tree_plan.specs.Shape.{IsPlanned, Shape}
use Rattle.tree_plan.specs.Paths.{child_count_of, child_towards, cpu_count_of, group_count_of, parent_of}
use Rattle.walk_rules.specs.declared.walk.Walk.{Walk}
use Rattle.walk_rules.specs.Edges.{EdgesHold, GroupsLawful, edge_of, passed_of, stand}
use Rattle.walk_rules.specs.Hierarchy.{IsHierarchy}
use Rattle.walk_rules.specs.Locks.{HoldsBy}
use Rattle.walk_rules.specs.Scene.{Group, Scene, is_on}
use Rattle.walk_rules.specs.Stages.{forget}
use Rattle.core_world.specs.Frames.{IsSized}
use Rattle.core_world.specs.Lawful.{IsLawful}
use Rattle.core_world.specs.Marks.{SomePlaced}
use Rattle.core_world.specs.Start.{start_cpu, start_group, start_of}
use Rattle.core_world.specs.Timers.{TimersHold, TimesHold}
use Rattle.core_world.specs.Wakeups.{IsAtRest, Keeps}
use Rattle.core_world.specs.World.{CpuRecord, World, cpu_of, group_of, scene_of}
use Rattle.core_laws.proofs.Start.Cpus.{base_empty, consistent_empty, cpu_past, cpu_there, each_cpu, legal_empty}
use Rattle.core_laws.proofs.Start.Groups.{bit_at_start, children_at_start, eight_at_start, group_there, law_at_start, no_event, no_lock, slots_at_start}

first_true : (a b : Bool) → (a && b) ≡ true → a ≡ true
first_true true b is = refl
first_true false b is = is

module _ (t : Shape) (timers : ℕ) (few : timers ≤ 2 ^ 16) where
  abbrev w : World
  w = start_of t timers

  abbrev s : Scene
  s = scene_of (start_of t timers)

  -- no CPU has a walk or a mark, and no bases have anything
  free : (c : ℕ) → (cpu_of w c).walk ≡ None
  free c = each_cpu t timers (λ z. z.walk) refl c

  no_walk : (c : ℕ) (k : Walk) → (cpu_of w c).walk ≡ Some k → ⊥
  no_walk c k is = none-some k (sym (free c) ∙ is)

  unseen : (c : ℕ) → s.walk c ≡ None
  unseen c = ap (option_map forget) (free c)

  none_seen : (c : ℕ) (k : Walk) → s.walk c ≡ Some k → ⊥
  none_seen c k is = none-some k (sym (unseen c) ∙ is)

  no_mark : (c b : ℕ) → (cpu_of w c).mark ≡ Some b → ⊥
  no_mark c b is = none-some b (sym (each_cpu t timers (λ z. z.mark) refl c) ∙ is)

  empty : (c : ℕ) → (cpu_of w c).bases ≡ empty_bases
  empty c = each_cpu t timers (λ z. z.bases) refl c

  nobody_stands : (c : ℕ) (m : Child) → stand t s c ≡ Some m → ⊥
  nobody_stands c m is = none-some m (sym (ap (λ k. option_and_then (child_towards t c) (edge_of k)) (unseen c)) ∙ is)

  none_passed : (c n : ℕ) → n < passed_of (s.walk c) → ⊥
  none_passed c n low = let none = ap passed_of (unseen c) in omega (arith, low, none)

  eventless : (g k : ℕ) (e : Event) → event_at (group_of w g).events k ≡ Some e → ⊥
  eventless g k e is = none-some e (sym (no_event t timers g k) ∙ is)

  rests : (c : ℕ) → (cpu_of w c).online ≡ false → IsAtRest (cpu_of w c)
  rests c off = elim (cases_lt c (cpu_count_of t)) [
    | inl within ↦ absurd (true≢false (sym (ap (λ (z : CpuRecord). z.online) (cpu_there t timers c within)) ∙ off))
    | inr past ↦ subst IsAtRest (sym (cpu_past t timers c past)) (record { idle = refl; outside = refl })
  ]

  keeps_none : (c : ℕ) → Keeps (cpu_of w c) → ⊥
  keeps_none c keeps = elim (cases_lt c (cpu_count_of t)) [
    | inl within ↦ true≢false (sym keeps.idle ∙ ap (λ (z : CpuRecord). z.idle) (cpu_there t timers c within))
    | inr past ↦ true≢false (sym keeps.online ∙ ap (λ (z : CpuRecord). z.online) (cpu_past t timers c past))
  ]

  no_wakeup : (c : ℕ) → (cpu_of w c).wakeup ≡ NEVER
  no_wakeup c = each_cpu t timers (λ z. z.wakeup) refl c

  holds_none : (c g : ℕ) → HoldsBy t c (s.walk c) g → ⊥
  holds_none c g holds = subst (λ m. HoldsBy t c m g) (unseen c) holds

  timers_hold : TimersHold w
  timers_hold = record {
    one_cpu = λ c d timer class other is is'. absurd (none-some class (sym (ap (class_in timer) (empty c)) ∙ is));
    legal = λ c. subst (λ (bases : CpuBases). LegalUpTo c 0 bases.journal) (sym (empty c)) (legal_empty c);
    consistent = λ c. subst IsConsistent (sym (empty c)) consistent_empty;
  }

  times_hold : TimesHold w
  times_hold = record {
    clock = omega arith;
    few = few;
    known = λ c class. subst (λ (base : PlainBase). All (λ item. item.id < timers) base.items) (sym (ap (base_of class) (empty c) ∙ base_empty class)) (All-nil _);
  }

  sized : IsSized w
  sized = record {
    groups = length-map-range_with_len (λ g. start_group (child_count_of t g)) 0 (group_count_of t);
    cpus = length-replicate (cpu_count_of t) start_cpu;
    slots = λ g within. slots_at_start t timers g (let all = length-map-range_with_len (λ h. start_group (child_count_of t h)) 0 (group_count_of t) in omega (arith, within, all));
  }

  module _ (planned : IsPlanned t) (h : IsHierarchy t) (edges : EdgeLaws t) (cuts : CutLaws t) where
    some_placed : SomePlaced w
    some_placed =
        let p = planned.limits.some_placed in
        record {
          cpu = p.0;
          placed = ap (λ b. b && not (contains t.isolated p.0)) (lt-ltb p.0 (cpu_count_of t) p.1) ∙ ap not p.2;
          online = ap (λ (z : CpuRecord). z.online) (cpu_there t timers p.0 p.1);
        }

    -- each child of a group is active
    all_on : (m : Child) (g : ℕ) → parent_of t m ≡ Some g → is_on s m ≡ true
    all_on (sorts.Cpu c) g up =
        let within = ltb-true c.0 (cpu_count_of t) (first_true _ _ (edges.cpu_placed c.0 g up)) in
        ap (λ (z : CpuRecord). z.online && not z.idle) (cpu_there t timers c.0 within)
    all_on (sorts.Group x) g up =
        let below = edges.group_within x.0 g up in
        ap (λ (z : Group). is_some z.migrator) (group_there t timers x.0 (omega (arith, below)))

    groups_lawful : GroupsLawful t s
    groups_lawful = record {
      law = law_at_start t timers edges cuts;
      eight = eight_at_start t timers edges cuts;
      children = children_at_start t timers edges cuts;
    }

    edges_hold : EdgesHold t s
    edges_hold = record {
      quiet = λ m c off is. nobody_stands c m is;
      once = λ m c d is is'. absurd (nobody_stands c m is);
      needs = λ m g up on unset. absurd (unset (bit_at_start t timers edges cuts m g up));
      active = λ c k is kind. absurd (none_seen c k is);
      passed = λ c m g p. absurd (none_passed c p.at p.below);
      behind = λ c d m g p is. nobody_stands d m is;
    }

    pub starts_lawful : IsLawful w
    starts_lawful = record {
      hierarchy = h;
      sized = sized;
      placed = record { in_tree = λ c k is. absurd (none_seen c k is); alone = λ c k is. absurd (none_seen c k is) };
      flags = λ c k is. absurd (none_seen c k is);
      walkers = λ c k is. absurd (none_seen c k is);
      some_placed = some_placed;
      marked = λ c b is. absurd (no_mark c b is);
      found = λ c k is. absurd (no_walk c k is);
      own_event = λ c leaf k is. absurd (no_walk c k is);
      off_at_rest = rests;
      no_never = record { slots = λ g k e is. absurd (eventless g k e is); bests = λ c k e is. absurd (no_walk c k is) };
      times = times_hold;
      groups = groups_lawful;
      edges = edges_hold;
      reads = λ c k m sure. absurd (none_seen c k sure.walk);
      bits = λ m g up off set. absurd (true≢false (sym (all_on m g up) ∙ off));
      known = λ c d g up on set is. nobody_stands d (of_cpu c) is;
      ignored = λ c k is. absurd (none_seen c k is);
      told = λ x p up off. inl (λ k e is. absurd (eventless x k e is));
      best = λ c x n k is. absurd (none_seen c k is);
      sights = λ c x k is. absurd (none_seen c k is);
      answered = λ g child e top off is. absurd (eventless g child e is);
      first = λ c g n i k e is. absurd (no_walk c k is);
      wakeups = λ c keeps. absurd (keeps_none c keeps);
      walk_times = λ c k is. absurd (no_walk c k is);
      no_wakeup = λ c awake. no_wakeup c;
      locks = record { held = λ g c is. absurd (none-some c (sym (no_lock t timers g) ∙ is)); holds = λ g c holds. absurd (holds_none c g holds) };
      markers = λ c b is. absurd (no_mark c b is);
      remote = λ c k by is. absurd (no_walk c k is);
      timers = timers_hold;
      time_origins = record { wakeups = λ c within. inl (no_wakeup c); walks = λ c k is. absurd (no_walk c k is) };
      event_origins = record { expiry = λ g k e is. absurd (eventless g k e is); below = λ g k e is. absurd (eventless g k e is) };
      best_origins = record { expiry = λ c k e is. absurd (no_walk c k is); below = λ c g k e is. absurd (no_walk c k is) };
    }
