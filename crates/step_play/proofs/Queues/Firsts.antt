-- for crates above: whom the first event of a group, and the event of a slot, name
use Rattle.std.proofs.Common.{◌≡◌, inl, inr, ℕ, zero, suc, ◌<◌, ◌≤◌, cond, Bool, true, false}
use Rattle.std.proofs.Common.{Option, Some, None, refl, sym, ap, ◌∙◌, subst, arith, true≢false}
use Rattle.std.specs.Prelude.{◌&&◌, is_none, is_some, not}
use Rattle.std.proofs.lemmas.Bool.{cases_Bool}
use Rattle.std.proofs.lemmas.List.Elements.{All-contains}
use Rattle.std.proofs.lemmas.Option.{none-some, same_Some}
use Rattle.tm_base.specs.declared.names.TheConstants.{NEVER, TIME_LIMIT}
use Rattle.tm_base.specs.declared.names.Child.{Child}
use Rattle.tm_base.specs.declared.names.Child.TheVariants as sorts
use Rattle.tm_base.specs.declared.names.CpuId.{CpuId}
use Rattle.tm_base.specs.declared.names.GroupId.{GroupId}
use Rattle.tm_base.specs.Children.{of_cpu}
use Rattle.event_queue.specs.declared.event.Event.{Event}
use Rattle.event_queue.specs.EventMap.{Counts, event_at}
use Rattle.cpu_bases.specs.declared.entry.Entry.{Entry}
use Rattle.tree_plan.specs.Shape.{Shape}
use Rattle.tree_plan.specs.Paths.{IsBelow, IsUnder, bit_of, child_at, child_towards}
use Rattle.tree_plan.specs.Paths.{level_of}
use Rattle.tree_plan.proofs.Below.{below_laws, paths}
use Rattle.tree_plan.proofs.Trees.{edge_laws, level_laws}
use Rattle.walk_rules.specs.Hierarchy.{side}
use Rattle.walk_rules.specs.Scene.{is_on}
use Rattle.core_world.specs.Origins.{HasOrigin}
use Rattle.core_world.specs.World.{World, cpu_of, group_of, scene_of}
use Rattle.step_play.specs.Rules.Live.{counting, expiry_of, first, live, told_by, told_in}
use Rattle.step_play.specs.Queues.AtRest.{AtRest}
use Rattle.step_play.specs.Queues.Choices.{AnyFirst, EachSlot, IsBelowIdle, QuietFirst}
use Rattle.step_play.specs.Queues.Leftmost.{Leftmost}
use Rattle.step_play.proofs.Queues.Active.{parent_on}
use Rattle.step_play.proofs.Queues.Leftmosts.{of_slots, widened}

-- a live event is there, and counts
pub live_event : (o : Option Event) (e : Event) → counting o ≡ Some e → (o ≡ Some e) × Counts e
live_event None e is = absurd (none-some e is)
live_event (Some x) e is = by x.ignored refl
  where
    by : (b : Bool) → x.ignored ≡ b → (◌≡◌ {A = Option Event} (Some x) (Some e)) × Counts e
    by true out = absurd (none-some e (sym (ap (λ v. cond v None (Some x)) out) ∙ is))
    by false counts =
        let same : ◌≡◌ {A = Option Event} (Some x) (Some e) =
        sym (ap (λ v. cond v None (Some x)) counts) ∙ is in
        (same, subst Counts (same_Some x e same) counts)

pub own_side : (t : Shape) (c : ℕ) → side t c 0 ≡ bit_of t (of_cpu c)
unfolding child_towards
own_side t c = refl

-- who isn't idle told nothing
awake : (online idle : Bool) → (online && not idle) ≡ true → (online && idle) ≡ false
awake true true on = absurd (true≢false (sym on))
awake true false on = refl
awake false idle on = refl

module _ (w : World) (r : AtRest w) where
  -- an event's time comes
  to_come : (time : ℕ) → HasOrigin w time → time ≤ NEVER
  to_come time (inl never) = omega (arith, never)
  to_come time (inr a) =
      let low : a.entry.wheel ≤ TIME_LIMIT =
      All-contains (λ (entry : Entry). entry.wheel ≤ TIME_LIMIT) (cpu_of w a.cpu).bases.journal
      a.entry (r.lawful.timers.consistent a.cpu).in_time a.written in
      omega (arith, low, a.wheel)

  pub in_time : (g k : ℕ) (e : Event) → event_at (group_of w g).events k ≡ Some e →
      e.expiry < NEVER
  in_time g k e is =
      let low = to_come e.expiry (r.lawful.event_origins.expiry g k e is) in
      let never = r.lawful.no_never.slots g k e is in
      omega (arith, low, never)

  -- its CPU is below the child of its slot
  pub record ComesUnder (g k : ℕ) (e : Event) : Type 0 where
    pub child : Child
    pub there : child_at w.tree g k ≡ Some child
    pub under : IsUnder w.tree e.cpu.0 child

  pub comes_under : (g k : ℕ) (e : Event) → event_at (group_of w g).events k ≡ Some e →
      ComesUnder g k e
  comes_under g k e is =
      let way = r.lawful.event_origins.below g k e is in
      let in_tree = (paths w.tree r.planned).towards e.cpu.0 way.level g way.into in
      let same : in_tree.0 ≡ way.child =
      same_Some in_tree.0 way.child (sym in_tree.1 ∙ way.through) in
      record {
        child = in_tree.0;
        there = ap (child_at w.tree g) (sym (ap (bit_of w.tree) same ∙ way.number)) ∙ in_tree.3;
        under = (paths w.tree r.planned).reached e.cpu.0 way.level in_tree.0 in_tree.1;
      }

  abbrev pub Under : (g k d : ℕ) → Type 0
  Under g k d = IsBelowIdle w g k d

  module _ (g k : ℕ) where
    -- a slot without a child
    without_child : child_at w.tree g k ≡ None → (o : Option Event) → live w g k ≡ o →
        Leftmost (told_by w) (Under g k) o
    without_child none None is = λ d b. absurd (none-some b.child (sym none ∙ b.there))
    without_child none (Some e) is =
        let from = comes_under g k e (live_event (event_at (group_of w g).events k) e is).0 in
        absurd (none-some from.child (sym none ∙ from.there))

    -- A CPU's
    module _ (c : CpuId) (at : child_at w.tree g k ≡ Some (sorts.Cpu c)) where
      own_told : told_by w c.0 ≡ expiry_of (live w g k)
      own_told =
          ap (told_in w c.0) ((paths w.tree r.planned).leaf c.0
          ∙ (edge_laws w.tree r.planned).parent g k (sorts.Cpu c) at)
          ∙ ap (λ n. expiry_of (live w g n)) (own_side w.tree c.0
          ∙ (edge_laws w.tree r.planned).bit g k (sorts.Cpu c) at)

      it_is : (d : ℕ) → Under g k d → d ≡ c.0
      it_is d b =
          subst (IsUnder w.tree d) (same_Some b.child (sorts.Cpu c) (sym b.there ∙ at)) b.under

      told_as : (d : ℕ) → Under g k d → (o : Option Event) → live w g k ≡ o →
          told_by w d ≡ expiry_of o
      told_as d b o is = ap (told_by w) (it_is d b) ∙ (own_told ∙ ap expiry_of is)

      idles : (e : Event) → live w g k ≡ Some e → e.expiry < NEVER →
          is_on (scene_of w) (sorts.Cpu c) ≡ false
      idles e is comes = elim (cases_Bool (is_on (scene_of w) (sorts.Cpu c))) [
        | inr off ↦ off
        | inl on ↦
            let never = r.told c.0 (awake (cpu_of w c.0).online (cpu_of w c.0).idle on) in
            let same : told_by w c.0 ≡ e.expiry = own_told ∙ ap expiry_of is in
            absurd (omega arith)
      ]

      named_cpu : (e : Event) → event_at (group_of w g).events k ≡ Some e → e.cpu.0 ≡ c.0
      named_cpu e is =
          let from = comes_under g k e is in
          subst (IsUnder w.tree e.cpu.0) (same_Some from.child (sorts.Cpu c)
          (sym from.there ∙ at)) from.under

      of_a_cpu : (o : Option Event) → live w g k ≡ o → Leftmost (told_by w) (Under g k) o
      of_a_cpu None is = λ d b. told_as d b None is
      of_a_cpu (Some e) is =
          let event = live_event (event_at (group_of w g).events k) e is in
          let comes = in_time g k e event.0 in
          let cpu : e.cpu.0 ≡ c.0 = named_cpu e event.0 in
          record {
            among = record {
              child = sorts.Cpu c;
              there = at;
              under = cpu;
              off = idles e is comes;
            };
            expiry = sym (ap (told_by w) cpu ∙ (own_told ∙ ap expiry_of is));
            comes = comes;
            counts = event.1;
            least = λ d b. let same : told_by w d ≡ e.expiry = told_as d b (Some e) is in
                omega arith;
            leftmost = λ d b same. let it : d ≡ c.0 = it_is d b in omega arith;
          }

    -- a group's
    module _ (x : GroupId) (at : child_at w.tree g k ≡ Some (sorts.Group x))
        (quiet : (group_of w x.0).migrator ≡ None →
        Leftmost (told_by w) (λ d. IsBelow w.tree d x.0) (first w x.0)) where
      it_is_group : (d : ℕ) (b : Under g k d) → b.child ≡ sorts.Group x
      it_is_group d b = same_Some b.child (sorts.Group x) (sym b.there ∙ at)

      slot_is : (m : Option ℕ) → (group_of w x.0).migrator ≡ m →
          live w g k ≡ cond (is_none m) (first w x.0) None
      slot_is m is =
          ap (live w g) (sym ((edge_laws w.tree r.planned).bit g k (sorts.Group x) at))
          ∙ (r.exact x.0 g ((edge_laws w.tree r.planned).parent g k (sorts.Group x) at)
          ∙ ap (λ v. cond (is_none v) (first w x.0) None) is)

      of_a_group : (m : Option ℕ) → (group_of w x.0).migrator ≡ m →
          Leftmost (told_by w) (Under g k) (live w g k)
      of_a_group (Some j) is =
          subst (Leftmost (told_by w) (Under g k)) (sym (slot_is (Some j) is))
          (λ d b. absurd (true≢false (sym (ap is_some is)
          ∙ (sym (ap (is_on (scene_of w)) (it_is_group d b)) ∙ b.off))))
      of_a_group None is =
          subst (Leftmost (told_by w) (Under g k)) (sym (slot_is None is))
          (widened (told_by w) (λ d. IsBelow w.tree d x.0) (Under g k) (first w x.0)
          (λ d below. record {
            child = sorts.Group x;
            there = at;
            under = below;
            off = ap is_some is;
          })
          (λ d b. inl (subst (IsUnder w.tree d) (it_is_group d b) b.under))
          (quiet is))

    by_child : ((x : ℕ) → level_of w.tree g ≡ suc (level_of w.tree x) →
        (group_of w x).migrator ≡ None →
        Leftmost (told_by w) (λ d. IsBelow w.tree d x) (first w x)) →
        (o : Option Child) → child_at w.tree g k ≡ o →
        Leftmost (told_by w) (Under g k) (live w g k)
    by_child deeper None at = without_child at (live w g k) refl
    by_child deeper (Some (sorts.Cpu c)) at = of_a_cpu c at (live w g k) refl
    by_child deeper (Some (sorts.Group x)) at =
        of_a_group x at
        (deeper x.0 ((level_laws w.tree r.planned).parent x.0 g
        ((edge_laws w.tree r.planned).parent g k (sorts.Group x) at)))
        (group_of w x.0).migrator refl

  abbrev pub Deeper : ℕ → Type 0
  Deeper g = (x : ℕ) → level_of w.tree g ≡ suc (level_of w.tree x) →
      (group_of w x).migrator ≡ None →
      Leftmost (told_by w) (λ d. IsBelow w.tree d x) (first w x)

  ascends : (g j k c d : ℕ) → j < k → Under g j c → Under g k d → c < d
  ascends g j k c d less one two =
      (below_laws w.tree r.planned).ascending c d g j k one.child two.child one.there two.there
      one.under two.under less

  of_any : (g : ℕ) → Deeper g → Leftmost (told_by w) (λ d. (k : ℕ) × Under g k d) (first w g)
  of_any g deeper =
      of_slots (told_by w) (Under g) (ascends g) (group_of w g).events
      (λ k. by_child g k deeper (child_at w.tree g k) refl)

  -- below an inactive group all children are
  of_quiet : (x : ℕ) → (group_of w x).migrator ≡ None →
      Leftmost (told_by w) (λ d. (k : ℕ) × Under x k d) (first w x) →
      Leftmost (told_by w) (λ d. IsBelow w.tree d x) (first w x)
  of_quiet x off one =
      widened (told_by w) (λ d. (k : ℕ) × Under x k d) (λ d. IsBelow w.tree d x) (first w x)
      (λ d b. (below_laws w.tree r.planned).group d x b.0 b.1.child b.1.there b.1.under)
      (λ d below.
      let at = (below_laws w.tree r.planned).child d x below in
      inl (
        at.0,
        record {
          child = at.1;
          there = at.2;
          under = at.3;
          off = elim (cases_Bool (is_on (scene_of w) at.1)) [
            | inr rests ↦ rests
            | inl on ↦ absurd (true≢false (sym (parent_on w r at.1 x
                ((edge_laws w.tree r.planned).parent x at.0 at.1 at.2) on) ∙ ap is_some off))
          ];
        },
      ))
      one

  any_at : (n g : ℕ) → level_of w.tree g ≡ n →
      Leftmost (told_by w) (λ d. (k : ℕ) × Under g k d) (first w g)
  any_at zero g level = of_any g (λ x up off. absurd (omega (arith, level, up)))
  any_at (suc n) g level =
      of_any g (λ x up off. of_quiet x off (any_at n x (omega (arith, level, up))))

pub any_first : AnyFirst
any_first w r g = any_at w r (level_of w.tree g) g refl

pub quiet_first : QuietFirst
quiet_first w r x off = of_quiet w r x off (any_first w r x)

pub each_slot : EachSlot
each_slot w r g k =
    by_child w r g k (λ x up off. quiet_first w r x off) (child_at w.tree g k) refl
