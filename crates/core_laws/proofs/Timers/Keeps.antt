-- every step keeps timers, journals and times
use Rattle.std.proofs.Common.{◌≡◌, ◌≢◌, ◌⊎◌, ℕ, ◌^◌, ◌<◌, Bool, true, false, true≢false}
use Rattle.std.proofs.Common.{length, Option, Some, None, refl, sym, ap, ◌∙◌, subst, inl, inr}
use Rattle.std.proofs.Common.{arith}
use Rattle.std.specs.Prelude.{◌&&◌, not, option_map}
use Rattle.std.proofs.lemmas.Bool.{cases_eq}
use Rattle.std.proofs.lemmas.Option.{none-some, some_pair_parts}
use Rattle.std.proofs.Math.ListN.{length-set}
use Rattle.tm_base.specs.declared.names.Class.{Class}
use Rattle.tm_base.specs.declared.names.Class.TheVariants.{Pinned, Global, Deferrable}
use Rattle.tm_base.specs.declared.names.CpuId.{CpuId}
use Rattle.wheel_core.specs.declared.item.Item.{Item}
use Rattle.wheel_core.specs.PlainBase.{FitsWheel, NoneBehind}
use Rattle.wheel_core.proofs.Ids.{item_holds}
use Rattle.cpu_bases.specs.CpuBases.{CpuBases, armed, base_of, class_in, found_or, moved_in}
use Rattle.cpu_bases.specs.CpuBases.{oldest_in}
use Rattle.cpu_bases.specs.Journals.{MayHandOut}
use Rattle.cpu_bases.proofs.Keeping.{oldest_found}
use Rattle.core_world.specs.declared.step.Step.{Step}
use Rattle.core_world.specs.declared.step.Step.TheVariants as steps
use Rattle.core_world.specs.Enabled.{Enabled, MayArm, MayMove, MayRun}
use Rattle.core_world.specs.Steps.{first_moved, giver, handed_of, moved_with, stepped, taker}
use Rattle.core_world.specs.Steps.{with_bases}
use Rattle.core_world.specs.World.{CpuRecord, World, cpu_of, own}
use Rattle.core_world.proofs.Sizes.{sizes_stay}
use Rattle.core_laws.specs.Timers.Layer.{TimersFit, TimersStayFit}
use Rattle.core_laws.proofs.Timers.Bases.{changes_timers, same_bases}
use Rattle.core_laws.proofs.Timers.Calls.{alone_here, armed_fits, cancelled_fits, handed_out_fits}
use Rattle.core_laws.proofs.Timers.Calls.{moved_in_fits, moved_out_fits, moved_out_gone, oldest_queued}
use Rattle.core_laws.proofs.Timers.Fits.{FitsAt, grouped_fit, same_fit, set_else, set_fit, set_same}
use Rattle.core_laws.proofs.Timers.Fits.{with_cpu}
use Rattle.core_laws.proofs.Timers.Items.{holds_in}

-- a step that leaves the timers of each CPU
stays : (w : World) (step : Step) → TimersFit w → Enabled w step → changes_timers step ≡ false
    → TimersFit (stepped w step)
stays w step f e q =
    let in_time = f.times.clock in
    let same = same_bases w step e q in
    let clock = same.clock in
    same_fit w (stepped w step) f (sizes_stay w step).timers (omega arith) (omega arith) same.each

own_fit : (w : World) (c : ℕ) (y : CpuRecord) → c < length w.cpus → TimersFit w → FitsAt w c y.bases
    → TimersFit (own w c y)
own_fit w c y hc f fits = grouped_fit (with_cpu w c y) (own w c y).groups (set_fit w c y hc f fits)

-- who may run timers of a class may hand them out
may_hand : (w : World) (c : ℕ) (class : Class) (runner : ℕ) → MayRun w c class runner
    → MayHandOut c class runner
may_hand w c Pinned runner (inl own) = own.0
may_hand w c Global runner (inl own) = tt
may_hand w c Deferrable runner (inl own) = own.0
may_hand w c class runner (inr marked) = subst (λ k. MayHandOut c k runner) (sym marked.0) tt

hand : (w : World) (c : ℕ) (class : Class) (by : CpuId) → TimersFit w → MayRun w c class by.0
    → (m : Option Class) → m ≡ Some class → FitsAt w c (handed_of w.clock m by (cpu_of w c).bases)
hand w c class by f may m is = subst (λ k. FitsAt w c (handed_of w.clock k by (cpu_of w c).bases))
    (sym is) (handed_out_fits w c f class by (may_hand w c class by.0 may))

-- what moves first is the oldest of its class
or_some : (k : Class) (here : Option Item) (others : Option (Class × Item)) (class : Class)
    (item : Item) → found_or k here others ≡ Some (class, item)
    → ((k ≡ class) × (here ≡ Some item)) ⊎ (others ≡ Some (class, item))
or_some k None others class item is = inr is
or_some k (Some one) others class item is = (let parts = some_pair_parts k class one item is in
    inl (parts.0, ap Some parts.1))

first_is : (cpu : CpuBases) (class : Class) (item : Item) → first_moved cpu ≡ Some (class, item)
    → oldest_in (base_of class cpu).items ≡ Some item
first_is cpu class item is = elim (or_some Pinned (oldest_in cpu.bases.pinned.items) _ class item
    is) [
      | inl here ↦ subst (λ k. oldest_in (base_of k cpu).items ≡ Some item) here.0 here.1
      | inr other ↦ elim (or_some Global (oldest_in cpu.bases.global.items) _ class item other) [
        | inl here ↦ subst (λ k. oldest_in (base_of k cpu).items ≡ Some item) here.0 here.1
        | inr last ↦ elim (or_some Deferrable (oldest_in cpu.bases.deferrable.items) None class item
            last) [
              | inl here ↦ subst (λ k. oldest_in (base_of k cpu).items ≡ Some item) here.0 here.1
              | inr nothing ↦ absurd (none-some (class, item) nothing)
            ]
      ]
    ]

online_of : (online idle : Bool) → (online && not idle) ≡ true → online ≡ true
online_of true idle e = refl
online_of false idle e = absurd (true≢false (sym e))

-- MOVE: the timer goes out of one CPU's bases, and then into the other's
module _ (w : World) (from to timer : ℕ) (f : TimersFit w) (e : MayMove w from to timer) where
  apart : to ≢ from
  apart same = true≢false (sym (online_of _ _ e.to_active)
      ∙ (ap (λ n. (cpu_of w n).online) same ∙ e.from_offline))

  oldest : oldest_in (base_of e.class (cpu_of w from).bases).items ≡ Some e.item
  oldest = first_is (cpu_of w from).bases e.class e.item e.first

  was_in : class_in e.item.id (cpu_of w from).bases ≡ Some e.class
  was_in = ap (option_map (λ found. found.0)) (oldest_queued (cpu_of w from).bases e.class e.item
      (f.timers.consistent from) oldest)

  given : FitsAt w from (giver w from to e.class).bases
  given = moved_out_fits w from f e.class (record { 0 = to })

  mid_fit : TimersFit (with_cpu w from (giver w from to e.class))
  mid_fit = set_fit w from (giver w from to e.class) e.from_free.in_range f given

  mid_to : cpu_of (with_cpu w from (giver w from to e.class)) to ≡ cpu_of w to
  mid_to = set_else w from (giver w from to e.class) e.from_free.in_range f given to apart

  -- it is queued nowhere between
  gone : (d : ℕ) → class_in e.item.id (cpu_of (with_cpu w from (giver w from to e.class)) d).bases ≡
      None
  gone d = elim (cases_eq d from) [
    | inl same ↦ subst (λ n. class_in e.item.id (cpu_of (with_cpu w from (giver w from to e.class))
        n).bases ≡ None) (sym same)
        (ap (λ (z : CpuRecord). class_in e.item.id z.bases)
        (set_same w from (giver w from to e.class) e.from_free.in_range f given)
        ∙ moved_out_gone w.clock (record { 0 = to }) (cpu_of w from).bases e.class e.item
        (f.timers.consistent from) oldest)
    | inr ne ↦ ap (λ (z : CpuRecord). class_in e.item.id z.bases)
        (set_else w from (giver w from to e.class) e.from_free.in_range f given d ne)
        ∙ alone_here w from f e.item.id e.class was_in d ne
  ]

  taken : FitsAt (with_cpu w from (giver w from to e.class)) to (taker w to e.class e.item).bases
  taken =
      let in_time = f.times.clock in
      let fits = (f.timers.consistent from).fits e.class in
      let found = oldest_found (base_of e.class (cpu_of w from).bases).items e.item oldest in
      let placed = item_holds FitsWheel e.item.id (base_of e.class (cpu_of w from).bases).items
      e.item fits.sound.in_wheel found in
      let small = item_holds (λ i. i.id < 2 ^ 16) e.item.id
      (base_of e.class (cpu_of w from).bases).items e.item fits.timers found in
      let none = gone to in
      subst (λ (z : CpuRecord). FitsAt (with_cpu w from (giver w from to e.class)) to
      (with_bases z (moved_in w.clock e.class e.item.id e.item.expires e.item.job e.item.arg
      (record { 0 = to }) z.bases)).bases) mid_to
      (moved_in_fits (with_cpu w from (giver w from to e.class)) to mid_fit e.class e.item.id
      e.item.expires e.item.job e.item.arg (record { 0 = to })
      (record {
        now_in_time = omega arith;
        expires_in_time = placed.expires;
        timer_fits = small;
        not_queued = none;
        none_behind = subst (λ (z : CpuRecord). NoneBehind (base_of e.class z.bases)) (sym mid_to)
            e.none_behind;
      })
      (holds_in (λ id. id < w.timers) e.item.id (cpu_of w from).bases e.class (f.times.known from)
      was_in) (λ d ne. gone d))

  move_fit : TimersFit (moved_with w from to (Some (e.class, e.item)))
  move_fit =
      let there = e.to_free.in_range in
      set_fit (with_cpu w from (giver w from to e.class)) to (taker w to e.class e.item)
      (omega (arith, length-set w.cpus from (giver w from to e.class))) mid_fit taken

  pub moves : TimersFit (moved_with w from to (first_moved (cpu_of w from).bases))
  moves = subst (λ m. TimersFit (moved_with w from to m)) (sym e.first) move_fit

-- ARM, where the timer's number is one that a base may have
arm : (w : World) (c timer : ℕ) (class : Class) (expires job arg line : ℕ) (by : CpuId)
    → timer < 2 ^ 16 → TimersFit w → MayArm w c timer class expires
    → TimersFit (own w c (with_bases (cpu_of w c) (armed w.clock class timer expires job arg line by
    (cpu_of w c).bases)))
arm w c timer class expires job arg line by small f e =
    let in_time = f.times.clock in
    own_fit w c _ e.is_free.in_range f
    (armed_fits w c f class timer expires job arg line by
    (record {
      now_in_time = omega arith;
      expires_in_time = e.in_time;
      timer_fits = small;
      not_queued = e.not_queued c;
      none_behind = e.none_behind;
    }) e.known (λ d ne. e.not_queued d))

pub timers_stay_fit : TimersStayFit
timers_stay_fit w (steps.Clock now) sized f e = same_fit w (record w { clock = now }) f refl e.not_back
    e.in_time (λ d. refl)
timers_stay_fit w (steps.Arm cpu timer class expires job arg line) sized f e =
    let known = e.known in
    let few = f.times.few in
    arm w cpu.0 timer.0 class expires job arg line cpu (omega arith) f e
timers_stay_fit w (steps.Cancel cpu timer by line) sized f e =
    own_fit w cpu.0 _ e.0.is_free.in_range f (cancelled_fits w cpu.0 f timer.0 line by)
timers_stay_fit w (steps.Hand cpu timer runner) sized f e =
    own_fit w cpu.0 _ e.is_free.in_range f (hand w cpu.0 e.class runner f e.may_run
    (class_in timer.0 (cpu_of w cpu.0).bases) e.queued)
timers_stay_fit w (steps.Ticked cpu class runner) sized f e =
    own_fit w cpu.0 _ e.is_free.in_range f (handed_out_fits w cpu.0 f class runner
    (may_hand w cpu.0 class runner.0 e.may_run))
timers_stay_fit w (steps.Move from to timer) sized f e = moves w from.0 to.0 timer.0 f e
timers_stay_fit w (steps.Enter cpu) sized f e = stays w (steps.Enter cpu) f e refl
timers_stay_fit w (steps.Leave cpu) sized f e = stays w (steps.Leave cpu) f e refl
timers_stay_fit w (steps.Idle cpu) sized f e = stays w (steps.Idle cpu) f e refl
timers_stay_fit w (steps.Wake cpu) sized f e = stays w (steps.Wake cpu) f e refl
timers_stay_fit w (steps.Offline cpu) sized f e = stays w (steps.Offline cpu) f e refl
timers_stay_fit w (steps.Online cpu) sized f e = stays w (steps.Online cpu) f e refl
timers_stay_fit w (steps.Reeval cpu) sized f e = stays w (steps.Reeval cpu) f e refl
timers_stay_fit w (steps.Take cpu by) sized f e = stays w (steps.Take cpu by) f e refl
timers_stay_fit w (steps.Carry cpu) sized f e = stays w (steps.Carry cpu) f e refl
timers_stay_fit w (steps.Release cpu) sized f e = stays w (steps.Release cpu) f e refl
timers_stay_fit w (steps.Walk cpu) sized f e = stays w (steps.Walk cpu) f e refl
timers_stay_fit w (steps.HandOn cpu to) sized f e = stays w (steps.HandOn cpu to) f e refl
