-- how far up a wheel expiry was told, and what that says of those who answer
use Rattle.std.proofs.Common.{◌≡◌, ℕ, suc, ◌+◌, ◌<◌, ◌≤◌, true, false, Option, Some, None}
use Rattle.std.proofs.Common.{refl, sym, ap, ◌∙◌, subst, arith, inl, inr, true≢false}
use Rattle.std.specs.Prelude.{is_none, is_some}
use Rattle.std.proofs.lemmas.Bool.{cases_lt, false≢true}
use Rattle.std.proofs.lemmas.Option.{none-some, same_Some}
use Rattle.event_queue.specs.EventMap.{event_at}
use Rattle.tree_plan.specs.Paths.{group_at_of}
use Rattle.tree_plan.specs.Shape.{Shape}
use Rattle.coverage.specs.Coverage.{HasEvent, Held, Leads, Told, TopWakes, WakesItself, Woken}
use Rattle.coverage.specs.Coverage.{to_cpu, to_group}
use Rattle.walk_rules.specs.Hierarchy.{at_top, side}
use Rattle.core_world.specs.Covered.{live_expiry, machine_of}
use Rattle.core_world.specs.World.{World, group_of}
use Rattle.trace_check.specs.declared.reach.End.{End}
use Rattle.trace_check.specs.declared.reach.End.TheVariants as ends
use Rattle.trace_check.specs.Reasons.{IsHeldFrom, IsLowestWaker}
use Rattle.trace_check.specs.Told.{EndsActive, EndsAt, EndsAtTop, IsFirstWaker, IsToldBelow, WakesIn}

pub off : (m : Option ℕ) → is_some m ≡ false → m ≡ None
off None e = refl
off (Some k) e = absurd (true≢false e)

not_on : (m : Option ℕ) → is_some m ≡ true → m ≡ None → ⊥
not_on m on none = true≢false (sym on ∙ ap is_some none)

pub no_more : (m : Option ℕ) → is_none m ≡ true → m ≡ None
no_more None e = refl
no_more (Some k) e = absurd (false≢true e)

-- a path's group, as it is answered of a tree that is the core's
pub path_from : (t u : Shape) (c level : ℕ) (o : Option ℕ) → u ≡ t → o ≡ group_at_of u c level →
    group_at_of t c level ≡ o
path_from t u c level o same is = ap (λ (x : Shape). group_at_of x c level) (sym same) ∙ sym is

-- two ends at a top are at one time
abbrev time_at : End → ℕ
time_at (ends.Active h) = 0
time_at (ends.Top time) = time
time_at ends.Untold = 0

pub same_time : (a b : ℕ) → ends.Top a ≡ ends.Top b → a ≡ b
same_time a b is = ap time_at is

-- a group that leads is active
pub on_of : (w : World) (m g : ℕ) → Leads (machine_of w) m g →
    is_some (group_of w g).migrator ≡ true
on_of w m g (to_cpu x k is at on) = ap is_some is
on_of w m g (to_group x k h is at rest) = ap is_some is

module _ (w : World) (c wheel : ℕ) where
  -- told below a level, and at it
  pub told_here : (level : ℕ) → IsToldBelow w c wheel level → HasEvent (machine_of w) c wheel level →
      Told (machine_of w) c wheel level
  told_here level below event = record {
    inactive = below.inactive;
    events = λ k low. elim (cases_lt k level) [
      | inl less ↦ below.events k less
      | inr high ↦
          let same : k ≡ level = omega (arith, low, high) in
          subst (HasEvent (machine_of w) c wheel) (sym same) event
    ];
  }

  -- one level more
  pub told_more : (level g : ℕ) → IsToldBelow w c wheel level →
      group_at_of w.tree c level ≡ Some g → HasEvent (machine_of w) c wheel level →
      is_some (group_of w g).migrator ≡ false → at_top w.tree c level ≡ false →
      IsToldBelow w c wheel (level + 1)
  told_more level g below path event inactive onwards = record {
    inactive = λ k x low there. elim (cases_lt k level) [
      | inl less ↦ below.inactive k x less there
      | inr high ↦
          let same : k ≡ level = omega (arith, low, high) in
          let is : x ≡ g =
          same_Some x g (sym there ∙ (ap (group_at_of w.tree c) same ∙ path)) in
          ap (λ n. (group_of w n).migrator) is ∙ off (group_of w g).migrator inactive
    ];
    events = λ k low. elim (cases_lt k level) [
      | inl less ↦ below.events k less
      | inr high ↦
          let same : k ≡ level = omega (arith, low, high) in
          subst (HasEvent (machine_of w) c wheel) (sym same) event
    ];
    goes_on = λ k low. elim (cases_lt k level) [
      | inl less ↦ below.goes_on k less
      | inr high ↦
          let same : k ≡ level = omega (arith, low, high) in
          ap (at_top w.tree c) same ∙ onwards
    ];
  }

  -- told below a level is told below each lower one
  pub told_below_end : (low level : ℕ) → IsToldBelow w c wheel level → low ≤ level →
      IsToldBelow w c wheel low
  told_below_end low level below less = record {
    inactive = λ k g under. below.inactive k g (omega (arith, under, less));
    events = λ k under. below.events k (omega (arith, under, less));
    goes_on = λ k under. below.goes_on k (omega (arith, under, less));
  }

  pub none_told : IsToldBelow w c wheel 0
  none_told = record {
    inactive = λ k g low there. absurd (omega (arith, low));
    events = λ k low. absurd (omega (arith, low));
    goes_on = λ k low. absurd (omega (arith, low));
  }

  -- without a group at a level nothing was told there
  pub path_ends : (level : ℕ) → group_at_of w.tree c level ≡ None →
      HasEvent (machine_of w) c wheel level → ⊥
  path_ends level none event = none-some event.in_group (sym none ∙ event.on_path)

  module _ (level : ℕ) (below : IsToldBelow w c wheel level) where
    -- nothing was told further up
    highest : (e : End) → EndsAt w c wheel level e → (n : ℕ) → Told (machine_of w) c wheel n →
        level < n → ⊥
    highest (ends.Active g) at n told more =
        not_on (group_of w g.0).migrator at.active (told.inactive level g.0 more at.path)
    highest (ends.Top time) at n told more =
        none-some (told.events (suc level) (omega (arith, more))).in_group
        (sym (no_more (group_at_of w.tree c (suc level)) at.last)
        ∙ (told.events (suc level) (omega (arith, more))).on_path)
    highest ends.Untold at n told more = at (told.events level (omega (arith, more)))

    -- AN ACTIVE GROUP that was told is where the climb ends
    abbrev pub IsActiveEnd : End → ℕ → Type 0
    IsActiveEnd (ends.Active h) g = h.0 ≡ g
    IsActiveEnd (ends.Top time) g = ⊥
    IsActiveEnd ends.Untold g = ⊥

    level_is : (e : End) → EndsAt w c wheel level e → (n : ℕ) → Told (machine_of w) c wheel n →
        (n < level → ⊥) → n ≡ level
    level_is e at n told not_less = elim (cases_lt n level) [
      | inl less ↦ absurd (not_less less)
      | inr high ↦ elim (cases_lt level n) [
        | inl more ↦ absurd (highest e at n told more)
        | inr low ↦ omega (arith, high, low)
      ]
    ]

    pub active_level : (e : End) → EndsAt w c wheel level e → (n g : ℕ) →
        Told (machine_of w) c wheel n → group_at_of w.tree c n ≡ Some g →
        is_some (group_of w g).migrator ≡ true → n ≡ level
    active_level e at n g told path on =
        level_is e at n told (λ less.
        not_on (group_of w g).migrator on (below.inactive n g less path))

    pub active_end : (e : End) → EndsAt w c wheel level e → (n g : ℕ) →
        Told (machine_of w) c wheel n → group_at_of w.tree c n ≡ Some g →
        is_some (group_of w g).migrator ≡ true → IsActiveEnd e g
    active_end (ends.Active h) at n g told path on =
        let same = active_level (ends.Active h) at n g told path on in
        same_Some h.0 g (sym at.path ∙ (ap (group_at_of w.tree c) (sym same) ∙ path))
    active_end (ends.Top time) at n g told path on =
        let same = active_level (ends.Top time) at n g told path on in
        let is : at.top ≡ g =
        same_Some at.top g (sym at.path ∙ (ap (group_at_of w.tree c) (sym same) ∙ path)) in
        not_on (group_of w g).migrator on
        (ap (λ x. (group_of w x).migrator) (sym is) ∙ at.inactive)
    active_end ends.Untold at n g told path on =
        let same = active_level ends.Untold at n g told path on in
        at (told.events level (omega (arith, same)))

    -- AN INACTIVE TOP that was told is, too
    abbrev pub IsTopEnd : End → Option ℕ → Type 0
    IsTopEnd (ends.Active h) time = ⊥
    IsTopEnd (ends.Top at) time = time ≡ Some at
    IsTopEnd ends.Untold time = ⊥

    top_level : (e : End) → EndsAt w c wheel level e → (n : ℕ) → Told (machine_of w) c wheel n →
        at_top w.tree c n ≡ true → n ≡ level
    top_level e at n told last =
        level_is e at n told (λ less. true≢false (sym last ∙ below.goes_on n less))

    pub top_end : (e : End) → EndsAt w c wheel level e → (n top : ℕ) →
        Told (machine_of w) c wheel n → group_at_of w.tree c n ≡ Some top →
        at_top w.tree c n ≡ true → (group_of w top).migrator ≡ None →
        IsTopEnd e (live_expiry (event_at (group_of w top).events (side w.tree c n)))
    top_end (ends.Active h) at n top told path last inactive =
        let same = top_level (ends.Active h) at n told last in
        let is : h.0 ≡ top =
        same_Some h.0 top (sym at.path ∙ (ap (group_at_of w.tree c) (sym same) ∙ path)) in
        not_on (group_of w h.0).migrator at.active
        (ap (λ x. (group_of w x).migrator) is ∙ inactive)
    top_end (ends.Top time) at n top told path last inactive =
        let same = top_level (ends.Top time) at n told last in
        let is : at.top ≡ top =
        same_Some at.top top (sym at.path ∙ (ap (group_at_of w.tree c) (sym same) ∙ path)) in
        ap (λ x. live_expiry (event_at (group_of w x).events (side w.tree c n))) (sym is)
        ∙ (ap (λ k. live_expiry (event_at (group_of w at.top).events (side w.tree c k))) same
        ∙ at.event)
    top_end ends.Untold at n top told path last inactive =
        let same = top_level ends.Untold at n told last in
        at (told.events level (omega (arith, same)))

    -- and another group that was told stands below
    pub stands_below : (e : End) → EndsAt w c wheel level e → (n x : ℕ) →
        Told (machine_of w) c wheel n → group_at_of w.tree c n ≡ Some x →
        (group_of w x).migrator ≡ None → at_top w.tree c n ≡ false → n < level
    stands_below e at n x told path inactive onwards = elim (cases_lt n level) [
      | inl less ↦ less
      | inr high ↦
          let same = level_is e at n told (λ less. omega (arith, less, high)) in
          absurd (by e at (ap (group_at_of w.tree c) (sym same) ∙ path)
          (ap (at_top w.tree c) (sym same) ∙ onwards) (told.events level (omega (arith, same))))
    ]
      where
        by : (e : End) → EndsAt w c wheel level e → group_at_of w.tree c level ≡ Some x →
            at_top w.tree c level ≡ false → HasEvent (machine_of w) c wheel level → ⊥
        by (ends.Active h) at here more event =
            let is : h.0 ≡ x = same_Some h.0 x (sym at.path ∙ here) in
            not_on (group_of w h.0).migrator at.active
            (ap (λ y. (group_of w y).migrator) is ∙ inactive)
        by (ends.Top time) at here more event = true≢false (sym at.last ∙ more)
        by ends.Untold at here more event = at event

    -- HELD: by the group at which it ends, or not at all
    pub held_by : (g m : ℕ) → EndsActive w c wheel level g → Leads (machine_of w) m g →
        IsHeldFrom w c wheel g m
    held_by g m at leads = record {
      held = record {
        level = level;
        in_group = g;
        runner = m;
        on_path = at.path;
        told = told_here level below at.told;
        leads = leads;
      };
      group = refl;
      runner = refl;
      lowest = λ other.
          let same = active_level (ends.Active (record { 0 = g })) at other.level other.in_group
          other.told other.on_path (on_of w other.runner other.in_group other.leads) in
          omega (arith, same);
    }

    pub not_held : (e : End) → EndsAt w c wheel level e →
        ((m g : ℕ) → IsActiveEnd e g → Leads (machine_of w) m g → ⊥) →
        Held (machine_of w) c wheel → ⊥
    not_held e at none held =
        none held.runner held.in_group
        (active_end e at held.level held.in_group held.told held.on_path
        (on_of w held.runner held.in_group held.leads)) held.leads

    -- WOKEN FOR: by the top at which it ends, or not at all
    top_wakes : (time d x : ℕ) → EndsAtTop w c wheel level time → IsFirstWaker w time d x →
        TopWakes (machine_of w) c wheel
    top_wakes time d x at first = record {
      level = level;
      top = at.top;
      expiry = time;
      on_path = at.path;
      is_top =
          let same : level + 1 ≡ suc level = omega arith in
          ap (group_at_of w.tree c) same ∙ no_more (group_at_of w.tree c (suc level)) at.last;
      told = told_here level below (record {
        in_group = at.top;
        expiry = time;
        on_path = at.path;
        there = at.event;
        in_time = at.in_time;
      });
      inactive = at.inactive;
      event = at.event;
      wakes = record {
        waker = d;
        at = x;
        placed = first.placed;
        keeps = first.keeps;
        in_time = first.in_time;
      };
    }

    last_of : (top : TopWakes (machine_of w) c wheel) → at_top w.tree c top.level ≡ true
    last_of top =
        let same : suc top.level ≡ top.level + 1 = omega arith in
        ap is_none (ap (group_at_of w.tree c) same ∙ top.is_top)

    time_is : (time : ℕ) → EndsAtTop w c wheel level time →
        (top : TopWakes (machine_of w) c wheel) → top.expiry ≡ time
    time_is time at top =
        same_Some top.expiry time (sym top.event
        ∙ top_end (ends.Top time) at top.level top.top top.told top.on_path (last_of top)
        top.inactive)

    wakes_in : (top : TopWakes (machine_of w) c wheel) (time : ℕ) → top.expiry ≡ time →
        WakesIn w time top.wakes.waker
    wakes_in top time same = record {
      placed = top.wakes.placed;
      at = top.wakes.at;
      keeps = top.wakes.keeps;
      in_time = let low = top.wakes.in_time in omega (arith, low, same);
    }

    pub lowest_waker : (time d x : ℕ) → EndsAtTop w c wheel level time →
        IsFirstWaker w time d x → (WakesItself (machine_of w) c wheel → ⊥) →
        IsLowestWaker w c wheel d x
    unfolding top_wakes
    lowest_waker time d x at first not_itself = record {
      not_itself = not_itself;
      top = top_wakes time d x at first;
      waker = refl;
      time = refl;
      lowest = λ other.
          first.first other.wakes.waker (wakes_in other time (time_is time at other));
    }

    pub not_woken : (e : End) → EndsAt w c wheel level e →
        (WakesItself (machine_of w) c wheel → ⊥) →
        ((time d : ℕ) → e ≡ ends.Top time → WakesIn w time d → ⊥) →
        Woken (machine_of w) c wheel → ⊥
    not_woken e at not_itself none (inl own) = not_itself own
    not_woken (ends.Active h) at not_itself none (inr top) =
        top_end (ends.Active h) at top.level top.top top.told top.on_path (last_of top)
        top.inactive
    not_woken (ends.Top time) at not_itself none (inr top) =
        none time top.wakes.waker refl (wakes_in top time (time_is time at top))
    not_woken ends.Untold at not_itself none (inr top) =
        top_end ends.Untold at top.level top.top top.told top.on_path (last_of top) top.inactive
