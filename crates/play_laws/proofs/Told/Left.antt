-- for crates above: the `left` lines are the timers that are still queued
use Rattle.std.proofs.Common.{◌≡◌, ℕ, zero, suc, ◌+◌, ◌<◌, ◌≤◌, List, [], ◌∷◌, true, false}
use Rattle.std.proofs.Common.{Option, Some, None, refl, sym, ap, ◌∙◌, subst, arith, get_or}
use Rattle.std.proofs.Common.{inl, inr}
use Rattle.std.specs.Prelude.{All, Contains, IsSomeAnd, is_some, option_and_then}
use Rattle.std.specs.Prelude.{option_map}
use Rattle.std.proofs.lemmas.Bool.{both_ways, cases_eq}
use Rattle.std.proofs.lemmas.List.Elements.{All-cons, All-nil, Contains-append_left}
use Rattle.std.proofs.lemmas.List.Elements.{Contains-append_right, Contains-get_or, Contains-push}
use Rattle.std.proofs.lemmas.Option.{none-some, same_Some}
use Rattle.tm_base.specs.declared.names.Class.{Class}
use Rattle.tm_report.specs.declared.lines.Line.{Line}
use Rattle.tm_report.specs.declared.lines.Line.TheVariants as lines
use Rattle.wheel_core.specs.declared.item.Item.{Item}
use Rattle.wheel_core.specs.PlainBase.{item_of}
use Rattle.wheel_core.proofs.Ids.{item_holds, item_queued}
use Rattle.cpu_bases.specs.CpuBases.{base_of, class_in, found_in}
use Rattle.cpu_bases.proofs.Consistent.{base_none}
use Rattle.cpu_bases.proofs.Keeping.{found_at}
use Rattle.play_rules.specs.declared.asks.Queued.{Queued}
use Rattle.play_rules.specs.Interrupts.{timer_id}
use Rattle.play_rules.specs.Moments.{left, left_or}
use Rattle.play_rules.specs.State.{State, cpu_count}
use Rattle.play_rules.specs.Timers.{bases_at, holder_of, queued_as, queued_at, where_queued}
use Rattle.play_rules.specs.Play.{plain_rules}
use Rattle.play_laws.specs.Told.Kinds.{is_left}
use Rattle.play_laws.specs.Told.Left.{IsQueuedSo, TellLeft, TimersAscend}
use Rattle.play_laws.proofs.Answered.Ranges.{found_some, found_there}
use Rattle.play_laws.proofs.Work.Homes.{AreHomes, Home}
use Rattle.play_laws.proofs.Work.Whole.{all}
use Rattle.play_laws.proofs.Told.Held.{held_is}

abbrev SameHome : Home → Home → Type 0
SameHome here there = here ≡ there

module _ (timers cpus levels : ℕ) (s : State) (homes : AreHomes timers cpus levels all s) where
  -- an item's home is where it is
  home_there : (d : ℕ) (k : Class) (id : ℕ) (item : Item) → d < cpus
      → item_of id (base_of k (bases_at s d)).items ≡ Some item → homes.home item.id ≡ (d, k)
  home_there d k id item low is =
      let at = homes.each d k low in
      item_holds (λ i. homes.home i.id ≡ (d, k)) id (base_of k (bases_at s d)).items item
      (λ i e below. (at.all i e below).home_is) is

  module _ (c : ℕ) (class : Class) (item : Item) (low : c < cpus)
      (here : item_of item.id (base_of class (bases_at s c)).items ≡ Some item) where
    -- a timer of this id is found nowhere else
    only_there : (d : ℕ) (k : Class) (other : Item) → d < cpus
        → found_in item.id (bases_at s d) ≡ Some (k, other) → SameHome (d, k) (c, class)
    only_there d k other below is =
        let at = found_at item.id k other (bases_at s d) is in
        sym (home_there d k item.id other below at.found)
        ∙ (ap homes.home at.same ∙ home_there c class item.id item low here)

    found_by : (o : Option (Class × Item)) → found_in item.id (bases_at s c) ≡ o
        → found_in item.id (bases_at s c) ≡ Some (class, item)
    found_by None is =
        absurd
        (none-some item
        (sym (base_none (bases_at s c) item.id (ap (option_map (λ f. f.0)) is) class) ∙ here))
    found_by (Some (k, other)) is =
        let at = found_at item.id k other (bases_at s c) is in
        let same : k ≡ class = ap (λ (h : Home). h.1) (only_there c k other low is) in
        let items : other ≡ item =
        same_Some other item
        (sym at.found
        ∙ (ap (λ j. item_of item.id (base_of j (bases_at s c)).items) same ∙ here)) in
        is ∙ (λ i. Some (same i, items i))

    found_here : found_in item.id (bases_at s c) ≡ Some (class, item)
    found_here = found_by (found_in item.id (bases_at s c)) refl

    in_range : c < cpu_count s
    in_range = let count = homes.count in omega (arith, low, count)

    same_holder : (d : ℕ) (o : Option (Class × Item)) → d < cpus
        → found_in item.id (bases_at s d) ≡ o
        → is_some (option_map (λ (f : Class × Item). f.0) o) ≡ true → d ≡ c
    same_holder d None below is some = absurd (both_ways false refl some)
    same_holder d (Some (k, other)) below is some =
        ap (λ (h : Home). h.0) (only_there d k other below is)

    by_holder : (o : Option ℕ) → holder_of s item.id ≡ o
        → option_and_then (queued_at s item.id) o ≡ Some (queued_as c (class, item))
    by_holder None none =
        absurd
        (found_some (λ d. is_some (class_in item.id (bases_at s d))) 0 (cpu_count s) c
        (omega arith) (omega (arith, in_range))
        (ap (λ o. is_some (option_map (λ f. f.0) o)) found_here) none)
    by_holder (Some d) is =
        let at =
        found_there (λ d. is_some (class_in item.id (bases_at s d))) 0 (cpu_count s) d is in
        let below = at.below in
        let count = homes.count in
        let same : d ≡ c =
        same_holder d (found_in item.id (bases_at s d)) (omega (arith, below, count)) refl
        at.passes in
        ap (queued_at s item.id) same ∙ ap (option_map (queued_as c)) found_here

    pub queued_there : where_queued s item.id ≡ Some (queued_as c (class, item))
    queued_there = by_holder (holder_of s item.id) refl

-- THE LINES
module _ (s : State) where
  one_queued : (t : ℕ) (o : Option Queued) (others : List Line) → where_queued s t ≡ o
      → All (IsQueuedSo s) others → All (IsQueuedSo s) (left_or t o others)
  one_queued t None others is rest = rest
  one_queued t (Some held) others is rest =
      let at = held_is s t held is in
      let there = found_at t held.class at.item (bases_at s held.cpu.0) at.found in
      let so : IsSomeAnd (item_of t (base_of held.class (bases_at s held.cpu.0)).items)
      (λ item. item.wheel ≡ held.wheel) =
      subst (λ o. IsSomeAnd o (λ (item : Item). item.wheel ≡ held.wheel)) (sym there.found)
      at.wheel in
      All-cons (IsQueuedSo s) (lines.Left (timer_id t) held.cpu held.class held.wheel) others
      (at.low, so) rest

  each_queued : (n t : ℕ) → All (IsQueuedSo s) (left plain_rules n t s)
  unfolding left
  each_queued zero t = All-nil (IsQueuedSo s)
  each_queued (suc n) t =
      one_queued t (where_queued s t) (left plain_rules n (t + 1) s) refl (each_queued n (t + 1))

  one_ascends : (from t : ℕ) (o : Option Queued) (others : List Line) → from ≤ t
      → ((a : ℕ) → a ≤ t + 1 → TimersAscend a others) → TimersAscend from (left_or t o others)
  one_ascends from t None others low rest = rest from (omega (arith, low))
  one_ascends from t (Some held) others low rest = (low, rest (t + 1) (omega arith))

  all_ascend : (n t from : ℕ) → from ≤ t → TimersAscend from (left plain_rules n t s)
  unfolding left
  all_ascend zero t from low = tt
  all_ascend (suc n) t from low =
      one_ascends from t (where_queued s t) (left plain_rules n (t + 1) s) low
      (λ a by. all_ascend n (t + 1) a by)

  pub are_left : (n t : ℕ) → All (λ line. is_left line ≡ true) (left plain_rules n t s)
  unfolding left
  are_left zero t = All-nil (λ line. is_left line ≡ true)
  are_left (suc n) t = by (where_queued s t) (are_left n (t + 1))
    where
      by : (o : Option Queued) → All (λ line. is_left line ≡ true) (left plain_rules n (t + 1) s)
          → All (λ line. is_left line ≡ true) (left_or t o (left plain_rules n (t + 1) s))
      by None rest = rest
      by (Some held) rest = All-cons (λ line. is_left line ≡ true) _ _ refl rest

  -- the line of a timer that is queued is among them
  one_there : (t : ℕ) (o : Option Queued) (others : List Line) (held : Queued) → o ≡ Some held
      → Contains (left_or t o others) (lines.Left (timer_id t) held.cpu held.class held.wheel)
  one_there t None others held is = absurd (none-some held is)
  one_there t (Some other) others held is =
      subst
      (λ (q : Queued).
      Contains (lines.Left (timer_id t) other.cpu other.class other.wheel ∷ others)
      (lines.Left (timer_id t) q.cpu q.class q.wheel))
      (same_Some other held is)
      (Contains-append_left
      (lines.Left (timer_id t) other.cpu other.class other.wheel ∷ []) others
      (lines.Left (timer_id t) other.cpu other.class other.wheel)
      (Contains-push [] (lines.Left (timer_id t) other.cpu other.class other.wheel)))

  one_behind : (t : ℕ) (o : Option Queued) (others : List Line) (line : Line)
      → Contains others line → Contains (left_or t o others) line
  one_behind t None others line is = is
  one_behind t (Some held) others line is =
      Contains-append_right (lines.Left (timer_id t) held.cpu held.class held.wheel ∷ []) others
      line is

  among_left : (n t id : ℕ) (held : Queued) → t ≤ id → id < t + n → where_queued s id ≡ Some held
      → Contains (left plain_rules n t s)
      (lines.Left (timer_id id) held.cpu held.class held.wheel)
  unfolding left
  among_left zero t id held from below is = absurd (omega (arith, from, below))
  among_left (suc n) t id held from below is =
      elim (cases_eq t id) [
        | inl same ↦
            subst
            (λ k.
            Contains (left_or t (where_queued s t) (left plain_rules n (t + 1) s))
            (lines.Left (timer_id k) held.cpu held.class held.wheel))
            same
            (one_there t (where_queued s t) (left plain_rules n (t + 1) s) held
            (ap (where_queued s) same ∙ is))
        | inr other ↦
            one_behind t (where_queued s t) (left plain_rules n (t + 1) s) _
            (among_left n (t + 1) id held (omega (arith, from, other)) (omega (arith, below)) is)
      ]

-- WHERE EACH TIMER HAS ONE HOME at most, the lines are the timers that are queued
pub left_are_told : (timers cpus levels : ℕ) (s : State) → s.timers ≡ timers
    → AreHomes timers cpus levels all s → TellLeft s (left plain_rules s.timers 0 s)
left_are_told timers cpus levels s known homes = record {
  queued = each_queued s s.timers 0;
  all_told = λ c class low i e below.
      let item = get_or (base_of class (bases_at s c)).items i e in
      let count = homes.count in
      let there : c < cpus = omega (arith, low, count) in
      let at = homes.each c class there in
      let here =
      item_queued (base_of class (bases_at s c)).items item at.sound.distinct
      (Contains-get_or (base_of class (bases_at s c)).items i e below) in
      let in_reach = (at.all i e below).known in
      among_left s s.timers 0 item.id (queued_as c (class, item)) (omega arith)
      (omega (arith, in_reach, known))
      (queued_there timers cpus levels s homes c class item there here);
  ascend = all_ascend s s.timers 0 0 (omega arith);
}
